use Rattle.std.proofs.Common.{◌≡◌, ◌≤◌, ◌+◌, ◌-◌, ◌/◌, ◌∙◌, ℕ, ap, sym, arith, length, take, drop, true, length-drop}
use Rattle.mr_pieces.specs.Reading.{text_in}
use Rattle.mr_pieces.specs.UnpackReading.{are_bits_of, spaces_in}
use Rattle.mr_pieces.proofs.Lengths.{text_room, text_fits}
use Rattle.mr_pieces.proofs.Unpacked.{bin_for, ci_for}
use Rattle.mr_pieces.proofs.unpack_reader.split_unpack.Goals as goal

pub shortened_length-count-requires : goal.shortened_length-count-requires
shortened_length-count-requires c = text_room (text_in c.args.collation c.args.pieces.now) c.args.pieces.now c.requires.spelled

pub are_case_bits-requires-clause-whole : goal.are_case_bits-requires-clause-whole
are_case_bits-requires-clause-whole c =
    let kept = text_in c.args.collation c.args.pieces.now in
    let count : c.shortened_length-count.result ≡ length kept = c.shortened_length-count.ensures kept c.requires.spelled c.requires.shortened.without_spaces in
    omega (arith, count, text_fits kept c.args.pieces.now c.requires.spelled)

pub returns-in-Bin : goal.returns-in-Bin
returns-in-Bin c =
    let kept = text_in c.args.collation c.args.pieces.now in
    let unpack = c.args.unpack.now in
    let count : c.shortened_length-count.result ≡ length kept = c.shortened_length-count.ensures kept c.requires.spelled c.requires.shortened.without_spaces in
    let spaces : c.spaces_of.result ≡ spaces_in unpack = c.spaces_of.ensures in
    let fits : spaces_in unpack + length kept ≤ c.args.width = omega (arith, count, spaces, c.if-count-width.false, c.if-spaces_of-width.false) in
    bin_for c.args.collation c.args.width c.args.pieces.now unpack _ _ c.in-Bin.is c.requires.spelled c.requires.shortened (omega (arith, c.ranges.width)) (omega (arith, c.if-unpack-lt2.false)) fits
    (λ i. omega (arith, c.type_inv.unpack i)) c.split_at.ensures.front c.split_at.ensures.back

pub returns-else-not-are_case_bits : goal.returns-else-not-are_case_bits
returns-else-not-are_case_bits c =
    let kept = text_in c.args.collation c.args.pieces.now in
    let unpack = c.args.unpack.now in
    let count : c.shortened_length-count.result ≡ length kept = c.shortened_length-count.ensures kept c.requires.spelled c.requires.shortened.without_spaces in
    let spaces : c.spaces_of.result ≡ spaces_in unpack = c.spaces_of.ensures in
    let fits : spaces_in unpack + length kept ≤ c.args.width = omega (arith, count, spaces, c.if-count-width.false, c.if-spaces_of-width.false) in
    let n = (c.shortened_length-count.result + 7) / 8 in
    let only : 2 + n - 2 ≡ n = omega arith in
    let are : are_bits_of kept (take n (drop 2 unpack)) ≡ true = ap (λ (m : ℕ). are_bits_of kept (take m (drop 2 unpack))) (sym only) ∙ sym (c.are_case_bits.ensures kept c.requires.spelled (sym count)) ∙ c.if-not-are_case_bits.false in
    ci_for c.args.collation c.args.width n c.args.pieces.now unpack _ _ c.in-Ci.is c.requires.spelled c.requires.shortened (omega (arith, c.ranges.width)) (omega (arith, c.if-unpack-lt2.false)) fits
    (λ i. omega (arith, c.type_inv.unpack i)) (ap (λ (m : ℕ). (m + 7) / 8) count) (omega (arith, c.if-room-unpack.false, length-drop 2 unpack)) are c.split_at-in-Ci.ensures.front c.split_at-in-Ci.ensures.back
