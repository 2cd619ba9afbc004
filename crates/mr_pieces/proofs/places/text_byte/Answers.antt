use Rattle.std.proofs.Common.{◌≡◌, ◌∙◌, length, arith, get_or, subst}
use Rattle.mr_pieces.specs.declared.collation.Collation.{Collation}
use Rattle.mr_pieces.specs.Pieces.{text_from, shortened, trimmed}
use Rattle.mr_pieces.specs.Unpack.{unpack_form}
use Rattle.mr_pieces.specs.Lying.{text_of}
use Rattle.mr_pieces.proofs.Lengths.{text_room, text_within}
use Rattle.mr_pieces.proofs.Whole.{shortened_size, ends_well, blank_at, plain_at, upper_at, bit_is}
use Rattle.mr_pieces.proofs.places.text_byte.Goals as goal

pub shortened_length-requires : goal.shortened_length-requires
shortened_length-requires c =
    let text = text_of c.args.collation c.args.pieces.now c.args.unpack.now in
    text_room (shortened c.args.collation text) c.args.pieces.now c.requires.holds.its_pieces

pub returns-then-at-shortened_length : goal.returns-then-at-shortened_length
returns-then-at-shortened_length c =
    let text = text_of c.args.collation c.args.pieces.now c.args.unpack.now in
    let front : c.shortened_length.result ≡ length (trimmed text) = c.shortened_length.ensures (shortened c.args.collation text) c.requires.holds.its_pieces (ends_well c.args.collation text) ∙ shortened_size c.args.collation text in
    blank_at text c.args.at (omega (arith, front)) c.requires.within

pub bounds-pieces-at : goal.bounds-pieces-at
bounds-pieces-at c =
    let text = text_of c.args.collation c.args.pieces.now c.args.unpack.now in
    let size : c.shortened_length.result ≡ length (shortened c.args.collation text) = c.shortened_length.ensures (shortened c.args.collation text) c.requires.holds.its_pieces (ends_well c.args.collation text) in
    text_within (shortened c.args.collation text) c.args.pieces.now c.args.at c.requires.holds.its_pieces (omega (arith, size))

pub bounds-unpack-at : goal.bounds-unpack-at
bounds-unpack-at c =
    let text = text_of c.args.collation c.args.pieces.now c.args.unpack.now in
    let front : c.shortened_length.result ≡ length (trimmed text) = c.shortened_length.ensures (shortened c.args.collation text) c.requires.holds.its_pieces (ends_well c.args.collation text) ∙ shortened_size c.args.collation text in
    (bit_is text c.args.unpack.now c.args.at (subst (λ (k : Collation). c.args.unpack.now ≡ unpack_form k text) c.in-Ci.is c.requires.holds.its_unpack) (omega (arith, front))).0

pub returns-in-Bin : goal.returns-in-Bin
returns-in-Bin c =
    let text = text_of c.args.collation c.args.pieces.now c.args.unpack.now in
    let front : c.shortened_length.result ≡ length (trimmed text) = c.shortened_length.ensures (shortened c.args.collation text) c.requires.holds.its_pieces (ends_well c.args.collation text) ∙ shortened_size c.args.collation text in
    plain_at text c.args.pieces.now c.args.at (subst (λ (k : Collation). c.args.pieces.now ≡ text_from 8 (shortened k text)) c.in-Bin.is c.requires.holds.its_pieces) (omega (arith, front))

pub returns-in-Ci : goal.returns-in-Ci
returns-in-Ci c =
    let text = text_of c.args.collation c.args.pieces.now c.args.unpack.now in
    let front : c.shortened_length.result ≡ length (trimmed text) = c.shortened_length.ensures (shortened c.args.collation text) c.requires.holds.its_pieces (ends_well c.args.collation text) ∙ shortened_size c.args.collation text in
    c.unfolded.ensures (get_or text c.args.at 0) (upper_at text c.args.pieces.now c.args.at (subst (λ (k : Collation). c.args.pieces.now ≡ text_from 8 (shortened k text)) c.in-Ci.is c.requires.holds.its_pieces) (omega (arith, front))) (bit_is text c.args.unpack.now c.args.at (subst (λ (k : Collation). c.args.unpack.now ≡ unpack_form k text) c.in-Ci.is c.requires.holds.its_unpack) (omega (arith, front))).1
