use Rattle.std.proofs.Common.{◌≤◌, ◌-◌, ◌/◌, ◌*◌, ℕ, ap, ◌∙◌, arith, length, take, drop}
use Rattle.std.specs.List.{suffix_len}
use Rattle.std.proofs.lemmas.List.{length-take}
use Rattle.std.proofs.lemmas.List.Sums.{suffix_len-le-length}
use Rattle.mr_lanes.specs.Kernels.{is_space}
use Rattle.mr_pieces.specs.Reading.{text_in}
use Rattle.mr_pieces.proofs.Held.{ends_well}
use Rattle.mr_pieces.proofs.Lengths.{text_count, text_room, last_piece}
use Rattle.mr_memcmp.proofs.kept.kept_length.Goals as goal

pub overflow_sub-end : goal.overflow_sub-end
overflow_sub-end c = omega (arith, text_room (text_in c.args.collation c.args.pieces.now) c.args.pieces.now c.requires.spelled)

pub overflow_sub-end-2 : goal.overflow_sub-end-2
overflow_sub-end-2 c = omega (arith, text_room (text_in c.args.collation c.args.pieces.now) c.args.pieces.now c.requires.spelled)

pub overflow_sub-result : goal.overflow_sub-result
overflow_sub-result c =
    let pieces = c.args.pieces.now in
    let last = take (length pieces - 1 - (length pieces - 1 - 8)) (drop (length pieces - 1 - 8) pieces) in
    let most : suffix_len is_space last ≤ 8 = omega (arith, suffix_len-le-length is_space last, length-take (length pieces - 1 - (length pieces - 1 - 8)) (drop (length pieces - 1 - 8) pieces)) in
    omega (arith, text_room (text_in c.args.collation pieces) pieces c.requires.spelled, most, c.trailing_spaces.ensures)

pub returns : goal.returns
returns c =
    let pieces = c.args.pieces.now in
    let text = text_in c.args.collation pieces in
    ap (λ (n : ℕ). length pieces / 9 * 8 - n) c.trailing_spaces.ensures
    ∙ text_count text pieces _ c.requires.spelled (ends_well c.args.collation text c.requires.shortened) (last_piece pieces (text_room text pieces c.requires.spelled))
