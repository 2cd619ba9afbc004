use Rattle.std.proofs.Common.{◌≡◌, ◌∙◌, length, arith}
use Rattle.std.specs.List.{suffix_len}
use Rattle.mr_lanes.specs.Kernels.{is_space}
use Rattle.mr_pieces.specs.Pieces.{shortened, trimmed}
use Rattle.mr_pieces.specs.Lying.{text_of}
use Rattle.mr_pieces.proofs.Lengths.{text_room}
use Rattle.mr_pieces.proofs.Whole.{count_is, both_parts, shortened_size, ends_well}
use Rattle.mr_pieces.proofs.places.text_length.Goals as goal

pub shortened_length-requires : goal.shortened_length-requires
shortened_length-requires c =
    let text = text_of c.args.collation c.args.pieces.now c.args.unpack.now in
    text_room (shortened c.args.collation text) c.args.pieces.now c.requires.its_pieces

pub overflow_add-result : goal.overflow_add-result
overflow_add-result c =
    let text = text_of c.args.collation c.args.pieces.now c.args.unpack.now in
    let front : c.shortened_length.result ≡ length (trimmed text) = c.shortened_length.ensures (shortened c.args.collation text) c.requires.its_pieces (ends_well c.args.collation text) ∙ shortened_size c.args.collation text in
    let spaces : c.spaces_of.result ≡ suffix_len is_space text = c.spaces_of.ensures ∙ count_is c.args.collation text c.args.unpack.now c.requires.its_unpack c.requires.not_long in
    omega (arith, front, spaces, both_parts text, c.requires.not_long)

pub returns : goal.returns
returns c =
    let text = text_of c.args.collation c.args.pieces.now c.args.unpack.now in
    let front : c.shortened_length.result ≡ length (trimmed text) = c.shortened_length.ensures (shortened c.args.collation text) c.requires.its_pieces (ends_well c.args.collation text) ∙ shortened_size c.args.collation text in
    let spaces : c.spaces_of.result ≡ suffix_len is_space text = c.spaces_of.ensures ∙ count_is c.args.collation text c.args.unpack.now c.requires.its_unpack c.requires.not_long in
    omega (arith, front, spaces, both_parts text)
