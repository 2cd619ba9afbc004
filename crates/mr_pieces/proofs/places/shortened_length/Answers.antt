use Rattle.std.proofs.Common.{◌-◌, ◌/◌, ◌*◌, ℕ, subst, ap, ◌∙◌, length}
use Rattle.mr_pieces.proofs.Texts.{IsTrimmed, IsTrimmed-trimmed}
use Rattle.mr_pieces.proofs.Lengths.{text_count, last_piece}
use Rattle.mr_pieces.proofs.places.shortened_length.Goals as goal

pub returns : goal.returns
returns c = λ text is ends.
    let pieces = c.args.pieces.now in
    ap (λ (n : ℕ). length pieces / 9 * 8 - n) c.trailing_spaces.ensures
    ∙ text_count text pieces _ is (subst IsTrimmed ends (IsTrimmed-trimmed text)) (last_piece pieces c.requires)
