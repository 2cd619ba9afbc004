use Rattle.std.proofs.Common.{arith, ap, ◌∙◌, ◌+◌, ◌/◌, ℕ, List, get_or}
use Rattle.mr_pieces.specs.Reading.{bytes_in}
use Rattle.mr_pieces.proofs.Lengths.{bytes_at, bytes_within}
use Rattle.mr_pieces.proofs.places.bytes_byte.Goals as goal

pub overflow_add-result : goal.overflow_add-result
overflow_add-result c = omega (arith, bytes_within (bytes_in c.args.pieces.now) c.args.pieces.now c.args.at c.requires.holds c.requires.within)

pub bounds-pieces-at : goal.bounds-pieces-at
bounds-pieces-at c = bytes_within (bytes_in c.args.pieces.now) c.args.pieces.now c.args.at c.requires.holds c.requires.within

pub returns : goal.returns
returns c =
    let at = c.args.at in
    ap (λ (l : List ℕ). get_or l (at + at / 8) 0) c.requires.holds ∙ bytes_at (bytes_in c.args.pieces.now) at c.requires.within
