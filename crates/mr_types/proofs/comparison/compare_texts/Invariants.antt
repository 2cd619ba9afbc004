use Rattle.std.proofs.Common.{◌≡◌, ◌-◌, drop}
use Rattle.mr_pieces.specs.Order.{text_cmp}
use Rattle.mr_types.specs.FieldValues.{bytes_of}
use Rattle.mr_types.proofs.comparison.compare_texts.Given as goal

abbrev pub invariant-loop-at : goal.invariant-loop-at
invariant-loop-at l = text_cmp l.collation (drop l.at (bytes_of l.left)) (drop l.at (bytes_of l.right)) ≡ text_cmp l.collation (bytes_of l.left) (bytes_of l.right)

abbrev pub decreases-loop-at : goal.decreases-loop-at
decreases-loop-at l = l.end - l.at
