use Rattle.std.proofs.Common.{◌≡◌, ◌-◌, ◌≤◌, length, drop}
use Rattle.mr_pieces.specs.Order.{bytes_cmp}
use Rattle.mr_types.specs.FieldValues.{bytes_of}
use Rattle.mr_types.proofs.comparison.compare_bytes.Given as goal

abbrev pub invariant-loop-at : goal.invariant-loop-at
invariant-loop-at l =
    record {
      first : l.at ≤ length (bytes_of l.left);
      second : l.at ≤ length (bytes_of l.right);
      so_far : bytes_cmp (drop l.at (bytes_of l.left)) (drop l.at (bytes_of l.right)) ≡ bytes_cmp (bytes_of l.left) (bytes_of l.right);
    }

abbrev pub decreases-loop-at : goal.decreases-loop-at
decreases-loop-at l = l.end - l.at
