use Rattle.std.proofs.Common.{◌≡◌, ◌≤◌, ◌-◌, length, drop, true, nat_eq}
use Rattle.mr_pieces.specs.Reading.{bytes_read, rest_of}
use Rattle.mr_pieces.proofs.reader.cut_bytes.Given as goal

abbrev pub invariant-loop-at : goal.invariant-loop-at
invariant-loop-at l =
    record {
      within : l.at ≤ length l.key;
      same : rest_of (bytes_read (nat_eq l.at 0) (drop l.at l.key)) ≡ rest_of (bytes_read true l.key);
    }

abbrev pub decreases-loop-at : goal.decreases-loop-at
decreases-loop-at l = length l.key - l.at
