use Rattle.std.proofs.Common.{◌≡◌, ◌≤◌, ◌-◌, length, drop}
use Rattle.mr_pieces.specs.Reading.{text_read, rest_of}
use Rattle.mr_pieces.proofs.reader.cut_text.Given as goal

abbrev pub invariant-loop-at : goal.invariant-loop-at
invariant-loop-at l =
    record {
      within : l.at ≤ length l.key;
      same : rest_of (text_read l.collation (drop l.at l.key)) ≡ rest_of (text_read l.collation l.key);
    }

abbrev pub decreases-loop-at : goal.decreases-loop-at
decreases-loop-at l = length l.key - l.at
