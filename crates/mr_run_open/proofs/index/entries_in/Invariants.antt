use Rattle.std.proofs.Common.{◌≡◌, ◌≤◌, ◌-◌, map}
use Rattle.mr_run_file.specs.Reading.{all_indexed_in}
use Rattle.mr_run_open.specs.Given.{indexed_of}
use Rattle.mr_run_open.specs.Parts.{with_blocks}
use Rattle.mr_run_open.proofs.index.entries_in.Given as goal

abbrev pub invariant-reading : goal.invariant-reading
invariant-reading l = record {
  within : l.at ≤ l.end;
  same : all_indexed_in l.end l.blocks 0 l.bytes ≡ with_blocks (map indexed_of l.kept.items) (all_indexed_in l.end (l.blocks - l.i) l.at l.rest);
}
