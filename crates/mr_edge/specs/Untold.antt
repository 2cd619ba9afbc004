-- A disk that doesn't tell its contents.
use Rattle.std.specs.Prelude.{false, []}
use Rattle.mr_base.specs.Disk.{State, at_rest}
use Rattle.mr_edge.specs.declared.tally.Tally.{Tally}

-- the one with these counts
abbrev pub untold : Tally → State
untold t = record { tells = false; moments = λ _. record { files = λ _. at_rest []; output = [] }; now = 0; faults = t.faults; emit_faults = t.emit_faults; reads = t.reads; asked = t.asked; syncs = t.syncs }
