use Rattle.std.proofs.Common.{◌≤◌, ◌+◌, ◌-◌, vec_len, vec_capacity}
use Rattle.mr_memtable.specs.Chunks.{AreSpare}
use Rattle.mr_memtable.proofs.spare.add_spares.Given as goal

abbrev pub invariant-making : goal.invariant-making
invariant-making l = record {
  spare : AreSpare l.spares.items;
  few : vec_len l.chunks + vec_len l.spares ≤ vec_capacity l.chunks;
  more : vec_len l.fn.spares ≤ vec_len l.spares;
}

abbrev pub decreases-making : goal.decreases-making
decreases-making l = l.wanted - (vec_len l.chunks + vec_len l.spares)
