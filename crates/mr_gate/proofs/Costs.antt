-- What a walk of a log reads, and what a record costs.
use Rattle.std.proofs.Common.{◌≡◌, ℕ, ◌+◌, ◌*◌, ◌≤◌, List, drop, arith}
use Rattle.mr_base.specs.Disk.{State}
use Rattle.mr_base.specs.Calls.{Counts, Reads}
use Rattle.mr_gate.specs.Log.{size_of}
use Rattle.mr_gate.specs.Gate.{next_size}
use Rattle.mr_gate.proofs.Find.{Next, next_size_is}

pub reads_head : (k : ℕ) (old mid new : State) → Reads k (5 * k) old mid → Counts 1 5 0 mid new → Reads (k + 1) (5 * (k + 1)) old new
reads_head k old mid new so_far head = record { reads = omega (arith, so_far.reads, head.reads.1); asked = omega (arith, so_far.asked, head.asked.1) }

pub reads_more : (k n : ℕ) (old new : State) → k ≤ n → Reads k (5 * k) old new → Reads n (5 * n) old new
reads_more k n old new le so_far = record { reads = omega (arith, so_far.reads, le); asked = omega (arith, so_far.asked, le) }

-- the head and the body
pub reads_next : (at end size : ℕ) (file : List ℕ) (old mid new : State) → Next at end file → size ≡ size_of (drop (at + 1) file) → Counts 1 5 0 old mid → Counts 1 size 0 mid new → Reads 2 (next_size at file) old new
reads_next at end size file old mid new next is head body =
    let cost = next_size_is at end file next in
    record { reads = omega (arith, head.reads.1, body.reads.1); asked = omega (arith, head.asked.1, body.asked.1, cost, is) }
