use Rattle.std.proofs.Common.{◌≡◌, ◌+◌, ◌∷◌, ◌++◌, [], List, take, sym, subst}
use Rattle.mr_wal.specs.declared.operation.Operation.{Operation}
use Rattle.mr_families.specs.Rooms.{AreNeeds}
use Rattle.mr_families.proofs.Batched.{front_more}
use Rattle.mr_families.proofs.reserving.needs_of.Goals as goal

pub counting-preserved : goal.counting-preserved
counting-preserved c =
    let os = c.args.batch.now in
    let o = c.index-batch-i.result in
    let front : take (c.counting.i + 1) os ≡ take c.counting.i os ++ (o ∷ []) = front_more os c.counting.i o c.counting-test.true c.index-batch-i.is in
    subst (λ (ps : List Operation). AreNeeds c.args.list.now ps c.count_one.new.needs.items) (sym front) (c.in-Some.ensures.counted (take c.counting.i os) c.counting.invariant)
