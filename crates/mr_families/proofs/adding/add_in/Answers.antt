use Rattle.std.proofs.Common.{◌≡◌, ◌+◌, ◌∷◌, ◌++◌, [], List, take, drop, sym, subst}
use Rattle.mr_wal.specs.declared.operation.Operation.{Operation}
use Rattle.mr_families.specs.Batches.{AreAwaited, Added}
use Rattle.mr_families.proofs.Batched.{added_then, rest_awaited, front_more, next_of}
use Rattle.mr_families.proofs.adding.add_in.Goals as goal

pub adding-preserved : goal.adding-preserved
adding-preserved c =
    let os = c.args.batch.now in
    let o = c.index-batch-i.result in
    let next : drop c.adding.i os ≡ o ∷ drop (c.adding.i + 1) os = next_of os c.adding.i o c.adding-test.true c.index-batch-i.is in
    let front : take (c.adding.i + 1) os ≡ take c.adding.i os ++ (o ∷ []) = front_more os c.adding.i o c.adding-test.true c.index-batch-i.is in
    let one : Added c.args.sequence (o ∷ []) c.adding.list.items c.insert_one.new.list.items = c.insert_one.ensures.added in
    record {
      kept = c.insert_one.ensures.kept;
      added = subst (λ (ps : List Operation). Added c.args.sequence ps c.args.list.now.items c.insert_one.new.list.items) (sym front) (added_then c.args.sequence (take c.adding.i os) (o ∷ []) c.args.list.now.items c.adding.list.items c.insert_one.new.list.items c.adding.invariant.added one);
      awaited = rest_awaited c.args.sequence o (drop (c.adding.i + 1) os) c.adding.list.items c.insert_one.new.list.items (subst (λ (ps : List Operation). AreAwaited c.adding.list.items ps) next c.adding.invariant.awaited) one;
    }
