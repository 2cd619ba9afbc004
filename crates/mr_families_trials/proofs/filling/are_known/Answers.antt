use Rattle.std.proofs.Common.{◌≡◌, ◌+◌, ◌<◌, ◌∷◌, ◌++◌, [], ℕ, List, length, get_or, take, true, sym, ◌∙◌, subst, arith}
use Rattle.std.proofs.lemmas.Grind.{common_steps}
use Rattle.mr_iter.specs.Order.{each-append}
use Rattle.mr_wal.specs.declared.operation.Operation.{Operation}
use Rattle.mr_families.specs.Known.{is_known}
use Rattle.mr_families.specs.Batches.{AreKnown}
use Rattle.mr_families_trials.proofs.filling.are_known.Goals as goal

front_more : (os : List Operation) (i : ℕ) (o : Operation) → i < length os → o ≡ get_or os i o → take (i + 1) os ≡ take i os ++ (o ∷ [])
front_more os i o lt is = grind (arith, common_steps)

pub looking-preserved : goal.looking-preserved
looking-preserved c =
    let os = c.args.batch.now in
    let ns = c.args.families.now in
    let o = c.index-batch-i.result in
    let known : is_known ns o.family ≡ true = subst (λ (p : Operation). is_known ns p.family ≡ true) (sym c.index-batch-i.is) (sym c.is_known.ensures ∙ c.if-not-is_known.false) in
    subst (AreKnown ns) (sym (front_more os c.looking.i o c.looking-test.true c.index-batch-i.is)) (each-append (λ (p : Operation). is_known ns p.family ≡ true) (take c.looking.i os) (o ∷ []) c.looking.invariant (known, tt))
