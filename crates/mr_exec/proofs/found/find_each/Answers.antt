use Rattle.std.proofs.Common.{◌≡◌, ◌∙◌, ◌++◌, ap, sym, get_or, map, take, drop, arith}
use Rattle.mr_exec.specs.Gathering.{found_with}
use Rattle.mr_exec.proofs.Finding.{next-found, if-both}
use Rattle.mr_exec.proofs.found.find_each.Goals as goal

pub loop-found-preserved : goal.loop-found-preserved
loop-found-preserved g c =
    if-both (g.S.Fields.current c.args.source.now)
    (λ r. map (λ f. found_with c.args.def.now f r) (take c.loop-found.found-index c.deref_mut-found-items.result.now) ++ drop c.loop-found.found-index c.deref_mut-found-items.result.now ≡ c.loop-found.found-items)
    (λ r. c.find.new.found ≡ found_with c.args.def.now (get_or c.loop-found.found-items c.loop-found.found-index c.found-item.result) r)
    _
    (λ r so is. next-found (λ f. found_with c.args.def.now f r) c.loop-found.found-index c.deref_mut-found-items.result.now c.loop-found.found-items c.found-item.result c.find.new.found (omega (arith, c.loop-found-test.true, c.loop-found.auto.found-index-end)) so c.found-item.is (is ∙ ap (λ f. found_with c.args.def.now f r) (sym c.found-item.is)))
    c.loop-found.invariant c.in_ok-find.ensures
