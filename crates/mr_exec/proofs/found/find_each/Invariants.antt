use Rattle.std.proofs.Common.{◌≡◌, ◌++◌, IfSome, map, take, drop}
use Rattle.mr_exec.specs.Gathering.{found_with}
use Rattle.mr_exec.proofs.found.find_each.Given as goal

abbrev pub invariant-loop-found : goal.invariant-loop-found
invariant-loop-found g l = IfSome (g.S.Fields.current l.source) (λ r. map (λ f. found_with l.def f r) (take l.found-index l.initial.found-items) ++ drop l.found-index l.initial.found-items ≡ l.found-items)
