use Rattle.std.proofs.Common.{◌≡◌, ◌+◌, drop}
use Rattle.std.specs.Option.{option_copied}
use Rattle.mr_plan.specs.Choice.{best_from}
use Rattle.mr_plan.proofs.choice.best.Given as goal

abbrev pub invariant-loop-at : goal.invariant-loop-at
invariant-loop-at l = best_from l.def (option_copied l.expr) l.needed (l.at + 1) (drop l.at l.def.secondary) l.best ≡ best_from l.def (option_copied l.expr) l.needed 1 l.def.secondary 0
