use Rattle.std.proofs.Common.{◌≡◌, drop, is_some}
use Rattle.std.specs.List.{list_all}
use Rattle.std.specs.Option.{option_copied}
use Rattle.mr_plan.specs.Columns.{fixed}
use Rattle.mr_plan.proofs.choice.fixes_all.Given as goal

abbrev pub invariant-loop-place : goal.invariant-loop-place
invariant-loop-place l = list_all (λ q. is_some (fixed q (option_copied l.expr))) (drop l.place-index l.places) ≡ list_all (λ q. is_some (fixed q (option_copied l.expr))) l.places
