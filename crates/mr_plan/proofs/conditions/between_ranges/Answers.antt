use Rattle.std.proofs.Common.{sym, subst, ◌∙◌}
use Rattle.mr_types.specs.declared.expr.Cmp.TheVariants.{Ge, Le}
use Rattle.mr_ranges.specs.Ranges.{AreApart}
use Rattle.mr_plan.proofs.Apart.{test-apart}
use Rattle.mr_plan.proofs.conditions.between_ranges.Goals as goal

pub meet-requires-clause-first : goal.meet-requires-clause-first
meet-requires-clause-first c = subst AreApart (sym (c.as_slice.ensures ∙ c.in_ok-above.ensures)) (test-apart c.args.front.now c.args.column.now.ty Ge c.args.low.now)

pub meet-requires-clause-second : goal.meet-requires-clause-second
meet-requires-clause-second c = subst AreApart (sym (c.as_slice-2.ensures ∙ c.in_ok-below.ensures)) (test-apart c.args.front.now c.args.column.now.ty Le c.args.high.now)
