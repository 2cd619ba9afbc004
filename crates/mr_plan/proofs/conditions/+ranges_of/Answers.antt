use Rattle.std.proofs.Common.{rules, ap, ◌∙◌, arith, List, eq-eqb}
use Rattle.std.specs.Prelude.{◌&&◌}
use Rattle.mr_ranges.specs.declared.range.Range.{Range}
use Rattle.mr_ranges.specs.Ranges.{in_some}
use Rattle.mr_plan.proofs.Folding.{between-all, tests-apart, and-end, or-all, and-step}
use Rattle.mr_plan.proofs.conditions.+ranges_of.Goals as goal

pub loop-part-preserved : goal.loop-part-preserved
loop-part-preserved t c = record {
  apart = c.in_ok-left-in-And-2.ensures.apart;
  same = λ key. and-step c.args.front.now c.args.column.now.ty c.args.place key c.loop-part.left c.in_ok-its-in-And.its c.in_ok-left-in-And-2.left c.as_slice-part-items.result.now c.loop-part.part-index c.part-item.result
      (omega arith) c.part-item.is (c.in_ok-left-in-And-2.ensures.both key ∙ ap (λ (l : List Range). in_some key l && in_some key c.as_slice-in-loop-part-2.result.now) c.as_slice-in-loop-part.ensures ∙ ap (λ (l : List Range). in_some key c.loop-part.left && in_some key l) c.as_slice-in-loop-part-2.ensures) (c.in_ok-its-in-And.ensures.same key) (c.loop-part.invariant.same key);
}

pub returns-else-at-place-clause-apart : goal.returns-else-at-place-clause-apart
returns-else-at-place-clause-apart t c = tests-apart c.args.front.now c.args.column.now.ty c.args.place c.test_ranges.result c.in-Compare.cmp c.in-Compare.value c.test_ranges.ensures

pub returns-else-at-place-3-clause-same : goal.returns-else-at-place-3-clause-same
returns-else-at-place-3-clause-same t c = between-all c.args.front.now c.args.column.now.ty c.args.place c.between_ranges.result c.in-Between.at c.in-Between.low c.in-Between.high c.args.expr.now c.in-Between.is (eq-eqb c.in-Between.at c.args.place c.if-at-place-3.false) c.between_ranges.ensures.same

pub returns-after-loop-part-clause-same : goal.returns-after-loop-part-clause-same
returns-after-loop-part-clause-same t c = λ key. and-end c.args.front.now c.args.column.now.ty c.args.place key c.loop-part.left c.as_slice-part-items.result.now c.loop-part.part-index c.args.expr.now (search rules) c.loop-part-test.false (c.loop-part.invariant.same key)

pub returns-after-loop-choice-clause-same : goal.returns-after-loop-choice-clause-same
returns-after-loop-choice-clause-same t c = or-all c.args.front.now c.args.column.now.ty c.args.place c.joined.result c.loop-choice.some c.as_slice-choice-items.result.now c.loop-choice.choice-index c.args.expr.now (search rules) c.loop-choice-test.false c.loop-choice.invariant c.joined.ensures.same
