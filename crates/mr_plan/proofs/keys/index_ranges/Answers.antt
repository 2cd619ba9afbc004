use Rattle.std.proofs.Common.{sym, ◌∙◌, arith}
use Rattle.std.specs.Option.{option_copied}
use Rattle.mr_plan.proofs.Steps.{start-apart, start-said, said-more, said-last}
use Rattle.mr_plan.proofs.keys.index_ranges.Goals as goal

pub loop-place-init : goal.loop-place-init
loop-place-init c = record {
  apart = start-apart c.args.def.now (option_copied c.args.expr) c.args.places.now c.in_ok-ranges.ranges c.in_ok-ranges.ensures;
  same = λ key. start-said c.args.def.now (option_copied c.args.expr) c.args.places.now key c.in_ok-front.front c.in_ok-ranges.ranges c.in_ok-ranges.ensures c.in_ok-front.ensures;
}

pub returns-in-None-clause-same : goal.returns-in-None-clause-same
returns-in-None-clause-same c = λ key. said-last c.args.def.now (option_copied c.args.expr) c.args.places.now key c.loop-place.front c.as_slice-in-loop-place.result.now c.loop-place.ranges c.in_ok-step.step.ranges c.loop-place.place-index c.as_slice-in-loop-place.ensures (omega arith) (c.in_ok-step.ensures.same key) (sym c.in_ok-step.ensures.next ∙ c.in-None.is) (c.loop-place.invariant.same key)

pub loop-place-preserved : goal.loop-place-preserved
loop-place-preserved c = record {
  apart = c.in_ok-step.ensures.apart;
  same = λ key. said-more c.args.def.now (option_copied c.args.expr) c.args.places.now key c.loop-place.front c.as_slice-in-loop-place.result.now c.in-Some-more.more c.loop-place.ranges c.in_ok-step.step.ranges c.loop-place.place-index c.as_slice-in-loop-place.ensures (omega arith) (c.in_ok-step.ensures.same key) (sym c.in_ok-step.ensures.next ∙ c.in-Some-more.is) (c.loop-place.invariant.same key);
}
