use Rattle.std.proofs.Common.{List, subst, sym}
use Rattle.mr_iter.specs.Children.{AnyOf}
use Rattle.mr_iter.specs.declared.one_of.OneOf.TheVariants.{First, Second}
use Rattle.mr_run_open.specs.Runs.{RunState}
use Rattle.mr_levels.specs.Levels.{AreLive}
use Rattle.mr_levels.proofs.Joins.{take_whole}
use Rattle.mr_family.proofs.Gathering.{Offends, gathers_next, run_offence, or_then}
use Rattle.mr_family.proofs.parts.add_runs.Goals as goal

pub gathering-preserved : goal.gathering-preserved
gathering-preserved g c = gathers_next _ _ _ c.args.parts.now.items c.gathering.parts.items c.push.new.list.items c.args.runs.now c.gathering.i c.index-runs-i.result (Second (First c.new-cursor.result))
    c.gathering-test.true c.index-runs-i.is c.gathering.invariant c.in_ok-push.ensures c.new-cursor.ensures.state (λ image live. c.new-cursor.ensures.whole image live.index live.run) (λ image file at here. run_offence c.index-runs-i.result image file at (c.new-cursor.ensures.offends image file at here))

pub returns-clause-whole : goal.returns-clause-whole
returns-clause-whole g c = λ image all live. c.gathering.invariant.each image all (subst (AreLive image) (sym (take_whole c.gathering.i c.args.runs.now c.gathering-test.false)) live)

pub returns-clause-offends : goal.returns-clause-offends
returns-clause-offends g c = λ image file at any. or_then (subst (λ (rs : List RunState). AnyOf (Offends image file at) rs) (take_whole c.gathering.i c.args.runs.now c.gathering-test.false)) (c.gathering.invariant.any image file at any)
