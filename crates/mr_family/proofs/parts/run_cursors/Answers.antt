use Rattle.std.proofs.Common.{[], List, take, subst, sym}
use Rattle.mr_iter.specs.Children.{AnyOf}
use Rattle.mr_run_open.specs.Runs.{RunState}
use Rattle.mr_run_cursor.specs.Pinned.{pinned_at, IsWhole, IsRunOffence}
use Rattle.mr_levels.specs.Levels.{AreLive}
use Rattle.mr_levels.proofs.Joins.{take_whole}
use Rattle.mr_family.proofs.Gathering.{Offends, gathers_next, run_offence, none_before}
use Rattle.mr_family.proofs.parts.run_cursors.Goals as goal

pub gathering-preserved : goal.gathering-preserved
gathering-preserved c = gathers_next (λ c. pinned_at c.run.now c.start c.end c.at c.block) (λ c image. IsWhole c.run.now c.end c.block image) (λ c image file at. IsRunOffence c.run.now image file at) [] c.gathering.cursors.items c.push.new.self.items c.args.runs.now c.gathering.i c.index-runs-i.result c.new.result
    c.gathering-test.true c.index-runs-i.is c.gathering.invariant c.in-Ok.ensures.items c.new.ensures.state (λ image live. c.new.ensures.whole image live.index live.run) (λ image file at here. run_offence c.index-runs-i.result image file at (c.new.ensures.offends image file at here))

pub returns-clause-whole : goal.returns-clause-whole
returns-clause-whole c = λ image live. c.gathering.invariant.each image tt (subst (AreLive image) (sym (take_whole c.gathering.i c.args.runs.now c.gathering-test.false)) live)

pub returns-clause-offends : goal.returns-clause-offends
returns-clause-offends c = λ image file at any. subst (λ (rs : List RunState). AnyOf (Offends image file at) rs) (take_whole c.gathering.i c.args.runs.now c.gathering-test.false) (none_before (AnyOf (Offends image file at) (take c.gathering.i c.args.runs.now)) (c.gathering.invariant.any image file at any))
