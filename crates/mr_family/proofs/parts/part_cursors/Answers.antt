use Rattle.std.proofs.Common.{sym, subst}
use Rattle.std.specs.List.{AllByRecursion}
use Rattle.mr_iter.specs.Children.{AnyOf}
use Rattle.mr_iter.specs.Versions.{joined}
use Rattle.mr_iter.specs.MergeFiles.{each_split}
use Rattle.mr_iter.specs.declared.one_of.OneOf.TheVariants.{First}
use Rattle.mr_levels.specs.Levels.{IsLive}
use Rattle.mr_levels.proofs.Joins.{any_front, any_behind}
use Rattle.mr_family.proofs.Gathering.{Offends, each_pushed, any_pushed, each_none, any_none, only_right}
use Rattle.mr_family.proofs.parts.part_cursors.Goals as goal

pub returns-clause-whole : goal.returns-clause-whole
returns-clause-whole c = λ image whole.
    let lives = each_split (IsLive image) c.args.levels.now.newest (joined c.args.levels.now.deeper) whole.live in
    let first = each_pushed _ c.new-parts.result.items c.push.new.list.items (First c.cursor.result) c.in_ok-push.ensures (each_none _ c.new-parts.result.items c.new-parts.ensures.items) (c.cursor.ensures.whole image) in
    c.in_ok-add_levels.ensures.whole image (c.in_ok-add_runs.ensures.whole image first (subst (AllByRecursion (IsLive image)) (sym c.newest.ensures) lives.0)) lives.1 whole.apart

pub returns-clause-offends : goal.returns-clause-offends
returns-clause-offends c = λ image file at any.
    let s = c.args.levels.now in
    only_right (λ early. only_right (λ sooner. only_right (any_none _ c.new-parts.result.items c.new-parts.ensures.items) (λ here. absurd (c.cursor.ensures.offends image file at here)) (any_pushed _ c.new-parts.result.items c.push.new.list.items (First c.cursor.result) c.in_ok-push.ensures sooner))
    (λ runs. any_front (Offends image file at) s.newest (joined s.deeper) (subst (AnyOf (Offends image file at)) c.newest.ensures runs)) (c.in_ok-add_runs.ensures.offends image file at early))
    (any_behind (Offends image file at) s.newest (joined s.deeper)) (c.in_ok-add_levels.ensures.offends image file at any)
