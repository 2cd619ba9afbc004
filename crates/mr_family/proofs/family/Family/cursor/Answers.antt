use Rattle.std.proofs.Common.{sym, subst}
use Rattle.mr_levels.specs.Levels.{AreWhole, HasOffence}
use Rattle.mr_family.specs.Family.{FamilyState}
use Rattle.mr_family.specs.Parts.{IsViewAt}
use Rattle.mr_family.proofs.Viewing.{view_at, made_at, parts_direction}
use Rattle.mr_family.proofs.family.Family.cursor.Goals as goal

pub new-requires : goal.new-requires
new-requires c = parts_direction c.self.inside.memtable c.self.inside.levels c.direction-direction.result _ c.self.invariant c.direction-direction.ensures.direction c.direction-direction.ensures.kept c.in_ok-parts.ensures.state

pub returns-clause-view : goal.returns-clause-view
returns-clause-view c = subst (IsViewAt c.args.at c.args.self.now)
    (sym (made_at c.args.at c.self.inside.memtable c.self.inside.levels c.self.inside.cache c.args.self.now c.direction-direction.result _ _ _ c.self.view_is c.direction-direction.ensures.direction c.in_ok-parts.ensures.state c.in_ok-merge.ensures.state c.new-2.ensures.state)) (view_at c.args.at c.args.self.now)

pub returns-clause-whole : goal.returns-clause-whole
returns-clause-whole c = λ image whole. c.new-2.ensures.whole image (c.in_ok-merge.ensures.whole image (c.in_ok-parts.ensures.whole image (subst (λ (f : FamilyState). AreWhole f.levels image) (sym c.self.view_is) whole)))

pub returns-clause-offends : goal.returns-clause-offends
returns-clause-offends c = λ image file place any. subst (λ (f : FamilyState). HasOffence f.levels image file place) c.self.view_is (c.in_ok-parts.ensures.offends image file place (c.in_ok-merge.ensures.offends image file place (c.new-2.ensures.offends image file place any)))
