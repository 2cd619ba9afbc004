use Rattle.std.proofs.Common.{◌≡◌, ◌∙◌, List, sym, ap, subst}
use Rattle.mr_family.specs.Family.{FamilyState, IsWhole}
use Rattle.mr_families.specs.declared.numbered.Numbered.{Numbered}
use Rattle.mr_families.specs.Known.{family_at}
use Rattle.mr_families.proofs.families.Families.cursor.Goals as goal

pub returns-clause-whole : goal.returns-clause-whole
returns-clause-whole c = λ image whole.
    let found : c.family_of.result.now ≡ family_at c.args.self.now c.args.number = c.family_of.ensures ∙ ap (λ (ns : List Numbered). family_at ns c.args.number) (c.deref.ensures.value ∙ c.self.view_is) in
    c.cursor.ensures.whole image (subst (λ (f : FamilyState). IsWhole f image) (sym found) whole)
