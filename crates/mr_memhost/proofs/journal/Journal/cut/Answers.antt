use Rattle.std.proofs.Common.{◌≡◌, List, [], ◌∷◌, ◌++◌, sym, subst, refl, rules}
use Rattle.mr_memhost.specs.declared.step.Step.{Step}
use Rattle.mr_memhost.specs.declared.step.Step.TheVariants.{Cut}
use Rattle.mr_memhost.specs.Files.{bytes_of, held}
use Rattle.mr_memhost.specs.Held.{shortened}
use Rattle.mr_memhost.specs.Story.{Kept, story_of, cut}
use Rattle.mr_memhost.specs.Told.{story}
use Rattle.mr_memhost.proofs.Stories.{kept_on, cut_holds}
use Rattle.mr_memhost.proofs.journal.Journal.cut.Goals as goal

pub invariant_of-self-in-Ok : goal.invariant_of-self-in-Ok
invariant_of-self-in-Ok c =
    let me = c.args.self.now in
    let file = c.args.file in
    let before = held me.initial me.files in
    let pushed : c.push.new.self.items ≡ me.steps.items ++ Cut file c.args.to ∷ [] = search rules in
    let kept = kept_on (story me) (Cut file c.args.to) file (cut c.args.to) (λ m. refl) before (held me.initial c.cut_in.new.files) (λ f. shortened c.args.to (before f)) me.output.items me.kept c.in-Ok.ensures.ok (cut_holds (story me) file c.args.to (before file) c.requires (me.kept.files file)) in
    record { kept = subst (λ (l : List Step). Kept (story_of (bytes_of me.initial) me.before.items l) (held me.initial c.cut_in.new.files) me.output.items) (sym pushed) kept }
