use Rattle.std.proofs.Common.{◌≡◌, List, [], ◌∷◌, ◌++◌, sym, subst, refl, arith, rules}
use Rattle.mr_base.specs.Disk.{AreBytes}
use Rattle.mr_memhost.specs.declared.step.Step.{Step}
use Rattle.mr_memhost.specs.declared.step.Step.TheVariants.{Write}
use Rattle.mr_memhost.specs.Files.{bytes_of, held}
use Rattle.mr_memhost.specs.Held.{wrote}
use Rattle.mr_memhost.specs.Story.{Kept, story_of, written}
use Rattle.mr_memhost.specs.Told.{story}
use Rattle.mr_memhost.proofs.Stories.{kept_on, wrote_holds}
use Rattle.mr_memhost.proofs.journal.Journal.write.Goals as goal

pub invariant_of-self-in-Ok : goal.invariant_of-self-in-Ok
invariant_of-self-in-Ok c =
    let me = c.args.self.now in
    let file = c.args.file in
    let at = c.args.at in
    let bytes = c.args.bytes.now in
    let before = held me.initial me.files in
    let are : AreBytes bytes = λ i. omega (arith, c.type_inv.bytes i) in
    let pushed : c.push.new.self.items ≡ me.steps.items ++ Write file at bytes ∷ [] = search rules in
    let kept = kept_on (story me) (Write file at bytes) file (written at bytes) (λ m. refl) before (held me.initial c.write_in.new.files) (λ f. wrote at bytes (before f)) me.output.items me.kept c.in-Ok.ensures.ok (wrote_holds (story me) file at bytes (before file) c.requires are (me.kept.files file)) in
    record { kept = subst (λ (l : List Step). Kept (story_of (bytes_of me.initial) me.before.items l) (held me.initial c.write_in.new.files) me.output.items) (sym pushed) kept }
