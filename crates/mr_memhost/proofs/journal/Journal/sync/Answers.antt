use Rattle.std.proofs.Common.{◌≡◌, List, [], ◌∷◌, ◌++◌, length, ◌+◌, sym, subst, refl, rules}
use Rattle.mr_base.specs.Disk.{at_rest}
use Rattle.mr_memhost.specs.declared.step.Step.{Step}
use Rattle.mr_memhost.specs.declared.step.Step.TheVariants.{Sync}
use Rattle.mr_memhost.specs.Files.{bytes_of, held}
use Rattle.mr_memhost.specs.Held.{settled}
use Rattle.mr_memhost.specs.Story.{Kept, story_of}
use Rattle.mr_memhost.specs.Told.{story}
use Rattle.mr_memhost.proofs.Stories.{kept_on, sync_holds}
use Rattle.mr_memhost.proofs.journal.Journal.sync.Goals as goal

pub invariant_of-self-in-Ok : goal.invariant_of-self-in-Ok
invariant_of-self-in-Ok c =
    let me = c.args.self.now in
    let file = c.args.file in
    let before = held me.initial me.files in
    let pushed : c.push.new.self.items ≡ me.steps.items ++ Sync file ∷ [] = search rules in
    let count : c.len-steps.result ≡ length me.steps.items + 1 = search rules in
    let kept = kept_on (story me) (Sync file) file (λ f. at_rest f.bytes) (λ m. refl) before (held me.initial c.settle_in.new.files) (λ f. settled c.len-steps.result (before f)) me.output.items me.kept c.in-Ok.ensures.ok (sync_holds (story me) file c.len-steps.result (before file) count (me.kept.files file)) in
    record { kept = subst (λ (l : List Step). Kept (story_of (bytes_of me.initial) me.before.items l) (held me.initial c.settle_in.new.files) me.output.items) (sym pushed) kept }
