use Rattle.std.proofs.Common.{◌≡◌, List, [], ◌∷◌, ◌++◌, sym, subst, rules}
use Rattle.mr_memhost.specs.declared.step.Step.{Step}
use Rattle.mr_memhost.specs.declared.step.Step.TheVariants.{Emit}
use Rattle.mr_memhost.specs.Files.{bytes_of, held}
use Rattle.mr_memhost.specs.Story.{Kept, story_of}
use Rattle.mr_memhost.specs.Told.{story}
use Rattle.mr_memhost.proofs.Stories.{emit_kept}
use Rattle.mr_memhost.proofs.journal.Journal.emit.Goals as goal

pub invariant_of-self-in-Ok : goal.invariant_of-self-in-Ok
invariant_of-self-in-Ok c =
    let me = c.args.self.now in
    let before = held me.initial me.files in
    let pushed : c.push.new.self.items ≡ me.steps.items ++ Emit c.args.piece.now ∷ [] = search rules in
    let added : c.extend_from_slice.new.self.items ≡ me.output.items ++ c.args.piece.now = search rules in
    let kept = emit_kept (story me) c.args.piece.now before me.output.items c.extend_from_slice.new.self.items me.kept added in
    record { kept = subst (λ (l : List Step). Kept (story_of (bytes_of me.initial) me.before.items l) before c.extend_from_slice.new.self.items) (sym pushed) kept }
