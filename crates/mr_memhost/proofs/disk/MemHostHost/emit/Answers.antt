use Rattle.std.proofs.Common.{◌≡◌, ◌∙◌, ℕ, List, length, take, sym, ap, subst, arith}
use Rattle.std.proofs.lemmas.List.{take_all}
use Rattle.mr_base.specs.Calls.{Emits}
use Rattle.mr_memhost.specs.declared.journal.Journal.{Journal}
use Rattle.mr_memhost.specs.declared.step.Step.TheVariants.{Emit}
use Rattle.mr_memhost.specs.Story.{state, with_step}
use Rattle.mr_memhost.specs.Told.{story}
use Rattle.mr_memhost.proofs.Calls.{emits}
use Rattle.mr_memhost.proofs.disk.MemHostHost.emit.Goals as goal

pub returns-in-Ok-clause-appended : goal.returns-in-Ok-clause-appended
returns-in-Ok-clause-appended c tells =
    let piece = c.args.piece.now in
    let old = story c.args.self.now.journal in
    let new = story c.emit.new.self in
    let pushed : new ≡ with_step (Emit piece) old = c.in-Ok.ensures.ok ∙ ap (λ (j : Journal). with_step (Emit piece) (story j)) c.refuses.ensures.journal in
    let whole : take (length piece) piece ≡ piece = take_all (length piece) piece (omega arith) in
    subst (λ (l : List ℕ). Emits l (state old c.args.self.now.counts) (state new c.refuses.new.self.counts)) (sym whole) (emits old new c.args.self.now.counts c.refuses.new.self.counts piece pushed)
