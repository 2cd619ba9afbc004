use Rattle.std.proofs.lemmas.List.Elements.{same_from_all_zip}
use Rattle.std.proofs.Common.{◌≡◌, ℕ, List, [], sym, ◌∙◌, ap, subst}
use Rattle.mr_base.specs.Disk.{Moment, MayLeave, IsAtRest, file_of}
use Rattle.mr_base.proofs.Pending.{rest_of}
use Rattle.mr_memhost.specs.declared.step.Step.{Step}
use Rattle.mr_memhost.specs.Files.{bytes_of}
use Rattle.mr_memhost.specs.Host.{disk_state}
use Rattle.mr_memhost.specs.Story.{latest, story_of, start_of}
use Rattle.mr_memhost.proofs.host.MemHost.crash.Goals as goal

begun : (bytes : ℕ → List ℕ) (output : List ℕ) (steps : List Step) → steps ≡ [] → latest (story_of bytes output steps) ≡ start_of bytes output
begun bytes output steps is = ap (λ (l : List Step). latest (story_of bytes output l)) is

pub begin-requires-clause-bytes : goal.begin-requires-clause-bytes
begin-requires-clause-bytes c f = (c.in-Ok.ensures.allowed f).are_bytes

pub returns-clause-allowed : goal.returns-clause-allowed
returns-clause-allowed c f =
    let new = c.begin.result in
    let start = begun (bytes_of new.initial) new.before.items new.steps.items c.begin.ensures.steps in
    subst (MayLeave (file_of (disk_state c.args.self) f)) (sym (ap (λ (m : Moment). (m.files f).bytes) start ∙ c.begin.ensures.files f)) (c.in-Ok.ensures.allowed f)

pub returns-clause-rest : goal.returns-clause-rest
returns-clause-rest c f =
    let new = c.begin.result in
    let start = begun (bytes_of new.initial) new.before.items new.steps.items c.begin.ensures.steps in
    subst IsAtRest (sym (ap (λ (m : Moment). m.files f) start)) (rest_of (bytes_of new.initial f))

pub returns-clause-output : goal.returns-clause-output
returns-clause-output c =
    let new = c.begin.result in
    let start = begun (bytes_of new.initial) new.before.items new.steps.items c.begin.ensures.steps in
    let copied : c.in-Ok-clone.before.items ≡ c.args.self.journal.output.items = same_from_all_zip _ c.args.self.journal.output.items c.in-Ok-clone.before.items c.in-Ok-clone.ensures.cases.0 (λ x y e. e) in
    ap (λ (m : Moment). m.output) start ∙ c.begin.ensures.before ∙ copied ∙ c.args.self.journal.kept.shown
