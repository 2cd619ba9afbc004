use Rattle.std.proofs.Common.{◌≡◌, ◌⊎◌, inl, ⊎_elim, ℕ, List, length, false, sym, ◌∙◌, ap, subst, arith}
use Rattle.mr_base.specs.Disk.{file_of, present, IsAtRest}
use Rattle.mr_base.specs.Calls.{During, OneFile}
use Rattle.mr_base.specs.declared.stop.Stop.TheVariants as stop
use Rattle.mr_gate.specs.Log.{is_damaged_from, end_from}
use Rattle.mr_gate.specs.Gate.{appended, IsUntouched, IsAfter, IsBeforeOrAfter}
use Rattle.mr_manifest.specs.Edits.{edits_bytes, edits_size}
use Rattle.mr_manifest.specs.Live.{live_after}
use Rattle.mr_manifest.specs.Manifest.{Opened, IsRefusal}
use Rattle.mr_manifest.proofs.WritingLaws.{sizes_are}
use Rattle.mr_manifest.proofs.SumLaws.{err_is}
use Rattle.mr_manifest.proofs.OpenLaws.{after_is, appended_moments}
use Rattle.mr_manifest.proofs.manifest.Manifest.append.Goals as goal

pub append-requires-clause-body : goal.append-requires-clause-body
append-requires-clause-body g c =
    let allowed = c.refusal.ensures.allowed c.in-None.is in
    omega (arith, ap (λ (l : List ℕ). length l) (c.as_slice.ensures ∙ c.in-Ok.ensures.body), sizes_are c.args.edits.now, allowed.2)

pub returns-in_err-append-clause-answers : goal.returns-in_err-append-clause-answers
returns-in_err-append-clause-answers g c =
    let disk = g.D.Disk.disk in
    let allowed = c.refusal.ensures.allowed c.in-None.is in
    err_is c.from_residual.result c.in_err-append.field-0.0 (λ e. (e ≡ stop.Disk) ⊎ (IsRefusal c.args.self.now c.args.edits.now e × IsUntouched (disk c.args.disk.now) (disk c.append.new.disk))) c.from_residual.ensures.1
    (⊎_elim (λ d. inl d) (λ w. absurd (allowed.1 (omega (
      arith,
      w.1,
      ap (λ (l : List ℕ). length l) (c.as_slice.ensures ∙ c.in-Ok.ensures.body),
      sizes_are c.args.edits.now,
      ap (λ (v : Opened). v.gate.end) c.self.view_is,
      ap (λ (v : Opened). v.gate.limit) c.self.view_is,
    )))) c.in_err-append.ensures.answers)

pub returns-clause-ok : goal.returns-clause-ok
returns-clause-ok g c =
    let es = c.args.edits.now in
    let gate : c.append.new.self ≡ appended c.args.self.now.gate (edits_size es) =
    c.in_ok-append.ensures.ok ∙ ap (λ n. appended c.self.inside.log n) (ap (λ (l : List ℕ). length l) (c.as_slice.ensures ∙ c.in-Ok.ensures.body) ∙ sizes_are es) ∙ ap (λ (v : Opened). appended v.gate (edits_size es)) c.self.view_is in
    let live : c.in-Ok.live ≡ live_after es c.args.self.now.live = c.in-Ok.ensures.live ∙ ap (λ (v : Opened). live_after es v.live) c.self.view_is in
    λ i. record { gate = gate i; live = live i }

pub returns-clause-added : goal.returns-clause-added
returns-clause-added g c tells fits =
    let old = g.D.Disk.disk c.args.disk.now in
    let new = g.D.Disk.disk c.append.new.disk in
    let stands = c.requires.stands tells in
    let from : c.args.self.now.gate.from ≡ 0 = sym (ap (λ (v : Opened). v.gate.from) c.self.view_is) ∙ c.self.invariant.1 in
    let sound = subst (λ n. is_damaged_from n (file_of old 0).bytes ≡ false) from stands.sound in
    let ends = stands.end ∙ ap (λ n. end_from n (file_of old 0).bytes) from in
    let after = subst (λ (f : ℕ). IsAfter c.self.inside.log.end c.as_slice.result.now (file_of old f).bytes (file_of new f).bytes) c.self.invariant.0 (c.in_ok-append.ensures.added tells) in
    let body = subst (λ (b : List ℕ). IsAfter c.self.inside.log.end b (file_of old 0).bytes (file_of new 0).bytes) (c.as_slice.ensures ∙ c.in-Ok.ensures.body) after in
    let there = subst (λ (n : ℕ). IsAfter n (edits_bytes c.args.edits.now) (file_of old 0).bytes (file_of new 0).bytes) (ap (λ (v : Opened). v.gate.end) c.self.view_is) body in
    after_is c.args.edits.now (file_of old 0).bytes (file_of new 0).bytes c.args.self.now.gate.end fits sound ends there

pub returns-in_err-append-clause-any_moment : goal.returns-in_err-append-clause-any_moment
returns-in_err-append-clause-any_moment g c tells fits =
    let old = g.D.Disk.disk c.args.disk.now in
    let new = g.D.Disk.disk c.append.new.disk in
    let stands = c.requires.stands tells in
    let from : c.args.self.now.gate.from ≡ 0 = sym (ap (λ (v : Opened). v.gate.from) c.self.view_is) ∙ c.self.invariant.1 in
    let sound = subst (λ n. is_damaged_from n (file_of old 0).bytes ≡ false) from stands.sound in
    let ends = stands.end ∙ ap (λ n. end_from n (file_of old 0).bytes) from in
    let run = subst (λ (f : ℕ). During old new (OneFile f (present old) (λ x. IsAtRest (file_of old f) → IsBeforeOrAfter c.self.inside.log.end c.as_slice.result.now (file_of old f).bytes x))) c.self.invariant.0 (c.append.ensures.any_moment tells) in
    let body = subst (λ (b : List ℕ). During old new (OneFile 0 (present old) (λ x. IsAtRest (file_of old 0) → IsBeforeOrAfter c.self.inside.log.end b (file_of old 0).bytes x))) (c.as_slice.ensures ∙ c.in-Ok.ensures.body) run in
    let there = subst (λ (n : ℕ). During old new (OneFile 0 (present old) (λ x. IsAtRest (file_of old 0) → IsBeforeOrAfter n (edits_bytes c.args.edits.now) (file_of old 0).bytes x))) (ap (λ (v : Opened). v.gate.end) c.self.view_is) body in
    appended_moments old new c.args.self.now.gate.end c.args.edits.now fits sound ends there

pub returns-clause-any_moment : goal.returns-clause-any_moment
returns-clause-any_moment g c tells fits =
    let old = g.D.Disk.disk c.args.disk.now in
    let new = g.D.Disk.disk c.append.new.disk in
    let stands = c.requires.stands tells in
    let from : c.args.self.now.gate.from ≡ 0 = sym (ap (λ (v : Opened). v.gate.from) c.self.view_is) ∙ c.self.invariant.1 in
    let sound = subst (λ n. is_damaged_from n (file_of old 0).bytes ≡ false) from stands.sound in
    let ends = stands.end ∙ ap (λ n. end_from n (file_of old 0).bytes) from in
    let run = subst (λ (f : ℕ). During old new (OneFile f (present old) (λ x. IsAtRest (file_of old f) → IsBeforeOrAfter c.self.inside.log.end c.as_slice.result.now (file_of old f).bytes x))) c.self.invariant.0 (c.append.ensures.any_moment tells) in
    let body = subst (λ (b : List ℕ). During old new (OneFile 0 (present old) (λ x. IsAtRest (file_of old 0) → IsBeforeOrAfter c.self.inside.log.end b (file_of old 0).bytes x))) (c.as_slice.ensures ∙ c.in-Ok.ensures.body) run in
    let there = subst (λ (n : ℕ). During old new (OneFile 0 (present old) (λ x. IsAtRest (file_of old 0) → IsBeforeOrAfter n (edits_bytes c.args.edits.now) (file_of old 0).bytes x))) (ap (λ (v : Opened). v.gate.end) c.self.view_is) body in
    appended_moments old new c.args.self.now.gate.end c.args.edits.now fits sound ends there
