-- What an opening keeps of a manifest.
use Rattle.std.proofs.Common.{◌≡◌, inl, inr, ⊎_elim, ℕ, ◌+◌, [], ◌∷◌, ◌++◌, length, arith, Bool, true, false, cond, List, refl, sym, ◌∙◌, ap, subst, Some, None, Result, Ok, Err}
use Rattle.mr_base.specs.Disk.{State, File, file_of, present, IsAtRest}
use Rattle.mr_base.specs.Calls.{Same, During, OneFile}
use Rattle.mr_base.proofs.Moments.{begins, then_same, then_run, same_file, file_weaker}
use Rattle.mr_gate.specs.Log.{records_from, end_from, is_damaged_from, span, IsLog}
use Rattle.mr_gate.specs.Gate.{KeepsLog, IsAfter, IsBeforeOrAfter}
use Rattle.mr_gate.proofs.Laws.{sound_log, opened_log}
use Rattle.mr_manifest.specs.declared.edit.Edit.{Edit}
use Rattle.mr_manifest.specs.declared.sum.Sum.{Sum}
use Rattle.mr_manifest.specs.Fields.{◌>>=◌}
use Rattle.mr_manifest.specs.Manifest.{in_front, records_in, manifest_of, with_record, IsOldOrNew, no_records, sum_of, sum_from, breach, judged, sum_of_file, IsDamagedAt}
use Rattle.mr_manifest.specs.Edits.{edits_bytes, read_edits, AllFit}
use Rattle.mr_manifest.proofs.WritingLaws.{reads_back}
use Rattle.mr_manifest.proofs.SumLaws.{is_manifest}

manifest_by_log : (bodies : List (List ℕ)) (file : List ℕ) → IsLog 0 bodies file → manifest_of file ≡ records_in 0 bodies
manifest_by_log bodies file log = ap (λ (b : Bool). cond b (Err (end_from 0 file)) (records_in 0 (records_from 0 file))) log.sound ∙ ap (λ (l : List (List ℕ)). records_in 0 l) log.records

pub kept_manifest : (old image : List ℕ) → is_damaged_from 0 old ≡ false → KeepsLog (end_from 0 old) old image → manifest_of image ≡ manifest_of old
kept_manifest old image sound keeps =
    let log = sound_log 0 old sound in
    manifest_by_log (records_from 0 old) image (opened_log 0 (records_from 0 old) old image log keeps) ∙ sym (manifest_by_log (records_from 0 old) old log)

sound_by : (damaged : Bool) (end : ℕ) (x : Result Sum ℕ) (s : Sum) → (cond damaged (Err end) x >>= judged) ≡ Ok s → damaged ≡ false
sound_by true end x s is = absurd (cc)
sound_by false end x s is = refl

pub is_sound : (file : List ℕ) (s : Sum) → sum_of_file file ≡ Ok s → is_damaged_from 0 file ≡ false
is_sound file s is = sound_by (is_damaged_from 0 file) (end_from 0 file) (sum_from no_records 0 (records_from 0 file)) s is

ok_same : {A : Type 0} (r : Result A ℕ) (x y : A) → r ≡ Ok x → r ≡ Ok y → x ≡ y
ok_same r x y e f = cc

not_both : {A : Type 0} (r : Result A ℕ) (x : A) (place : ℕ) → r ≡ Ok x → r ≡ Err place → ⊥
not_both r x place e f = let no : Ok x ≡ Err place = sym e ∙ f in cc

some_none : (place : ℕ) → Some place ≡ None → ⊥
some_none place is = cc

pub not_damaged : (file : List ℕ) (s : Sum) (place : ℕ) → sum_of_file file ≡ Ok s → IsDamagedAt file place → ⊥
not_damaged file s place is (inl e) = let m = is_manifest file s is in not_both (manifest_of file) m.records place m.read e
not_damaged file s place is (inr d) =
    let m = is_manifest file s is in
    let same : d.0 ≡ m.records = ok_same (manifest_of file) d.0 m.records d.1 m.read in
    some_none place (sym d.2 ∙ ap (λ (rs : List (ℕ × List Edit)). breach (sum_of no_records rs) (sum_of no_records rs).at) same ∙ m.fits)

pub opened_moments : (old mid new : State) → Same old mid → is_damaged_from 0 (file_of old 0).bytes ≡ false
    → During mid new (OneFile 0 (present mid) (λ x. IsAtRest (file_of mid 0) → KeepsLog (end_from 0 (file_of mid 0).bytes) (file_of mid 0).bytes x))
    → During old new (OneFile 0 (present old) (λ x. IsAtRest (file_of old 0) → manifest_of x ≡ manifest_of (file_of old 0).bytes))
opened_moments old mid new same sound run =
    let now : file_of mid 0 ≡ file_of old 0 = same_file old mid 0 same in
    let here = begins 0 old (λ x. IsAtRest (file_of old 0) → manifest_of x ≡ manifest_of (file_of old 0).bytes) (λ x left rest. ap manifest_of (rest x left)) in
    then_run 0 old mid new (λ x. IsAtRest (file_of old 0) → manifest_of x ≡ manifest_of (file_of old 0).bytes) _ (then_same 0 old old mid _ here same) run (λ x kept rest.
    kept_manifest (file_of old 0).bytes x sound (subst (λ (o : File). KeepsLog (end_from 0 o.bytes) o.bytes x) now (kept (subst IsAtRest (sym now) rest))))

-- ---- one record more

push_front : (at end : ℕ) (es : List Edit) (read : Result (List Edit) ℕ) (rs : Result (List (ℕ × List Edit)) ℕ) → in_front at read (with_record end es rs) ≡ with_record end es (in_front at read rs)
push_front at end es (Ok e) (Ok rs) = refl
push_front at end es (Ok e) (Err place) = refl
push_front at end es (Err place) rs = refl

one_more_in : (bodies : List (List ℕ)) (at : ℕ) (es : List Edit) → AllFit es → records_in at (bodies ++ edits_bytes es ∷ []) ≡ with_record (at + span bodies) es (records_in at bodies)
one_more_in [] at es fits =
    let place : at ≡ at + 0 = omega arith in
    ap (λ (r : Result (List Edit) ℕ). in_front at r (Ok [])) (reads_back es fits) ∙ ap (λ n. Ok ((n, es) ∷ [])) place
one_more_in (body ∷ bodies) at es fits =
    let next = at + (5 + length body) in
    let place : next + span bodies ≡ at + (5 + length body + span bodies) = omega arith in
    ap (λ r. in_front at (read_edits body) r) (one_more_in bodies next es fits)
    ∙ push_front at (next + span bodies) es (read_edits body) (records_in next bodies)
    ∙ ap (λ n. with_record n es (in_front at (read_edits body) (records_in next bodies))) place

more_records : (es : List Edit) (old image : List ℕ) (end : ℕ) → AllFit es → is_damaged_from 0 old ≡ false → end ≡ end_from 0 old → IsLog 0 (records_from 0 old ++ edits_bytes es ∷ []) image
    → manifest_of image ≡ with_record end es (manifest_of old)
more_records es old image end fits sound ends log =
    let bodies = records_from 0 old in
    manifest_by_log (bodies ++ edits_bytes es ∷ []) image log ∙ one_more_in bodies 0 es fits
    ∙ ap (λ n. with_record n es (records_in 0 bodies)) (sym ends)
    ∙ ap (λ r. with_record end es r) (sym (manifest_by_log bodies old (sound_log 0 old sound)))

pub after_is : (es : List Edit) (old image : List ℕ) (end : ℕ) → AllFit es → is_damaged_from 0 old ≡ false → end ≡ end_from 0 old → IsAfter end (edits_bytes es) old image
    → manifest_of image ≡ with_record end es (manifest_of old)
after_is es old image end fits sound ends after = more_records es old image end fits sound ends (after 0 (records_from 0 old) (sound_log 0 old sound) (sym ends))

old_or_new : (es : List Edit) (old image : List ℕ) (end : ℕ) → AllFit es → is_damaged_from 0 old ≡ false → end ≡ end_from 0 old → IsBeforeOrAfter end (edits_bytes es) old image → IsOldOrNew end es old image
old_or_new es old image end fits sound ends either =
    let log = sound_log 0 old sound in
    ⊎_elim (λ before. inl (manifest_by_log (records_from 0 old) image before ∙ sym (manifest_by_log (records_from 0 old) old log)))
    (λ after. inr (more_records es old image end fits sound ends after))
    (either 0 (records_from 0 old) log (sym ends))

pub appended_moments : (old new : State) (end : ℕ) (es : List Edit) → AllFit es → is_damaged_from 0 (file_of old 0).bytes ≡ false → end ≡ end_from 0 (file_of old 0).bytes
    → During old new (OneFile 0 (present old) (λ x. IsAtRest (file_of old 0) → IsBeforeOrAfter end (edits_bytes es) (file_of old 0).bytes x))
    → During old new (OneFile 0 (present old) (λ x. IsAtRest (file_of old 0) → IsOldOrNew end es (file_of old 0).bytes x))
appended_moments old new end es fits sound ends run = file_weaker 0 old new _ _ (λ x so rest. old_or_new es (file_of old 0).bytes x end fits sound ends (so rest)) run
