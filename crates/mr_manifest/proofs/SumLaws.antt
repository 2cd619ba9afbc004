-- The records of a file, added up in one pass.
use Rattle.std.proofs.Common.{◌≡◌, ◌⊎◌, inl, inr, ℕ, ◌+◌, Bool, true, false, cond, List, [], ◌∷◌, length, refl, sym, ◌∙◌, ap, subst, Option, Some, None, Result, Ok, Err, IfErr, IsErrAnd}
use Rattle.mr_base.specs.declared.stop.Stop.{Stop}
use Rattle.mr_base.specs.declared.stop.Stop.TheVariants as stop
use Rattle.mr_gate.specs.Log.{records_from, end_from, is_damaged_from}
use Rattle.mr_manifest.specs.declared.edit.Edit.{Edit}
use Rattle.mr_manifest.specs.declared.sum.Sum.{Sum}
use Rattle.mr_manifest.specs.Fields.{◌>>=◌}
use Rattle.mr_manifest.specs.Edits.{read_edits}
use Rattle.mr_manifest.specs.Manifest.{in_front, records_in, manifest_of, no_records, one_more, sum_of, breach, one_body, sum_from, state, judged, sum_of_file, IsOffence, IsManifest, IsDamagedAt, IsManifestDamage}

abbrev pub folds : Sum → Result (List (ℕ × List Edit)) ℕ → Result Sum ℕ
folds s (Ok rs) = Ok (sum_of s rs)
folds s (Err place) = Err place

front_folds : (s : Sum) (at : ℕ) (es : List Edit) (rs : Result (List (ℕ × List Edit)) ℕ) → folds (one_more s at es) rs ≡ folds s (in_front at (Ok es) rs)
front_folds s at es (Ok rs) = refl
front_folds s at es (Err place) = refl

body_folds : (s : Sum) (at next : ℕ) (body : List ℕ) (bodies : List (List ℕ)) → ((t : Sum) → sum_from t next bodies ≡ folds t (records_in next bodies)) → (read : Result (List Edit) ℕ)
    → (one_body s at body read >>= λ t. sum_from t next bodies) ≡ folds s (in_front at read (records_in next bodies))
body_folds s at next body bodies others (Ok es) = others (one_more s at es) ∙ front_folds s at es (records_in next bodies)
body_folds s at next body bodies others (Err place) = refl

pub folded : (bodies : List (List ℕ)) (s : Sum) (at : ℕ) → sum_from s at bodies ≡ folds s (records_in at bodies)
folded [] s at = refl
folded (body ∷ bodies) s at = body_folds s at (at + (5 + length body)) body bodies (λ t. folded bodies t (at + (5 + length body))) (read_edits body)

file_folds : (damaged : Bool) (end : ℕ) (x : Result Sum ℕ) (y : Result (List (ℕ × List Edit)) ℕ) → x ≡ folds no_records y
    → (cond damaged (Err end) x >>= judged) ≡ (folds no_records (cond damaged (Err end) y) >>= judged)
file_folds true end x y is = refl
file_folds false end x y is = ap (λ (r : Result Sum ℕ). r >>= judged) is

pub sum_is : (file : List ℕ) → sum_of_file file ≡ (folds no_records (manifest_of file) >>= judged)
sum_is file = file_folds (is_damaged_from 0 file) (end_from 0 file) _ _ (folded (records_from 0 file) no_records 0)

-- ---- a sum that is given

live_by : (file : List ℕ) (rs : List (ℕ × List Edit)) (s : Sum) → manifest_of file ≡ Ok rs → (o : Option ℕ) → breach (sum_of no_records rs) (sum_of no_records rs).at ≡ o → state o (sum_of no_records rs) ≡ Ok s → IsManifest file s.live
live_by file rs s read None fits is =
    let same : sum_of no_records rs ≡ s = cc in
    record { records = rs; read = read; live_is = ap (λ (t : Sum). t.live) (sym same); fits = fits }
live_by file rs s read (Some place) fits is = absurd (cc)

live_with : (file : List ℕ) (s : Sum) (m : Result (List (ℕ × List Edit)) ℕ) → manifest_of file ≡ m → (folds no_records m >>= judged) ≡ Ok s → IsManifest file s.live
live_with file s (Ok rs) read is = live_by file rs s read (breach (sum_of no_records rs) (sum_of no_records rs).at) refl is
live_with file s (Err place) read is = absurd (cc)

pub is_manifest : (file : List ℕ) (s : Sum) → sum_of_file file ≡ Ok s → IsManifest file s.live
is_manifest file s is = live_with file s (manifest_of file) refl (sym (sum_is file) ∙ is)

-- ---- an offence that is told

damage_by : (file : List ℕ) (rs : List (ℕ × List Edit)) (place : ℕ) → manifest_of file ≡ Ok rs → (o : Option ℕ) → breach (sum_of no_records rs) (sum_of no_records rs).at ≡ o → state o (sum_of no_records rs) ≡ Err place → IsDamagedAt file place
damage_by file rs place read None fits is = absurd (cc)
damage_by file rs place read (Some p) fits is =
    let same : p ≡ place = cc in
    inr (rs, read, fits ∙ ap (λ n. Some n) same)

damage_with : (file : List ℕ) (place : ℕ) (m : Result (List (ℕ × List Edit)) ℕ) → manifest_of file ≡ m → (folds no_records m >>= judged) ≡ Err place → IsDamagedAt file place
damage_with file place (Ok rs) read is = damage_by file rs place read (breach (sum_of no_records rs) (sum_of no_records rs).at) refl is
damage_with file place (Err p) read is =
    let same : p ≡ place = cc in
    inl (read ∙ ap (λ n. Err n) same)

pub is_damage : (file : List ℕ) (stop : Stop) → IsOffence file stop → IsManifestDamage file stop
is_damage file stop offence = (offence.0, damage_with file offence.0 (manifest_of file) refl (sym (sum_is file) ∙ offence.1), offence.2)

-- ---- answers of a reader

-- an error is the error that it is made of
pub err_is : {A : Type 0} (r : Result A Stop) (e : Stop) (P : Stop → Type 0) → IsErrAnd r (λ x. x ≡ e) → P e → IfErr r P
err_is (Ok x) e P is holds = tt
err_is (Err x) e P is holds = subst P (sym is) holds

pub why : (file : List ℕ) (e : Stop) → (e ≡ stop.Disk) ⊎ ((e ≡ stop.Memory) ⊎ IsOffence file e) → (e ≡ stop.Disk) ⊎ ((e ≡ stop.Memory) ⊎ IsManifestDamage file e)
why file e (inl disk) = inl disk
why file e (inr (inl memory)) = inr (inl memory)
why file e (inr (inr offence)) = inr (inr (is_damage file e offence))
