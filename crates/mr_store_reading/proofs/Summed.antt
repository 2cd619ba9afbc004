-- What a manifest's records add up to, with its first record judged.
use Rattle.std.proofs.Common.{◌≡◌, inl, inr, ℕ, ◌+◌, Bool, true, false, if◌then◌else◌, nat_eq, List, [], ◌∷◌, refl, sym, ◌∙◌, ap, subst, Result, Ok, Err, IfErr, IsErrAnd}
use Rattle.std.specs.Cmp.Lexicographic.{pointwise}
use Rattle.mr_base.specs.Disk.{Image}
use Rattle.mr_base.specs.declared.stop.Stop.{Stop}
use Rattle.mr_gate.specs.Log.{records_from, end_from, is_damaged_from}
use Rattle.mr_manifest.specs.declared.sum.Sum.{Sum}
use Rattle.mr_manifest.specs.Edits.{first_record, edits_bytes}
use Rattle.mr_manifest.specs.Manifest.{no_records, sum_from, sum_of_file, judged}
use Rattle.mr_manifest.specs.Fields.{◌>>=◌}
use Rattle.mr_stored.specs.Said as said
use Rattle.mr_stored.specs.Said.{Place, in_file, differs_at, first_judged, manifest_sum}
use Rattle.mr_store_reading.specs.ReadBack.{Offends, OffendsIn, judged_first}

-- ---- a file that adds up has no damage

sound_by : (damaged : Bool) (end : ℕ) (sum : Result Sum ℕ) (s : Sum) → ((if damaged then Err end else sum) >>= judged) ≡ Ok s → damaged ≡ false
sound_by true end sum s is = absurd (cc)
sound_by false end sum s is = refl

pub is_sound : (file : List ℕ) (s : Sum) → sum_of_file file ≡ Ok s → is_damaged_from 0 file ≡ false
is_sound file s is = sound_by (is_damaged_from 0 file) (end_from 0 file) (sum_from no_records 0 (records_from 0 file)) s is

-- ---- an offence of its first record

refused_by : {X : Type 0} (alike : Bool) (n : ℕ) (x : X) (place : Place) → in_file 0 (if alike then Ok (tt {0}) else Err n) ≡ Err place → in_file 0 (if alike then Ok x else Err n) ≡ Err place
refused_by true n x place is = absurd (cc)
refused_by false n x place is = ap (λ p. Err p) cc

first_refused : (bodies : List (List ℕ)) (s : Sum) (place : Place) → in_file 0 (judged_first bodies) ≡ Err place → in_file 0 (first_judged bodies s) ≡ Err place
first_refused [] s place is = absurd (cc)
first_refused (body ∷ bodies) s place is = refused_by (pointwise nat_eq body (edits_bytes first_record)) (5 + differs_at body) s place is

sum_refused : (image : Image) (s : Sum) (place : Place) → sum_of_file (image 0) ≡ Ok s → in_file 0 (judged_first (records_from 0 (image 0))) ≡ Err place → manifest_sum image ≡ Err place
sum_refused image s place sum is =
    ap (λ (r : Result Sum ℕ). said.◌>>=◌ (in_file 0 r) (λ t. in_file 0 (first_judged (records_from 0 (image 0)) t))) sum
    ∙ first_refused (records_from 0 (image 0)) s place is

pub sum_offends : (image : Image) (s : Sum) (e : Stop) → sum_of_file (image 0) ≡ Ok s → OffendsIn 0 (judged_first (records_from 0 (image 0))) e → Offends (manifest_sum image) e
sum_offends image s e sum (inl disk) = inl disk
sum_offends image s e sum (inr (inl memory)) = inr (inl memory)
sum_offends image s e sum (inr (inr offence)) = inr (inr (offence.0, sum_refused image s offence.0 sum offence.1, offence.2))

-- ---- answers of a reader

-- an error is the error that it is made of
pub err_is : {A : Type 0} (r : Result A Stop) (e : Stop) (P : Stop → Type 0) → IsErrAnd r (λ x. x ≡ e) → P e → IfErr r P
err_is (Ok x) e P is holds = tt
err_is (Err x) e P is holds = subst P (sym is) holds
