-- How the records of an engine log go on, and what one record more is.
use Rattle.std.proofs.Common.{◌≡◌, inl, inr, ⊎_elim, ℕ, ◌+◌, Bool, true, false, List, [], ◌∷◌, ◌++◌, length, Result, Ok, Err, if◌then◌else◌, refl, sym, ◌∙◌, ap, subst, arith}
use Rattle.mr_wal.specs.declared.record.WalBody.{WalBody}
use Rattle.mr_wal.specs.declared.record.WalBody.TheVariants.{Prepare, Plain, Decided}
use Rattle.mr_wal.specs.declared.record.WalRecord.{WalRecord}
use Rattle.mr_wal.specs.Fields.{◌>>=◌}
use Rattle.mr_wal.specs.EngineLog.{record_bytes, read_record}
use Rattle.mr_wal.specs.Fitting.{RecordFits, FieldsFit, BodyFits, BodyFieldsFit}
use Rattle.mr_gate.specs.Log.{records_from, end_from, is_damaged_from, span, IsLog}
use Rattle.mr_gate.specs.Gate.{IsAfter, IsBeforeOrAfter, KeepsLog}
use Rattle.mr_gate.proofs.Laws.{sound_log}
use Rattle.mr_gate.proofs.Walk.{span-append}
use Rattle.mr_engine_log.specs.Logged.{Logged, none_logged, applied, read_at, step, replay, log_of}
use Rattle.mr_engine_log.specs.Added.{IsDue, HasRecord, MayHaveRecord, KeepsLogged, KeepsNumbers, KeepsRules}

bind_same : {X Y : Type 0} (s : Result X ℕ) (f g : X → Result Y ℕ) → ((x : X) → f x ≡ g x) → (s >>= f) ≡ (s >>= g)
bind_same (Ok x) f g is = is x
bind_same (Err place) f g is = refl

bind_bind : {X Y Z : Type 0} (s : Result X ℕ) (f : X → Result Y ℕ) (h : Y → Result Z ℕ) → (s >>= (λ x. f x >>= h)) ≡ ((s >>= f) >>= h)
bind_bind (Ok x) f h = refl
bind_bind (Err place) f h = refl

pub replay-append : (at : ℕ) (l : Logged) (xs ys : List (List ℕ)) → replay at l (xs ++ ys) ≡ (replay at l xs >>= (λ m. replay (at + span xs) m ys))
replay-append at l [] ys = let e : at ≡ at + 0 = omega arith in ap (λ n. replay n l ys) e
replay-append at l (x ∷ xs) ys =
    let e : (at + (5 + length x)) + span xs ≡ at + (5 + length x + span xs) = omega arith in
    bind_same (step at l x) (λ next. replay (at + (5 + length x)) next (xs ++ ys)) (λ next. replay (at + (5 + length x)) next xs >>= (λ m. replay (at + (5 + length x + span xs)) m ys))
    (λ next. replay-append (at + (5 + length x)) next xs ys ∙ ap (λ n. replay (at + (5 + length x)) next xs >>= (λ m. replay n m ys)) e)
    ∙ bind_bind (step at l x) (λ next. replay (at + (5 + length x)) next xs) (λ m. replay (at + (5 + length x + span xs)) m ys)

-- the record that is due
pub step_due : (at : ℕ) (l : Logged) (r : WalRecord) → read_record (record_bytes r) ≡ Ok r → IsDue r l → step at l (record_bytes r) ≡ Ok (applied r l)
step_due at l r reads due =
    ap (λ (b : Bool). if b then Err (at + 5) else read_at at l (read_record (record_bytes r))) due
    ∙ ap (read_at at l) reads

-- a log without damage leaves what its records leave
pub log_of_sound : (last : ℕ) (file : List ℕ) → is_damaged_from 0 file ≡ false → log_of last file ≡ replay 0 (none_logged last) (records_from 0 file)
log_of_sound last file sound = ap (λ (b : Bool). if b then Err (end_from 0 file) else replay 0 (none_logged last) (records_from 0 file)) sound

pub log_of_log : (last : ℕ) (bodies : List (List ℕ)) (file : List ℕ) → IsLog 0 bodies file → log_of last file ≡ replay 0 (none_logged last) bodies
log_of_log last bodies file log = log_of_sound last file log.sound ∙ ap (replay 0 (none_logged last)) log.records

-- and one that leaves something isn't damaged
choice_sound : (b : Bool) (place : ℕ) (r : Result Logged ℕ) (l : Logged) → (if b then Err place else r) ≡ Ok l → b ≡ false
choice_sound true place r l is = cc
choice_sound false place r l is = refl

pub is_sound : (last : ℕ) (file : List ℕ) (l : Logged) → log_of last file ≡ Ok l → is_damaged_from 0 file ≡ false
is_sound last file l is = choice_sound (is_damaged_from 0 file) (end_from 0 file) (replay 0 (none_logged last) (records_from 0 file)) l is

-- one record more
pub with_one : (last : ℕ) (bodies : List (List ℕ)) (r : WalRecord) (l : Logged) (file : List ℕ) → read_record (record_bytes r) ≡ Ok r → replay 0 (none_logged last) bodies ≡ Ok l → IsDue r l → IsLog 0 (bodies ++ record_bytes r ∷ []) file → log_of last file ≡ Ok (applied r l)
with_one last bodies r l file reads is due log =
    log_of_log last (bodies ++ record_bytes r ∷ []) file log
    ∙ replay-append 0 (none_logged last) bodies (record_bytes r ∷ [])
    ∙ ap (λ (m : Result Logged ℕ). m >>= (λ m. replay (0 + span bodies) m (record_bytes r ∷ []))) is
    ∙ ap (λ (m : Result Logged ℕ). m >>= (λ next. replay ((0 + span bodies) + (5 + length (record_bytes r))) next [])) (step_due (0 + span bodies) l r reads due)

module _ (end : ℕ) (r : WalRecord) (body old : List ℕ) (ends : end ≡ end_from 0 old) (body_is : body ≡ record_bytes r) (reads : read_record body ≡ Ok r) where
  replays : (last : ℕ) (l : Logged) → log_of last old ≡ Ok l → replay 0 (none_logged last) (records_from 0 old) ≡ Ok l
  replays last l is = sym (log_of_sound last old (is_sound last old l is)) ∙ is

  reads_back : read_record (record_bytes r) ≡ Ok r
  reads_back = subst (λ (b : List ℕ). read_record b ≡ Ok r) body_is reads

  pub has_record : (new : List ℕ) → IsAfter end body old new → HasRecord r old new
  has_record new after last l is due = with_one last (records_from 0 old) r l new reads_back (replays last l is) due
      (subst (λ (b : List ℕ). IsLog 0 (records_from 0 old ++ b ∷ []) new) body_is (after 0 (records_from 0 old) (sound_log 0 old (is_sound last old l is)) (sym ends)))

  pub may_have_record : (file : List ℕ) → IsBeforeOrAfter end body old file → MayHaveRecord r old file
  may_have_record file either last l is due = ⊎_elim
      (λ (before : IsLog 0 (records_from 0 old) file). inl (log_of_log last (records_from 0 old) file before ∙ replays last l is))
      (λ (after : IsLog 0 (records_from 0 old ++ body ∷ []) file). inr (with_one last (records_from 0 old) r l file reads_back (replays last l is) due (subst (λ (b : List ℕ). IsLog 0 (records_from 0 old ++ b ∷ []) file) body_is after)))
      (either 0 (records_from 0 old) (sound_log 0 old (is_sound last old l is)) (sym ends))

-- where the records end then
pub end_after : (end : ℕ) (body old new : List ℕ) → is_damaged_from 0 old ≡ false → end ≡ end_from 0 old → IsAfter end body old new → (is_damaged_from 0 new ≡ false) × (end + (5 + length body) ≡ end_from 0 new)
end_after end body old new sound ends after =
    let log = after 0 (records_from 0 old) (sound_log 0 old sound) (sym ends) in
    (log.sound, omega (arith, ends, ap span log.records, span-append (records_from 0 old) (body ∷ [])))

-- a repaired log leaves what it left
pub keeps_logged : (old file : List ℕ) → KeepsLog (end_from 0 old) old file → KeepsLogged old file
keeps_logged old file keeps last l is =
    let sound = is_sound last old l is in
    log_of_log last (records_from 0 old) file (keeps 0 (records_from 0 old) (sound_log 0 old sound) refl) ∙ sym (log_of_sound last old sound) ∙ is

-- a record that is written fits
body_fits : (b : WalBody) → BodyFieldsFit b → KeepsNumbers b → BodyFits b
body_fits (Prepare k sequence operations) fits number = (fits.0, number, fits.2)
body_fits (Plain sequence operations) fits number = (number, fits.1)
body_fits Decided fits number = tt

pub record_fits : (r : WalRecord) → FieldsFit r → KeepsRules r → RecordFits r
record_fits r fits rules = record { verdict = rules.verdict; body = body_fits r.body fits.body rules.numbers }
