-- What files say at each moment of a record's writing.
use Rattle.std.proofs.Common.{◌≡◌, ◌≢◌, ◌⊎◌, ℕ, ◌<◌, Result, Ok, Err, refl, sym, ◌∙◌, ap, subst, inl, inr, arith}
use Rattle.mr_base.specs.Disk.{State, Moment, Image, File, MayLeave, IsAtRest, present, file_of, seen}
use Rattle.mr_base.specs.Calls.{OneFile}
use Rattle.mr_base.proofs.Moments.{started, weaker}
use Rattle.mr_wal.specs.declared.record.WalRecord.{WalRecord}
use Rattle.mr_engine_log.specs.Logged.{log_of, applied}
use Rattle.mr_engine_log.specs.Added.{IsDue, MayHaveRecord, Records}
use Rattle.mr_stored.specs.Said.{Place, Said, with_record}
use Rattle.mr_stored.specs.Begun.{Says}
use Rattle.mr_stored.proofs.Saying.{logged_is, says_with, says_same, says_apart}
use Rattle.mr_kv.specs.Batch.{MayHaveSaid, Writes}

said_same : {a b : Said} → ◌≡◌ {A = Result Said Place} (Ok a) (Ok b) → a ≡ b
said_same {a = a} e = ap (λ (r : Result Said Place). of r a) e
  where
    of : Result Said Place → Said → Said
    of (Ok x) other = x
    of (Err at) other = other

-- what an image says is one thing
pub one_said : (image : Image) (s t : Said) → Says image s → Says image t → s ≡ t
one_said image s t one other = said_same (sym one.said_is ∙ other.said_is)

none_below : 15 < 0 → ⊥
none_below lt = omega (arith, lt)

pub apart_from_manifest : (image : Image) (s : Said) → Says image s → 0 ≢ s.live.log
apart_from_manifest image s says is = none_below (subst (λ (n : ℕ). 15 < n) (sym is) (says_apart image s says).log)

module _ (r : WalRecord) (file : ℕ) (old : State) (s : Said) (says : Says (seen old) s) (log : file ≡ s.live.log) (rest0 : IsAtRest (file_of old 0)) (rest : IsAtRest (file_of old file)) where
  by_record : (image : Image) → seen old 0 ≡ image 0 → MayHaveRecord r (file_of old file).bytes (image file) → IsDue r s.logged → Says image s ⊎ Says image (with_record r s)
  by_record image same may is_due = to (may s.live.last_sequence s.logged (ap (λ (f : ℕ). log_of s.live.last_sequence (seen old f)) log ∙ logged_is (seen old) s says) is_due)
    where
      to : (log_of s.live.last_sequence (image file) ≡ Ok s.logged) ⊎ (log_of s.live.last_sequence (image file) ≡ Ok (applied r s.logged)) → Says image s ⊎ Says image (with_record r s)
      to (inl before) = inl (says_with (seen old) image s s.logged same says (ap (λ (f : ℕ). log_of s.live.last_sequence (image f)) (sym log) ∙ before))
      to (inr after) = inr (says_with (seen old) image s (applied r s.logged) same says (ap (λ (f : ℕ). log_of s.live.last_sequence (image f)) (sym log) ∙ after))

  left_by : (m : Moment) → OneFile file (present old) (λ c. IsAtRest (file_of old file) → MayHaveRecord r (file_of old file).bytes c) m → MayHaveSaid r file old m
  left_by m one = record {
    files = one.files;
    output = one.output;
    left = λ image leaves t says_t is_due.
        let same_said : s ≡ t = one_said (seen old) s t says says_t in
        let zero : seen old 0 ≡ image 0 = sym (rest0 (image 0) (subst (λ (f : File). MayLeave f (image 0)) (one.files 0 (λ is. apart_from_manifest (seen old) s says (is ∙ log))) (leaves 0))) in
        subst (λ (u : Said). Says image u ⊎ Says image (with_record r u)) same_said
        (by_record image zero (one.left (image file) (leaves file) rest) (subst (λ (u : Said). IsDue r u.logged) (sym same_said) is_due));
  }

pub writes : (r : WalRecord) (file : ℕ) (old new : State) (s : Said) → Says (seen old) s → file ≡ s.live.log → Records r file old new → Writes r file old new
writes r file old new s says log records rest0 rest = weaker old new (OneFile file (present old) (λ c. IsAtRest (file_of old file) → MayHaveRecord r (file_of old file).bytes c)) (MayHaveSaid r file old) (left_by r file old s says log rest0 rest) records

-- nothing is written
pub writes_none : (r : WalRecord) (file : ℕ) (old : State) (s : Said) → Says (seen old) s → file ≡ s.live.log → Writes r file old old
writes_none r file old s says log rest0 rest = started old (MayHaveSaid r file old) (record {
  files = λ other apart. refl;
  output = refl;
  left = λ image leaves t says_t is_due.
      let same_said : s ≡ t = one_said (seen old) s t says says_t in
      let zero : seen old 0 ≡ image 0 = sym (rest0 (image 0) (leaves 0)) in
      let own : seen old file ≡ image file = sym (rest (image file) (leaves file)) in
      inl (subst (Says image) same_said (says_same (seen old) image s zero (ap (seen old) (sym log) ∙ own ∙ ap image log) says));
})
