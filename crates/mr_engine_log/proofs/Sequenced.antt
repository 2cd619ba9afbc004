-- Records that have their sequence numbers in turn.
use Rattle.std.proofs.Common.{◌≡◌, ℕ, ◌+◌, ◌≤◌, ◌<◌, ◌==◌, Bool, true, false, List, [], ◌∷◌, ◌++◌, length, Option, Some, None, Result, Ok, Err, if◌then◌else◌, refl, sym, ◌∙◌, ap, subst, arith}
use Rattle.std.specs.List.{AllByRecursion}
use Rattle.std.proofs.lemmas.Bool.{and_parts, eqb-true}
use Rattle.mr_wal.specs.declared.record.WalBody.{WalBody}
use Rattle.mr_wal.specs.declared.record.WalBody.TheVariants.{Prepare, Plain, Decided}
use Rattle.mr_wal.specs.declared.record.WalRecord.{WalRecord}
use Rattle.mr_wal.specs.Fields.{◌>>=◌}
use Rattle.mr_wal.specs.EngineLog.{body_in, with_verdict, record_in, offence_in, read_record}
use Rattle.mr_gate.specs.Log.{records_from}
use Rattle.mr_engine_log.specs.Logged.{Logged, none_logged, committed, plain, decided, undecided, after_verdict, with_body, applied, is_wrong_verdict, read_at, step, replay, log_of, rest_of}
use Rattle.mr_engine_log.specs.Sequences.{IsNumbered, IsBefore, AreRising, SequencesGoOn}
use Rattle.mr_engine_log.specs.declared.batched.Batched.{Batched}
use Rattle.mr_engine_log.specs.declared.batched.Prepared.{Prepared}
use Rattle.mr_engine_log.proofs.Replaying.{is_sound, log_of_sound}

-- their numbers rise from above the one up to the other
abbrev UpTo : ℕ → ℕ → List Batched → Type 0
UpTo low high [] = low ≤ high
UpTo low high (b ∷ bs) = (low < b.sequence) × UpTo b.sequence high bs

one_more : (low high : ℕ) (bs : List Batched) (b : Batched) → UpTo low high bs → high < b.sequence → UpTo low b.sequence (bs ++ b ∷ [])
one_more low high [] b up lt = (omega (arith, up, lt), omega arith)
one_more low high (x ∷ xs) b up lt = (up.0, one_more x.sequence high xs b up.1 lt)

higher : (low high more : ℕ) (bs : List Batched) → high ≤ more → UpTo low high bs → UpTo low more bs
higher low high more [] le up = omega (arith, up, le)
higher low high more (x ∷ xs) le up = (up.0, higher x.sequence high more xs le up.1)

spans : (low high : ℕ) (bs : List Batched) → UpTo low high bs → low ≤ high
spans low high [] up = up
spans low high (x ∷ xs) up = omega (arith, up.0, spans x.sequence high xs up.1)

numbered : (base low high : ℕ) (bs : List Batched) → base ≤ low → UpTo low high bs → AllByRecursion (IsNumbered base high) bs
numbered base low high [] le up = tt
numbered base low high (x ∷ xs) le up = ((omega (arith, le, up.0), spans x.sequence high xs up.1), numbered base x.sequence high xs (omega (arith, le, up.0)) up.1)

before : (b : Batched) (low high : ℕ) (bs : List Batched) → b.sequence ≤ low → UpTo low high bs → AllByRecursion (IsBefore b) bs
before b low high [] le up = tt
before b low high (x ∷ xs) le up = (omega (arith, le, up.0), before b x.sequence high xs (omega (arith, le, up.0)) up.1)

rising : (low high : ℕ) (bs : List Batched) → UpTo low high bs → AreRising bs
rising low high [] up = tt
rising low high (x ∷ xs) up = (before x x.sequence high xs (omega arith) up.1, rising x.sequence high xs up.1)

below : (n low high : ℕ) (bs : List Batched) → high < n → UpTo low high bs → AllByRecursion (λ b. b.sequence < n) bs
below n low high [] lt up = tt
below n low high (x ∷ xs) lt up = (omega (arith, lt, spans x.sequence high xs up.1), below n x.sequence high xs lt up.1)

-- a pending prepare has the last number, and what counts has lower ones
abbrev IsTurned : ℕ → List Batched → Option Prepared → ℕ → Type 0
IsTurned base bs None last = UpTo base last bs
IsTurned base bs (Some p) last = (p.sequence ≡ last) × (high : ℕ) × (high < last) × UpTo base high bs

go_on : (base : ℕ) (bs : List Batched) (pending : Option Prepared) (last : ℕ) (turn : Bool) → IsTurned base bs pending last → SequencesGoOn base (rest_of pending last turn bs)
go_on base bs None last turn up = record {
  each = numbered base base last bs (omega arith) up;
  rising = rising base last bs up;
  last = spans base last bs up;
  pending = tt;
}
go_on base bs (Some p) last turn is =
    let up = higher base is.1 last bs (omega (arith, is.2)) is.3 in
    record {
      each = numbered base base last bs (omega arith) up;
      rising = rising base last bs up;
      last = spans base last bs up;
      pending = (omega (arith, is.0, is.2, spans base is.1 bs is.3), omega (arith, is.0), below p.sequence base is.1 bs (omega (arith, is.0, is.2)) is.3);
    }

-- ---- a verdict

not_both : (v : ℕ) → (v == 1) ≡ true → (v == 0) ≡ true → ⊥
not_both v one none = omega (arith, eqb-true v 1 one, eqb-true v 0 none)

verdict_turns : (base : ℕ) (bs : List Batched) (p : Prepared) (last : ℕ) (one none : Bool) → (one ≡ true → none ≡ true → ⊥) → IsTurned base bs (Some p) last
    → IsTurned base (if one then bs ++ committed p ∷ [] else bs) (if none then Some p else None) last
verdict_turns base bs p last true true not is = absurd (not refl refl)
verdict_turns base bs p last true false not is = subst (λ n. UpTo base n (bs ++ committed p ∷ [])) is.0 (one_more base is.1 bs (committed p) is.3 (omega (arith, is.0, is.2)))
verdict_turns base bs p last false true not is = is
verdict_turns base bs p last false false not is = higher base is.1 last bs (omega (arith, is.2)) is.3

verdict_is_turned : (base : ℕ) (bs : List Batched) (pending : Option Prepared) (last v : ℕ) → IsTurned base bs pending last → IsTurned base (decided v pending bs) (undecided v pending) last
verdict_is_turned base bs None last v is = is
verdict_is_turned base bs (Some p) last v is = verdict_turns base bs p last (v == 1) (v == 0) (not_both v) is

-- ---- a record's first byte is its verdict, so that none is pending behind it

abbrev verdict_in : Result WalRecord ℕ → ℕ
verdict_in (Ok r) = r.verdict
verdict_in (Err place) = 0

offence_ok : (bytes : List ℕ) (x : Result WalRecord ℕ) (r : WalRecord) → offence_in bytes x ≡ Ok r → x ≡ Ok r
offence_ok bytes (Ok x) r is = is
offence_ok bytes (Err left) r is = cc

verdict_is : (b : Bool) (v n : ℕ) (x : Result WalBody ℕ) (r : WalRecord) → (if b then with_verdict v x else Err n) ≡ Ok r → v ≡ r.verdict
verdict_is true v n (Ok body) r is = ap verdict_in is
verdict_is true v n (Err left) r is = cc
verdict_is false v n x r is = cc

none_pending : (pending : Option Prepared) (body : List ℕ) (r : WalRecord) → is_wrong_verdict pending body ≡ false → read_record body ≡ Ok r → undecided r.verdict pending ≡ None
none_pending None body r right reads = refl
none_pending (Some p) [] r right reads = cc
none_pending (Some p) (v ∷ bytes) r right reads =
    ap (λ n. undecided n (Some p)) (sym (verdict_is _ v (length (v ∷ bytes)) (body_in bytes) r (offence_ok (v ∷ bytes) (record_in (v ∷ bytes)) r reads)))
    ∙ ap (λ (b : Bool). if b then Some p else None) right

-- ---- a record, and all of them

body_turns : (base : ℕ) (b : WalBody) (l : Logged) → l.pending ≡ None → (with_body b l).in_turn ≡ true
    → (l.in_turn ≡ true) × (IsTurned base l.batches l.pending l.last → IsTurned base (with_body b l).batches (with_body b l).pending (with_body b l).last)
body_turns base (Prepare k sequence operations) l none turn =
    let parts = and_parts l.in_turn (sequence == l.last + 1) turn in
    let next = eqb-true sequence (l.last + 1) parts.1 in
    (parts.0, λ is. (refl, l.last, omega (arith, next), subst (λ (o : Option Prepared). IsTurned base l.batches o l.last) none is))
body_turns base (Plain sequence operations) l none turn =
    let parts = and_parts l.in_turn (sequence == l.last + 1) turn in
    let next = eqb-true sequence (l.last + 1) parts.1 in (
      parts.0,
      λ is. subst (λ (o : Option Prepared). IsTurned base (l.batches ++ plain sequence operations ∷ []) o sequence) (sym none)
          (one_more base l.last l.batches (plain sequence operations) (subst (λ (o : Option Prepared). IsTurned base l.batches o l.last) none is) (omega (arith, next))),
    )
body_turns base Decided l none turn = (turn, λ is. is)

abbrev logged_in : Result Logged ℕ → Logged
logged_in (Ok l) = l
logged_in (Err place) = none_logged 0

record StepParts (wrong : Bool) (l m : Logged) (x : Result WalRecord ℕ) : Type 0 where
  right : wrong ≡ false
  read : WalRecord
  reads : x ≡ Ok read
  is : applied read l ≡ m

step_parts : (wrong : Bool) (at : ℕ) (l m : Logged) (x : Result WalRecord ℕ) → (if wrong then Err (at + 5) else read_at at l x) ≡ Ok m → StepParts wrong l m x
step_parts true at l m x is = cc
step_parts false at l m (Ok r) is = record { right = refl; read = r; reads = refl; is = ap logged_in is }
step_parts false at l m (Err place) is = cc

abbrev Turns : ℕ → Logged → Logged → Type 0
Turns base l m = (l.in_turn ≡ true) × (IsTurned base l.batches l.pending l.last → IsTurned base m.batches m.pending m.last)

applied_turns : (base : ℕ) (r : WalRecord) (l : Logged) → undecided r.verdict l.pending ≡ None → (applied r l).in_turn ≡ true → Turns base l (applied r l)
applied_turns base r l none turn =
    let rest = body_turns base r.body (after_verdict r.verdict l) none turn in
    (rest.0, λ is. rest.1 (verdict_is_turned base l.batches l.pending l.last r.verdict is))

step_turns : (base at : ℕ) (l m : Logged) (body : List ℕ) → step at l body ≡ Ok m → m.in_turn ≡ true → Turns base l m
step_turns base at l m body is turn =
    let p = step_parts (is_wrong_verdict l.pending body) at l m (read_record body) is in
    subst (Turns base l) p.is (applied_turns base p.read l (none_pending l.pending body p.read p.right p.reads) (ap (λ (n : Logged). n.in_turn) p.is ∙ turn))

record BindParts {X Y : Type 0} (s : Result X ℕ) (f : X → Result Y ℕ) (y : Y) : Type 0 where
  first : X
  is : s ≡ Ok first
  behind : f first ≡ Ok y

bind_parts : {X Y : Type 0} (s : Result X ℕ) (f : X → Result Y ℕ) (y : Y) → (s >>= f) ≡ Ok y → BindParts s f y
bind_parts (Ok x) f y is = record { first = x; is = refl; behind = is }
bind_parts (Err place) f y is = cc

replay_turns : (base at : ℕ) (l m : Logged) (bodies : List (List ℕ)) → replay at l bodies ≡ Ok m → m.in_turn ≡ true → Turns base l m
replay_turns base at l m [] is turn =
    let same : l ≡ m = ap logged_in is in
    subst (Turns base l) same (ap (λ (n : Logged). n.in_turn) same ∙ turn, λ t. t)
replay_turns base at l m (body ∷ bodies) is turn =
    let p = bind_parts (step at l body) (λ next. replay (at + (5 + length body)) next bodies) m is in
    let rest = replay_turns base (at + (5 + length body)) p.first m bodies p.behind turn in
    let here = step_turns base at l p.first body p.is rest.0 in
    (here.0, λ t. rest.1 (here.1 t))

pub sequenced : (base : ℕ) (file : List ℕ) (l : Logged) → log_of base file ≡ Ok l → l.in_turn ≡ true → SequencesGoOn base l
sequenced base file l is turn =
    let replays = sym (log_of_sound base file (is_sound base file l is)) ∙ is in
    let turns = replay_turns base 0 (none_logged base) l (records_from 0 file) replays turn in
    go_on base l.batches l.pending l.last l.in_turn (turns.1 (omega arith))
