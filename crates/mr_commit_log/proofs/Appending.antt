-- Commits more in the binary log.
use Rattle.std.proofs.Common.{◌≡◌, ℕ, ◌+◌, ◌≤◌, ◌⊎◌, ◌^◌, length, take, List, [], ◌∷◌, ◌++◌, Some, None, refl, ap, sym, ◌∙◌, inl, inr, subst, arith, Bool, IsTrue, append-nil, append_assoc, Option, Result, IsErrAnd}
use Rattle.std.proofs.lemmas.List.{take-append-le, take_all}
use Rattle.std.proofs.lemmas.Bool.{cases_lt}
use Rattle.std.proofs.Math.Seq.{take-append-add}
use Rattle.mr_base.specs.Disk.{State, Moment, Tells, IsAtRest, HasRisen, present, file_of}
use Rattle.mr_base.specs.declared.stop.Stop.{Stop}
use Rattle.mr_base.specs.declared.stop.Stop.TheVariants.{Memory, Disk, Full, Damaged}
use Rattle.mr_base.specs.declared.stop.FullKind.{FullKind}
use Rattle.mr_base.specs.declared.stop.FullKind.TheVariants.{Log}
use Rattle.mr_base.specs.Calls.{During, OneFile, IsShown, EmitCounts}
use Rattle.mr_base.proofs.Moments.{started, weaker, goes_on, at_end, same_file, same_present}
use Rattle.mr_gate.specs.Log.{IsLog, records_from, end_from, span}
use Rattle.mr_gate.specs.Gate.{Gate, IsBeforeOrAfter, IsAfter, IsUntouched, HasNoRoom, full, appended, Stands as StandsOn}
use Rattle.mr_gate.proofs.Laws.{stands_length}
use Rattle.mr_spec.specs.Lawful.{IsLawful}
use Rattle.mr_types.specs.declared.row.Commit.{Commit}
use Rattle.mr_commit_log.specs.Appending.{early, IsReady, IsSettled, IsAppending, IsFullFor, Appends}
use Rattle.mr_commit_log.specs.Causes.{IsCausedBy}
use Rattle.mr_commit_log.specs.Folder.{Holds}
use Rattle.mr_commit_log.specs.LogCommits.{read_commit, read_commits}
use Rattle.mr_commit_log.specs.Room.{log_length}
use Rattle.mr_commit_log.specs.declared.ending.Ending.{Ending}
use Rattle.mr_commit_log.specs.declared.ending.Ending.TheVariants.{Stopped}
use Rattle.mr_commit_log.proofs.Early.{early_is, not_none}
use Rattle.mr_commit_log.proofs.LogCommits.{commits_push, read_only}
use Rattle.mr_commit_log.proofs.Rooms.{log_on, room_on, span_is}

-- a file that holds commits is a log of their records
holds_log : (commits : List Commit) (bytes : List ℕ) → Holds commits bytes → IsLog 0 (records_from 0 bytes) bytes
holds_log commits bytes holds = record { records = refl; sound = holds.sound }

-- the records of the commits, and one more
log_holds_one : (commits : List Commit) (c : Commit) (old bytes body : List ℕ) → Holds commits old → read_commit body ≡ Some c → IsLog 0 (records_from 0 old ++ body ∷ []) bytes → Holds (commits ++ c ∷ []) bytes
log_holds_one commits c old bytes body holds read log = record {
  sound = log.sound;
  read = ap read_commits log.records ∙ commits_push (records_from 0 old) body commits c holds.read read;
}

log_holds : (commits : List Commit) (old bytes : List ℕ) → Holds commits old → IsLog 0 (records_from 0 old) bytes → Holds commits bytes
log_holds commits old bytes holds log = record { sound = log.sound; read = ap read_commits log.records ∙ holds.read }

abbrev kind_of : Stop → ℕ
kind_of Memory = 0
kind_of Disk = 1
kind_of (Full what at limit) = 2
kind_of (Damaged file at) = 3

abbrev place_in : Stop → ℕ
place_in Memory = 0
place_in Disk = 0
place_in (Full what at limit) = at
place_in (Damaged file at) = 0

abbrev limit_in : Stop → ℕ
limit_in Memory = 0
limit_in Disk = 0
limit_in (Full what at limit) = limit
limit_in (Damaged file at) = 0

abbrev what_in : Stop → FullKind
what_in Memory = Log 1
what_in Disk = Log 1
what_in (Full what at limit) = what
what_in (Damaged file at) = Log 1

-- where a crash leaves the commits from before
pub none_added : (commits added : List Commit) (bytes : List ℕ) → Holds commits bytes → IsLawful commits → (n : ℕ) × Holds (commits ++ take n added) bytes × IsLawful (commits ++ take n added)
none_added commits added bytes holds lawful = (0, subst (λ (x : List Commit). Holds x bytes) (sym (append-nil commits)) holds, subst IsLawful (sym (append-nil commits)) lawful)

-- what the log's append does, as commits
pub appends_one : (most : ℕ) (old new : State) (log : Gate) (body : List ℕ) (c : Commit) (ending : Option Ending) (commits : List Commit) → most ≡ log.limit → IsReady log old → read_commit body ≡ Some c → IsLawful (commits ++ c ∷ [])
    → (Tells old → During old new (OneFile 1 (present old) (λ b. IsAtRest (file_of old 1) → IsBeforeOrAfter log.end body (file_of old 1).bytes b)))
    → (Tells old → ending ≡ None → IsAfter log.end body (file_of old 1).bytes (file_of new 1).bytes)
    → (Tells old → ending ≡ None → IsAtRest (file_of new 1))
    → (ending ≡ None → HasNoRoom log (length body) → ⊥)
    → ((what : FullKind) (at limit : ℕ) → ending ≡ Some (Stopped (Full what at limit)) → (Full what at limit ≡ full log) × HasNoRoom log (length body) × IsUntouched old new)
    → Appends most old new (c ∷ []) ending commits
appends_one most old new log body c ending commits bound ready read lawful during added durable fits no_room tells output settled = record {
  moments = weaker old new _ _ (λ m one. record {
    emitted = one.output ∙ settled.emitted;
    left = λ bytes may. elim (one.left bytes may settled.at_rest 0 (records_from 0 held) log_now reaches) [
      | inl before ↦ none_added commits (c ∷ []) bytes (log_holds commits held bytes settled.log before) settled.lawful
      | inr after ↦ (1, log_holds_one commits c held bytes body settled.log read after, lawful)
    ];
  }) in_file;
  settled = λ d. record {
    log = log_holds_one commits c held (file_of new 1).bytes body settled.log read (after d 0 (records_from 0 held) log_now reaches);
    lawful = lawful;
    at_rest = durable tells d;
    emitted = (at_end old new _ in_file).output ∙ settled.emitted;
  };
  room = λ d. (omega (arith, fits d, long, size, bound), tt);
  full = λ what at limit q.
      let x = no_room what at limit q in
      let at_is : at ≡ log.end + 1 = ap place_in x.0 in
      let limit_is : limit ≡ log.limit = ap limit_in x.0 in
      let same = x.2.same tells in
      let none : commits ++ [] ≡ commits = append-nil commits in
      record {
        first = [];
        next = c;
        others = [];
        split = refl;
        settled = subst (λ (x : List Commit). IsSettled new x output) (sym none) (record {
          log = subst (λ f. Holds commits f.bytes) (sym (same_file old new 1 same)) settled.log;
          lawful = settled.lawful;
          at_rest = subst (λ f. IsAtRest f) (sym (same_file old new 1 same)) settled.at_rest;
          emitted = ap (λ (m : Moment). m.output) (same_present old new same) ∙ settled.emitted;
        });
        room = tt;
        what_is = ap what_in x.0 ∙ ap Log ready.file;
        limit_is = limit_is ∙ sym bound;
        length_is = at_is ∙ sym (stands_length log held (ready.stands tells)) ∙ ap (λ f. length f.bytes) (sym (same_file old new 1 same));
        sum = omega (arith, at_is, long, ap log_length none);
        past = omega (arith, x.1, at_is, bound, size);
      };
}
  where
    held : List ℕ
    held = (file_of old 1).bytes

    size : length body ≡ length (Rattle.mr_binlog.specs.CommitForm.commit_bytes c)
    size = ap length (read_only body c read)

    log_now : IsLog 0 (records_from 0 held) held
    log_now = holds_log commits held settled.log

    reaches : 0 + span (records_from 0 held) ≡ log.end
    reaches = sym ((ready.stands tells).end ∙ ap (λ f. end_from f held) ready.from)

    in_file : During old new (OneFile 1 (present old) (λ b. IsAtRest (file_of old 1) → IsBeforeOrAfter log.end body held b))
    in_file = during tells

    long : log.end + 1 ≡ log_length commits
    long = omega (arith, reaches, span_is (records_from 0 held) commits settled.log.read)

    after : ending ≡ None → IsAfter log.end body held (file_of new 1).bytes
    after d = added tells d

-- nothing was written
pub appends_nothing : (most : ℕ) (s : State) (added : List Commit) (e : Ending) (commits : List Commit) → ((what : FullKind) (at limit : ℕ) → e ≡ Stopped (Full what at limit) → ⊥) → Appends most s s added (Some e) commits
appends_nothing most s added e commits other tells output settled = record {
  moments = started s _ record {
    emitted = settled.emitted;
    left = λ bytes may. none_added commits added bytes (subst (λ (b : List ℕ). Holds commits b) (sym (settled.at_rest bytes may)) settled.log) settled.lawful;
  };
  settled = λ d. absurd (not_none e d);
  room = λ d. absurd (not_none e d);
  full = λ what at limit q. absurd (other what at limit (let is : e ≡ Stopped (Full what at limit) = cc in is));
}

settled_same : (s : State) (a b : List Commit) (output : List ℕ) → a ≡ b → IsSettled s a output → IsSettled s b output
settled_same s a b output same settled = subst (λ (x : List Commit). IsSettled s x output) same settled

-- no commit is appended
pub appends_none : (most : ℕ) (s : State) (commits : List Commit) → Appends most s s [] None commits
appends_none most s commits tells output settled = record {
  moments = started s _ record {
    emitted = settled.emitted;
    left = λ bytes may. none_added commits [] bytes (subst (λ (b : List ℕ). Holds commits b) (sym (settled.at_rest bytes may)) settled.log) settled.lawful;
  };
  settled = λ d. settled_same s commits (commits ++ []) output (sym (append-nil commits)) settled;
  room = λ d. tt;
  full = λ what at limit q. cc;
}

-- the first of the first are the first of all
first_all : (xs ys : List Commit) (n : ℕ) → (m : ℕ) × (take m (xs ++ ys) ≡ take n xs)
first_all xs ys n = elim (cases_lt (length xs) n) [
  | inl past ↦ (length xs, take-append-le (length xs) xs ys (omega arith) ∙ take_all (length xs) xs (omega arith) ∙ sym (take_all n xs (omega (arith, past))))
  | inr within ↦ (n, take-append-le n xs ys within)
]

appending_left : (xs ys commits : List Commit) (output : List ℕ) (m : Moment) → IsAppending commits xs output m → IsAppending commits (xs ++ ys) output m
appending_left xs ys commits output m here = record {
  emitted = here.emitted;
  left = λ bytes may.
      let x = here.left bytes may in
      let k = first_all xs ys x.0 in
      let same : commits ++ take x.0 xs ≡ commits ++ take k.0 (xs ++ ys) = ap (λ y. commits ++ y) (sym k.1) in
      (k.0, subst (λ (y : List Commit). Holds y bytes) same x.1, subst IsLawful same x.2);
}

appending_right : (xs ys commits : List Commit) (output : List ℕ) (m : Moment) → IsAppending (commits ++ xs) ys output m → IsAppending commits (xs ++ ys) output m
appending_right xs ys commits output m here = record {
  emitted = here.emitted;
  left = λ bytes may.
      let x = here.left bytes may in
      let same : (commits ++ xs) ++ take x.0 ys ≡ commits ++ take (length xs + x.0) (xs ++ ys) = append_assoc commits xs (take x.0 ys) ∙ ap (λ y. commits ++ y) (sym (take-append-add xs ys x.0)) in
      (length xs + x.0, subst (λ (y : List Commit). Holds y bytes) same x.1, subst IsLawful same x.2);
}

-- commits, and then more of them
pub appends_on : (most : ℕ) (a b c : State) (xs ys : List Commit) (ending : Option Ending) (commits : List Commit) → (Tells a → Tells b) → Appends most a b xs None commits → Appends most b c ys ending (commits ++ xs) → Appends most a c (xs ++ ys) ending commits
appends_on most a b c xs ys ending commits keeps first second tells output settled =
    let f = first tells output settled in
    let mid = f.settled refl in
    let t = second (keeps tells) output mid in
    record {
      moments = goes_on a b c _ _ (weaker a b _ _ (λ m. appending_left xs ys commits output m) f.moments) t.moments (λ m. appending_right xs ys commits output m);
      settled = λ d. settled_same c ((commits ++ xs) ++ ys) (commits ++ (xs ++ ys)) output (append_assoc commits xs ys) (t.settled d);
      room = λ d. room_on most (log_length commits) xs ys (log_length (commits ++ xs)) (f.room refl) (log_on commits xs) (t.room d);
      full = λ what at limit q.
          let x = t.full what at limit q in
          let same : (commits ++ xs) ++ x.first ≡ commits ++ (xs ++ x.first) = append_assoc commits xs x.first in
          record {
            first = xs ++ x.first;
            next = x.next;
            others = x.others;
            split = ap (λ y. xs ++ y) x.split ∙ sym (append_assoc xs x.first (x.next ∷ x.others));
            settled = settled_same c ((commits ++ xs) ++ x.first) (commits ++ (xs ++ x.first)) output same x.settled;
            room = room_on most (log_length commits) xs x.first (log_length (commits ++ xs)) (f.room refl) (log_on commits xs) x.room;
            what_is = x.what_is;
            limit_is = x.limit_is;
            length_is = x.length_is;
            sum = x.sum ∙ ap log_length same;
            past = x.past;
          };
    }

full_left : (most : ℕ) (s : State) (commits added more : List Commit) (output : List ℕ) (what : FullKind) (at limit : ℕ) → IsFullFor most s commits added output what at limit → IsFullFor most s commits (added ++ more) output what at limit
full_left most s commits added more output what at limit x = record {
  first = x.first;
  next = x.next;
  others = x.others ++ more;
  split = ap (λ y. y ++ more) x.split ∙ append_assoc x.first (x.next ∷ x.others) more;
  settled = x.settled;
  room = x.room;
  what_is = x.what_is;
  limit_is = x.limit_is;
  length_is = x.length_is;
  sum = x.sum;
  past = x.past;
}

-- an error among them ended them all
pub appends_cut : (most : ℕ) (a b : State) (xs ys : List Commit) (e : Ending) (commits : List Commit) → Appends most a b xs (Some e) commits → Appends most a b (xs ++ ys) (Some e) commits
appends_cut most a b xs ys e commits first tells output settled =
    let f = first tells output settled in
    record {
      moments = weaker a b _ _ (λ m. appending_left xs ys commits output m) f.moments;
      settled = λ d. absurd (not_none e d);
      room = λ d. absurd (not_none e d);
      full = λ what at limit q. full_left most b commits xs ys output what at limit (f.full what at limit q);
    }

-- the log goes on where it was
pub ready_on : (old new : State) (log : Gate) (n : ℕ) → IsReady log old → (Tells old → StandsOn (appended log n) (file_of new 1).bytes) → (Tells new → Tells old) → IsReady (appended log n) new
ready_on old new log n ready stands back = record {
  file = ready.file;
  from = ready.from;
  is_open = refl;
  stands = λ tells. stands (back tells);
}

-- an append that ended with an error, of which nothing is said
pub appends_memory : (most : ℕ) (a b : State) (added commits : List Commit) → Appends most a b added None commits → Appends most a b added (Some (Stopped Memory)) commits
appends_memory most a b added commits appends tells output settled =
    record { moments = (appends tells output settled).moments; settled = λ d. cc; room = λ d. cc; full = λ what at limit q. cc }

-- of an answer that carries the error
pub appends_early : {T : Type 0} (most : ℕ) (a b : State) (added commits : List Commit) (r : Result T Ending) (e : Ending) → IsErrAnd r (λ x. x ≡ e) → Appends most a b added (Some e) commits → Appends most a b added (early r) commits
appends_early most a b added commits r e h appends = subst (λ o. Appends most a b added o commits) (early_is r e h) appends

-- why the log's append answers that it is full
pub full_answer : (old new : State) (log : Gate) (n : ℕ) (e : Stop) (what : FullKind) (at limit : ℕ) → (e ≡ Disk) ⊎ ((e ≡ full log) × HasNoRoom log n) → (HasNoRoom log n → IsUntouched old new) → e ≡ Full what at limit
    → (Full what at limit ≡ full log) × HasNoRoom log n × IsUntouched old new
full_answer old new log n e what at limit answers untouched is = elim answers [
  | inl disk ↦ absurd (omega (arith, ap kind_of (sym disk ∙ is)))
  | inr y ↦ (sym is ∙ y.0, y.1, untouched y.1)
]

-- a log is as ready after something was emitted
pub ready_shown : (old new : State) (log : Gate) (text : List ℕ) → EmitCounts old new → (Tells old → During old new (IsShown text (present old))) → IsReady log old → IsReady log new
ready_shown old new log text counts shown ready = record {
  file = ready.file;
  from = ready.from;
  is_open = ready.is_open;
  stands = λ tells.
      let before : Tells old = subst (λ (t : Bool). IsTrue t) counts.tells tells in
      subst (λ f. StandsOn log f.bytes) (sym ((at_end old new _ (shown before)).files 1)) (ready.stands before);
}

-- why an append stops
pub append_cause : (most : ℕ) (old new : State) (log : Gate) (n : ℕ) (e : Stop) → most ≡ log.limit → IsReady log old → n ≤ 2 ^ 29 → (e ≡ Disk) ⊎ ((e ≡ full log) × HasNoRoom log n) → (e ≡ Disk → HasRisen old.faults new.faults) → (HasNoRoom log n → IsUntouched old new) → IsCausedBy most old new (Stopped e)
append_cause most old new log n Memory bound ready short answers failed untouched = tt
append_cause most old new log n Disk bound ready short answers failed untouched = failed refl
append_cause most old new log n (Damaged file at) bound ready short answers failed untouched = elim answers [ inl x ↦ absurd (omega (arith, ap kind_of x)) | inr y ↦ absurd (omega (arith, ap kind_of y.0)) ]
append_cause most old new log n (Full what at limit) bound ready short answers failed untouched = elim answers [
  | inl x ↦ absurd (omega (arith, ap kind_of x))
  | inr y ↦
      let kept = untouched y.1 in
      let at_is : at ≡ log.end + 1 = ap place_in y.0 in
      let limit_is : limit ≡ log.limit = ap limit_in y.0 in
      record {
        what_is = ap what_in y.0 ∙ ap Log ready.file;
        limit_is = limit_is ∙ sym bound;
        body = n;
        short = short;
        no_room = omega (arith, y.1, at_is, limit_is);
        length_is = λ tells.
            let before : Tells old = subst (λ (t : Bool). IsTrue t) kept.counts.tells tells in
            at_is ∙ sym (stands_length log (file_of old 1).bytes (ready.stands before)) ∙ ap (λ f. length f.bytes) (sym (same_file old new 1 (kept.same before)));
      }
]
