-- From a log that was opened to the commits that it holds.
use Rattle.std.proofs.Common.{◌≡◌, ◌⊎◌, ℕ, ◌+◌, Bool, IsTrue, Option, List, [], ◌∷◌, ◌++◌, length, Some, None, refl, ap, sym, ◌∙◌, inl, inr, subst, arith, true, false, append_assoc, append-nil}
use Rattle.mr_base.specs.Disk.{State, Moment, Tells, MayLeave, IsAtRest, HasRisen, present, file_of}
use Rattle.mr_base.specs.declared.stop.Stop.{Stop}
use Rattle.mr_base.specs.declared.stop.Stop.TheVariants.{Memory, Disk, Full, Damaged}
use Rattle.mr_base.specs.Calls.{During, OneFile, Same, Rises}
use Rattle.mr_base.proofs.Moments.{started, weaker, goes_on, at_end, same_file, same_present}
use Rattle.mr_gate.specs.Log.{IsLog, records_from, end_from, is_damaged_from, span}
use Rattle.mr_gate.specs.Gate.{Gate, KeepsLog, Reaches, Stands as StandsOn}
use Rattle.mr_binlog.specs.CommitForm.{commit_bytes}
use Rattle.mr_binlog.specs.Commits.{IsNextCommit, IsNoCommit, SaysOffence, IsRead}
use Rattle.mr_gate.proofs.Laws.{sound_log, opened_log, reaches_behind}
use Rattle.mr_gate.proofs.Walk.{span-append}
use mathlib.Core.Bool.{true≢false}
use Rattle.mr_types.specs.declared.row.Commit.{Commit}
use Rattle.mr_commit_log.specs.Appending.{IsReady, IsSettled}
use Rattle.mr_commit_log.specs.Causes.{GoesOn}
use Rattle.mr_commit_log.specs.Folder.{Holds}
use Rattle.mr_commit_log.specs.LogCommits.{read_commits}
use Rattle.mr_commit_log.specs.Opening.{offence, IsDamagedAt, IsKept, IsSilent, KeepsRecords, IsOpeningCause, Replaying}
use Rattle.mr_commit_log.proofs.LogCommits.{commits_push, read_bytes}
use Rattle.mr_commit_log.proofs.Offences.{offence_at}

-- ---- the commits, one after the other

pub replaying_start : (s : State) → Replaying s 0 []
replaying_start s = record { bodies = []; place = refl; read = refl; behind = λ tells. refl }

-- what stands behind the commits so far
behind_at : (s : State) (at : ℕ) (commits : List Commit) (r : Replaying s at commits) → Tells s → (more : List (List ℕ)) → records_from at (file_of s 1).bytes ≡ more → records_from 0 (file_of s 1).bytes ≡ r.bodies ++ more
behind_at s at commits r tells more is = r.behind tells ∙ ap (λ x. r.bodies ++ x) is

-- one more
pub replaying_on : (s : State) (at next : ℕ) (commits : List Commit) (c : Commit) → Replaying s at commits → IsRead at c next → (Tells s → IsNextCommit at (file_of s 1).bytes (Some (c, next))) → Replaying s next (commits ++ c ∷ [])
replaying_on s at next commits c r was_read is_next =
    let body = commit_bytes c in
    let step = was_read.place in
    record {
      bodies = r.bodies ++ body ∷ [];
      place = let e : next ≡ span r.bodies + (5 + length body + 0) = omega (arith, step, r.place) in e ∙ sym (span-append r.bodies (body ∷ []));
      read = commits_push r.bodies body commits c r.read (read_bytes body c was_read.bytes was_read.back);
      behind = λ tells. behind_at s at commits r tells _ (is_next tells) ∙ sym (append_assoc r.bodies (body ∷ []) (records_from next (file_of s 1).bytes));
    }

-- all of them
pub replaying_end : (s : State) (at : ℕ) (commits : List Commit) → Replaying s at commits → (Tells s → is_damaged_from 0 (file_of s 1).bytes ≡ false) → (Tells s → IsNextCommit at (file_of s 1).bytes None) → Tells s → Holds commits (file_of s 1).bytes
replaying_end s at commits r sound none tells = record {
  sound = sound tells;
  read = ap read_commits (behind_at s at commits r tells [] (none tells) ∙ append-nil r.bodies) ∙ r.read;
}

abbrev kind_of : Stop → ℕ
kind_of Memory = 0
kind_of Disk = 1
kind_of (Full what at limit) = 2
kind_of (Damaged file at) = 3

abbrev file_in : Stop → ℕ
file_in Memory = 0
file_in Disk = 0
file_in (Full what at limit) = 0
file_in (Damaged file at) = file

abbrev place_of : Stop → ℕ
place_of Memory = 0
place_of Disk = 0
place_of (Full what at limit) = 0
place_of (Damaged file at) = at

-- or a record whose body is no commit
replaying_offence : (s : State) (at : ℕ) (commits : List Commit) (file place : ℕ) → Replaying s at commits → (Tells s → is_damaged_from 0 (file_of s 1).bytes ≡ false) → Tells s → IsNoCommit at (file_of s 1).bytes (Damaged file place) → IsDamagedAt (file_of s 1).bytes place
replaying_offence s at commits file place r sound tells n =
    let offends = n.3 in
    let is_place : place ≡ at + 5 + offends.0 = ap place_of offends.2 in
    inr (
      sound tells,
      ap (offence 0) (behind_at s at commits r tells _ n.2) ∙ offence_at r.bodies n.0 (records_from n.1 (file_of s 1).bytes) commits at offends.0 r.read r.place offends.1 ∙ ap Some (sym is_place),
    )

-- ---- the file before the opening and after it

-- they hold the same
pub same_log : (old new : List ℕ) → is_damaged_from 0 old ≡ false → KeepsLog (end_from 0 old) old new → IsLog 0 (records_from 0 old) new
same_log old new sound kept = opened_log 0 (records_from 0 old) old new (sound_log 0 old sound) kept

pub holds_after : (commits : List Commit) (old new : List ℕ) → Holds commits old → KeepsLog (end_from 0 old) old new → Holds commits new
holds_after commits old new holds kept = let log = same_log old new holds.sound kept in record { sound = log.sound; read = ap read_commits log.records ∙ holds.read }

pub holds_before : (commits : List Commit) (old new : List ℕ) → is_damaged_from 0 old ≡ false → KeepsLog (end_from 0 old) old new → Holds commits new → Holds commits old
holds_before commits old new sound kept holds = let log = same_log old new sound kept in record { sound = sound; read = ap read_commits (sym log.records) ∙ holds.read }

pub damage_before : (old new : List ℕ) (at : ℕ) → is_damaged_from 0 old ≡ false → KeepsLog (end_from 0 old) old new → IsDamagedAt new at → IsDamagedAt old at
damage_before old new at sound kept damage =
    let log = same_log old new sound kept in
    elim damage [
      | inl gate ↦ let e : true ≡ false = sym gate.0 ∙ log.sound in absurd (true≢false e)
      | inr body ↦ inr (sound, ap (offence 0) (sym log.records) ∙ body.1)
    ]

some_same : (a b : List Commit) → Some a ≡ Some b → a ≡ b
some_same a b e = cc

-- a file holds one list of commits
pub holds_one : (a b : List Commit) (bytes : List ℕ) → Holds a bytes → Holds b bytes → a ≡ b
holds_one a b bytes first second = some_same a b (sym first.read ∙ second.read)

-- ---- the moments of the opening

-- what a log that is opened goes through
abbrev pub Repairs : State → State → Type 0
Repairs old mid = During old mid (OneFile 1 (present old) (λ c. IsAtRest (file_of old 1) → KeepsLog (end_from 0 (file_of old 1).bytes) (file_of old 1).bytes c))

pub opening_kept : (old mid : State) (commits : List Commit) (output : List ℕ) → IsSettled old commits output → Repairs old mid → During old mid (IsKept commits output)
opening_kept old mid commits output settled during = weaker old mid _ _ (λ m one. record {
  emitted = one.output ∙ settled.emitted;
  left = λ bytes may. holds_after commits (file_of old 1).bytes bytes settled.log (one.left bytes may settled.at_rest);
}) during

pub then_nothing : (old mid new : State) (commits : List Commit) (output : List ℕ) → During old mid (IsKept commits output) → Same mid new → During old new (IsKept commits output)
then_nothing old mid new commits output so_far same = goes_on old mid new _ _ so_far same (λ m is. subst (λ x. IsKept commits output x) (sym is) (at_end old mid _ so_far))

pub settled_after : (old mid new : State) (commits : List Commit) (output : List ℕ) → IsSettled old commits output → During old mid (IsKept commits output) → KeepsLog (end_from 0 (file_of old 1).bytes) (file_of old 1).bytes (file_of mid 1).bytes
    → IsAtRest (file_of mid 1) → Same mid new → IsSettled new commits output
settled_after old mid new commits output settled during kept rest same =
    let file = same_file mid new 1 same in
    record {
      log = subst (λ f. Holds commits f.bytes) (sym file) (holds_after commits (file_of old 1).bytes (file_of mid 1).bytes settled.log kept);
      lawful = settled.lawful;
      at_rest = subst (λ f. IsAtRest f) (sym file) rest;
      emitted = ap (λ (m : Moment). m.output) (same_present mid new same) ∙ (at_end old mid _ during).emitted;
    }

-- ---- what any opening leaves alone

pub opening_silent : (old mid : State) → Repairs old mid → IsSilent old mid
opening_silent old mid during = weaker old mid _ _ (λ m one. one.output) during

pub opening_records : (old mid : State) → Repairs old mid → KeepsRecords old mid
opening_records old mid during sound rest = weaker old mid _ _ (λ m one bytes may. same_log (file_of old 1).bytes bytes sound (one.left bytes may rest)) during

-- reading behind it changes nothing
pub silent_then : (old mid new : State) → IsSilent old mid → Same mid new → IsSilent old new
silent_then old mid new so_far same = goes_on old mid new _ _ so_far same (λ m is. ap (λ (x : Moment). x.output) is ∙ at_end old mid _ so_far)

pub records_then : (old mid new : State) → KeepsRecords old mid → Same mid new → KeepsRecords old new
records_then old mid new so_far same sound rest =
    let here = so_far sound rest in
    goes_on old mid new _ _ here same
    (λ m is. subst (λ (x : Moment). (bytes : List ℕ) → MayLeave (x.files 1) bytes → IsLog 0 (records_from 0 (file_of old 1).bytes) bytes) (sym is) (at_end old mid _ here))

-- and where nothing is done at all
pub records_untouched : (s : State) → KeepsRecords s s
records_untouched s sound rest = started s _ (λ bytes may. subst (λ (b : List ℕ). IsLog 0 (records_from 0 (file_of s 1).bytes) b) (sym (rest bytes may)) (sound_log 0 (file_of s 1).bytes sound))

-- ---- reading a log that is ready

-- where the records so far end, the others reach the log's end
pub reaches_now : (old mid : State) (log : Gate) (at : ℕ) (commits : List Commit) → IsReady log old → Replaying old at commits → Tells old → Same old mid → Reaches log.end at (file_of mid 1).bytes
reaches_now old mid log at commits ready r tells same =
    let bytes = (file_of old 1).bytes in
    let whole : Reaches log.end 0 bytes = sym ((ready.stands tells).end ∙ ap (λ f. end_from f bytes) ready.from) in
    let place : 0 + span r.bodies ≡ at = omega (arith, r.place) in
    let here : Reaches log.end at bytes = subst (λ x. Reaches log.end x bytes) place (reaches_behind log.end 0 r.bodies (records_from at bytes) bytes (r.behind tells) whole) in
    subst (λ f. Reaches log.end at f.bytes) (sym (same_file old mid 1 same)) here

-- what was read next is what stood there from the start
pub next_before : (old mid : State) (at : ℕ) (found : Option (Commit × ℕ)) → Same old mid → IsNextCommit at (file_of mid 1).bytes found → IsNextCommit at (file_of old 1).bytes found
next_before old mid at found same next = subst (λ f. IsNextCommit at f.bytes found) (same_file old mid 1 same) next

pub ready_sound : (s : State) (log : Gate) → IsReady log s → Tells s → is_damaged_from 0 (file_of s 1).bytes ≡ false
ready_sound s log ready tells = subst (λ f. is_damaged_from f (file_of s 1).bytes ≡ false) ready.from (ready.stands tells).sound

offence_file : (at end : ℕ) (file place : ℕ) → (Damaged file place ≡ Damaged 1 at) ⊎ SaysOffence at end (Damaged file place) → file ≡ 1
offence_file at end file place (inl x) = ap file_in x
offence_file at end file place (inr x) = ap file_in x.2.2

-- why a read fails
pub read_cause : (old mid new : State) (at end : ℕ) (commits : List Commit) (e : Stop) → GoesOn old mid → Replaying old at commits → (Tells old → is_damaged_from 0 (file_of old 1).bytes ≡ false) → (Tells old → Same old mid)
    → (e ≡ Disk) ⊎ ((e ≡ Memory) ⊎ ((e ≡ Damaged 1 at) ⊎ SaysOffence at end e)) → (e ≡ Disk → HasRisen mid.faults new.faults)
    → (Tells old → (e ≡ Disk) ⊎ ((e ≡ Memory) ⊎ IsNoCommit at (file_of mid 1).bytes e)) → IsOpeningCause old new e
read_cause old mid new at end commits Memory goes r sound same answers failed told = tt
read_cause old mid new at end commits Disk goes r sound same answers failed told = omega (arith, goes.faults, failed refl)
read_cause old mid new at end commits (Full what a limit) goes r sound same answers failed told = elim answers [
  | inl x ↦ absurd (omega (arith, ap kind_of x))
  | inr y ↦ elim y [ inl x ↦ absurd (omega (arith, ap kind_of x)) | inr z ↦ elim z [ inl x ↦ absurd (omega (arith, ap kind_of x)) | inr x ↦ absurd (omega (arith, ap kind_of x.2.2)) ] ]
]
read_cause old mid new at end commits (Damaged f a) goes r sound same answers failed told = elim answers [
  | inl x ↦ absurd (omega (arith, ap kind_of x))
  | inr y ↦ elim y [
    | inl x ↦ absurd (omega (arith, ap kind_of x))
    | inr x ↦ (
      offence_file at end f a x,
      λ tells. elim (told tells) [
        | inl z ↦ absurd (omega (arith, ap kind_of z))
        | inr w ↦ elim w [
          | inl z ↦ absurd (omega (arith, ap kind_of z))
          | inr z ↦ replaying_offence old at commits f a r sound tells (subst (λ file. IsNoCommit at file.bytes (Damaged f a)) (same_file old mid 1 (same tells)) z)
        ]
      ],
    )
  ]
]

-- ---- the log once it is open

pub ready_opened : (old mid : State) (log : Gate) → Rises 2 old mid → log.file ≡ 1 → log.from ≡ 0 → log.is_open ≡ true → (Tells old → StandsOn log (file_of mid 1).bytes) → IsReady log mid
ready_opened old mid log rises file from is_open stands = record {
  file = file;
  from = from;
  is_open = is_open;
  stands = λ tells. stands (subst (λ (t : Bool). IsTrue t) rises.tells tells);
}

pub ready_same : (mid new : State) (log : Gate) → IsReady log mid → GoesOn mid new → (Tells mid → Same mid new) → IsReady log new
ready_same mid new log ready goes same = record {
  file = ready.file;
  from = ready.from;
  is_open = ready.is_open;
  stands = λ tells.
      let before : Tells mid = subst (λ (t : Bool). IsTrue t) goes.tells tells in
      subst (λ f. StandsOn log f.bytes) (sym (same_file mid new 1 (same before))) (ready.stands before);
}
