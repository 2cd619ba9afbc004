-- From an opening and the statements served after it to a whole run.
use Rattle.std.proofs.Common.{◌≡◌, ℕ, ◌+◌, ◌<◌, length, List, [], Some, None, Option, refl, ap, sym, ◌∙◌, inl, inr, subst, arith, append-nil, Bool, true, false, cond, ◌||◌, Result, Ok, Err, IsErrAnd}
use Rattle.std.proofs.lemmas.List.{append_cancel_left}
use mathlib.Core.Bool.{true≢false}
use Rattle.mr_base.specs.Disk.{State, Moment, Tells, NothingPending, present, seen, file_of}
use Rattle.mr_base.specs.Calls.{During}
use Rattle.mr_base.specs.Source.{SourceState, ClockState}
use Rattle.mr_base.specs.declared.stop.Stop.{Stop}
use Rattle.mr_base.specs.declared.stop.Stop.TheVariants.{Memory, Disk, Full, Damaged}
use Rattle.mr_base.specs.declared.stop.FullKind.{FullKind}
use Rattle.mr_base.proofs.Moments.{weaker, goes_on, at_end}
use Rattle.mr_gate.specs.Log.{records_from, is_damaged_from}
use Rattle.mr_spec.specs.Replay.{reopened}
use Rattle.mr_spec.specs.ScriptRun.{Event, IsWithin, run_of, output_of, has_error, statements_of}
use Rattle.mr_types.specs.declared.row.Commit.{Commit}
use Rattle.mr_spec.specs.Lawful.{IsLawful}
use Rattle.mr_commit_log.specs.Appending.{IsSettled}
use Rattle.mr_commit_log.specs.Folder.{Holds, StandsFor, IsReadable}
use Rattle.mr_commit_log.specs.Opening.{IsKept, IsDamagedAt, IsOpeningCause}
use Rattle.mr_commit_log.specs.declared.ending.Ending.{Ending}
use Rattle.mr_commit_log.specs.declared.ending.Ending.TheVariants.{Stopped, EmitFault, SourceFault, TooLong}
use Rattle.mr_commit_log.proofs.Early.{early_is, not_none}
use Rattle.mr_commit_log.proofs.Offences.{none_offends}
use Rattle.mr_serve.specs.Replied.{replied}
use Rattle.mr_serve.specs.Serving.{Stands}
use Rattle.mr_serve.specs.Settled.{IsInside, RunsFrom, counted}
use Rattle.mr_serve.specs.declared.server.Server.{Server}
use Rattle.mr_serve.proofs.Events.{within_start}
use Rattle.mr_serve.proofs.Replied.{replied_none}
use Rattle.mr_run.specs.Ended.{RunsWhole, AnswersError, HasMoved, IsRunCause, status}
use Rattle.mr_run.specs.Reading.{ServesScript, IsPart, run_of_taken}

-- a host at rest whose folder stands for commits is settled
pub settled_at_rest : (s : State) (commits : List Commit) → StandsFor (seen s) commits → NothingPending (present s) → IsSettled s commits (present s).output
settled_at_rest s commits stands pending = record { log = stands.log; lawful = stands.lawful; at_rest = pending 1; emitted = refl }

-- while the folder is opened, nothing of the run has happened
kept_inside : (events : List Event) (commits : List Commit) (output : List ℕ) → IsLawful commits → (m : Moment) → IsKept commits output m → IsInside events commits output m
kept_inside events commits output lawful m here = record {
  shown = record { shown = []; unshown = output_of events; front = refl; output = here.emitted ∙ sym (append-nil output) };
  left = λ bytes may. (commits, here.left bytes may, lawful, subst (λ (o : List ℕ). IsWithin events commits output commits o) (sym here.emitted) (within_start events commits output));
}

answers_any : (r : Result Bool Ending) (e : Ending) (error : Bool) → IsErrAnd r (λ x. x ≡ e) → AnswersError r error
answers_any (Ok x) e error err = absurd err
answers_any (Err d) e error err = tt

-- no opening answers that a log is full
not_full : (old mid : State) (stop : Stop) (what : FullKind) (at limit : ℕ) → IsOpeningCause old mid stop → stop ≡ Full what at limit → ⊥
not_full old mid stop what at limit cause is = subst (λ s. IsOpeningCause old mid s) is cause

-- the opening ended the run
opened_only : (most : ℕ) (old mid : State) (n : ℕ) (events : List Event) (commits : List Commit) (output : List ℕ) (stop : Stop) → IsOpeningCause old mid stop → IsLawful commits → n ≡ 0 → Tells mid → During old mid (IsKept commits output) → RunsFrom most old mid 0 n events (Some (Stopped stop)) commits output
opened_only most old mid n events commits output stop cause lawful none tells during = record {
  moments = weaker old mid _ _ (kept_inside events commits output lawful) during;
  settled = λ d. cc;
  room = λ d. cc;
  full = λ what at limit q. absurd (not_full old mid stop what at limit cause (cc));
  replies = λ shown is.
      let nothing : shown ≡ [] = sym (append_cancel_left output [] shown (append-nil output ∙ sym (at_end old mid _ during).emitted ∙ is)) in
      let count : replied events shown ≡ 0 = ap (replied events) nothing ∙ replied_none events in
      omega (arith, none, count);
  tells = tells;
}

-- the opening, and then the statements of a server that had no replies yet
opened_first : (most : ℕ) (old mid new : State) (m n : ℕ) (events : List Event) (ending : Option Ending) (commits : List Commit) (output : List ℕ) → IsLawful commits → m ≡ 0 → During old mid (IsKept commits output) → RunsFrom most mid new m n events ending commits output → RunsFrom most old new 0 n events ending commits output
opened_first most old mid new m n events ending commits output lawful none during runs = record {
  moments = goes_on old mid new _ _ (weaker old mid _ _ (kept_inside events commits output lawful) during) runs.moments (λ m here. here);
  settled = runs.settled;
  room = runs.room;
  full = runs.full;
  replies = λ shown is. runs.replies shown is ∙ ap (λ k. counted (k + replied events shown)) none;
  tells = runs.tells;
}

-- the opening failed: nothing was taken from the script
pub run_unopened : (most : ℕ) (source : SourceState) (taken : ℕ) (clock : ClockState) (old mid : State) (n : ℕ) (result : Result Bool Ending) (stop : Stop) (commits : List Commit) → IsErrAnd result (λ e. e ≡ Stopped stop) → IsOpeningCause old mid stop → IsLawful commits → taken ≡ 0 → n ≡ 0 → Tells mid
    → During old mid (IsKept commits (present old).output) → RunsWhole most source taken clock old mid n result commits
run_unopened most source taken clock old mid n result stop commits err cause lawful nothing none tells during =
    let same = early_is result (Stopped stop) err in
    record {
      script = source.left;
      script_told = λ t. refl;
      enough = omega (arith, nothing);
      all_taken = λ q. absurd (not_none (Stopped stop) (same ∙ q));
      clock = clock.values;
      clock_told = λ t k. refl;
      runs = subst (λ o. RunsFrom most old mid 0 n (run_of source.left clock.values (reopened commits)) o commits (present old).output) same (opened_only most old mid n (run_of source.left clock.values (reopened commits)) commits (present old).output stop cause lawful none tells during);
      part = subst (λ o. IsPart most o taken (run_of_taken taken source.left clock.values (reopened commits)) commits (present old).output mid) same (λ more. absurd (omega (arith, more, nothing)));
      error = answers_any result (Stopped stop) (has_error (run_of source.left clock.values (reopened commits))) err;
    }

-- a run that was cut short
pub run_cut : (most : ℕ) (source : SourceState) (taken : ℕ) (clock_old clock_new : ClockState) (old mid new : State) (server server_new : Server) (result : Result Bool Ending) (e : Ending) (commits : List Commit) → IsErrAnd result (λ x. x ≡ e) → server.replies ≡ 0 → server.log.gate.limit ≡ most → Tells mid
    → IsSettled mid commits (present old).output → During old mid (IsKept commits (present old).output) → Stands server (reopened commits) → ServesScript source taken server server_new clock_old clock_new mid new (Some e) → RunsWhole most source taken clock_old old new server_new.replies result commits
run_cut most source taken clock_old clock_new old mid new server server_new result e commits err none limit tells settled during stands served =
    let x = served.serves (reopened commits) stands in
    let same = early_is result e err in
    record {
      script = served.script;
      script_told = served.told;
      enough = served.enough;
      all_taken = λ q. absurd (not_none e (same ∙ q));
      clock = x.clock;
      clock_told = x.told;
      runs = subst (λ o. RunsFrom most old new 0 server_new.replies (run_of served.script x.clock (reopened commits)) o commits (present old).output) same
          (opened_first most old mid new server.replies server_new.replies (run_of served.script x.clock (reopened commits)) (Some e) commits (present old).output settled.lawful none during
          (subst (λ n. RunsFrom n mid new server.replies server_new.replies (run_of served.script x.clock (reopened commits)) (Some e) commits (present old).output) limit (x.runs tells (present old).output settled).runs));
      part = subst (λ o. IsPart most o taken (run_of_taken taken served.script x.clock (reopened commits)) commits (present old).output new) same
          (subst (λ n. IsPart n (Some e) taken (run_of_taken taken served.script x.clock (reopened commits)) commits (present old).output new) limit (x.part tells (present old).output settled));
      error = answers_any result e (has_error (run_of served.script x.clock (reopened commits))) err;
    }

-- a run that came to its end
pub run_done : (most : ℕ) (source : SourceState) (taken : ℕ) (clock_old clock_new : ClockState) (old mid new : State) (server server_new : Server) (commits : List Commit) → server.replies ≡ 0 → server.failed ≡ false → server.log.gate.limit ≡ most → Tells mid
    → IsSettled mid commits (present old).output → During old mid (IsKept commits (present old).output) → Stands server (reopened commits) → ServesScript source taken server server_new clock_old clock_new mid new None → RunsWhole most source taken clock_old old new server_new.replies (Ok server_new.failed) commits
run_done most source taken clock_old clock_new old mid new server server_new commits none fine limit tells settled during stands served =
    let x = served.serves (reopened commits) stands in
    record {
      script = served.script;
      script_told = served.told;
      enough = served.enough;
      all_taken = served.all_taken;
      clock = x.clock;
      clock_told = x.told;
      runs = opened_first most old mid new server.replies server_new.replies (run_of served.script x.clock (reopened commits)) None commits (present old).output settled.lawful none during
          (subst (λ n. RunsFrom n mid new server.replies server_new.replies (run_of served.script x.clock (reopened commits)) None commits (present old).output) limit (x.runs tells (present old).output settled).runs);
      part = subst (λ n. IsPart n None taken (run_of_taken taken served.script x.clock (reopened commits)) commits (present old).output new) limit (x.part tells (present old).output settled);
      error = x.failed refl ∙ ap (λ b. b || has_error (run_of served.script x.clock (reopened commits))) fine;
    }

-- how far its clock has moved
pub run_moved : (source : SourceState) (taken : ℕ) (clock_old clock_new : ClockState) (mid new : State) (server server_new : Server) → ServesScript source taken server server_new clock_old clock_new mid new None → HasMoved source clock_old clock_new
run_moved source taken clock_old clock_new mid new server server_new served told tells k = served.later refl tells k ∙ ap (λ (s : List ℕ). clock_old.values (length (statements_of s) + k)) (served.told told)

-- ---- damage

-- a damaged log is no readable folder's
damage_unreadable : (bytes : List ℕ) (at : ℕ) (commits : List Commit) → IsDamagedAt bytes at → Holds commits bytes → ⊥
damage_unreadable bytes at commits damage holds = elim damage [
  | inl gate ↦ true≢false (sym gate.0 ∙ holds.sound)
  | inr body ↦ let none = none_offends 0 (records_from 0 bytes) commits holds.read in absurd (let e = sym body.1 ∙ none in cc)
]

pub damaged_unreadable : (most : ℕ) (source_old source_new : SourceState) (old new : State) (taken : ℕ) (ending : Ending) → status ending ≡ 7 → IsRunCause most source_old source_new old new taken ending → Tells old → IsReadable (seen old) → ⊥
damaged_unreadable most source_old source_new old new taken (Stopped Memory) is cause tells readable = omega (arith, is)
damaged_unreadable most source_old source_new old new taken (Stopped Disk) is cause tells readable = omega (arith, is)
damaged_unreadable most source_old source_new old new taken (Stopped (Full what at limit)) is cause tells readable = omega (arith, is)
damaged_unreadable most source_old source_new old new taken (Stopped (Damaged file at)) is cause tells readable = damage_unreadable (file_of old 1).bytes at readable.0 (cause.1 tells) readable.1
damaged_unreadable most source_old source_new old new taken EmitFault is cause tells readable = omega (arith, is)
damaged_unreadable most source_old source_new old new taken SourceFault is cause tells readable = omega (arith, is)
damaged_unreadable most source_old source_new old new taken TooLong is cause tells readable = omega (arith, is)

-- a log that was opened isn't damaged
pub opened_undamaged : (bytes : List ℕ) (commits : List Commit) (P : Type 0) → Holds commits bytes → is_damaged_from 0 bytes ≡ true → P
opened_undamaged bytes commits P holds damaged = absurd (true≢false (sym damaged ∙ holds.sound))

pub low_status : (failed : Bool) (answer : ℕ) → answer ≡ cond failed 1 0 → answer < 2
low_status true answer is = omega (arith, is)
low_status false answer is = omega (arith, is)
