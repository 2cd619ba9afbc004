-- From how a run ended to its status, and what that promises.
use Rattle.std.proofs.Common.{◌≡◌, ◌⊎◌, ℕ, ◌+◌, ◌^◌, ◌<◌, ◌≤◌, List, [], ◌∷◌, ◌++◌, length, Some, None, Option, refl, ap, sym, ◌∙◌, inl, inr, subst, arith, append_assoc, length-append, Bool, cond, IsTrue, Ok, Err}
use Rattle.mr_base.specs.Disk.{State, Moment, present, seen}
use Rattle.mr_base.specs.Source.{SourceState, ClockState}
use Rattle.mr_base.specs.declared.stop.Stop.{Stop}
use Rattle.mr_base.specs.declared.stop.Stop.TheVariants.{Memory, Disk, Full, Damaged}
use Rattle.mr_base.specs.declared.stop.FullKind.{FullKind}
use Rattle.mr_base.specs.declared.stop.FullKind.TheVariants.{Log}
use Rattle.mr_base.proofs.Moments.{weaker}
use Rattle.mr_spec.specs.Replay.{reopened}
use Rattle.mr_spec.specs.ScriptRun.{Event, run_of, output_of, added_by}
use Rattle.mr_types.specs.declared.row.Commit.{Commit}
use Rattle.mr_commit_log.specs.Appending.{IsSettled}
use Rattle.mr_commit_log.specs.Room.{log_length, HasRoom}
use Rattle.mr_commit_log.specs.declared.ending.Ending.{Ending}
use Rattle.mr_commit_log.specs.declared.ending.Ending.TheVariants.{Stopped, EmitFault, SourceFault, TooLong}
use Rattle.mr_commit_log.proofs.Rooms.{log_on, room_at, room_on}
use Rattle.mr_serve.specs.Replied.{replied}
use Rattle.mr_serve.specs.Settled.{IsInside, IsDue, counted}
use Rattle.mr_serve.proofs.Events.{added_on}
use Rattle.mr_run.specs.Ended.{RunsWhole, IsRunCause, reported, status}
use Rattle.mr_run.specs.Headline.{Headline, HaveRun, IsCrashPrefix, IsReported, IsStoppedFull, IsTooLong, IsPastLimit, IsUndisturbed, OrMemory}
use Rattle.mr_run.specs.Reading.{IsPart, run_of_taken}
use Rattle.mr_run.specs.declared.top_call.Report.{Report}

have_run : (most : ℕ) (events : List Event) (commits : List Commit) (old new : State) → IsSettled new (commits ++ added_by events) ((present old).output ++ output_of events) → HasRoom most (log_length commits) (added_by events) → HaveRun most events commits old new
have_run most events commits old new settled room = record { all_out = settled.emitted; all_there = record { log = settled.log; lawful = settled.lawful }; at_rest = settled.at_rest; room = room }

-- ---- an ending, and what its status says

pub status_high : (ending : Ending) → 2 < status ending
status_high (Stopped Memory) = omega arith
status_high (Stopped Disk) = omega arith
status_high (Stopped (Full what at limit)) = omega arith
status_high (Stopped (Damaged file at)) = omega arith
status_high EmitFault = omega arith
status_high SourceFault = omega arith
status_high TooLong = omega arith

-- neither of two statuses
neither : (n a b : ℕ) → (n ≡ a) ⊎ (n ≡ b) → (n ≡ a → ⊥) → (n ≡ b → ⊥) → ⊥
neither n a b either first second = elim either [ inl x ↦ first x | inr y ↦ second y ]

cut_off_of : (most : ℕ) (e : Ending) (taken : ℕ) (events : List Event) (commits : List Commit) (old new : State) → IsPart most (Some e) taken events commits (present old).output new → (status e ≡ 4) ⊎ (status e ≡ 8) → HaveRun most events commits old new
cut_off_of most (Stopped Memory) taken events commits old new part is = absurd (neither 3 4 8 is (λ x. omega (arith, x)) (λ y. omega (arith, y)))
cut_off_of most (Stopped Disk) taken events commits old new part is = absurd (neither 5 4 8 is (λ x. omega (arith, x)) (λ y. omega (arith, y)))
cut_off_of most (Stopped (Full what at limit)) taken events commits old new part is = absurd (neither 9 4 8 is (λ x. omega (arith, x)) (λ y. omega (arith, y)))
cut_off_of most (Stopped (Damaged file at)) taken events commits old new part is = absurd (neither 7 4 8 is (λ x. omega (arith, x)) (λ y. omega (arith, y)))
cut_off_of most EmitFault taken events commits old new part is = absurd (neither 6 4 8 is (λ x. omega (arith, x)) (λ y. omega (arith, y)))
cut_off_of most SourceFault taken events commits old new part is = have_run most events commits old new part.1 part.2
cut_off_of most TooLong taken events commits old new part is = have_run most events commits old new part.1 part.2

too_long_of : (most : ℕ) (e : Ending) (taken : ℕ) (events : List Event) (commits : List Commit) (old new : State) → IsPart most (Some e) taken events commits (present old).output new → status e ≡ 8 → IsTooLong events taken old new
too_long_of most (Stopped Memory) taken events commits old new part is = absurd (omega (arith, is))
too_long_of most (Stopped Disk) taken events commits old new part is = absurd (omega (arith, is))
too_long_of most (Stopped (Full what at limit)) taken events commits old new part is = absurd (omega (arith, is))
too_long_of most (Stopped (Damaged file at)) taken events commits old new part is = absurd (omega (arith, is))
too_long_of most EmitFault taken events commits old new part is = absurd (omega (arith, is))
too_long_of most SourceFault taken events commits old new part is = absurd (omega (arith, is))
too_long_of most TooLong taken events commits old new part is = record { taken_is = part.0; all_out = part.1.emitted }

-- where the output is whole nothing is unfinished
whole_out : (events : List Event) (taken : ℕ) (old new : State) → IsPastLimit events taken old new → (2 ^ 30 < taken → length (present new).output < length ((present old).output ++ output_of events)) → ⊥
whole_out events taken old new past short =
    let less = short past.more in
    omega (arith, less, ap length past.out, length-append (present old).output (output_of events), length-append (present old).output (output_of events ++ past.beyond), length-append (output_of events) past.beyond)

only_too_long_of : (most : ℕ) (e : Ending) (taken : ℕ) (events : List Event) (commits : List Commit) (old new : State) → IsPart most (Some e) taken events commits (present old).output new → (status e ≡ 7 → ⊥) → IsPastLimit events taken old new → OrMemory (status e) (status e ≡ 8)
only_too_long_of most (Stopped Memory) taken events commits old new part sound past = inr refl
only_too_long_of most (Stopped Disk) taken events commits old new part sound past = absurd (whole_out events taken old new past part)
only_too_long_of most (Stopped (Full what at limit)) taken events commits old new part sound past = absurd (whole_out events taken old new past part)
only_too_long_of most (Stopped (Damaged file at)) taken events commits old new part sound past = absurd (sound refl)
only_too_long_of most EmitFault taken events commits old new part sound past = absurd (whole_out events taken old new past part)
only_too_long_of most SourceFault taken events commits old new part sound past = absurd (omega (arith, part.0, past.more))
only_too_long_of most TooLong taken events commits old new part sound past = inl refl

stop_same : (most : ℕ) (what : FullKind) (at limit length_now : ℕ) → what ≡ Log 1 → at ≡ length_now → limit ≡ most → Some (Full what at limit) ≡ Some (Full (Log 1) length_now most)
stop_same most what at limit length_now a b c = ap (λ x. Some (Full x at limit)) a ∙ ap (λ x. Some (Full (Log 1) x limit)) b ∙ ap (λ x. Some (Full (Log 1) length_now x)) c

stopped_full : (most : ℕ) (events : List Event) (commits : List Commit) (old new : State) (what : FullKind) (at limit : ℕ) → IsDue most events commits (present old).output new what at limit → IsStoppedFull most events commits old new (Some (Full what at limit))
stopped_full most events commits old new what at limit due =
    let here = due.here in
    record {
      first = due.first;
      next = due.next;
      others = due.others;
      split = due.split;
      begun = here.first;
      commit = here.next;
      rest = here.others;
      adds = here.split;
      all_out = here.settled.emitted;
      all_there = record { log = here.settled.log; lawful = here.settled.lawful };
      at_rest = here.settled.at_rest;
      room = room_on most (log_length commits) (added_by due.first) here.first (log_length (commits ++ added_by due.first)) due.room (log_on commits (added_by due.first)) here.room;
      sum = sym here.length_is ∙ here.sum;
      past = omega (arith, here.past, here.length_is);
      says = stop_same most what at limit (length (seen new 1)) here.what_is here.length_is here.limit_is;
    }

full_of : (most : ℕ) (e : Ending) (events : List Event) (commits : List Commit) (old new : State)
    → ((what : FullKind) (at limit : ℕ) → Some e ≡ Some (Stopped (Full what at limit)) → IsDue most events commits (present old).output new what at limit)
    → status e ≡ 9 → IsStoppedFull most events commits old new (reported e)
full_of most (Stopped Memory) events commits old new full is = absurd (omega (arith, is))
full_of most (Stopped Disk) events commits old new full is = absurd (omega (arith, is))
full_of most (Stopped (Full what at limit)) events commits old new full is = stopped_full most events commits old new what at limit (full what at limit refl)
full_of most (Stopped (Damaged file at)) events commits old new full is = absurd (omega (arith, is))
full_of most EmitFault events commits old new full is = absurd (omega (arith, is))
full_of most SourceFault events commits old new full is = absurd (omega (arith, is))
full_of most TooLong events commits old new full is = absurd (omega (arith, is))

-- a log that has room for all commits is full for none
room_not_due : (most : ℕ) (events : List Event) (commits : List Commit) (output : List ℕ) (new : State) (what : FullKind) (at limit : ℕ) → HasRoom most (log_length commits) (added_by events) → IsDue most events commits output new what at limit → ⊥
room_not_due most events commits output new what at limit room due =
    let here = due.here in
    let before = added_by due.first in
    let behind = here.others ++ added_by due.others in
    let all : added_by events ≡ (before ++ here.first) ++ here.next ∷ behind =
    ap added_by due.split ∙ added_on due.first (due.next ∷ due.others) ∙ ap (λ x. before ++ (x ++ added_by due.others)) here.split
    ∙ ap (λ x. before ++ x) (append_assoc here.first (here.next ∷ here.others) (added_by due.others)) ∙ sym (append_assoc before here.first (here.next ∷ behind)) in
    let long : log_length ((commits ++ before) ++ here.first) + 1 ≡ log_length commits + log_length (before ++ here.first) =
    ap (λ x. log_length x + 1) (append_assoc commits before here.first) ∙ log_on commits (before ++ here.first) in
    let fits = room_at most (log_length commits) (before ++ here.first) here.next behind (log_length ((commits ++ before) ++ here.first)) (subst (λ x. HasRoom most (log_length commits) x) all room) long in
    omega (arith, fits, here.past, here.sum)

-- an undisturbed run ends early for want of memory alone, or because its script is too long
undisturbed_of : (most : ℕ) (e : Ending) (source_old source_new : SourceState) (old new : State) (taken : ℕ) (events : List Event) (commits : List Commit) (output : List ℕ) → IsRunCause most source_old source_new old new taken e → (status e ≡ 7 → ⊥)
    → ((what : FullKind) (at limit : ℕ) → Some e ≡ Some (Stopped (Full what at limit)) → IsDue most events commits output new what at limit)
    → IsUndisturbed most events commits source_old source_new old new → OrMemory (status e) (status e ≡ 8)
undisturbed_of most (Stopped Memory) source_old source_new old new taken events commits output cause sound full quiet = inr refl
undisturbed_of most (Stopped Disk) source_old source_new old new taken events commits output cause sound full quiet = absurd (quiet.disk cause)
undisturbed_of most (Stopped (Full what at limit)) source_old source_new old new taken events commits output cause sound full quiet = absurd (room_not_due most events commits output new what at limit quiet.room (full what at limit refl))
undisturbed_of most (Stopped (Damaged file at)) source_old source_new old new taken events commits output cause sound full quiet = absurd (sound refl)
undisturbed_of most EmitFault source_old source_new old new taken events commits output cause sound full quiet = absurd (quiet.output cause)
undisturbed_of most SourceFault source_old source_new old new taken events commits output cause sound full quiet = absurd (quiet.source cause)
undisturbed_of most TooLong source_old source_new old new taken events commits output cause sound full quiet = inl refl

-- ---- the headline

crash_prefix : (events : List Event) (commits : List Commit) (output : List ℕ) (m : Moment) → IsInside events commits output m → IsCrashPrefix events commits output m
crash_prefix events commits output m here = λ image leaves.
    let x = here.left (image 1) (leaves 1) in
    (x.0, record { log = x.1; lawful = x.2 }, x.3)

counts_up : (n k : ℕ) → counted n ≡ counted (0 + k) → counted n ≡ counted k
counts_up n k e = omega (arith, e)

-- a run that came to its end
pub headline_done : (most : ℕ) (source_old source_new : SourceState) (clock_old : ClockState) (old new : State) (answer : ℕ) (report : Report) (failed : Bool) (commits : List Commit)
    → (IsTrue source_old.tells → source_new.left ≡ []) → answer ≡ cond failed 1 0 → answer < 2 → RunsWhole most source_old report.taken clock_old old new report.statements (Ok failed) commits → Headline most source_old source_new clock_old old new answer report commits
headline_done most source_old source_new clock_old old new answer report failed commits ended is low x =
    let events = run_of x.script x.clock (reopened commits) in
    let all = x.all_taken refl in
    let within : report.taken ≤ 2 ^ 30 = x.part in
    record {
      script = x.script;
      script_told = x.script_told;
      clock = x.clock;
      clock_told = x.clock_told;
      output_prefix = weaker old new _ _ (λ m here. here.shown) x.runs.moments;
      crash_prefix = weaker old new _ _ (crash_prefix events commits (present old).output) x.runs.moments;
      complete_run = λ l. record {
        ended = ended;
        all_taken = all;
        short = within;
        whole = have_run most events commits old new (x.runs.settled refl) (x.runs.room refl);
        errors = is ∙ ap (λ (b : Bool). cond b 1 0) x.error;
      };
      replies = λ shown now. counts_up report.statements (replied events shown) (x.runs.replies shown now);
      enough = x.enough;
      cut_off = λ either. absurd (neither answer 4 8 either (λ a. omega (arith, a, low)) (λ b. omega (arith, b, low)));
      too_long = λ q. absurd (omega (arith, q, low));
      only_too_long = λ past. absurd (omega (arith, past.more, within));
      full = λ q. absurd (omega (arith, q, low));
      completes = λ quiet short. inl low;
      reaches_limit = λ quiet long. absurd (omega (arith, long, all, within));
    }

-- a run that ended early
pub headline_early : (most : ℕ) (source_old source_new : SourceState) (clock_old : ClockState) (old new : State) (answer : ℕ) (report : Report) (e : Ending) (commits : List Commit)
    → answer ≡ status e → report.stop ≡ reported e → IsRunCause most source_old source_new old new report.taken e → (status e ≡ 7 → ⊥) → RunsWhole most source_old report.taken clock_old old new report.statements (Err e) commits
    → Headline most source_old source_new clock_old old new answer report commits
headline_early most source_old source_new clock_old old new answer report e commits is stop cause sound x =
    let events = run_of x.script x.clock (reopened commits) in
    let part = run_of_taken report.taken x.script x.clock (reopened commits) in
    let undisturbed = λ (quiet : IsUndisturbed most events commits source_old source_new old new).
    undisturbed_of most e source_old source_new old new report.taken events commits (present old).output cause sound x.runs.full quiet in
    record {
      script = x.script;
      script_told = x.script_told;
      clock = x.clock;
      clock_told = x.clock_told;
      output_prefix = weaker old new _ _ (λ m here. here.shown) x.runs.moments;
      crash_prefix = weaker old new _ _ (crash_prefix events commits (present old).output) x.runs.moments;
      complete_run = λ low. absurd (omega (arith, low, is, status_high e));
      replies = λ shown now. counts_up report.statements (replied events shown) (x.runs.replies shown now);
      enough = x.enough;
      cut_off = λ either. cut_off_of most e report.taken part commits old new x.part (subst (λ n. (n ≡ 4) ⊎ (n ≡ 8)) is either);
      too_long = λ q. too_long_of most e report.taken part commits old new x.part (sym is ∙ q);
      only_too_long = λ past. subst (λ n. OrMemory n (n ≡ 8)) (sym is) (only_too_long_of most e report.taken part commits old new x.part sound past);
      full = λ q. subst (λ s. IsStoppedFull most events commits old new s) (sym stop) (full_of most e events commits old new x.runs.full (sym is ∙ q));
      completes = λ quiet short. elim (undisturbed quiet) [
        | inl long ↦ absurd (let t = (too_long_of most e report.taken part commits old new x.part long).taken_is in omega (arith, t, x.enough, short))
        | inr memory ↦ inr (is ∙ memory)
      ];
      reaches_limit = λ quiet long. subst (λ n. OrMemory n (n ≡ 8)) (sym is) (undisturbed quiet);
    }

-- ---- what is reported

pub reported_none : (most : ℕ) (old new : State) (answer : ℕ) (stop : Option Stop) → answer < 2 → stop ≡ None → IsReported most old new answer stop
reported_none most old new answer stop low is = record {
  memory = λ e. absurd (omega (arith, low, e));
  disk = λ e. absurd (omega (arith, low, e));
  damaged = λ e. absurd (omega (arith, low, e));
  full = λ e. absurd (omega (arith, low, e));
  only_full = λ what at limit e. cc;
  none = λ a b c d. is;
}
