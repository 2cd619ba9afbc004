-- A script that is taken in pieces.
use Rattle.std.proofs.Common.{◌≡◌, ℕ, ◌+◌, ◌≤◌, List, [], ◌++◌, Some, None, Option, refl, ap, sym, ◌∙◌, subst, IsTrue, Result, Ok, Err, IsErrAnd, IfErr, map, length, ◌^◌, append-nil, append_assoc, arith, length-append, take}
use Rattle.std.proofs.Math.Seq.{take-append_seam}
use Rattle.mr_base.specs.Disk.{State, Tells, present}
use Rattle.mr_base.specs.Source.{SourceState, ClockState}
use Rattle.mr_lex.specs.Cutting.{rest_of}
use Rattle.mr_spec.specs.ScriptRun.{Event, run_of, trace, world_behind, read_part, statements_of}
use Rattle.mr_spec.specs.World.{World}
use Rattle.mr_spec.proofs.Traces.{later}
use Rattle.mr_types.specs.declared.row.Commit.{Commit}
use Rattle.mr_types.specs.declared.statement.Statement.{Statement}
use Rattle.mr_commit_log.specs.Appending.{early, IsSettled}
use Rattle.mr_commit_log.specs.Causes.{GoesOn, IsCausedBy}
use Rattle.mr_commit_log.proofs.GoingOn.{cause_later}
use Rattle.mr_run.specs.Causes.{IsScriptCause}
use Rattle.mr_commit_log.specs.declared.ending.Ending.{Ending}
use Rattle.mr_commit_log.specs.declared.ending.Ending.TheVariants.{Stopped, EmitFault, SourceFault, TooLong}
use Rattle.mr_commit_log.proofs.Early.{early_is, not_none}
use Rattle.mr_serve.specs.Settled.{IsUnfinished, Runs}
use Rattle.mr_serve.specs.declared.server.Server.{Server}
use Rattle.mr_serve.proofs.Early.{Cuts}
use Rattle.mr_serve.proofs.Events.{trace_on}
use Rattle.mr_serve.proofs.Running.{runs_cut}
use Rattle.mr_run.specs.Cutting.{left_by, statements_in}
use Rattle.mr_run.specs.Holding.{Holds}
use Rattle.mr_run.specs.Reading.{ServesBytes, ServesScript, IsTaken, IsPart, run_of_taken}
use Rattle.mr_run.specs.Serving.{Served, Serves}
use Rattle.mr_run.specs.declared.part.Part.{Part}
use Rattle.mr_run.proofs.Cut.{statements_on, script_is, left_on}
use Rattle.mr_run.proofs.Served.{served_nothing, served_on, served_bytes}

-- what is known of a script that was taken in part
pub record Taken (first now : SourceState) (part : Part) (a b : Server) (ca cb : ClockState) (ha hb : State) (count : ℕ) : Type 0 where
  pub bytes : List ℕ
  pub counted : count ≡ length bytes
  pub moved : IsTrue first.tells → first.left ≡ bytes ++ now.left
  pub tells : now.tells ≡ first.tells
  pub holds : Holds part (left_by [] bytes)
  pub serves : Serves a b ca cb ha hb None (statements_in [] bytes)

pub taken_start : (s : SourceState) (part : Part) → Holds part [] → (n : ℕ) → n ≡ 0 → (a : Server) (c : ClockState) (h : State) → Taken s s part a a c c h h n
taken_start s part fresh n none a c h = record { bytes = []; counted = none; moved = λ tells. refl; tells = refl; holds = fresh; serves = served_nothing a c h }

-- a piece more
pub taken_on : (first mid now : SourceState) (part part_new : Part) (chunk : List ℕ) (a b c : Server) (ca cb cc_ : ClockState) (ha hb hc : State) (count count_new : ℕ) → Taken first mid part a b ca cb ha hb count
    → now.tells ≡ mid.tells → (IsTrue mid.tells → mid.left ≡ chunk ++ now.left) → count_new ≡ count + length chunk → ((since : List ℕ) → Holds part since → Holds part_new (left_by since chunk)) → ((since : List ℕ) → Holds part since → Serves b c cb cc_ hb hc None (statements_in since chunk))
    → Taken first now part_new a c ca cc_ ha hc count_new
taken_on first mid now part part_new chunk a b c ca cb cc_ ha hb hc count count_new t same moved grown q s = record {
  bytes = t.bytes ++ chunk;
  counted = let e : count_new ≡ length (t.bytes ++ chunk) = omega (arith, grown, t.counted, length-append t.bytes chunk) in e;
  moved = λ tells. t.moved tells ∙ ap (λ x. t.bytes ++ x) (moved (subst IsTrue (sym t.tells) tells)) ∙ sym (append_assoc t.bytes chunk now.left);
  tells = same ∙ t.tells;
  holds = subst (Holds part_new) (sym (left_on [] t.bytes chunk)) (q (left_by [] t.bytes) t.holds);
  serves = served_bytes a b c ca cb cc_ ha hb hc None [] t.bytes chunk t.serves (s (left_by [] t.bytes) t.holds);
}

-- the statements among the bytes taken are those of the first so many bytes of the script
taken_run : (bytes left : List ℕ) (count : ℕ) (clock : ℕ → ℕ) (w : World) → count ≡ length bytes → trace w (statements_in [] bytes) clock ≡ run_of_taken count (bytes ++ left) clock w
taken_run bytes left count clock w is = ap (λ x. trace w (statements_in [] x) clock) (sym (ap (λ n. take n (bytes ++ left)) is ∙ take-append_seam bytes left))

-- what the statements among some bytes of a script do, in an exit by an error
cut_run : (bytes left : List ℕ) (a b : Server) (ca cb : ClockState) (ha hb : State) (ending : Option Ending) (e : Ending) (count : ℕ) (w : World) → Cuts ending e → count ≡ length bytes
    → (x : Served a b ca cb ha hb ending (statements_in [] bytes) w)
    → (Tells ha → (output : List ℕ) → IsSettled ha w.commits output → IsPart a.log.gate.limit (Some e) count (trace w (statements_in [] bytes) x.clock) w.commits output hb)
    → ServesBytes (bytes ++ left) count a b ca ha hb (Some e) w
cut_run bytes left a b ca cb ha hb ending e count w cuts is x part =
    let more = statements_in (left_by [] bytes) left ++ map read_part (rest_of (left_by [] (bytes ++ left))) in
    let all : statements_of (bytes ++ left) ≡ statements_in [] bytes ++ more =
    script_is (bytes ++ left) ∙ ap (λ y. y ++ map read_part (rest_of (left_by [] (bytes ++ left)))) (statements_on [] bytes left)
    ∙ append_assoc (statements_in [] bytes) (statements_in (left_by [] bytes) left) (map read_part (rest_of (left_by [] (bytes ++ left)))) in
    let events : run_of (bytes ++ left) x.clock w ≡ trace w (statements_in [] bytes) x.clock ++ trace (world_behind w (statements_in [] bytes) x.clock) more (later (statements_in [] bytes) x.clock) =
    ap (λ ss. trace w ss x.clock) all ∙ trace_on w (statements_in [] bytes) more x.clock in
    record {
      clock = x.clock;
      told = x.told;
      runs = subst (λ es. Runs a.log.gate.limit ha hb a.replies b.replies es (Some e) w.commits) (sym events)
          (runs_cut a.log.gate.limit ha hb a.replies b.replies (trace w (statements_in [] bytes) x.clock) (trace (world_behind w (statements_in [] bytes) x.clock) more (later (statements_in [] bytes) x.clock)) ending e w.commits cuts x.runs);
      failed = λ q. absurd (not_none e q);
      part = λ tells output settled. subst (λ es. IsPart a.log.gate.limit (Some e) count es w.commits output hb) (taken_run bytes left count x.clock w is) (part tells output settled);
    }

enough_is : (bytes left : List ℕ) (count : ℕ) → count ≡ length bytes → count ≤ length (bytes ++ left)
enough_is bytes left count is = omega (arith, is, length-append bytes left)

-- the source failed
pub script_failed : {T : Type 0} (first now : SourceState) (part : Part) (a b : Server) (ca cb : ClockState) (ha hb : State) (count : ℕ) (r : Result T Ending) → IsErrAnd r (λ x. x ≡ SourceFault) → count ≤ 2 ^ 30 → Taken first now part a b ca cb ha hb count
    → ServesScript first count a b ca cb ha hb (early r)
script_failed first now part a b ca cb ha hb count r err bound t = subst (λ o. ServesScript first count a b ca cb ha hb o) (early_is r SourceFault err) (record {
  script = t.bytes ++ now.left;
  told = λ tells. sym (t.moved tells);
  enough = enough_is t.bytes now.left count t.counted;
  all_taken = λ q. cc;
  serves = λ w stands.
      let x = t.serves.served w stands in
      cut_run t.bytes now.left a b ca cb ha hb None SourceFault count w tt t.counted x (λ tells output settled. let y = (x.runs tells output settled).runs in (bound, y.settled refl, y.room refl));
  later = λ q. cc;
})

-- it gave a byte too many
pub script_too_long : (first now : SourceState) (part : Part) (a b : Server) (ca cb : ClockState) (ha hb : State) (count : ℕ) → count ≡ 2 ^ 30 + 1 → Taken first now part a b ca cb ha hb count → ServesScript first count a b ca cb ha hb (Some TooLong)
script_too_long first now part a b ca cb ha hb count bound t = record {
  script = t.bytes ++ now.left;
  told = λ tells. sym (t.moved tells);
  enough = enough_is t.bytes now.left count t.counted;
  all_taken = λ q. cc;
  serves = λ w stands.
      let x = t.serves.served w stands in
      cut_run t.bytes now.left a b ca cb ha hb None TooLong count w tt t.counted x (λ tells output settled. let y = (x.runs tells output settled).runs in (bound, y.settled refl, y.room refl));
  later = λ q. cc;
}

-- the server stopped with an error
part_stopped : (most : ℕ) (e : Ending) (old new : State) (count : ℕ) (events : List Event) (commits : List Commit) (output : List ℕ) → IsCausedBy most old new e → IsUnfinished e events output (present new).output → IsPart most (Some e) count events commits output new
part_stopped most (Stopped stop) old new count events commits output cause u = λ more. u
part_stopped most EmitFault old new count events commits output cause u = λ more. u
part_stopped most SourceFault old new count events commits output cause u = absurd cause
part_stopped most TooLong old new count events commits output cause u = absurd cause

-- an exit by an error, inside a piece
pub script_cut_inside : {T : Type 0} (first mid now : SourceState) (part : Part) (chunk : List ℕ) (a b c : Server) (ca cb cc_ : ClockState) (ha hb hc : State) (count count_new most : ℕ) (r : Result T Ending) (e : Ending) → IsErrAnd r (λ x. x ≡ e) → Taken first mid part a b ca cb ha hb count
    → (IsTrue mid.tells → mid.left ≡ chunk ++ now.left) → count_new ≡ count + length chunk → most ≡ a.log.gate.limit → IsCausedBy most hb hc e → ((since : List ℕ) → Holds part since → Serves b c cb cc_ hb hc (Some e) (statements_in since chunk)) → ServesScript first count_new a c ca cc_ ha hc (early r)
script_cut_inside first mid now part chunk a b c ca cb cc_ ha hb hc count count_new most r e err t moved grown same cause s = subst (λ o. ServesScript first count_new a c ca cc_ ha hc o) (early_is r e err) (record {
  script = (t.bytes ++ chunk) ++ now.left;
  told = λ tells. append_assoc t.bytes chunk now.left ∙ ap (λ x. t.bytes ++ x) (sym (moved (subst IsTrue (sym t.tells) tells))) ∙ sym (t.moved tells);
  enough = enough_is (t.bytes ++ chunk) now.left count_new counted;
  all_taken = λ q. absurd (not_none e q);
  serves = λ w stands.
      let x = (served_bytes a b c ca cb cc_ ha hb hc (Some e) [] t.bytes chunk t.serves (s (left_by [] t.bytes) t.holds)).served w stands in
      cut_run (t.bytes ++ chunk) now.left a c ca cc_ ha hc (Some e) e count_new w refl counted x
      (λ tells output settled. part_stopped a.log.gate.limit e hb hc count_new (trace w (statements_in [] (t.bytes ++ chunk)) x.clock) w.commits output (subst (λ n. IsCausedBy n hb hc e) same cause) (x.runs tells output settled).unfinished);
  later = λ q. absurd (not_none e q);
})
  where
    counted : count_new ≡ length (t.bytes ++ chunk)
    counted = omega (arith, grown, t.counted, length-append t.bytes chunk)

-- the end of the script was served, or an error ended that
part_end : {T : Type 0} (most : ℕ) (r : Result T Ending) (old new : State) (count : ℕ) (events : List Event) (commits : List Commit) (output : List ℕ) → count ≤ 2 ^ 30 → IfErr r (IsCausedBy most old new) → IsPart most (early r) count events commits output new
part_end most (Ok x) old new count events commits output bound cause = bound
part_end most (Err (Stopped stop)) old new count events commits output bound cause = λ more. absurd (omega (arith, more, bound))
part_end most (Err EmitFault) old new count events commits output bound cause = λ more. absurd (omega (arith, more, bound))
part_end most (Err SourceFault) old new count events commits output bound cause = absurd cause
part_end most (Err TooLong) old new count events commits output bound cause = absurd cause

-- the end: nothing is left where the source tells
pub script_done : {T : Type 0} (first now : SourceState) (part : Part) (a b c : Server) (ca cb cc_ : ClockState) (ha hb hc : State) (count most : ℕ) (r : Result T Ending) → Taken first now part a b ca cb ha hb count → (IsTrue now.tells → now.left ≡ []) → count ≤ 2 ^ 30
    → most ≡ a.log.gate.limit → IfErr r (IsCausedBy most hb hc) → ((since : List ℕ) → Holds part since → Serves b c cb cc_ hb hc (early r) (map read_part (rest_of since))) → ServesScript first count a c ca cc_ ha hc (early r)
script_done first now part a b c ca cb cc_ ha hb hc count most r t none bound same cause s = record {
  script = t.bytes;
  told = λ tells. sym (t.moved tells ∙ ap (λ x. t.bytes ++ x) (none (subst IsTrue (sym t.tells) tells)) ∙ append-nil t.bytes);
  enough = omega (arith, t.counted);
  all_taken = λ q. t.counted;
  serves = λ w stands.
      let x = whole.served w stands in
      record {
        clock = x.clock;
        told = x.told;
        runs = x.runs;
        failed = x.failed;
        part = λ tells output settled. part_end a.log.gate.limit r hb hc count (run_of_taken count t.bytes x.clock w) w.commits output bound (subst (λ n. IfErr r (IsCausedBy n hb hc)) same cause);
      };
  later = whole.later;
}
  where
    whole : Serves a c ca cc_ ha hc (early r) (statements_of t.bytes)
    whole = subst (λ (ss : List (Result Statement ℕ)). Serves a c ca cc_ ha hc (early r) ss) (sym (script_is t.bytes))
        (served_on a b c ca cb cc_ ha hb hc (early r) (statements_in [] t.bytes) (map read_part (rest_of (left_by [] t.bytes))) t.serves (s (left_by [] t.bytes) t.holds))

-- ---- a source that gave nothing, and the bytes that were taken

pub taken_same : (first mid now : SourceState) (part : Part) (a b : Server) (ca cb : ClockState) (ha hb : State) (count : ℕ) → Taken first mid part a b ca cb ha hb count → now.tells ≡ mid.tells → (IsTrue mid.tells → now.left ≡ mid.left)
    → Taken first now part a b ca cb ha hb count
taken_same first mid now part a b ca cb ha hb count t same left = record {
  bytes = t.bytes;
  counted = t.counted;
  moved = λ tells. t.moved tells ∙ ap (λ x. t.bytes ++ x) (sym (left (subst IsTrue (sym t.tells) tells)));
  tells = same ∙ t.tells;
  holds = t.holds;
  serves = t.serves;
}

pub is_taken : (first now : SourceState) (part : Part) (a b : Server) (ca cb : ClockState) (ha hb : State) (count : ℕ) → Taken first now part a b ca cb ha hb count → IsTaken first now count
is_taken first now part a b ca cb ha hb count t = record { tells = t.tells; bytes = t.bytes; count = t.counted; moved = t.moved }

-- and the piece that was being served
pub is_taken_more : (first mid now : SourceState) (part : Part) (chunk : List ℕ) (a b : Server) (ca cb : ClockState) (ha hb : State) (count count_new : ℕ) → Taken first mid part a b ca cb ha hb count → now.tells ≡ mid.tells → (IsTrue mid.tells → mid.left ≡ chunk ++ now.left) → count_new ≡ count + length chunk
    → IsTaken first now count_new
is_taken_more first mid now part chunk a b ca cb ha hb count count_new t same moved grown = record {
  tells = same ∙ t.tells;
  bytes = t.bytes ++ chunk;
  count = let e : count_new ≡ length (t.bytes ++ chunk) = omega (arith, grown, t.counted, length-append t.bytes chunk) in e;
  moved = λ tells. t.moved tells ∙ ap (λ x. t.bytes ++ x) (moved (subst IsTrue (sym t.tells) tells)) ∙ sym (append_assoc t.bytes chunk now.left);
}

-- a take of no bytes leaves what was left
pub nothing_taken : (old new out : List ℕ) (n : ℕ) → n ≡ 0 → old ≡ take n out ++ new → new ≡ old
nothing_taken old new out n none moved = sym (moved ∙ ap (λ k. take k out ++ new) none)

-- ---- causes

pub script_cause : (most : ℕ) (source_old source_new : SourceState) (a b c : State) (taken : ℕ) (ending : Ending) → GoesOn a b → IsCausedBy most b c ending → IsScriptCause most source_old source_new a c taken ending
script_cause most source_old source_new a b c taken (Stopped stop) goes cause = cause_later most a b c (Stopped stop) goes cause
script_cause most source_old source_new a b c taken EmitFault goes cause = cause_later most a b c EmitFault goes cause
script_cause most source_old source_new a b c taken SourceFault goes cause = absurd cause
script_cause most source_old source_new a b c taken TooLong goes cause = absurd cause

pub script_causes : {T : Type 0} (r : Result T Ending) (most : ℕ) (source_old source_new : SourceState) (a b c : State) (taken : ℕ) → GoesOn a b → IfErr r (IsCausedBy most b c) → IfErr r (IsScriptCause most source_old source_new a c taken)
script_causes (Ok x) most source_old source_new a b c taken goes cause = tt
script_causes (Err e) most source_old source_new a b c taken goes cause = script_cause most source_old source_new a b c taken e goes cause
