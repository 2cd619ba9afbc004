-- Statements served one after the other.
use Rattle.std.proofs.Common.{◌≡◌, ℕ, ◌+◌, ◌-◌, List, [], ◌++◌, Some, None, Option, refl, ap, sym, ◌∙◌, subst, Bool, true, false, IsTrue, ◌||◌, Result, IsErrAnd, length, arith, inl, inr, length-append}
use Rattle.std.proofs.lemmas.Bool.{cases_lt}
use Rattle.mr_base.specs.Disk.{State}
use Rattle.mr_base.specs.declared.stop.Stop.TheVariants.{Memory}
use Rattle.mr_base.specs.Source.{ClockState}
use Rattle.mr_spec.specs.ScriptRun.{trace, world_behind, has_error, added_by}
use Rattle.mr_spec.proofs.Runs.{commits-behind}
use Rattle.mr_spec.proofs.Traces.{later}
use Rattle.mr_types.specs.declared.row.Commit.{Commit}
use Rattle.mr_types.specs.declared.statement.Statement.{Statement}
use Rattle.mr_commit_log.specs.Appending.{early}
use Rattle.mr_commit_log.specs.declared.ending.Ending.{Ending}
use Rattle.mr_commit_log.specs.declared.ending.Ending.TheVariants.{Stopped}
use Rattle.mr_commit_log.proofs.Early.{early_is, not_none}
use Rattle.mr_serve.specs.Serving.{Stands}
use Rattle.mr_serve.specs.Settled.{Runs}
use Rattle.mr_serve.specs.declared.server.Server.{Server}
use Rattle.mr_serve.proofs.Early.{Cuts}
use Rattle.mr_serve.proofs.Events.{trace_on}
use Rattle.mr_serve.proofs.Running.{runs_nothing, runs_on, runs_cut}
use Rattle.mr_run.specs.Clocks.{joined}
use Rattle.mr_run.specs.Cutting.{left_by, statements_in}
use Rattle.mr_run.specs.Serving.{Serves}
use Rattle.mr_run.proofs.Cut.{error_on, statements_on}
use Rattle.mr_run.proofs.Traces.{joined_first, joined_then, trace_joined, world_joined}

or_false : (a : Bool) → a ≡ (a || false)
or_false true = refl
or_false false = refl

or_assoc : (a b c : Bool) → ((a || b) || c) ≡ (a || (b || c))
or_assoc true b c = refl
or_assoc false b c = refl

pub served_nothing : (s : Server) (c : ClockState) (h : State) → Serves s s c c h h None []
served_nothing s c h = record {
  served = λ w stands. record {
    clock = c.values;
    told = λ tells k. refl;
    runs = runs_nothing s.log.gate.limit h s.replies w.commits;
    stands = λ d. stands;
    failed = λ d. or_false s.failed;
  };
  limit = refl;
  tells = refl;
  later = λ d tells k. ap c.values (let e : k ≡ 0 + k = omega arith in e);
}

-- the values of two clocks that are joined are told by the first
joined_told : (n : ℕ) (f g : ℕ → ℕ) (ca cb : ClockState) → IsTrue ca.tells → cb.tells ≡ ca.tells → (IsTrue ca.tells → (k : ℕ) → f k ≡ ca.values k) → (IsTrue cb.tells → (k : ℕ) → g k ≡ cb.values k)
    → (IsTrue ca.tells → (k : ℕ) → cb.values k ≡ ca.values (n + k)) → (k : ℕ) → joined n f g k ≡ ca.values k
joined_told n f g ca cb tells same first second behind k = elim (cases_lt k n) [
  | inl inside ↦ joined_first n f g k inside ∙ first tells k
  | inr past ↦
      let e : k ≡ n + (k - n) = omega (arith, past) in
      ap (joined n f g) e ∙ joined_then n f g (k - n) ∙ second (subst IsTrue (sym same) tells) (k - n) ∙ behind tells (k - n) ∙ ap ca.values (sym e)
]

pub served_on : (a b c : Server) (ca cb cc_ : ClockState) (ha hb hc : State) (ending : Option Ending) (ss more : List (Result Statement ℕ))
    → Serves a b ca cb ha hb None ss → Serves b c cb cc_ hb hc ending more → Serves a c ca cc_ ha hc ending (ss ++ more)
served_on a b c ca cb cc_ ha hb hc ending ss more first second = record {
  served = λ w stands.
      let x = first.served w stands in
      let y = second.served (world_behind w ss x.clock) (x.stands refl) in
      let whole = trace_joined w ss more x.clock y.clock in
      let commits : (world_behind w ss x.clock).commits ≡ w.commits ++ added_by (trace w ss x.clock) = commits-behind w ss x.clock in
      let runs : Runs a.log.gate.limit hb hc b.replies c.replies (trace (world_behind w ss x.clock) more y.clock) ending (w.commits ++ added_by (trace w ss x.clock)) =
      subst (λ (n : ℕ). Runs n hb hc b.replies c.replies (trace (world_behind w ss x.clock) more y.clock) ending (w.commits ++ added_by (trace w ss x.clock))) first.limit
      (subst (λ (cs : List Commit). Runs b.log.gate.limit hb hc b.replies c.replies (trace (world_behind w ss x.clock) more y.clock) ending cs) commits y.runs) in
      record {
        clock = joined (length ss) x.clock y.clock;
        told = λ tells k. joined_told (length ss) x.clock y.clock ca cb tells first.tells x.told y.told (λ t j. first.later refl t j) k;
        runs = subst (λ es. Runs a.log.gate.limit ha hc a.replies c.replies es ending w.commits) (sym whole)
            (runs_on a.log.gate.limit ha hb hc a.replies b.replies c.replies (trace w ss x.clock) (trace (world_behind w ss x.clock) more y.clock) ending w.commits x.runs runs);
        stands = λ d. subst (λ v. Stands c v) (sym (world_joined w ss more x.clock y.clock)) (y.stands d);
        failed = λ d. y.failed d ∙ ap (λ t. t || has_error (trace (world_behind w ss x.clock) more y.clock)) (x.failed refl)
            ∙ or_assoc a.failed (has_error (trace w ss x.clock)) (has_error (trace (world_behind w ss x.clock) more y.clock))
            ∙ ap (λ t. a.failed || t) (sym (error_on (trace w ss x.clock) (trace (world_behind w ss x.clock) more y.clock)) ∙ ap has_error (sym whole));
      };
  limit = second.limit ∙ first.limit;
  tells = second.tells ∙ first.tells;
  later = λ d tells k.
      let e : length ss + (length more + k) ≡ length (ss ++ more) + k = omega (arith, length-append ss more) in
      second.later d (subst IsTrue (sym first.tells) tells) k ∙ first.later refl tells (length more + k) ∙ ap ca.values e;
}

-- an exit by an error
pub served_cut : (a b : Server) (ca cb : ClockState) (ha hb : State) (ending : Option Ending) (ss more : List (Result Statement ℕ)) (e : Ending) → Cuts ending e
    → Serves a b ca cb ha hb ending ss → Serves a b ca cb ha hb (Some e) (ss ++ more)
served_cut a b ca cb ha hb ending ss more e cuts first = record {
  served = λ w stands.
      let x = first.served w stands in
      record {
        clock = x.clock;
        told = x.told;
        runs = subst (λ es. Runs a.log.gate.limit ha hb a.replies b.replies es (Some e) w.commits) (sym (trace_on w ss more x.clock))
            (runs_cut a.log.gate.limit ha hb a.replies b.replies (trace w ss x.clock) (trace (world_behind w ss x.clock) more (later ss x.clock)) ending e w.commits cuts x.runs);
        stands = λ d. absurd (not_none e d);
        failed = λ d. absurd (not_none e d);
      };
  limit = first.limit;
  tells = first.tells;
  later = λ d. absurd (not_none e d);
}

-- of an answer that carries the error
pub served_early : {T : Type 0} (a b : Server) (ca cb : ClockState) (ha hb : State) (ss : List (Result Statement ℕ)) (r : Result T Ending) (e : Ending) → IsErrAnd r (λ x. x ≡ e)
    → Serves a b ca cb ha hb (Some e) ss → Serves a b ca cb ha hb (early r) ss
served_early a b ca cb ha hb ss r e h serves = subst (λ o. Serves a b ca cb ha hb o ss) (early_is r e h) serves

-- nothing was done for want of memory
pub served_none : {T : Type 0} (s : Server) (c : ClockState) (h : State) (ss : List (Result Statement ℕ)) (r : Result T Ending) → IsErrAnd r (λ x. x ≡ Stopped Memory) → Serves s s c c h h (early r) ss
served_none s c h ss r is = served_early s s c c h h ss r (Stopped Memory) is (served_cut s s c c h h None [] ss (Stopped Memory) tt (served_nothing s c h))

-- one piece of a script behind another
pub served_bytes : (a b c : Server) (ca cb cc_ : ClockState) (ha hb hc : State) (ending : Option Ending) (since bytes more : List ℕ)
    → Serves a b ca cb ha hb None (statements_in since bytes) → Serves b c cb cc_ hb hc ending (statements_in (left_by since bytes) more) → Serves a c ca cc_ ha hc ending (statements_in since (bytes ++ more))
served_bytes a b c ca cb cc_ ha hb hc ending since bytes more first second =
    subst (λ ss. Serves a c ca cc_ ha hc ending ss) (sym (statements_on since bytes more))
    (served_on a b c ca cb cc_ ha hb hc ending (statements_in since bytes) (statements_in (left_by since bytes) more) first second)

pub served_bytes_cut : (a b : Server) (ca cb : ClockState) (ha hb : State) (ending : Option Ending) (since bytes more : List ℕ) (e : Ending) → Cuts ending e
    → Serves a b ca cb ha hb ending (statements_in since bytes) → Serves a b ca cb ha hb (Some e) (statements_in since (bytes ++ more))
served_bytes_cut a b ca cb ha hb ending since bytes more e cuts first =
    subst (λ ss. Serves a b ca cb ha hb (Some e) ss) (sym (statements_on since bytes more)) (served_cut a b ca cb ha hb ending (statements_in since bytes) (statements_in (left_by since bytes) more) e cuts first)
