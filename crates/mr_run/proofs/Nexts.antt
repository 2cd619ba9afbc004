-- One statement at a clock's next value.
use Rattle.std.proofs.Common.{◌≡◌, ◌+◌, ◌∙◌, ◌||◌, Option, Some, ℕ, zero, suc, refl, ap, arith, IsTrue, [], ◌∷◌, Result, None, OnOk}
use Rattle.mr_base.specs.Disk.{State}
use Rattle.mr_base.specs.Source.{ClockState}
use Rattle.mr_spec.specs.ScriptRun.{event_at, world_after, has_error}
use Rattle.mr_spec.specs.World.{World}
use Rattle.mr_types.specs.declared.statement.Statement.{Statement}
use Rattle.mr_sound.specs.Sound.{IsSpelled}
use Rattle.mr_commit_log.specs.Appending.{early}
use Rattle.mr_commit_log.specs.declared.ending.Ending.{Ending}
use Rattle.mr_commit_log.proofs.Early.{on_none}
use Rattle.mr_serve.specs.Serving.{Stands}
use Rattle.mr_serve.specs.Settled.{Runs}
use Rattle.mr_serve.specs.declared.server.Server.{Server}
use Rattle.mr_run.specs.Clocks.{one_value, clock_of, Goes}
use Rattle.mr_run.specs.Serving.{Serves}

one_told : (value : ℕ) (values : ℕ → ℕ) → value ≡ values 0 → (k : ℕ) → one_value value values k ≡ values k
one_told value values e zero = e
one_told value values e (suc k) = refl

-- whether the values are told stays
pub goes_tells : (given : Option ℕ) (old new : ClockState) → Goes given old new → (clock_of given new).tells ≡ (clock_of given old).tells
goes_tells None old new goes = goes.tells
goes_tells (Some n) old new goes = refl

pub served_next : {T : Type 0} (a b : Server) (ca cb : ClockState) (ha hb : State) (s : Result Statement ℕ) (value : ℕ) (r : Result T Ending) → (IsTrue ca.tells → value ≡ ca.values 0) → (IsTrue ca.tells → (k : ℕ) → cb.values k ≡ ca.values (k + 1)) → cb.tells ≡ ca.tells → IsSpelled s
    → b.log.gate.limit ≡ a.log.gate.limit
    → ((w : World) → Stands a w → IsSpelled s → Runs a.log.gate.limit ha hb a.replies b.replies (event_at w s value ∷ []) (early r) w.commits)
    → OnOk r ((w : World) → Stands a w → IsSpelled s → Stands b (world_after w s value))
    → OnOk r ((w : World) → Stands a w → b.failed ≡ (a.failed || has_error (event_at w s value ∷ []))) → Serves a b ca cb ha hb (early r) (s ∷ [])
served_next a b ca cb ha hb s value r first next tells spelled limit runs stands failed = record {
  served = λ w here. record {
    clock = one_value value ca.values;
    told = λ t k. one_told value ca.values (first t) k;
    runs = runs w here spelled;
    stands = λ d. on_none _ r stands d w here spelled;
    failed = λ d. on_none _ r failed d w here;
  };
  limit = limit;
  tells = tells;
  later = λ d t k. next t k ∙ ap ca.values (let e : k + 1 ≡ 1 + k = omega arith in e);
}
