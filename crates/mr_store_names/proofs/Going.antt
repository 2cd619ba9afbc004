-- A list gone through by places, and the disk beside it.
use Rattle.std.proofs.Common.{◌≡◌, ℕ, ◌+◌, ◌<◌, ◌≤◌, List, [], ◌∷◌, length, get_or, drop, IsTrue, Bool, zero, suc, refl, sym, ◌∙◌, ap, subst, inl, inr, arith}
use Rattle.std.proofs.lemmas.Grind.{common_steps}
use Rattle.mr_base.specs.Disk.{State, Tells, Image}
use Rattle.mr_base.specs.Calls.{Rises, Same}
use Rattle.mr_base.specs.declared.stop.Stop.{Stop}
use Rattle.mr_base.specs.declared.stop.Stop.TheVariants.{Memory, Disk, Full, Damaged}
use Rattle.mr_base.proofs.Counting.{rises_tells}
use Rattle.mr_iter.specs.Children.{AnyOf}
use Rattle.mr_iter.specs.Walks.{image_same}
use Rattle.mr_run_file.specs.Reading.{recorded_in}
use Rattle.mr_manifest.specs.declared.live.LiveRun.{LiveRun}
use Rattle.mr_store_names.specs.Stopping.{IsBroken, RunStops, SystemStops}

abbrev pub no_run : LiveRun
no_run = record { family = 0; level = 0; file = 0; length = 0; entries = 0 }

-- ---- lists

pub from_here : {X : Type 0} (xs : List X) (i : ℕ) (none : X) → i < length xs → drop i xs ≡ get_or xs i none ∷ drop (i + 1) xs
from_here xs i none lt = grind (arith, common_steps)

pub any_by_one : {X : Type 0} (P : X → Type 0) (xs : List X) (i : ℕ) (none : X) → i < length xs → P (get_or xs i none) → AnyOf P xs
any_by_one P [] i none lt own = absurd (omega (arith, lt))
any_by_one P (y ∷ ys) zero none lt own = inl own
any_by_one P (y ∷ ys) (suc i) none lt own = inr (any_by_one P ys i none (omega (arith, lt)) own)

-- ---- stops behind earlier calls

module _ (s t u : State) (rises : Rises 0 s t) (same : Tells s → Same s t) where
  broken_before : (file at : ℕ) (run : LiveRun) → IsBroken t file at run → IsBroken s file at run
  broken_before file at run broken = record {
    own = broken.own;
    file_is = broken.file_is;
    told = λ tells. subst (λ (image : Image). recorded_in run.length run.entries (image run.file) ≡ Rattle.std.proofs.Common.Err at) (image_same s t (same tells)) (broken.told (rises_tells 0 s t rises tells));
  }

  pub stops_before : (runs : List LiveRun) (i : ℕ) (none : LiveRun) → i < length runs → (stop : Stop) → RunStops (get_or runs i none) t u stop → SystemStops runs s u stop
  stops_before runs i none lt Memory may = tt
  stops_before runs i none lt Disk may = omega (arith, rises.faults, may)
  stops_before runs i none lt (Full what at limit) may = may
  stops_before runs i none lt (Damaged file at) may = any_by_one (IsBroken s file at) runs i none lt (broken_before file at (get_or runs i none) may)
