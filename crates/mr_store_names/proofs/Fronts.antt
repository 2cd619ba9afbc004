-- A list from its first key on, and stops behind a call that changed nothing.
use Rattle.std.proofs.Common.{◌≡◌, ℕ, false, List, [], ◌∷◌, Result, Ok, Err, IfErr, IfOk, refl, ◌∙◌, ap, arith}
use Rattle.std.specs.Cmp.Lexicographic.{slice_cmp}
use Rattle.std.specs.Ordering.{nat_cmp, is_lt}
use Rattle.mr_base.specs.Disk.{State, Tells, Image}
use Rattle.mr_base.specs.Calls.{Rises, Same}
use Rattle.mr_base.specs.declared.stop.Stop.{Stop}
use Rattle.mr_base.specs.declared.stop.Stop.TheVariants.{Memory, Disk, Full, Damaged}
use Rattle.mr_base.specs.declared.stop.Direction.TheVariants.{Forward}
use Rattle.mr_base.proofs.Counting.{rises_tells}
use Rattle.mr_iter.specs.Versions.{Version, from_key, version_cmp, IsInOrder, joined}
use Rattle.mr_iter.specs.Order.{IsInOrder-in_order, version_total}
use Rattle.mr_iter.specs.Cursors.{MayStop}
use Rattle.mr_iter.specs.Walks.{image_same}
use Rattle.mr_levels.specs.Levels.{runs, run_lists}
use Rattle.mr_family.specs.Family.{FamilyState, versions, direction}

not_below : (key : List ℕ) → is_lt (slice_cmp nat_cmp key []) ≡ false
not_below [] = refl
not_below (x ∷ xs) = refl

pub from_front : (vs : List Version) → from_key Forward [] vs ≡ vs
from_front [] = refl
from_front (v ∷ vs) = rw (not_below v.key) (ap (λ (ws : List Version). v ∷ ws) (from_front vs))

pub err_map : {A E : Type 0} (r : Result A E) (P Q : E → Type 0) → ((e : E) → P e → Q e) → IfErr r P → IfErr r Q
err_map (Ok x) P Q f is = tt
err_map (Err e) P Q f is = f e is

pub ok_map : {A E : Type 0} (r : Result A E) (P Q : A → Type 0) → ((x : A) → P x → Q x) → IfOk r P → IfOk r Q
ok_map (Ok x) P Q f is = f x is
ok_map (Err e) P Q f is = tt

module _ (o o' : Image → ℕ → ℕ → Type 0) (less : (image : Image) (file at : ℕ) → o' image file at → o image file at) where
  pub stop_behind : (s t u : State) → Rises 0 s t → (Tells s → Same s t) → (stop : Stop) → MayStop o' t u stop → MayStop o s u stop
  stop_behind s t u rises same Memory may = tt
  stop_behind s t u rises same Disk may = omega (arith, rises.faults, may)
  stop_behind s t u rises same (Full what at limit) may = may
  stop_behind s t u rises same (Damaged file at) may = record {
    image = may.image;
    told = λ tells. may.told (rises_tells 0 s t rises tells) ∙ image_same s t (same tells);
    offence = less may.image file at may.offence;
  }

  pub stop_of_less : (s u : State) (stop : Stop) → MayStop o' s u stop → MayStop o s u stop
  stop_of_less s u Memory may = tt
  stop_of_less s u Disk may = may
  stop_of_less s u (Full what at limit) may = may
  stop_of_less s u (Damaged file at) may = record { image = may.image; told = may.told; offence = less may.image file at may.offence }

pub family_in_order : (f : FamilyState) (image : Image) → IsInOrder (version_cmp (direction f)) (versions f image)
family_in_order f image = IsInOrder-in_order (version_cmp (direction f)) (version_total (direction f)) (joined (f.memtable.versions ∷ run_lists (runs f.levels) image))
