-- Runs and batches one after another.
use Rattle.std.proofs.Common.{◌≡◌, ◌==◌, ◌+◌, ◌<◌, ℕ, zero, suc, arith, length, get_or, take, Bool, IsTrue, Result, Ok, Err, IfErr, IsErrAnd, List, [], ◌∷◌, ◌++◌, refl, sym, ◌∙◌, ap, subst, inl, inr}
use Rattle.std.proofs.lemmas.Bool.{cases_Bool}
use Rattle.std.proofs.lemmas.Grind.{common_steps}
use Rattle.mr_base.specs.Disk.{State, Moment, Image, Tells, seen}
use Rattle.mr_base.specs.Calls.{Same, Rises}
use Rattle.mr_base.specs.declared.stop.Stop.{Stop}
use Rattle.mr_base.specs.declared.stop.Stop.TheVariants.{Memory, Disk, Full, Damaged}
use Rattle.mr_base.proofs.Moments.{same_present}
use Rattle.mr_base.proofs.Counting.{risen_within}
use Rattle.mr_iter.specs.Children.{AnyOf}
use Rattle.mr_run_file.specs.Reading.{recorded_in}
use Rattle.mr_base.specs.declared.stop.Direction.{Direction}
use Rattle.mr_levels.specs.Levels.{LevelsState, with_run}
use Rattle.mr_run_open.specs.Runs.{opened}
use Rattle.mr_manifest.specs.declared.live.LiveRun.{LiveRun}
use Rattle.mr_engine_log.specs.declared.batched.Batched.{Batched}
use Rattle.mr_family.specs.Family.{direction}
use Rattle.mr_families.specs.declared.numbered.Numbered.{Numbered}
use Rattle.mr_families.specs.Known.{family_at}
use Rattle.mr_stored.specs.Lists.{runs_of, with_runs, with_batches, info_of, index_in}
use Rattle.mr_stored.proofs.Batching.{with_batches-append}
use Rattle.mr_store_filling.specs.Filled.{HaveOpened, OpeningStops, HaveAdded}

runs_of-append : (f : ℕ) (rs ts : List LiveRun) → runs_of f (rs ++ ts) ≡ runs_of f rs ++ runs_of f ts
runs_of-append f [] ts = refl
runs_of-append f (r ∷ rs) ts = elim (cases_Bool (r.family == f)) [
  | inl own ↦ rw own (ap (λ (xs : List LiveRun). r ∷ xs) (runs_of-append f rs ts))
  | inr other ↦ rw other (runs_of-append f rs ts)
]

with_runs-append : (d : Direction) (image : Image) (rs ts : List LiveRun) (s : LevelsState) → with_runs d image (rs ++ ts) s ≡ with_runs d image ts (with_runs d image rs s)
with_runs-append d image [] ts s = refl
with_runs-append d image (r ∷ rs) ts s = with_runs-append d image rs ts (with_run r.level (opened (info_of r) d (index_in image r)) s)

-- a level more keeps the direction
pub direction_of_runs : (d : Direction) (image : Image) (rs : List LiveRun) (s : LevelsState) → (with_runs d image rs s).direction ≡ s.direction
direction_of_runs d image [] s = refl
direction_of_runs d image (r ∷ rs) s = direction_of_runs d image rs (with_run r.level (opened (info_of r) d (index_in image r)) s) ∙ one r.level
  where
    one : (level : ℕ) → (with_run level (opened (info_of r) d (index_in image r)) s).direction ≡ s.direction
    one zero = refl
    one (suc n) = refl

pub opened_then : (image : Image) (rs ts : List LiveRun) (a b c : List Numbered) → HaveOpened image rs a b → HaveOpened image ts b c → HaveOpened image (rs ++ ts) a c
opened_then image rs ts a b c first later f = record {
  levels = (later f).levels
      ∙ ap (λ (d : Direction). with_runs d image (runs_of f ts) (family_at b f).levels) same
      ∙ ap (with_runs (direction (family_at a f)) image (runs_of f ts)) (first f).levels
      ∙ sym (with_runs-append (direction (family_at a f)) image (runs_of f rs) (runs_of f ts) (family_at a f).levels)
      ∙ ap (λ (xs : List LiveRun). with_runs (direction (family_at a f)) image xs (family_at a f).levels) (sym (runs_of-append f rs ts));
  memtable = (later f).memtable ∙ (first f).memtable;
  cached = (later f).cached ∙ (first f).cached;
}
  where
    same : direction (family_at b f) ≡ direction (family_at a f)
    same = ap (λ (s : LevelsState). s.direction) (first f).levels ∙ direction_of_runs (direction (family_at a f)) image (runs_of f rs) (family_at a f).levels

pub added_then : (bs cs : List Batched) (a b c : List Numbered) → HaveAdded bs a b → HaveAdded cs b c → HaveAdded (bs ++ cs) a c
added_then bs cs a b c first later f = record {
  versions = (later f).versions
      ∙ ap (λ (s : LevelsState). with_batches s.direction f cs (family_at b f).memtable.versions) (first f).levels
      ∙ ap (with_batches (direction (family_at a f)) f cs) (first f).versions
      ∙ sym (with_batches-append (direction (family_at a f)) f bs cs (family_at a f).memtable.versions);
  levels = (later f).levels ∙ (first f).levels;
  cached = (later f).cached ∙ (first f).cached;
}

pub opened_none : (image : Image) (a : List Numbered) → HaveOpened image [] a a
opened_none image a f = record { levels = refl; memtable = refl; cached = refl }

pub added_none : (a : List Numbered) → HaveAdded [] a a
added_none a f = record { versions = refl; levels = refl; cached = refl }

-- ---- front by front

pub front_more : {X : Type 0} (xs : List X) (i : ℕ) (x : X) → i < length xs → x ≡ get_or xs i x → take (i + 1) xs ≡ take i xs ++ (x ∷ [])
front_more xs i x lt is = grind (arith, common_steps)

pub opened_more : (image : Image) (rs : List LiveRun) (i : ℕ) (r : LiveRun) (a b c : List Numbered) → i < length rs → r ≡ get_or rs i r → HaveOpened image (take i rs) a b → HaveOpened image (r ∷ []) b c → HaveOpened image (take (i + 1) rs) a c
opened_more image rs i r a b c lt is first next = subst (λ (xs : List LiveRun). HaveOpened image xs a c) (sym (front_more rs i r lt is)) (opened_then image (take i rs) (r ∷ []) a b c first next)

pub added_more : (bs : List Batched) (i : ℕ) (x : Batched) (a b c : List Numbered) → i < length bs → x ≡ get_or bs i x → HaveAdded (take i bs) a b → HaveAdded (x ∷ []) b c → HaveAdded (take (i + 1) bs) a c
added_more bs i x a b c lt is first next = subst (λ (xs : List Batched). HaveAdded xs a c) (sym (front_more bs i x lt is)) (added_then (take i bs) (x ∷ []) a b c first next)

-- ---- the disk between

pub seen_same : (s t : State) → Same s t → seen s ≡ seen t
seen_same s t same =
    let bytes_of_each : Moment → Image = λ m file. (m.files file).bytes in
    ap bytes_of_each (sym (same_present s t same))

pub opened_behind : (s m : State) (rs : List LiveRun) (i : ℕ) (r : LiveRun) (a b c : List Numbered) → Same s m → i < length rs → r ≡ get_or rs i r → HaveOpened (seen s) (take i rs) a b → HaveOpened (seen m) (r ∷ []) b c → HaveOpened (seen s) (take (i + 1) rs) a c
opened_behind s m rs i r a b c same lt is first next = opened_more (seen s) rs i r a b c lt is first (subst (λ (image : Image). HaveOpened image (r ∷ []) b c) (sym (seen_same s m same)) next)

any_at : (P : LiveRun → Type 0) (rs : List LiveRun) (i : ℕ) (r : LiveRun) → i < length rs → r ≡ get_or rs i r → P r → AnyOf P rs
any_at P [] i r lt is holds = absurd (none lt)
  where
    none : i < 0 → ⊥
    none lt = omega (arith, lt)
any_at P (x ∷ rs) zero r lt is holds = inl (subst P is holds)
any_at P (x ∷ rs) (suc i) r lt is holds = inr (any_at P rs i r (omega (arith, lt)) is holds)

one_of : (P : LiveRun → Type 0) (r : LiveRun) → AnyOf P (r ∷ []) → P r
one_of P r (inl holds) = holds
one_of P r (inr none) = absurd none

-- a stop behind a front of them
pub stops_behind : (s m t : State) (rs : List LiveRun) (i : ℕ) (r : LiveRun) (stop : Stop) → Rises 0 s m → (Tells s → Same s m) → i < length rs → r ≡ get_or rs i r → OpeningStops (r ∷ []) m t stop → OpeningStops rs s t stop
stops_behind s m t rs i r Memory rises same lt is stops = tt
stops_behind s m t rs i r Disk rises same lt is stops = risen_within s.faults m.faults t.faults t.faults rises.faults (omega arith) stops
stops_behind s m t rs i r (Full what at limit) rises same lt is stops = stops
stops_behind s m t rs i r (Damaged file at) rises same lt is stops = λ told.
    let offence = one_of (λ (run : LiveRun). (file ≡ run.file) × (recorded_in run.length run.entries (seen m run.file) ≡ Err at)) r (stops (subst (λ (b : Bool). IsTrue b) (sym rises.tells) told)) in
    any_at (λ (run : LiveRun). (file ≡ run.file) × (recorded_in run.length run.entries (seen s run.file) ≡ Err at)) rs i r lt is
    (offence.0, subst (λ (image : Image). recorded_in r.length r.entries (image r.file) ≡ Err at) (sym (seen_same s m (same told))) offence.1)

-- an item is that at its place, whatever stands for one that isn't there
pub item_is : {X : Type 0} (xs : List X) (i : ℕ) (x : X) → i < length xs → get_or xs i x ≡ get_or xs i (get_or xs i x)
item_is [] i x lt = absurd (none lt)
  where
    none : i < 0 → ⊥
    none lt = omega (arith, lt)
item_is (y ∷ ys) zero x lt = refl
item_is (y ∷ ys) (suc i) x lt = item_is ys i x (omega (arith, lt))

pub still_told : (s m : State) → Rises 0 s m → Tells s → Tells m
still_told s m rises told = subst (λ (b : Bool). IsTrue b) (sym rises.tells) told

-- an error that is passed on
pub err_is : {X E : Type 0} (r : Result X E) (e : E) (P : E → Type 0) → IsErrAnd r (λ x. x ≡ e) → P e → IfErr r P
err_is (Ok x) e P is holds = tt
err_is (Err x) e P is holds = subst P (sym is) holds
