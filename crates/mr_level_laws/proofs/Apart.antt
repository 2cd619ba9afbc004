-- A run that overlaps none of its level has its place there.
use Rattle.std.proofs.Common.{◌≡◌, ℕ, Bool, true, false, List, [], ◌∷◌, get_or, zero, suc, refl, sym, subst, inl, inr}
use Rattle.std.specs.List.{AllByRecursion}
use Rattle.std.specs.declared.cmp.Ordering.{Ordering}
use Rattle.std.specs.declared.cmp.Ordering.TheVariants.{Less, Equal, Greater}
use Rattle.std.specs.Ordering.{is_lt, is_gt}
use Rattle.std.proofs.lemmas.Bool.{cases_Bool}
use Rattle.std.proofs.lemmas.Cmp.{upto, tied_itself}
use Rattle.mr_base.specs.Disk.{Image}
use Rattle.mr_base.specs.declared.stop.Direction.{Direction}
use Rattle.mr_iter.specs.Versions.{Version, key_cmp, version_cmp, place_in, joined, IsInOrder}
use Rattle.mr_iter.specs.Order.{key_total, not_before}
use Rattle.mr_iter.specs.MergeFiles.{each_split}
use Rattle.mr_run_file.specs.Format.{first_key, last_key}
use Rattle.mr_run_open.specs.Runs.{RunState, first_of}
use Rattle.mr_run_cursor.specs.Pinned.{run_list}
use Rattle.mr_levels.specs.Levels.{LevelsState, by_last_key, changed_at, with_run, AreOfDirection, AreKept, EndsBefore, AreApart, LieApart, IsLive, AreLive}
use Rattle.mr_levels.proofs.Skipping.{lt_gt, not_lt_upto, ends_of, upto_last}
use Rattle.mr_level_laws.specs.Beside.{AreBeside, StandsBeside}
use Rattle.mr_level_laws.proofs.Adding.{each_placed}

clash : {b : Bool} → b ≡ false → b ≡ true → ⊥
clash low high = cc

not_both : (o : Ordering) → is_lt o ≡ true → is_gt o ≡ true → ⊥
not_both Less low high = cc
not_both Equal low high = cc
not_both Greater low high = cc

-- its first key isn't behind its last
abbrev pub IsUpright : Direction → RunState → Type 0
IsUpright d r = is_gt (key_cmp d (first_of r.index) r.index.last) ≡ false

first_upto_last : (d : Direction) (vs : List Version) → IsInOrder (version_cmp d) vs → is_gt (key_cmp d (first_key vs) (last_key vs)) ≡ false
first_upto_last d [] order = rw (tied_itself (key_total d) []) refl
first_upto_last d (v ∷ vs) order = (upto_last d (v ∷ vs) order).0

upright : (d : Direction) (image : Image) (r : RunState) → r.direction ≡ d → IsLive image r → IsUpright d r
upright d image r same live =
    let ends = ends_of r image live in
    let order : IsInOrder (version_cmp d) (run_list r image) = subst (λ (e : Direction). IsInOrder (version_cmp e) (run_list r image)) same live.run.1 in
    subst (λ (k : List ℕ). is_gt (key_cmp d k r.index.last) ≡ false) (sym ends.first) (subst (λ (k : List ℕ). is_gt (key_cmp d (first_key (run_list r image)) k) ≡ false) (sym ends.last) (first_upto_last d (run_list r image) order))

all_upright : (d : Direction) (image : Image) (rs : List RunState) → AreOfDirection d rs → AreLive image rs → AllByRecursion (IsUpright d) rs
all_upright d image [] same live = tt
all_upright d image (r ∷ rs) same live = (upright d image r same.0 live.0, all_upright d image rs same.1 live.1)

module _ (d : Direction) where
  upto_then : (a b c : List ℕ) → is_gt (key_cmp d a b) ≡ false → is_lt (key_cmp d b c) ≡ true → is_lt (key_cmp d a c) ≡ true
  upto_then a b c le lt = elim (cases_Bool (is_lt (key_cmp d a c))) [
    | inl less ↦ less
    | inr other ↦ absurd (clash (not_before (key_cmp d) (key_total d) a b c le other) lt)
  ]

  then_upto : (a b c : List ℕ) → is_lt (key_cmp d a b) ≡ true → is_gt (key_cmp d b c) ≡ false → is_lt (key_cmp d a c) ≡ true
  then_upto a b c lt le = elim (cases_Bool (is_lt (key_cmp d a c))) [
    | inl less ↦ less
    | inr other ↦ absurd (clash (upto (key_total d) b c a le (not_lt_upto d c a other)) (lt_gt d a b lt))
  ]

  passed : (r y : RunState) → IsUpright d y → is_gt (by_last_key d r y) ≡ true → AreBeside d r y → EndsBefore d y r
  passed r y up more (inl before) = absurd (not_both (key_cmp d r.index.last y.index.last) (then_upto r.index.last (first_of y.index) y.index.last before up) more)
  passed r y up more (inr behind) = behind

  reached : (r y : RunState) → IsUpright d r → is_gt (by_last_key d r y) ≡ false → AreBeside d r y → EndsBefore d r y
  reached r y up other (inl before) = before
  reached r y up other (inr behind) = absurd (clash other (lt_gt d y.index.last r.index.last (then_upto y.index.last (first_of r.index) r.index.last behind up)))

  further : (r y : RunState) (zs : List RunState) → is_gt (by_last_key d r y) ≡ false → AllByRecursion (EndsBefore d y) zs → AllByRecursion (EndsBefore d r) zs
  further r y [] other all = tt
  further r y (z ∷ zs) other all = (upto_then r.index.last y.index.last (first_of z.index) other all.0, further r y zs other all.1)

  placed_apart : (r : RunState) (rs : List RunState) → IsUpright d r → AllByRecursion (IsUpright d) rs → AreApart d rs → AllByRecursion (AreBeside d r) rs → AreApart d (place_in (by_last_key d) r rs)
  placed_apart r [] up ups apart beside = (tt, tt)
  placed_apart r (y ∷ ys) up ups apart beside = elim (cases_Bool (is_gt (by_last_key d r y))) [
    | inl more ↦ rw more (each_placed (EndsBefore d y) (by_last_key d) r ys (passed r y ups.0 more beside.0) apart.0, placed_apart r ys up ups.1 apart.1 beside.1)
    | inr other ↦ rw other ((reached r y up other beside.0, further r y ys other apart.0), apart)
  ]

  changed_apart : (i : ℕ) (r : RunState) (rss : List (List RunState)) → IsUpright d r → AllByRecursion (AllByRecursion (IsUpright d)) rss → AllByRecursion (AreApart d) rss → AllByRecursion (AreBeside d r) (get_or rss i []) → AllByRecursion (AreApart d) (changed_at i (place_in (by_last_key d) r) rss)
  changed_apart i r [] up ups apart beside = tt
  changed_apart zero r (rs ∷ rss) up ups apart beside = (placed_apart r rs up ups.0 apart.0 beside, apart.1)
  changed_apart (suc i) r (rs ∷ rss) up ups apart beside = (apart.0, changed_apart i r rss up ups.1 apart.1 beside)

  uprights : (image : Image) (rss : List (List RunState)) → AllByRecursion (AreOfDirection d) rss → AreLive image (joined rss) → AllByRecursion (AllByRecursion (IsUpright d)) rss
  uprights image [] same live = tt
  uprights image (rs ∷ rss) same live = let parts = each_split (IsLive image) rs (joined rss) live in (all_upright d image rs same.0 parts.0, uprights image rss same.1 parts.1)

pub stays_apart : (level : ℕ) (r : RunState) (s : LevelsState) (image : Image) → AreKept s.direction s.newest s.deeper → AreLive image (joined s.deeper) → LieApart s → r.direction ≡ s.direction → IsLive image r → StandsBeside level r s → LieApart (with_run level r s)
stays_apart zero r s image kept live apart same here beside = apart
stays_apart (suc level) r s image kept live apart same here beside = changed_apart s.direction level r s.deeper (upright s.direction image r same here) (uprights s.direction image s.deeper kept.one_deeper live) apart beside
