-- Laws of a place among versions in memory.
use Rattle.std.specs.Prelude.{◌≡◌, ℕ, ◌+◌, ◌-◌, ◌<◌, ◌≤◌, true, List, [], ◌∷◌, length, drop, refl, is_some, Option}
use Rattle.std.proofs.Common.{sym, ◌∙◌, ap, subst, arith, suc, zero, add-one}
use Rattle.mr_base.specs.declared.stop.Direction.{Direction}
use Rattle.mr_iter.specs.Versions.{Version, version_cmp, IsInOrder, first}
use Rattle.mr_iter.specs.Cursors.{with_current, SaysSame, IsInPlace, IsWithinBound, GrowsToEnd}
use Rattle.mr_base.specs.Disk.{Image}
use Rattle.mr_memtable.specs.Tables.{standing_at}

pub left_list : (vs : List Version) (n : ℕ) → with_current (first (drop n vs)) (drop (n + 1) vs) ≡ drop n vs
left_list vs n = ap (λ (m : ℕ). with_current (first (drop n vs)) (drop m vs)) (add-one n) ∙ go vs n
  where
    go : (vs : List Version) (n : ℕ) → with_current (first (drop n vs)) (drop (suc n) vs) ≡ drop n vs
    go [] zero = refl
    go [] (suc n) = refl
    go (v ∷ vs) zero = refl
    go (v ∷ vs) (suc n) = go vs n

in_order-drop : (d : Direction) (vs : List Version) (n : ℕ) → IsInOrder (version_cmp d) vs → IsInOrder (version_cmp d) (drop n vs)
in_order-drop d vs zero all = all
in_order-drop d [] (suc n) all = tt
in_order-drop d (v ∷ vs) (suc n) all = in_order-drop d vs n all.1

pub standing_in_order : (d : Direction) (vs : List Version) (n : ℕ) → IsInOrder (version_cmp d) vs → IsInOrder (version_cmp d) (with_current (first (drop n vs)) (drop (n + 1) vs)) × IsInOrder (version_cmp d) vs
standing_in_order d vs n all = (subst (IsInOrder (version_cmp d)) (sym (left_list vs n)) (in_order-drop d vs n all), all)

pub some_below : (vs : List Version) (n : ℕ) → is_some (first (drop n vs)) ≡ true → n < length vs
some_below [] zero is = cc
some_below [] (suc n) is = cc
some_below (v ∷ vs) zero is = omega arith
some_below (v ∷ vs) (suc n) is = omega (arith, some_below vs n is)

pub standing_going : (vs : List Version) (n : ℕ) → is_some (first (drop n vs)) ≡ true → 0 < length vs - n
standing_going vs n is = omega (arith, some_below vs n is)

-- no more steps are left than there are versions
pub standing_bounded : (vs : List Version) (n : ℕ) → length vs - n ≤ length vs
standing_bounded vs n = omega arith

-- no file is read
pub standing_says : (d : Direction) (vs : List Version) (n : ℕ) (i j : Image) → SaysSame (standing_at d vs n) i j
standing_says d vs n i j = record { versions = refl; rest = refl; distinct = refl; reads_to = λ key place. refl; asked_to = λ key place. refl }

pub standing_in_place : (d : Direction) (vs : List Version) (n : ℕ) (image : Image) → IsInPlace (standing_at d vs n) image
standing_in_place d vs n image = record { passed = n; rest = left_list vs n }

-- nothing is read
pub standing_costs : (d : Direction) (vs : List Version) (n : ℕ) (image : Image) (k : List ℕ) → IsWithinBound (standing_at d vs n) image k
standing_costs d vs n image k = record { reads = omega arith; asked = omega arith }

pub standing_to_end : (d : Direction) (vs : List Version) (n : ℕ) (image : Image) (k : List ℕ) (place : Option Version) → GrowsToEnd (standing_at d vs n) image k place
standing_to_end d vs n image k place = record { reads = omega arith; asked = omega arith }
