-- The newest version of a key in a block.
use Rattle.std.proofs.Common.{◌≡◌, ℕ, ◌-◌, ◌<◌, ◌≤◌, true, false, List, [], ◌∷◌, length, get_or, drop, suc, zero, Some, None, refl, sym, ◌∙◌, ap, arith}
use Rattle.std.specs.Ordering.{is_gt}
use Rattle.mr_base.specs.declared.stop.Direction.{Direction}
use Rattle.mr_iter.specs.Versions.{Version, as_version, version_cmp, IsInOrder, first}
use Rattle.mr_iter.specs.Newest.{is_of, newest, only_of, IsPlaceOf}
use Rattle.mr_iter.proofs.Bounds.{newest_at}
use Rattle.mr_block.specs.Block.{no_version}

get_any : (vs : List Version) (i : ℕ) (v : Version) → i < length vs → get_or vs i v ≡ get_or vs i no_version
get_any [] i v lt = absurd (omega arith)
get_any (w ∷ ws) zero v lt = refl
get_any (w ∷ ws) (suc i) v lt = get_any ws i v (omega arith)

pub place_by : (d : Direction) (number : ℕ) (key : List ℕ) (vs : List Version) (n : ℕ) → n ≤ length vs → (0 < n → is_gt (version_cmp d (as_version key number None) (get_or vs (n - 1) no_version)) ≡ true) → (n < length vs → is_gt (version_cmp d (as_version key number None) (get_or vs n no_version)) ≡ false) → IsPlaceOf d number key vs n
place_by d number key vs n within before behind = record {
  within = within;
  before = λ v pos. ap (λ (w : Version). is_gt (version_cmp d (as_version key number None) w)) (get_any vs (n - 1) v (omega (arith, within, pos))) ∙ before pos;
  behind = λ v lt. ap (λ (w : Version). is_gt (version_cmp d (as_version key number None) w)) (get_any vs n v lt) ∙ behind lt;
}

first_at : (vs : List Version) (n : ℕ) → n < length vs → first (drop n vs) ≡ Some (get_or vs n no_version)
first_at [] n lt = absurd (omega arith)
first_at (v ∷ vs) zero lt = refl
first_at (v ∷ vs) (suc n) lt = first_at vs n (omega arith)

first_none : (vs : List Version) (n : ℕ) → length vs ≤ n → first (drop n vs) ≡ None
first_none [] zero le = refl
first_none [] (suc n) le = refl
first_none (v ∷ vs) zero le = absurd (omega arith)
first_none (v ∷ vs) (suc n) le = first_none vs n (omega arith)

module _ (d : Direction) (number : ℕ) (key : List ℕ) (vs : List Version) (n : ℕ) (place : IsPlaceOf d number key vs n) where
  pub newest_end : length vs ≤ n → IsInOrder (version_cmp d) vs → None ≡ newest number key vs
  newest_end le ordered = sym (newest_at d number key vs n ordered place ∙ ap (only_of key) (first_none vs n le))

  pub newest_here : n < length vs → is_of key (get_or vs n no_version) ≡ true → IsInOrder (version_cmp d) vs → Some (get_or vs n no_version) ≡ newest number key vs
  newest_here lt is ordered = sym (newest_at d number key vs n ordered place ∙ ap (only_of key) (first_at vs n lt) ∙ one is)
    where
      one : is_of key (get_or vs n no_version) ≡ true → only_of key (Some (get_or vs n no_version)) ≡ Some (get_or vs n no_version)
      one is = rw is refl

  pub newest_other : n < length vs → is_of key (get_or vs n no_version) ≡ false → IsInOrder (version_cmp d) vs → None ≡ newest number key vs
  newest_other lt other ordered = sym (newest_at d number key vs n ordered place ∙ ap (only_of key) (first_at vs n lt) ∙ none other)
    where
      none : is_of key (get_or vs n no_version) ≡ false → only_of key (Some (get_or vs n no_version)) ≡ None
      none other = rw other refl
