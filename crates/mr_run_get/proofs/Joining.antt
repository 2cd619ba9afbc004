-- The newest version of a key in blocks one after the other.
use Rattle.std.proofs.Common.{◌≡◌, ℕ, zero, suc, ◌+◌, ◌<◌, true, false, cond, List, [], ◌∷◌, ◌++◌, length, drop, get_or, Some, None, refl, sym, ◌∙◌, ap, arith}
use Rattle.std.specs.List.{AllByRecursion}
use Rattle.mr_iter.specs.Versions.{Version, joined}
use Rattle.mr_iter.specs.Newest.{is_at, newest}

newest_past : (number : ℕ) (key : List ℕ) (vs ws : List Version) → newest number key vs ≡ None → newest number key (vs ++ ws) ≡ newest number key ws
newest_past number key [] ws e = refl
newest_past number key (v ∷ vs) ws e = (elim (is_at number key v) as (λ b. cond b (Some v) (newest number key vs) ≡ None → cond b (Some v) (newest number key (vs ++ ws)) ≡ newest number key ws) [
  | true ↦ λ h. cc
  | false ↦ λ h. newest_past number key vs ws h
]) e

newest_there : (number : ℕ) (key : List ℕ) (w : Version) (vs ws : List Version) → newest number key vs ≡ Some w → newest number key (vs ++ ws) ≡ Some w
newest_there number key w [] ws e = cc
newest_there number key w (v ∷ vs) ws e = (elim (is_at number key v) as (λ b. cond b (Some v) (newest number key vs) ≡ Some w → cond b (Some v) (newest number key (vs ++ ws)) ≡ Some w) [
  | true ↦ λ h. h
  | false ↦ λ h. newest_there number key w vs ws h
]) e

pub each_of : (P : List Version → Type 0) (i : ℕ) (bs : List (List Version)) → i < length bs → AllByRecursion P bs → P (get_or bs i [])
each_of P i [] lt all = absurd (omega (arith, lt))
each_of P zero (b ∷ bs) lt all = all.0
each_of P (suc i) (b ∷ bs) lt all = each_of P i bs (omega (arith, lt)) all.1

-- an item of a loop is the one at its place
pub item_at : (i : ℕ) (x : List Version) (bs : List (List Version)) → i < length bs → x ≡ get_or bs i x → get_or bs i [] ≡ x
item_at i x [] lt is = absurd (omega (arith, lt))
item_at zero x (b ∷ bs) lt is = sym is
item_at (suc i) x (b ∷ bs) lt is = item_at i x bs (omega (arith, lt)) is

joined_at : (i : ℕ) (bs : List (List Version)) → i < length bs → joined (drop i bs) ≡ get_or bs i [] ++ joined (drop (i + 1) bs)
joined_at i [] lt = absurd (omega (arith, lt))
joined_at zero (b ∷ bs) lt = refl
joined_at (suc i) (b ∷ bs) lt = let e : suc (i + 1) ≡ suc i + 1 = omega arith in joined_at i bs (omega (arith, lt)) ∙ ap (λ (k : ℕ). get_or bs i [] ++ joined (drop k (b ∷ bs))) e

pub blocks_past : (number : ℕ) (key : List ℕ) (i : ℕ) (bs : List (List Version)) → i < length bs → newest number key (get_or bs i []) ≡ None → newest number key (joined (drop i bs)) ≡ newest number key (joined (drop (i + 1) bs))
blocks_past number key i bs lt none = ap (newest number key) (joined_at i bs lt) ∙ newest_past number key (get_or bs i []) (joined (drop (i + 1) bs)) none

pub blocks_there : (number : ℕ) (key : List ℕ) (i : ℕ) (w : Version) (bs : List (List Version)) → i < length bs → newest number key (get_or bs i []) ≡ Some w → newest number key (joined (drop i bs)) ≡ Some w
blocks_there number key i w bs lt some = ap (newest number key) (joined_at i bs lt) ∙ newest_there number key w (get_or bs i []) (joined (drop (i + 1) bs)) some

pub none_left : (number : ℕ) (key : List ℕ) (i : ℕ) (bs : List (List Version)) → length bs ≡ i → newest number key (joined (drop i bs)) ≡ None
none_left number key zero [] e = refl
none_left number key (suc i) [] e = refl
none_left number key zero (b ∷ bs) e = absurd (omega (arith, e))
none_left number key (suc i) (b ∷ bs) e = none_left number key i bs (omega (arith, e))
