-- Each key stands in one run.
use Rattle.std.proofs.Common.{◌≡◌, ℕ, ◌≤◌, Bool, true, false, not, ◌&&◌, ◌||◌, nat_lt, List, [], ◌∷◌, ◌++◌, filter, length, cond, refl, sym, ap, subst, inl, inr, arith}
use Rattle.std.specs.List.{AllByRecursion}
use Rattle.std.proofs.lemmas.Bool.{cases_Bool}
use Rattle.mr_base.specs.declared.stop.Direction.{Direction}
use Rattle.mr_iter.specs.Versions.{Version, version_cmp, IsInOrder}
use Rattle.mr_iter.specs.Snapshots.{is_skipped}
use Rattle.mr_iter.specs.RunOuts.{with_version}
use Rattle.mr_iter.specs.Newest.{is_of}
use Rattle.mr_iter.proofs.Newer.{key_is}
use Rattle.mr_compact.specs.Kept.{run_limit, run_bytes, last_key, is_closed, alone, runs_from, has_key}
use Rattle.mr_compact.proofs.Keys.{later_keys, NotBehind, behind}

append_assoc : (xs ys zs : List Version) → (xs ++ ys) ++ zs ≡ xs ++ (ys ++ zs)
append_assoc [] ys zs = refl
append_assoc (x ∷ xs) ys zs = ap (λ (ws : List Version). x ∷ ws) (append_assoc xs ys zs)

pub end_in_order : (d : Direction) (run vs : List Version) → IsInOrder (version_cmp d) (run ++ vs) → IsInOrder (version_cmp d) vs
end_in_order d [] vs all = all
end_in_order d (u ∷ run) vs all = end_in_order d run vs all.1

end_each : (P : Version → Type 0) (run vs : List Version) → AllByRecursion P (run ++ vs) → AllByRecursion P vs
end_each P [] vs all = all
end_each P (u ∷ run) vs all = end_each P run vs all.1

pub start_each : (P : Version → Type 0) (run vs : List Version) → AllByRecursion P (run ++ vs) → AllByRecursion P run
start_each P [] vs all = tt
start_each P (u ∷ run) vs all = (all.0, start_each P run vs all.1)

apart_of : (a b : Bool) → (a && not b) ≡ true → b ≡ false
apart_of true true is = cc
apart_of true false is = refl
apart_of false b is = cc

or_other : (a b : Bool) → a ≡ false → (a || b) ≡ true → b ≡ true
or_other true b low is = cc
or_other false b low is = is

module _ (d : Direction) (key : List ℕ) where
  abbrev NoneOf : List Version → Type 0
  NoneOf vs = AllByRecursion (λ (w : Version). is_of key w ≡ false) vs

  no_key : (vs : List Version) → NoneOf vs → has_key key vs ≡ false
  no_key [] all = refl
  no_key (v ∷ vs) all = rw all.0 (no_key vs all.1)

  -- where a version of another key stands behind one of the key, none of the key stands there
  from_other : (u : Version) (ws : List Version) → is_of key u ≡ true → IsInOrder (version_cmp d) (u ∷ ws) → (w : Version) (rest : List Version) → ws ≡ w ∷ rest → is_of key w ≡ false → NoneOf ws
  from_other u ws is all w rest e other =
      let low : NotBehind d key (w ∷ rest) = subst (λ (l : List Version). NotBehind d key l) e (behind d key u ws (key_is key u is) all.0) in
      let ordered : IsInOrder (version_cmp d) (w ∷ rest) = subst (λ (l : List Version). IsInOrder (version_cmp d) l) e all.1 in
      subst (λ (l : List Version). NoneOf l) (sym e) (other, later_keys d key w rest low.0 other ordered.0)

  apart : (run : List Version) (v : Version) (vs : List Version) → IsInOrder (version_cmp d) (run ++ v ∷ vs) → has_key key run ≡ true → is_skipped (last_key run) v.key ≡ false → NoneOf (v ∷ vs)
  apart [] v vs all has last = cc
  apart (u ∷ []) v vs all has last =
      let is : is_of key u ≡ true = or_false (is_of key u) has in
      let other : is_of key v ≡ false = subst (λ (k : List ℕ). is_of k v ≡ false) (sym (key_is key u is)) last in
      from_other u (v ∷ vs) is all v vs refl other
    where
      or_false : (b : Bool) → (b || false) ≡ true → b ≡ true
      or_false true is = refl
      or_false false is = cc
  apart (u ∷ (w ∷ run)) v vs all has last = elim (cases_Bool (is_of key w)) [
    | inl is ↦ apart (w ∷ run) v vs all.1 (has_first (is_of key w) (has_key key run) is) last
    | inr other ↦ elim (cases_Bool (is_of key u)) [
      | inl here ↦ end_each (λ (x : Version). is_of key x ≡ false) (w ∷ run) (v ∷ vs) (from_other u (w ∷ (run ++ v ∷ vs)) here all w (run ++ v ∷ vs) refl other)
      | inr none ↦ apart (w ∷ run) v vs all.1 (or_other (is_of key u) (has_key key (w ∷ run)) none has) last
    ]
  ]
    where
      has_first : (a b : Bool) → a ≡ true → (a || b) ≡ true
      has_first true b is = refl
      has_first false b is = cc

  no_alone : (run : List Version) → NoneOf run → filter (has_key key) (alone run) ≡ []
  no_alone [] all = refl
  no_alone (v ∷ run) all = let none = no_key (v ∷ run) all in rw none refl

  no_runs : (run vs : List Version) → NoneOf (run ++ vs) → filter (has_key key) (runs_from run vs) ≡ []
  no_runs run [] all = no_alone run (start_each (λ (x : Version). is_of key x ≡ false) run [] all)
  no_runs run (v ∷ vs) all = elim (cases_Bool (is_closed run v)) [
    | inl closed ↦ let none = no_key run (start_each (λ (x : Version). is_of key x ≡ false) run (v ∷ vs) all) in rw closed (rw none (no_runs (v ∷ []) vs (end_each (λ (x : Version). is_of key x ≡ false) run (v ∷ vs) all)))
    | inr goes_on ↦ rw goes_on (no_runs (with_version run v) vs (subst (λ (l : List Version). NoneOf l) (sym (append_assoc run (v ∷ []) vs)) all))
  ]

  one_alone : (run : List Version) → length (filter (has_key key) (alone run)) ≤ 1
  one_alone [] = omega arith
  one_alone (v ∷ run) = elim (has_key key (v ∷ run)) as (λ b. length (cond b ((v ∷ run) ∷ []) []) ≤ 1) [
    | true ↦ omega arith
    | false ↦ omega arith
  ]

  pub one_run : (run vs : List Version) → IsInOrder (version_cmp d) (run ++ vs) → length (filter (has_key key) (runs_from run vs)) ≤ 1
  one_run run [] all = one_alone run
  one_run run (v ∷ vs) all = elim (cases_Bool (is_closed run v)) [
    | inl closed ↦ elim (cases_Bool (has_key key run)) [
      | inl has ↦
          let none = no_runs (v ∷ []) vs (apart run v vs all has (apart_of (nat_lt run_limit (run_bytes run)) (is_skipped (last_key run) v.key) closed)) in
          rw (closed, has) (subst (λ (l : List (List Version)). length (run ∷ l) ≤ 1) (sym none) (omega arith))
      | inr lacks ↦ rw (closed, lacks) (one_run (v ∷ []) vs (end_in_order d run (v ∷ vs) all))
    ]
    | inr goes_on ↦ rw goes_on (one_run (with_version run v) vs (subst (λ (l : List Version). IsInOrder (version_cmp d) l) (sym (append_assoc run (v ∷ []) vs)) all))
  ]
