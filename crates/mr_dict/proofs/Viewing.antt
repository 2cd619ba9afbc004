-- The newest puts of a list and the views that it gives.
use Rattle.std.proofs.Common.{◌≡◌, ℕ, ◌≤◌, List, [], ◌∷◌, refl, ap, ◌∙◌, Bool, true, false, cond, ◌||◌, nat_lt, inl, inr, Option, Some, None, is_some}
use Rattle.std.specs.List.{AllByRecursion}
use Rattle.std.specs.Ordering.{is_lt, is_gt}
use Rattle.std.proofs.lemmas.Bool.{cases_Bool, le-ltb}
use Rattle.mr_base.specs.declared.stop.Direction.TheVariants.{Forward}
use Rattle.mr_iter.specs.Versions.{Version, version_cmp, IsInOrder}
use Rattle.mr_iter.specs.Snapshots.{is_skipped, is_hidden, shown, at_snapshot}
use Rattle.mr_dict.specs.Loading.{puts_behind, newest_puts}
use Rattle.mr_dict.proofs.Orders.{cmp, chain, not_both}
use Rattle.mr_dict.proofs.InOrder.{Rise, each_more, apart, not_before}

same_view : (number : ℕ) (passed : Option (List ℕ)) (vs : List Version) → AllByRecursion (λ (v : Version). v.sequence ≤ number) vs → puts_behind passed vs ≡ shown number passed vs
same_view number passed [] upto = refl
same_view number passed (v ∷ vs) upto =
    rw (le-ltb number v.sequence upto.0) (
    ap (λ (ws : List Version). cond (is_skipped passed v.key) ws (cond (is_some v.put) (v ∷ puts_behind (Some v.key) vs) (puts_behind (Some v.key) vs))) (same_view number passed vs upto.1)
    ∙ ap (λ (ws : List Version). cond (is_skipped passed v.key) (shown number passed vs) (cond (is_some v.put) (v ∷ ws) ws)) (same_view number (Some v.key) vs upto.1))

pub view_of_all : (number : ℕ) (vs : List Version) → AllByRecursion (λ (v : Version). v.sequence ≤ number) vs → newest_puts vs ≡ at_snapshot number vs
view_of_all number vs upto = same_view number None vs upto

-- ---- a view rises, and has puts alone

all_puts : (number : ℕ) (skip : Option (List ℕ)) (vs : List Version) → AllByRecursion (λ (v : Version). is_some v.put ≡ true) (shown number skip vs)
all_puts number skip [] = tt
all_puts number skip (v ∷ vs) =
    elim (is_hidden number skip v) as (λ b. AllByRecursion (λ (w : Version). is_some w.put ≡ true) (cond b (shown number skip vs) (cond (is_some v.put) (v ∷ shown number (Some v.key) vs) (shown number (Some v.key) vs)))) [
      | true ↦ all_puts number skip vs
      | false ↦ elim (cases_Bool (is_some v.put)) [
        | inl put ↦ rw put (put, all_puts number (Some v.key) vs)
        | inr deleted ↦ rw deleted (all_puts number (Some v.key) vs)
      ]
    ]

or_false : (a b : Bool) → (a || b) ≡ false → b ≡ false
or_false true b e = cc
or_false false b e = e

behind_skipped : (number : ℕ) (k : List ℕ) (vs : List Version) → IsInOrder (version_cmp Forward) vs → AllByRecursion (λ (w : Version). is_gt (cmp k w.key) ≡ false) vs → AllByRecursion (λ (w : Version). is_lt (cmp k w.key) ≡ true) (shown number (Some k) vs)
behind_skipped number k [] order upto = tt
behind_skipped number k (v ∷ vs) order upto = elim (cases_Bool (is_hidden number (Some k) v)) [
  | inl hidden ↦ rw hidden (behind_skipped number k vs order.1 upto.1)
  | inr here ↦
      let lt : is_lt (cmp k v.key) ≡ true = apart (cmp k v.key) upto.0 (or_false (nat_lt number v.sequence) (is_skipped (Some k) v.key) here) in
      let rest : AllByRecursion (λ (w : Version). is_lt (cmp k w.key) ≡ true) (shown number (Some v.key) vs) =
      each_more (λ w. is_lt (cmp v.key w.key) ≡ true) (λ w. is_lt (cmp k w.key) ≡ true) (shown number (Some v.key) vs) (λ w more. chain k v.key w.key lt more) (behind_skipped number v.key vs order.1 (not_before v vs order.0)) in
      rw here (elim (is_some v.put) as (λ b. AllByRecursion (λ (w : Version). is_lt (cmp k w.key) ≡ true) (cond b (v ∷ shown number (Some v.key) vs) (shown number (Some v.key) vs))) [
        | true ↦ (lt, rest)
        | false ↦ rest
      ])
]

view_rises : (number : ℕ) (skip : Option (List ℕ)) (vs : List Version) → IsInOrder (version_cmp Forward) vs → Rise (shown number skip vs)
view_rises number skip [] order = tt
view_rises number skip (v ∷ vs) order =
    elim (is_hidden number skip v) as (λ b. Rise (cond b (shown number skip vs) (cond (is_some v.put) (v ∷ shown number (Some v.key) vs) (shown number (Some v.key) vs)))) [
      | true ↦ view_rises number skip vs order.1
      | false ↦ elim (is_some v.put) as (λ b. Rise (cond b (v ∷ shown number (Some v.key) vs) (shown number (Some v.key) vs))) [
        | true ↦ (behind_skipped number v.key vs order.1 (not_before v vs order.0), view_rises number (Some v.key) vs order.1)
        | false ↦ view_rises number (Some v.key) vs order.1
      ]
    ]

-- puts that rise are the newest
all_kept : (k : List ℕ) (vs : List Version) → AllByRecursion (λ (v : Version). is_some v.put ≡ true) vs → Rise vs → AllByRecursion (λ (w : Version). is_lt (cmp k w.key) ≡ true) vs → puts_behind (Some k) vs ≡ vs
all_kept k [] puts rise behind = refl
all_kept k (v ∷ vs) puts rise behind = rw (not_both (cmp k v.key) behind.0) (rw puts.0 (ap (λ (ws : List Version). v ∷ ws) (all_kept v.key vs puts.1 rise.1 rise.0)))

kept_from : (vs : List Version) → AllByRecursion (λ (v : Version). is_some v.put ≡ true) vs → Rise vs → newest_puts vs ≡ vs
kept_from [] puts rise = refl
kept_from (v ∷ vs) puts rise = rw puts.0 (ap (λ (ws : List Version). v ∷ ws) (all_kept v.key vs puts.1 rise.1 rise.0))

pub view_of_view : (number : ℕ) (vs : List Version) → IsInOrder (version_cmp Forward) vs → newest_puts (at_snapshot number vs) ≡ at_snapshot number vs
view_of_view number vs order = kept_from (at_snapshot number vs) (all_puts number None vs) (view_rises number None vs order)
