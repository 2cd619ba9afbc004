-- The view at a number has the newest versions.
use Rattle.std.proofs.Common.{◌≡◌, ◌↔◌, ℕ, ◌<◌, ◌≤◌, Bool, true, false, List, [], ◌∷◌, Option, Some, None, is_some, nat_lt, refl, sym, ◌∙◌, ap, subst, inl, inr, arith}
use Rattle.std.specs.List.{AllByRecursion, list_all}
use Rattle.std.specs.declared.cmp.Ordering.{Ordering}
use Rattle.std.specs.declared.cmp.Ordering.TheVariants.{Less, Equal, Greater}
use Rattle.std.specs.Cmp.Lexicographic.{slice_cmp}
use Rattle.std.specs.Ordering.{nat_cmp, is_eq, is_lt, is_gt, ordering_then, ordering_reverse}
use Rattle.std.proofs.lemmas.Cmp.{nat_list_cmp_total, tied_itself}
use Rattle.std.proofs.lemmas.Bool.{cases_Bool}
use Rattle.std.proofs.lemmas.Bool.Decides.{nat_tests}
use Rattle.mr_base.specs.declared.stop.Direction.{Direction}
use Rattle.mr_base.specs.declared.stop.Direction.TheVariants.{Forward, Reverse}
use Rattle.mr_iter.specs.Versions.{Version, key_cmp, version_cmp, is_strict}
use Rattle.mr_iter.specs.Order.{key_total, by_key}
use Rattle.mr_iter.specs.Places.{and_split}
use Rattle.mr_iter.specs.Snapshots.{shown, at_snapshot, is_skipped, IsAmong, IsNewest}

clash : {b : Bool} → b ≡ false → b ≡ true → ⊥
clash low high = cc

eq_of : (o : Ordering) → is_eq o ≡ true → o ≡ Equal
eq_of Less is = cc
eq_of Equal is = refl
eq_of Greater is = cc

first_equal : (a b : Ordering) → ordering_then a b ≡ Equal → a ≡ Equal
first_equal Less b e = e
first_equal Equal b e = refl
first_equal Greater b e = e

then_equal : (a b : Ordering) → ordering_then a b ≡ Equal → b ≡ Equal
then_equal Less b e = cc
then_equal Equal b e = e
then_equal Greater b e = cc

same_number : (x y : ℕ) → nat_cmp x y ≡ Equal → x ≡ y
same_number x y e = grind (arith, nat_tests)

same_bytes : (a b : List ℕ) → slice_cmp nat_cmp a b ≡ Equal → a ≡ b
same_bytes [] [] e = refl
same_bytes [] (y ∷ b) e = cc
same_bytes (x ∷ a) [] e = cc
same_bytes (x ∷ a) (y ∷ b) e =
    let heads = same_number x y (first_equal (nat_cmp x y) (slice_cmp nat_cmp a b) e) in
    let tails = same_bytes a b (then_equal (nat_cmp x y) (slice_cmp nat_cmp a b) e) in
    cc

skips_itself : (key : List ℕ) → is_skipped (Some key) key ≡ true
skips_itself key = ap is_eq (tied_itself nat_list_cmp_total key)

lt_not_gt : (o : Ordering) → is_lt o ≡ true → is_gt o ≡ false
lt_not_gt Less is = refl
lt_not_gt Equal is = cc
lt_not_gt Greater is = cc

lt_second : (a b : Ordering) → a ≡ Equal → is_lt (ordering_then a b) ≡ true → is_lt b ≡ true
lt_second Less b e is = cc
lt_second Equal b e is = is
lt_second Greater b e is = cc

less_number : (m n : ℕ) → is_lt (nat_cmp m n) ≡ true → m < n
less_number m n is = grind (arith, nat_tests)

among_all : (P : Version → Type 0) (v : Version) (vs : List Version) → AllByRecursion P vs → IsAmong v vs → P v
among_all P v [] all any = absurd any
among_all P v (w ∷ ws) all (inl here) = subst P here all.0
among_all P v (w ∷ ws) all (inr later) = among_all P v ws all.1 later

module _ (d : Direction) where
  each_less : (x : Version) (vs : List Version) → list_all (λ w. is_lt (version_cmp d x w)) vs ≡ true → AllByRecursion (λ w. is_lt (version_cmp d x w) ≡ true) vs
  each_less x [] all = tt
  each_less x (w ∷ ws) all = let split = and_split (is_lt (version_cmp d x w)) (list_all (λ w. is_lt (version_cmp d x w)) ws) all in (split.0, each_less x ws split.1)

  -- of equal keys the one in front is newer
  newer : (x w : Version) → is_lt (version_cmp d x w) ≡ true → w.key ≡ x.key → w.sequence < x.sequence
  newer x w less same =
      let tie : key_cmp d x.key w.key ≡ Equal = ap (key_cmp d x.key) same ∙ tied_itself (key_total d) x.key in
      less_number w.sequence x.sequence (lt_second (key_cmp d x.key w.key) (nat_cmp w.sequence x.sequence) tie less)

  -- the skipped key isn't behind these
  abbrev NotBehind : Option (List ℕ) → List Version → Type 0
  NotBehind None vs = Unit {0}
  NotBehind (Some k) vs = AllByRecursion (λ (w : Version). is_gt (key_cmp d k w.key) ≡ false) vs

  not_behind : (x : Version) (vs : List Version) → AllByRecursion (λ w. is_lt (version_cmp d x w) ≡ true) vs → NotBehind (Some x.key) vs
  not_behind x [] all = tt
  not_behind x (w ∷ ws) all = (by_key (key_cmp d x.key w.key) (nat_cmp w.sequence x.sequence) (lt_not_gt (version_cmp d x w) all.0), not_behind x ws all.1)

  behind_rest : (skip : Option (List ℕ)) (x : Version) (vs : List Version) → NotBehind skip (x ∷ vs) → NotBehind skip vs
  behind_rest None x vs all = tt
  behind_rest (Some k) x vs all = all.1

  turned : (a b : Ordering) → b ≡ ordering_reverse a → is_gt a ≡ false → is_gt b ≡ false → a ≡ Equal
  turned Less b e low high = let g : is_gt b ≡ true = ap is_gt e in absurd (clash high g)
  turned Equal b e low high = refl
  turned Greater b e low high = cc

  tied_key : (e : Direction) (a b : List ℕ) → key_cmp e a b ≡ Equal → a ≡ b
  tied_key Forward a b is = same_bytes a b is
  tied_key Reverse a b is = sym (same_bytes b a is)

  -- a skipped key that was passed doesn't come again
  past_skip : (skip : Option (List ℕ)) (x v : Version) (vs : List Version) → NotBehind skip (x ∷ vs) → is_skipped skip x.key ≡ false → NotBehind (Some x.key) vs → IsAmong v vs → is_skipped skip v.key ≡ false
  past_skip None x v vs all other later among = refl
  past_skip (Some k) x v vs all other later among = elim (cases_Bool (is_skipped (Some k) v.key)) [
    | inl skipped ↦
        let same : k ≡ v.key = same_bytes k v.key (eq_of (slice_cmp nat_cmp k v.key) skipped) in
        let low : is_gt (key_cmp d x.key v.key) ≡ false = among_all (λ (w : Version). is_gt (key_cmp d x.key w.key) ≡ false) v vs later among in
        let high : is_gt (key_cmp d v.key x.key) ≡ false = subst (λ (key : List ℕ). is_gt (key_cmp d key x.key) ≡ false) same all.0 in
        let equal : x.key ≡ v.key = tied_key d x.key v.key (turned (key_cmp d x.key v.key) (key_cmp d v.key x.key) ((key_total d).antisymm v.key x.key) low high) in
        absurd (clash other (subst (λ (key : List ℕ). is_skipped (Some k) key ≡ true) (sym equal) skipped))
    | inr free ↦ free
  ]

  module _ (number : ℕ) (v : Version) where
    past_number : (n : ℕ) → nat_lt number n ≡ true → n ≤ number → ⊥
    past_number n past le = grind (arith, nat_tests)

    into : (skip : Option (List ℕ)) (vs : List Version) → is_strict d vs ≡ true → NotBehind skip vs → IsAmong v (shown number skip vs) → IsAmong v vs × IsNewest number vs v × (is_skipped skip v.key ≡ false)
    into skip [] strict before among = absurd among
    into skip (x ∷ vs) strict before among =
        let split = and_split (list_all (λ w. is_lt (version_cmp d x w)) vs) (is_strict d vs) strict in
        let less = each_less x vs split.0 in
        elim (cases_Bool (nat_lt number x.sequence)) [
          | inl past ↦
              let here : IsAmong v (shown number skip vs) = rw past at among in
              let r = into skip vs split.1 (behind_rest skip x vs before) here in
              (inr r.0, record { put = r.1.put; upto = r.1.upto; newest = ((λ same le. absurd (past_number x.sequence past le)), r.1.newest) }, r.2)
          | inr upto ↦ elim (cases_Bool (is_skipped skip x.key)) [
            | inl skipped ↦
                let here : IsAmong v (shown number skip vs) = rw (upto, skipped) at among in
                let r = into skip vs split.1 (behind_rest skip x vs before) here in
                (inr r.0, record { put = r.1.put; upto = r.1.upto; newest = ((λ same le. absurd (clash r.2 (subst (λ (key : List ℕ). is_skipped skip key ≡ true) same skipped))), r.1.newest) }, r.2)
            | inr other ↦ elim (cases_Bool (is_some x.put)) [
              | inl put ↦
                  let here : IsAmong v (x ∷ shown number (Some x.key) vs) = rw (upto, other, put) at among in
                  elim here [
                    | inl same ↦ (inl same, subst (IsNewest number (x ∷ vs)) same (record { put = put; upto = upto_number x.sequence upto; newest = ((λ _ _. omega arith), all_newer x vs less) }), subst (λ (w : Version). is_skipped skip w.key ≡ false) same other)
                    | inr later ↦ behind skip x vs less before other (into (Some x.key) vs split.1 (not_behind x vs less) later)
                  ]
              | inr gone ↦
                  let here : IsAmong v (shown number (Some x.key) vs) = rw (upto, other, gone) at among in
                  behind skip x vs less before other (into (Some x.key) vs split.1 (not_behind x vs less) here)
            ]
          ]
        ]
      where
        upto_number : (n : ℕ) → nat_lt number n ≡ false → n ≤ number
        upto_number n upto = grind (arith, nat_tests)

        all_newer : (x : Version) (vs : List Version) → AllByRecursion (λ w. is_lt (version_cmp d x w) ≡ true) vs → AllByRecursion (λ (w : Version). w.key ≡ x.key → w.sequence ≤ number → w.sequence ≤ x.sequence) vs
        all_newer x [] less = tt
        all_newer x (w ∷ ws) less = ((λ same le. let lt = newer x w less.0 same in omega (arith, lt)), all_newer x ws less.1)

        behind : (skip : Option (List ℕ)) (x : Version) (vs : List Version) → AllByRecursion (λ w. is_lt (version_cmp d x w) ≡ true) vs → NotBehind skip (x ∷ vs) → is_skipped skip x.key ≡ false → IsAmong v vs × IsNewest number vs v × (is_skipped (Some x.key) v.key ≡ false) →
            IsAmong v (x ∷ vs) × IsNewest number (x ∷ vs) v × (is_skipped skip v.key ≡ false)
        behind skip x vs less before other r = (
          inr r.0,
          record { put = r.1.put; upto = r.1.upto; newest = ((λ same le. absurd (clash r.2 (subst (λ (key : List ℕ). is_skipped (Some x.key) key ≡ true) same (skips_itself x.key)))), r.1.newest) },
          past_skip skip x v vs before other (not_behind x vs less) r.0,
        )

    out : (skip : Option (List ℕ)) (vs : List Version) → is_strict d vs ≡ true → IsAmong v vs → IsNewest number vs v → is_skipped skip v.key ≡ false → IsAmong v (shown number skip vs)
    out skip [] strict among newest free = absurd among
    out skip (x ∷ vs) strict among newest free =
        let split = and_split (list_all (λ w. is_lt (version_cmp d x w)) vs) (is_strict d vs) strict in
        let less = each_less x vs split.0 in
        let rest : IsNewest number vs v = record { put = newest.put; upto = newest.upto; newest = newest.newest.1 } in
        elim (cases_Bool (nat_lt number x.sequence)) [
          | inl past ↦ rw past (elim among [
            | inl same ↦ absurd (past_number x.sequence past (subst (λ (w : Version). w.sequence ≤ number) (sym same) newest.upto))
            | inr later ↦ out skip vs split.1 later rest free
          ])
          | inr upto ↦ elim (cases_Bool (is_skipped skip x.key)) [
            | inl skipped ↦ rw (upto, skipped) (elim among [
              | inl same ↦ absurd (clash free (subst (λ (w : Version). is_skipped skip w.key ≡ true) same skipped))
              | inr later ↦ out skip vs split.1 later rest free
            ])
            | inr other ↦ elim (cases_Bool (is_some x.put)) [
              | inl put ↦ rw (upto, other, put) (elim among [
                | inl same ↦ inl same
                | inr later ↦ inr (out (Some x.key) vs split.1 later rest (own x vs less (newest.newest.0) upto later))
              ])
              | inr gone ↦ rw (upto, other, gone) (elim among [
                | inl same ↦ absurd (clash gone (subst (λ (w : Version). is_some w.put ≡ true) (sym same) newest.put))
                | inr later ↦ out (Some x.key) vs split.1 later rest (own x vs less (newest.newest.0) upto later)
              ])
            ]
          ]
        ]
      where
        -- a newest one isn't of the key in front of it
        own : (x : Version) (vs : List Version) → AllByRecursion (λ w. is_lt (version_cmp d x w) ≡ true) vs → (x.key ≡ v.key → x.sequence ≤ number → x.sequence ≤ v.sequence) → nat_lt number x.sequence ≡ false → IsAmong v vs → is_skipped (Some x.key) v.key ≡ false
        own x vs less first upto later = elim (cases_Bool (is_skipped (Some x.key) v.key)) [
          | inl skipped ↦
              let same : x.key ≡ v.key = same_bytes x.key v.key (eq_of (slice_cmp nat_cmp x.key v.key) skipped) in
              let lt : v.sequence < x.sequence = newer x v (among_all (λ w. is_lt (version_cmp d x w) ≡ true) v vs less later) (sym same) in
              let within : x.sequence ≤ number = grind (arith, nat_tests) in
              let le : x.sequence ≤ v.sequence = first same within in
              absurd (omega (arith, lt, le))
          | inr free ↦ free
        ]

pub view_newest : (d : Direction) (number : ℕ) (vs : List Version) (v : Version) → is_strict d vs ≡ true → IsAmong v (at_snapshot number vs) ↔ (IsAmong v vs × IsNewest number vs v)
view_newest d number vs v strict = (
  (λ among. let r = into d number v None vs strict tt among in (r.0, r.1)),
  (λ both. out d number v None vs strict both.0 both.1 refl),
)
