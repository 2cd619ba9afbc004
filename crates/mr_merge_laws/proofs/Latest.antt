-- The newest version of a key in newer, merged and older lists.
use Rattle.std.proofs.Common.{◌≡◌, ◌≢◌, ◌&&◌, ℕ, ◌<◌, Bool, true, false, nat_lt, List, [], ◌∷◌, ◌++◌, filter, Option, Some, None, is_none, refl, sym, ◌∙◌, ap, inl, inr, arith}
use Rattle.std.specs.List.{AllByRecursion}
use Rattle.std.proofs.lemmas.Bool.{cases_Bool}
use Rattle.std.proofs.lemmas.Bool.Decides.{nat_tests}
use Rattle.mr_iter.specs.Versions.{Version}
use Rattle.mr_iter.specs.Newest.{newest, later, shown_one}
use Rattle.mr_iter.proofs.Newer.{later_none, later_assoc}
use Rattle.mr_compact.specs.Kept.{Keeps, kept_put, becomes, stays_shown}
use Rattle.mr_merge_laws.specs.Around.{IsLaterThan, IsAlone, newest_of, after_merge, first_one, is_touched, but_for, Differ, AllDiffer, Parts, lists_of, taken, left_out, newest_in_parts}

pub newest_of_append : (number : ℕ) (key : List ℕ) (xss yss : List (List Version)) → newest_of number key (xss ++ yss) ≡ later (newest_of number key xss) (newest_of number key yss)
newest_of_append number key [] yss = refl
newest_of_append number key (xs ∷ xss) yss = ap (later (newest number key xs)) (newest_of_append number key xss yss) ∙ sym (later_assoc (newest number key xs) (newest_of number key xss) (newest_of number key yss))

not_later : (m n : ℕ) → n < m → nat_lt m n ≡ false
not_later m n lt = grind (arith, nat_tests)

pub stays_first : (v : Version) (o : Option Version) → IsLaterThan (Some v) o → later (Some v) o ≡ Some v
stays_first v None less = refl
stays_first v (Some w) less = rw (not_later v.sequence w.sequence less)

both_less : (v : Version) (a b : Option Version) → IsLaterThan (Some v) a → IsLaterThan (Some v) b → IsLaterThan (Some v) (later a b)
both_less v None b one two = two
both_less v (Some w) None one two = one
both_less v (Some w) (Some u) one two = elim (cases_Bool (nat_lt w.sequence u.sequence)) [
  | inl more ↦ rw more two
  | inr less ↦ rw less one
]

module _ (oldest : ℕ) (bottom : Bool) (keeps : Keeps) where
  less_becomes : (v u : Version) → u.sequence < v.sequence → IsLaterThan (Some v) (becomes oldest bottom keeps (Some u))
  less_becomes v u less = elim (cases_Bool (nat_lt oldest u.sequence)) [
    | inl late ↦ rw late less
    | inr early ↦ elim (cases_Bool (bottom && is_none (kept_put keeps u.key u.put))) [
      | inl gone ↦ rw (early, gone) tt
      | inr stays ↦ rw (early, stays) less
    ]
  ]

  bottom_of : (b c : Bool) → (b && c) ≡ true → b ≡ true
  bottom_of true c is = refl
  bottom_of false c is = cc

  over_older : (u : Version) (o : Option Version) → IsLaterThan (Some u) o → (bottom ≡ true → o ≡ None) → later (becomes oldest bottom keeps (Some u)) o ≡ becomes oldest bottom keeps (Some u)
  over_older u None less last = later_none (becomes oldest bottom keeps (Some u))
  over_older u (Some w) less last = elim (cases_Bool (nat_lt oldest u.sequence)) [
    | inl late ↦ rw late (rw (not_later u.sequence w.sequence less) refl)
    | inr early ↦ elim (cases_Bool (bottom && is_none (kept_put keeps u.key u.put))) [
      | inl gone ↦ let none : Some w ≡ None = last (bottom_of bottom (is_none (kept_put keeps u.key u.put)) gone) in cc
      | inr stays ↦ rw (early, stays) (rw (not_later u.sequence w.sequence less) refl)
    ]
  ]

  -- what is newest after the merge
  pub merged_newest : (n p o : Option Version) → IsLaterThan n p → IsLaterThan n o → IsLaterThan p o → (bottom ≡ true → IsAlone p o) → later n (later (becomes oldest bottom keeps p) o) ≡ after_merge oldest bottom keeps n p o
  merged_newest (Some v) None o np no_ po last = stays_first v o no_
  merged_newest (Some v) (Some u) o np no_ po last = stays_first v (later (becomes oldest bottom keeps (Some u)) o) (both_less v (becomes oldest bottom keeps (Some u)) o (less_becomes v u np) no_)
  merged_newest None (Some u) o np no_ po last = over_older u o po last
  merged_newest None None o np no_ po last = refl

  -- and before
  pub newest_before : (n p o : Option Version) → IsLaterThan n p → IsLaterThan n o → IsLaterThan p o → later n (later p o) ≡ first_one n p o
  newest_before (Some v) p o np no_ po = stays_first v (later p o) (both_less v p o np no_)
  newest_before None (Some u) o np no_ po = stays_first u o po
  newest_before None None o np no_ po = refl

  -- what is shown
  pub shown_after : (n p o : Option Version) → shown_one (becomes oldest bottom keeps p) ≡ filter (stays_shown oldest keeps) (shown_one p) → shown_one (after_merge oldest bottom keeps n p o) ≡ but_for oldest keeps (is_touched n p) (shown_one (first_one n p o))
  shown_after (Some v) p o law = refl
  shown_after None (Some u) o law = law
  shown_after None None o law = refl

-- ---- parts in two

turned : (v w : Version) → v.sequence ≢ w.sequence → later (Some v) (Some w) ≡ later (Some w) (Some v)
turned v w differ = elim (cases_Bool (nat_lt v.sequence w.sequence)) [
  | inl more ↦ rw more (rw (not_later w.sequence v.sequence (lt_of v.sequence w.sequence more)) refl)
  | inr less ↦ rw less (rw (below v.sequence w.sequence differ less) refl)
]
  where
    lt_of : (m n : ℕ) → nat_lt m n ≡ true → m < n
    lt_of m n is = grind (arith, nat_tests)

    below : (m n : ℕ) → m ≢ n → nat_lt m n ≡ false → nat_lt n m ≡ true
    below m n differ is = grind (arith, nat_tests)

swapped : (a b : Option Version) → Differ a b → later a b ≡ later b a
swapped None b differ = sym (later_none b)
swapped (Some v) None differ = refl
swapped (Some v) (Some w) differ = turned v w differ

differ_later : (a b c : Option Version) → Differ a b → Differ a c → Differ a (later b c)
differ_later a None c one two = two
differ_later a (Some w) None one two = one
differ_later a (Some w) (Some u) one two = elim (cases_Bool (nat_lt w.sequence u.sequence)) [
  | inl more ↦ rw more two
  | inr less ↦ rw less one
]

differ_none : (a : Option Version) → Differ a None
differ_none None = tt
differ_none (Some v) = tt

module _ (number : ℕ) (key : List ℕ) (p : ℕ → Bool) where
  abbrev now : ℕ × List Version → Option Version
  now x = newest number key x.1

  differ_taken : (a : Option Version) (parts : Parts) → AllByRecursion (Differ a) (newest_in_parts number key parts) → Differ a (newest_of number key (lists_of (taken p parts)))
  differ_taken a [] all = differ_none a
  differ_taken a (x ∷ parts) all = elim (cases_Bool (p x.0)) [
    | inl yes_x ↦ rw yes_x (differ_later a (now x) (newest_of number key (lists_of (taken p parts))) all.0 (differ_taken a parts all.1))
    | inr no_x ↦ rw no_x (differ_taken a parts all.1)
  ]

  abbrev in_taken : Parts → Option Version
  in_taken parts = newest_of number key (lists_of (taken p parts))

  abbrev in_others : Parts → Option Version
  in_others parts = newest_of number key (lists_of (left_out p parts))

  pub newest_in_two : (parts : Parts) → AllDiffer (newest_in_parts number key parts) → newest_of number key (lists_of parts) ≡ later (newest_of number key (lists_of (taken p parts))) (newest_of number key (lists_of (left_out p parts)))
  newest_in_two [] all = refl
  newest_in_two (x ∷ parts) all = elim (cases_Bool (p x.0)) [
    | inl yes_x ↦ rw yes_x (ap (later (now x)) (newest_in_two parts all.1) ∙ sym (later_assoc (now x) (in_taken parts) (in_others parts)))
    | inr no_x ↦ rw no_x (ap (later (now x)) (newest_in_two parts all.1) ∙ sym (later_assoc (now x) (in_taken parts) (in_others parts)) ∙ ap (λ (o : Option Version). later o (in_others parts)) (swapped (now x) (in_taken parts) (differ_taken (now x) parts all.0)) ∙ later_assoc (in_taken parts) (now x) (in_others parts))
  ]
