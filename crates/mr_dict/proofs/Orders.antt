-- Entries in the order of their keys: what a binary search finds among them.
use Rattle.std.proofs.Common.{◌≡◌, ℕ, zero, suc, ◌-◌, ◌<◌, ◌≤◌, List, [], ◌∷◌, ◌++◌, length, get_or, refl, ap, sym, ◌∙◌, subst, arith, Bool, true, false, ◌&&◌, inl, inr, Some, None}
use Rattle.std.specs.List.{list_all, prefix_len, position, position_or_len}
use Rattle.std.specs.Cmp.Lexicographic.{slice_cmp}
use Rattle.std.specs.declared.cmp.Ordering.{Ordering}
use Rattle.std.specs.declared.cmp.Ordering.TheVariants.{Less, Equal, Greater}
use Rattle.std.specs.Ordering.{nat_cmp, is_lt, is_eq, ordering_then}
use Rattle.std.proofs.lemmas.Bool.{cases_Bool, cases_lt, lt-ltb, le-ltb}
use Rattle.std.proofs.lemmas.Cmp.{nat_list_cmp_total, alike_right}
use Rattle.std.proofs.lemmas.List.Sums.{prefix_len_is, prefix_len_passes, prefix_len_stops, position_or_len_is}
use Rattle.mr_dict_entry.specs.Entries.{entry_key}
use Rattle.mr_dict_entry.specs.declared.entry.DictEntry.{DictEntry}
use Rattle.mr_dict.specs.Dictionary.{is_before, is_at, are_ordered}
use Rattle.mr_dict.specs.Given.{no_entry}

pub and_split : (a b : Bool) → (a && b) ≡ true → (a ≡ true) × (b ≡ true)
and_split true b e = (refl, e)
and_split false b e = cc

pub and_join : (a b : Bool) → a ≡ true → b ≡ true → (a && b) ≡ true
and_join true b x y = y
and_join false b x y = cc

pub less : (o : Ordering) → is_lt o ≡ true → o ≡ Less
less Less is = refl
less Equal is = cc
less Greater is = cc

pub equal : (o : Ordering) → is_eq o ≡ true → o ≡ Equal
equal Less is = cc
equal Equal is = refl
equal Greater is = cc

pub not_both : (o : Ordering) → is_lt o ≡ true → is_eq o ≡ false
not_both Less is = refl
not_both Equal is = cc
not_both Greater is = cc

abbrev pub cmp : List ℕ → List ℕ → Ordering
cmp = slice_cmp nat_cmp

pub chain : (a b c : List ℕ) → is_lt (cmp a b) ≡ true → is_lt (cmp b c) ≡ true → is_lt (cmp a c) ≡ true
chain a b c x y = ap is_lt (nat_list_cmp_total.trans a b c (less (cmp a b) x) (less (cmp b c) y))

-- fronts of one length decide first
pub parts : (xs ys a b : List ℕ) → length xs ≡ length ys → cmp (xs ++ a) (ys ++ b) ≡ ordering_then (cmp xs ys) (cmp a b)
parts [] [] a b same = refl
parts [] (y ∷ ys) a b same = absurd (omega (arith, same))
parts (x ∷ xs) [] a b same = absurd (omega (arith, same))
parts (x ∷ xs) (y ∷ ys) a b same = ap (ordering_then (nat_cmp x y)) (parts xs ys a b (omega (arith, same))) ∙ assoc (nat_cmp x y) (cmp xs ys) (cmp a b)
  where
    assoc : (p q r : Ordering) → ordering_then p (ordering_then q r) ≡ ordering_then (ordering_then p q) r
    assoc Less q r = refl
    assoc Equal q r = refl
    assoc Greater q r = refl

pub each_true : (p : DictEntry → Bool) (es : List DictEntry) (n : ℕ) → list_all p es ≡ true → n < length es → p (get_or es n no_entry) ≡ true
each_true p [] n all lt = absurd (omega (arith, lt))
each_true p (e ∷ es) zero all lt = (and_split (p e) (list_all p es) all).0
each_true p (e ∷ es) (suc n) all lt = each_true p es n (and_split (p e) (list_all p es) all).1 (omega (arith, lt))

-- of two entries the one in front comes before the other
pub in_turn : (es : List DictEntry) (i j : ℕ) → are_ordered es ≡ true → i < j → j < length es → is_before (entry_key (get_or es j no_entry)) (get_or es i no_entry) ≡ true
in_turn [] i j order lt within = absurd (omega (arith, within))
in_turn (e ∷ es) i zero order lt within = absurd (omega (arith, lt))
in_turn (e ∷ es) zero (suc j) order lt within = each_true (λ f. is_before (entry_key f) e) es j (and_split (list_all (λ f. is_before (entry_key f) e) es) (are_ordered es) order).0 (omega (arith, within))
in_turn (e ∷ es) (suc i) (suc j) order lt within = in_turn es i j (and_split (list_all (λ f. is_before (entry_key f) e) es) (are_ordered es) order).1 (omega (arith, lt)) (omega (arith, within))

-- those in front of one that comes before a key come before it
downward : (key : List ℕ) (es : List DictEntry) (k n : ℕ) → are_ordered es ≡ true → k ≤ n → n < length es → is_before key (get_or es n no_entry) ≡ true → is_before key (get_or es k no_entry) ≡ true
downward key es k n order le within here = elim (cases_lt k n) [
  | inl lt ↦ chain (entry_key (get_or es k no_entry)) (entry_key (get_or es n no_entry)) key (in_turn es k n order lt within) here
  | inr ge ↦ let same : k ≡ n = omega (arith, le, ge) in subst (λ (m : ℕ). is_before key (get_or es m no_entry) ≡ true) (sym same) here
]

pub counted : (key : List ℕ) (es : List DictEntry) (n : ℕ) → are_ordered es ≡ true → n ≤ length es → (0 < n → is_before key (get_or es (n - 1) no_entry) ≡ true) → (n < length es → is_before key (get_or es n no_entry) ≡ false) → n ≡ prefix_len (is_before key) es
counted key es n order le before behind = sym (prefix_len_is (is_before key) es n no_entry le (λ k lt. downward key es k (n - 1) order (omega (arith, lt)) (omega (arith, lt, le)) (before (omega (arith, lt)))) behind)

module _ (key : List ℕ) (es : List DictEntry) (n : ℕ) (order : are_ordered es ≡ true) (is : n ≡ prefix_len (is_before key) es) where
  pub in_front : (k : ℕ) → k < n → is_before key (get_or es k no_entry) ≡ true
  in_front k lt = prefix_len_passes (is_before key) es k no_entry (omega (arith, lt, is))

  pub not_in_front : n < length es → is_before key (get_or es n no_entry) ≡ false
  not_in_front lt = subst (λ (m : ℕ). is_before key (get_or es m no_entry) ≡ false) (sym is) (prefix_len_stops (is_before key) es no_entry (omega (arith, lt, is)))

  pub found : n < length es → is_at key (get_or es n no_entry) ≡ true → Some n ≡ position (is_at key) es
  found lt at =
      let here : position_or_len (is_at key) es ≡ n = position_or_len_is (is_at key) es n no_entry (omega (arith, lt)) (λ k less. not_both (cmp (entry_key (get_or es k no_entry)) key) (in_front k less)) (λ within. at) in
      rw here (rw (lt-ltb n (length es) lt) refl)

  nowhere : (n < length es → is_at key (get_or es n no_entry) ≡ false) → (k : ℕ) → k < length es → is_at key (get_or es k no_entry) ≡ false
  nowhere other k lt = elim (cases_lt k n) [
    | inl before ↦ not_both (cmp (entry_key (get_or es k no_entry)) key) (in_front k before)
    | inr ge ↦ elim (cases_lt n k) [
      | inl behind ↦ elim (cases_Bool (is_at key (get_or es k no_entry))) [
        | inl at ↦
            let here : List ℕ = entry_key (get_or es n no_entry) in
            let there : List ℕ = entry_key (get_or es k no_entry) in
            let turn : cmp here key ≡ Less = sym (alike_right nat_list_cmp_total there key here (equal (cmp there key) at)) ∙ less (cmp here there) (in_turn es n k order behind lt) in
            let not_so : is_lt (cmp here key) ≡ false = not_in_front (omega (arith, behind, lt)) in
            let so : is_lt (cmp here key) ≡ true = ap is_lt turn in
            cc
        | inr not_so ↦ not_so
      ]
      | inr le ↦ let same : k ≡ n = omega (arith, le, ge) in subst (λ (m : ℕ). is_at key (get_or es m no_entry) ≡ false) (sym same) (other (omega (arith, same, lt)))
    ]
  ]

  pub missed : (n < length es → is_at key (get_or es n no_entry) ≡ false) → None ≡ position (is_at key) es
  missed other =
      let here : position_or_len (is_at key) es ≡ length es = position_or_len_is (is_at key) es (length es) no_entry (omega arith) (nowhere other) (λ lt. absurd (omega (arith, lt))) in
      rw here (rw (le-ltb (length es) (length es) (omega arith)) refl)
