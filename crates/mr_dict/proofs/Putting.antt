-- An entry put among others at its place, and one taken out, leave them in order.
use Rattle.std.proofs.Common.{◌≡◌, ℕ, zero, suc, ◌+◌, ◌<◌, List, [], ◌∷◌, length, get_or, refl, ap, sym, ◌∙◌, arith, Bool, true, false, cond, inl, inr, Result, Ok, Err, OnOk, OnErr}
use Rattle.std.specs.List.{list_all, prefix_len, insert, remove}
use Rattle.std.specs.declared.cmp.Ordering.{Ordering}
use Rattle.std.specs.declared.cmp.Ordering.TheVariants.{Less, Equal, Greater}
use Rattle.std.specs.Ordering.{is_lt, is_eq, ordering_reverse}
use Rattle.std.proofs.Common.{set}
use Rattle.std.proofs.lemmas.Bool.{cases_Bool}
use Rattle.std.proofs.lemmas.Cmp.{nat_list_cmp_total}
use Rattle.mr_dict_entry.specs.Entries.{entry_key}
use Rattle.mr_dict_entry.specs.declared.entry.DictEntry.{DictEntry}
use Rattle.mr_dict.specs.Dictionary.{is_before, is_at, are_ordered, put_in}
use Rattle.mr_dict.specs.Given.{no_entry}
use Rattle.mr_dict.proofs.Orders.{and_split, and_join, less, equal, cmp, chain}

-- ---- at the place of a key

counts_no : (b : Bool) (m n : ℕ) → b ≡ false → n ≡ cond b (1 + m) 0 → n ≡ 0
counts_no true m n not_so is = cc
counts_no false m n not_so is = is

counts_yes : (b : Bool) (m n : ℕ) → b ≡ true → n ≡ cond b (1 + m) 0 → n ≡ suc m
counts_yes true m n so is = omega (arith, is)
counts_yes false m n so is = cc

pub put_over : (e : DictEntry) (es : List DictEntry) (n : ℕ) → n ≡ prefix_len (is_before (entry_key e)) es → n < length es → is_at (entry_key e) (get_or es n no_entry) ≡ true → set es n e ≡ put_in e es
put_over e [] n is lt at = absurd (omega (arith, lt))
put_over e (f ∷ fs) zero is lt at = elim (cases_Bool (is_before (entry_key e) f)) [
  | inl so ↦ let not_so : 0 ≡ suc (prefix_len (is_before (entry_key e)) fs) = counts_yes (is_before (entry_key e) f) (prefix_len (is_before (entry_key e)) fs) 0 so is in absurd (omega (arith, not_so))
  | inr not_so ↦ rw not_so (rw at refl)
]
put_over e (f ∷ fs) (suc n) is lt at = elim (cases_Bool (is_before (entry_key e) f)) [
  | inl so ↦ let more : suc n ≡ suc (prefix_len (is_before (entry_key e)) fs) = counts_yes (is_before (entry_key e) f) (prefix_len (is_before (entry_key e)) fs) (suc n) so is in
      rw so (ap (λ (gs : List DictEntry). f ∷ gs) (put_over e fs n (omega (arith, more)) (omega (arith, lt)) at))
  | inr not_so ↦ let none : suc n ≡ 0 = counts_no (is_before (entry_key e) f) (prefix_len (is_before (entry_key e)) fs) (suc n) not_so is in absurd (omega (arith, none))
]

pub put_new : (e : DictEntry) (es : List DictEntry) (n : ℕ) → n ≡ prefix_len (is_before (entry_key e)) es → (n < length es → is_at (entry_key e) (get_or es n no_entry) ≡ false) → insert es n e ≡ put_in e es
put_new e [] zero is other = refl
put_new e [] (suc n) is other = absurd (omega (arith, is))
put_new e (f ∷ fs) zero is other = elim (cases_Bool (is_before (entry_key e) f)) [
  | inl so ↦ let not_so : 0 ≡ suc (prefix_len (is_before (entry_key e)) fs) = counts_yes (is_before (entry_key e) f) (prefix_len (is_before (entry_key e)) fs) 0 so is in absurd (omega (arith, not_so))
  | inr not_so ↦ rw not_so (rw (other (omega arith)) refl)
]
put_new e (f ∷ fs) (suc n) is other = elim (cases_Bool (is_before (entry_key e) f)) [
  | inl so ↦ let more : suc n ≡ suc (prefix_len (is_before (entry_key e)) fs) = counts_yes (is_before (entry_key e) f) (prefix_len (is_before (entry_key e)) fs) (suc n) so is in
      rw so (ap (λ (gs : List DictEntry). f ∷ gs) (put_new e fs n (omega (arith, more)) (λ lt. other (omega (arith, lt)))))
  | inr not_so ↦ let none : suc n ≡ 0 = counts_no (is_before (entry_key e) f) (prefix_len (is_before (entry_key e)) fs) (suc n) not_so is in absurd (omega (arith, none))
]

-- ---- in order

all_put : (p : DictEntry → Bool) (e : DictEntry) (es : List DictEntry) → p e ≡ true → list_all p es ≡ true → list_all p (put_in e es) ≡ true
all_put p e [] here all = and_join (p e) true here refl
all_put p e (f ∷ fs) here all =
    let each = and_split (p f) (list_all p fs) all in
    elim (is_before (entry_key e) f) as (λ b. list_all p (cond b (f ∷ put_in e fs) (cond (is_at (entry_key e) f) (e ∷ fs) (e ∷ f ∷ fs))) ≡ true) [
      | true ↦ and_join (p f) (list_all p (put_in e fs)) each.0 (all_put p e fs here each.1)
      | false ↦ elim (is_at (entry_key e) f) as (λ b. list_all p (cond b (e ∷ fs) (e ∷ f ∷ fs)) ≡ true) [
        | true ↦ and_join (p e) (list_all p fs) here each.1
        | false ↦ and_join (p e) (list_all p (f ∷ fs)) here all
      ]
    ]

all_weaker : (p q : DictEntry → Bool) (es : List DictEntry) → ((e : DictEntry) → p e ≡ true → q e ≡ true) → list_all p es ≡ true → list_all q es ≡ true
all_weaker p q [] go all = refl
all_weaker p q (e ∷ es) go all = let each = and_split (p e) (list_all p es) all in and_join (q e) (list_all q es) (go e each.0) (all_weaker p q es go each.1)

-- of two different keys one comes before the other
other_way : (a b : List ℕ) → is_lt (cmp a b) ≡ false → is_eq (cmp a b) ≡ false → is_lt (cmp b a) ≡ true
other_way a b no_lt no_eq = by (cmp a b) (cmp b a) (nat_list_cmp_total.antisymm b a) no_lt no_eq
  where
    by : (x y : Ordering) → y ≡ ordering_reverse x → is_lt x ≡ false → is_eq x ≡ false → is_lt y ≡ true
    by Less y e l q = cc
    by Equal y e l q = cc
    by Greater y e l q = ap is_lt e

-- what comes behind a key comes behind an equal one
alike : (a b c : List ℕ) → is_eq (cmp a b) ≡ true → is_lt (cmp a c) ≡ true → is_lt (cmp b c) ≡ true
alike a b c same lt = ap is_lt (sym (nat_list_cmp_total.congr a b c (equal (cmp a b) same)) ∙ less (cmp a c) lt)

pub put_ordered : (e : DictEntry) (es : List DictEntry) → are_ordered es ≡ true → are_ordered (put_in e es) ≡ true
put_ordered e [] order = refl
put_ordered e (f ∷ fs) order =
    let each = and_split (list_all (λ g. is_before (entry_key g) f) fs) (are_ordered fs) order in
    elim (cases_Bool (is_before (entry_key e) f)) [
      | inl so ↦ rw so (and_join (list_all (λ g. is_before (entry_key g) f) (put_in e fs)) (are_ordered (put_in e fs)) (all_put (λ g. is_before (entry_key g) f) e fs so each.0) (put_ordered e fs each.1))
      | inr not_so ↦ rw not_so (elim (cases_Bool (is_at (entry_key e) f)) [
        | inl at ↦ rw at (and_join (list_all (λ g. is_before (entry_key g) e) fs) (are_ordered fs)
            (all_weaker (λ g. is_before (entry_key g) f) (λ g. is_before (entry_key g) e) fs (λ g lt. alike (entry_key f) (entry_key e) (entry_key g) at lt) each.0) each.1)
        | inr apart ↦ rw apart (
            let before : is_before (entry_key f) e ≡ true = other_way (entry_key f) (entry_key e) not_so apart in
            and_join (list_all (λ g. is_before (entry_key g) e) (f ∷ fs)) (are_ordered (f ∷ fs))
            (and_join (is_before (entry_key f) e) (list_all (λ g. is_before (entry_key g) e) fs) before
            (all_weaker (λ g. is_before (entry_key g) f) (λ g. is_before (entry_key g) e) fs (λ g lt. chain (entry_key e) (entry_key f) (entry_key g) before lt) each.0)) order)
      ])
    ]

all_removed : (p : DictEntry → Bool) (es : List DictEntry) (n : ℕ) → list_all p es ≡ true → list_all p (remove es n) ≡ true
all_removed p [] zero all = refl
all_removed p [] (suc n) all = refl
all_removed p (e ∷ es) zero all = (and_split (p e) (list_all p es) all).1
all_removed p (e ∷ es) (suc n) all = let each = and_split (p e) (list_all p es) all in and_join (p e) (list_all p (remove es n)) each.0 (all_removed p es n each.1)

pub removed_ordered : (es : List DictEntry) (n : ℕ) → are_ordered es ≡ true → are_ordered (remove es n) ≡ true
removed_ordered [] zero order = refl
removed_ordered [] (suc n) order = refl
removed_ordered (e ∷ es) zero order = (and_split (list_all (λ f. is_before (entry_key f) e) es) (are_ordered es) order).1
removed_ordered (e ∷ es) (suc n) order =
    let each = and_split (list_all (λ f. is_before (entry_key f) e) es) (are_ordered es) order in
    and_join (list_all (λ f. is_before (entry_key f) e) (remove es n)) (are_ordered (remove es n)) (all_removed (λ f. is_before (entry_key f) e) es n each.0) (removed_ordered es n each.1)

-- ---- what a call answered

pub on_ok : {A E : Type 0} (r : Result A E) (P Q : Type 0) → (P → Q) → OnOk r P → OnOk r Q
on_ok (Ok x) P Q go is = go is
on_ok (Err e) P Q go is = tt

pub by_answer : {A E : Type 0} (r : Result A E) (P Q G : Type 0) → OnOk r P → OnErr r Q → (P → G) → (Q → G) → G
by_answer (Ok x) P Q G done failed on_done on_failed = on_done done
by_answer (Err e) P Q G done failed on_done on_failed = on_failed failed
