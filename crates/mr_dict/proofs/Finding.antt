-- What is found under a key once an entry was put in or taken out.
use Rattle.std.proofs.Common.{◌≡◌, ℕ, zero, suc, ◌<◌, List, [], ◌∷◌, length, get_or, remove, refl, ap, ◌∙◌, arith, true, false, cond, inl, inr, Option, Some, None}
use Rattle.std.specs.List.{list_all}
use Rattle.std.specs.Ordering.{is_eq}
use Rattle.std.proofs.lemmas.Bool.{cases_Bool}
use Rattle.std.proofs.lemmas.Cmp.{nat_list_cmp_total, tied_itself, tied_back}
use Rattle.mr_iter.proofs.Newer.{same_bytes}
use Rattle.mr_dict_entry.specs.Entries.{entry_key}
use Rattle.mr_dict_entry.specs.declared.entry.DictEntry.{DictEntry}
use Rattle.mr_dict.specs.Dictionary.{is_before, is_at, are_ordered, put_in, entry_of}
use Rattle.mr_dict.specs.Promises.{PutIsFound, RemovedIsGone}
use Rattle.mr_dict.specs.Given.{no_entry}
use Rattle.mr_dict.proofs.Orders.{and_split, cmp, equal, not_both}
use Rattle.mr_dict.proofs.Putting.{put_ordered, removed_ordered}

at_itself : (e : DictEntry) → is_at (entry_key e) e ≡ true
at_itself e = ap is_eq (tied_itself nat_list_cmp_total (entry_key e))

put_found : (e : DictEntry) (es : List DictEntry) → entry_of (entry_key e) (put_in e es) ≡ Some e
put_found e [] = rw (at_itself e) refl
put_found e (f ∷ fs) = elim (cases_Bool (is_before (entry_key e) f)) [
  | inl before ↦ rw before (rw (not_both (cmp (entry_key f) (entry_key e)) before) (put_found e fs))
  | inr behind ↦ rw behind (elim (cases_Bool (is_at (entry_key e) f)) [
    | inl at ↦ rw at (rw (at_itself e) refl)
    | inr apart ↦ rw apart (rw (at_itself e) refl)
  ])
]

-- entries of one key are found alike
same_key : (e f : DictEntry) (key : List ℕ) → is_at (entry_key e) f ≡ true → is_at key e ≡ false → is_at key f ≡ false
same_key e f key at other = ap (λ (k : List ℕ). is_eq (cmp k key)) (same_bytes (entry_key f) (entry_key e) (equal (cmp (entry_key f) (entry_key e)) at)) ∙ other

others_stay : (e : DictEntry) (es : List DictEntry) (key : List ℕ) → is_at key e ≡ false → entry_of key (put_in e es) ≡ entry_of key es
others_stay e [] key other = rw other refl
others_stay e (f ∷ fs) key other = elim (cases_Bool (is_before (entry_key e) f)) [
  | inl before ↦ rw before (ap (λ (o : Option DictEntry). cond (is_at key f) (Some f) o) (others_stay e fs key other))
  | inr behind ↦ rw behind (elim (cases_Bool (is_at (entry_key e) f)) [
    | inl at ↦ rw at (rw (other, same_key e f key at other) refl)
    | inr apart ↦ rw apart (rw other refl)
  ])
]

pub put_finds : (e : DictEntry) (es : List DictEntry) → PutIsFound e es
put_finds e es = record { found = put_found e es; others = others_stay e es; ordered = put_ordered e es }

-- no entry behind one has its key
none_behind : (e : DictEntry) (es : List DictEntry) → list_all (λ f. is_before (entry_key f) e) es ≡ true → entry_of (entry_key e) es ≡ None
none_behind e [] all = refl
none_behind e (f ∷ fs) all =
    let each = and_split (is_before (entry_key f) e) (list_all (λ g. is_before (entry_key g) e) fs) all in
    let apart : is_at (entry_key e) f ≡ false = elim (cases_Bool (is_at (entry_key e) f)) [
      | inl at ↦
          let back : is_eq (cmp (entry_key e) (entry_key f)) ≡ true = ap is_eq (tied_back nat_list_cmp_total (entry_key f) (entry_key e) (equal (cmp (entry_key f) (entry_key e)) at)) in
          let apart : is_eq (cmp (entry_key e) (entry_key f)) ≡ false = not_both (cmp (entry_key e) (entry_key f)) each.0 in
          cc
      | inr other ↦ other
    ] in
    rw apart (none_behind e fs each.1)

-- an entry in front has another key
one_in_front : (e : DictEntry) (es : List DictEntry) (n : ℕ) → list_all (λ f. is_before (entry_key f) e) es ≡ true → n < length es → is_at (entry_key (get_or es n no_entry)) e ≡ false
one_in_front e [] n all lt = absurd (omega (arith, lt))
one_in_front e (f ∷ fs) zero all lt = not_both (cmp (entry_key e) (entry_key f)) (and_split (is_before (entry_key f) e) (list_all (λ g. is_before (entry_key g) e) fs) all).0
one_in_front e (f ∷ fs) (suc n) all lt = one_in_front e fs n (and_split (is_before (entry_key f) e) (list_all (λ g. is_before (entry_key g) e) fs) all).1 (omega (arith, lt))

gone : (es : List DictEntry) (at : ℕ) → are_ordered es ≡ true → at < length es → entry_of (entry_key (get_or es at no_entry)) (remove es at) ≡ None
gone [] at order lt = absurd (omega (arith, lt))
gone (e ∷ es) zero order lt = none_behind e es (and_split (list_all (λ f. is_before (entry_key f) e) es) (are_ordered es) order).0
gone (e ∷ es) (suc n) order lt =
    let each = and_split (list_all (λ f. is_before (entry_key f) e) es) (are_ordered es) order in
    rw (one_in_front e es n each.0 (omega (arith, lt))) (gone es n each.1 (omega (arith, lt)))

others_left : (es : List DictEntry) (at : ℕ) (key : List ℕ) → is_at key (get_or es at no_entry) ≡ false → entry_of key (remove es at) ≡ entry_of key es
others_left [] zero key other = refl
others_left [] (suc n) key other = refl
others_left (e ∷ es) zero key other = rw other refl
others_left (e ∷ es) (suc n) key other = ap (λ (o : Option DictEntry). cond (is_at key e) (Some e) o) (others_left es n key other)

pub removed_lacks : (at : ℕ) (es : List DictEntry) → RemovedIsGone at es
removed_lacks at es = record { gone = gone es at; others = others_left es at; ordered = removed_ordered es at }
