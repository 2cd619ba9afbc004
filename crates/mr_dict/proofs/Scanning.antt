-- Entries of one kind stand behind one another.
use Rattle.std.proofs.Common.{◌≡◌, ℕ, zero, suc, slice_get, ◌+◌, ◌^◌, ◌<◌, ◌≤◌, List, [], ◌∷◌, ◌++◌, length, get_or, refl, ap, sym, ◌∙◌, subst, arith, Bool, true, false, nat_lt, inl, inr, Some, None}
use Rattle.std.specs.List.{prefix_len, position, position_or_len, find}
use Rattle.std.specs.declared.cmp.Ordering.{Ordering}
use Rattle.std.specs.declared.cmp.Ordering.TheVariants.{Less, Equal, Greater}
use Rattle.std.specs.Ordering.{is_lt, ordering_then}
use Rattle.std.proofs.lemmas.Bool.{cases_Bool, cases_lt, eqb-true, eq-eqb, ltb-false, lt-ltb, le-ltb}
use Rattle.std.proofs.lemmas.Cmp.{nat_list_cmp_total, tied_itself}
use Rattle.std.proofs.lemmas.List.Folds.{find_at}
use Rattle.std.proofs.lemmas.List.Sums.{position_or_len_is}
use Rattle.byteorder.specs.Endian.{big_bytes, big_number}
use Rattle.byteorder.specs.Numbers.{big_number-reads_back, length-bytes_high_first}
use Rattle.mr_iter.proofs.Newer.{same_bytes}
use Rattle.mr_dict_entry.specs.Entries.{kind_of, rest_of, kinded_key, entry_key}
use Rattle.mr_dict_entry.specs.declared.entry.DictEntry.{DictEntry}
use Rattle.mr_dict_entry.specs.declared.entry.DictEntry.TheVariants.{Table, Index, Family, Dropped, Building, Greatest, NextHidden, LastCommit}
use Rattle.mr_dict.specs.Dictionary.{is_before, are_ordered}
use Rattle.mr_dict.specs.Lookups.{is_kind, wanted_kind, is_wanted}
use Rattle.mr_dict.specs.declared.scan.Wanted.{Wanted}
use Rattle.mr_dict.specs.declared.scan.Wanted.TheVariants.{First, Numbered, Named, BuildingOn}
use Rattle.mr_dict.specs.Given.{no_entry}
use Rattle.mr_dict.proofs.Orders.{cmp, less, parts, in_turn, in_front, not_in_front}

few_kinds : (e : DictEntry) → kind_of e < 2 ^ 32
few_kinds (Table name numbers def) = omega arith
few_kinds (Index number family) = omega arith
few_kinds (Family family name) = omega arith
few_kinds (Dropped number family) = omega arith
few_kinds (Building number table key family filled) = omega arith
few_kinds (Greatest number) = omega arith
few_kinds (NextHidden number next) = omega arith
few_kinds (LastCommit commits moment) = omega arith

-- what is wanted is of its kind
pub of_its_kind : (w : Wanted) (e : DictEntry) → is_wanted w e ≡ true → kind_of e ≡ wanted_kind w
of_its_kind (First kind) e is = eqb-true (kind_of e) kind is
of_its_kind (Numbered number) (Table name numbers def) is = refl
of_its_kind (Numbered number) (Index n family) is = cc
of_its_kind (Numbered number) (Family family name) is = cc
of_its_kind (Numbered number) (Dropped n family) is = cc
of_its_kind (Numbered number) (Building n table key family filled) is = cc
of_its_kind (Numbered number) (Greatest n) is = cc
of_its_kind (Numbered number) (NextHidden n next) is = cc
of_its_kind (Numbered number) (LastCommit commits moment) is = cc
of_its_kind (Named name) (Table other numbers def) is = cc
of_its_kind (Named name) (Index n family) is = cc
of_its_kind (Named name) (Family family other) is = refl
of_its_kind (Named name) (Dropped n family) is = cc
of_its_kind (Named name) (Building n table key family filled) is = cc
of_its_kind (Named name) (Greatest n) is = cc
of_its_kind (Named name) (NextHidden n next) is = cc
of_its_kind (Named name) (LastCommit commits moment) is = cc
of_its_kind (BuildingOn table) (Table name numbers def) is = cc
of_its_kind (BuildingOn table) (Index n family) is = cc
of_its_kind (BuildingOn table) (Family family name) is = cc
of_its_kind (BuildingOn table) (Dropped n family) is = cc
of_its_kind (BuildingOn table) (Building n other key family filled) is = refl
of_its_kind (BuildingOn table) (Greatest n) is = cc
of_its_kind (BuildingOn table) (NextHidden n next) is = cc
of_its_kind (BuildingOn table) (LastCommit commits moment) is = cc

heads : (a b : ℕ) (r s : List ℕ) → cmp (kinded_key a r) (kinded_key b s) ≡ ordering_then (cmp (big_bytes 4 a) (big_bytes 4 b)) (cmp r s)
heads a b r s = parts (big_bytes 4 a) (big_bytes 4 b) r s (length-bytes_high_first 4 a ∙ sym (length-bytes_high_first 4 b))

never_less : (r : List ℕ) → is_lt (cmp r []) ≡ false
never_less [] = refl
never_less (x ∷ r) = refl

-- an entry in front of all of a kind isn't of it
pub too_early : (kind : ℕ) (e : DictEntry) → is_before (kinded_key kind []) e ≡ true → kind_of e ≡ kind → ⊥
too_early kind e before is =
    let turned : cmp (entry_key e) (kinded_key kind []) ≡ cmp (rest_of e) [] =
    heads (kind_of e) kind (rest_of e) []
    ∙ ap (λ (k : ℕ). ordering_then (cmp (big_bytes 4 k) (big_bytes 4 kind)) (cmp (rest_of e) [])) is
    ∙ ap (λ (o : Ordering). ordering_then o (cmp (rest_of e) [])) (tied_itself nat_list_cmp_total (big_bytes 4 kind)) in
    let not_so : is_lt (cmp (entry_key e) (kinded_key kind [])) ≡ false = ap is_lt turned ∙ never_less (rest_of e) in
    cc

same_kind : (a b : ℕ) → a < 2 ^ 32 → b < 2 ^ 32 → big_bytes 4 a ≡ big_bytes 4 b → a ≡ b
same_kind a b la lb same = sym (big_number-reads_back 4 a [] (omega (arith, la))) ∙ ap (λ (x : List ℕ). big_number 4 (x ++ [])) same ∙ big_number-reads_back 4 b [] (omega (arith, lb))

-- behind one that isn't of a kind any more none is of it
pub too_late : (kind : ℕ) (e f : DictEntry) → kind < 2 ^ 32 → is_before (kinded_key kind []) e ≡ false → is_kind kind e ≡ false → is_before (entry_key f) e ≡ true → kind_of f ≡ kind → ⊥
too_late kind e f few late other turn is = by (cmp (big_bytes 4 (kind_of e)) (big_bytes 4 kind)) refl
  where
    first : cmp (entry_key e) (kinded_key kind []) ≡ ordering_then (cmp (big_bytes 4 (kind_of e)) (big_bytes 4 kind)) (cmp (rest_of e) [])
    first = heads (kind_of e) kind (rest_of e) []

    second : cmp (entry_key e) (entry_key f) ≡ ordering_then (cmp (big_bytes 4 (kind_of e)) (big_bytes 4 kind)) (cmp (rest_of e) (rest_of f))
    second = heads (kind_of e) (kind_of f) (rest_of e) (rest_of f) ∙ ap (λ (k : ℕ). ordering_then (cmp (big_bytes 4 (kind_of e)) (big_bytes 4 k)) (cmp (rest_of e) (rest_of f))) is

    by : (o : Ordering) → cmp (big_bytes 4 (kind_of e)) (big_bytes 4 kind) ≡ o → ⊥
    by Less at =
        let so : is_lt (cmp (entry_key e) (kinded_key kind [])) ≡ true = ap is_lt (first ∙ ap (λ (o : Ordering). ordering_then o (cmp (rest_of e) [])) at) in
        cc
    by Equal at =
        let same : kind_of e ≡ kind = same_kind (kind_of e) kind (few_kinds e) few (same_bytes (big_bytes 4 (kind_of e)) (big_bytes 4 kind) at) in
        let so : is_kind kind e ≡ true = eq-eqb (kind_of e) kind same in
        cc
    by Greater at =
        let not_so : is_lt (cmp (entry_key e) (entry_key f)) ≡ false = ap is_lt (second ∙ ap (λ (o : Ordering). ordering_then o (cmp (rest_of e) (rest_of f))) at) in
        cc

-- none of those in front is wanted
abbrev pub NoneBefore : Wanted → List DictEntry → ℕ → Type 0
NoneBefore w es at = (k : ℕ) → k < at → is_wanted w (get_or es k no_entry) ≡ false

not_wanted : (w : Wanted) (e : DictEntry) → (kind_of e ≡ wanted_kind w → ⊥) → is_wanted w e ≡ false
not_wanted w e other = elim (cases_Bool (is_wanted w e)) [
  | inl so ↦ absurd (other (of_its_kind w e so))
  | inr not_so ↦ not_so
]

module _ (w : Wanted) (es : List DictEntry) (from : ℕ) (order : are_ordered es ≡ true) (is : from ≡ prefix_len (is_before (kinded_key (wanted_kind w) [])) es) where
  pub none_early : NoneBefore w es from
  none_early k lt = not_wanted w (get_or es k no_entry) (too_early (wanted_kind w) (get_or es k no_entry) (in_front (kinded_key (wanted_kind w) []) es from order is k lt))

  -- where the entries of the kind end
  pub ends : (at : ℕ) → wanted_kind w < 2 ^ 32 → from ≤ at → at < length es → is_kind (wanted_kind w) (get_or es at no_entry) ≡ false → NoneBefore w es at → NoneBefore w es (length es)
  ends at few le within other none k lt = elim (cases_lt k at) [
    | inl before ↦ none k before
    | inr ge ↦ not_wanted w (get_or es k no_entry) (λ same. here k lt ge same)
  ]
    where
      late : is_before (kinded_key (wanted_kind w) []) (get_or es at no_entry) ≡ false
      late = elim (cases_Bool (is_before (kinded_key (wanted_kind w) []) (get_or es at no_entry))) [
        | inl so ↦ absurd (first_late so)
        | inr not_so ↦ not_so
      ]
        where
          first_late : is_before (kinded_key (wanted_kind w) []) (get_or es at no_entry) ≡ true → ⊥
          first_late so = elim (cases_lt from at) [
            | inl lt ↦
                let turn : is_before (entry_key (get_or es at no_entry)) (get_or es from no_entry) ≡ true = in_turn es from at order lt within in
                let down : is_lt (cmp (entry_key (get_or es from no_entry)) (kinded_key (wanted_kind w) [])) ≡ true = Rattle.mr_dict.proofs.Orders.chain (entry_key (get_or es from no_entry)) (entry_key (get_or es at no_entry)) (kinded_key (wanted_kind w) []) turn so in
                let not_so : is_before (kinded_key (wanted_kind w) []) (get_or es from no_entry) ≡ false = not_in_front (kinded_key (wanted_kind w) []) es from order is (omega (arith, lt, within)) in
                cc
            | inr ge ↦
                let same : at ≡ from = omega (arith, ge, le) in
                let not_so : is_before (kinded_key (wanted_kind w) []) (get_or es at no_entry) ≡ false = subst (λ (m : ℕ). is_before (kinded_key (wanted_kind w) []) (get_or es m no_entry) ≡ false) (sym same) (not_in_front (kinded_key (wanted_kind w) []) es from order is (omega (arith, same, within))) in
                cc
          ]

      here : (k : ℕ) → k < length es → at ≤ k → kind_of (get_or es k no_entry) ≡ wanted_kind w → ⊥
      here k lt ge same = elim (cases_lt at k) [
        | inl behind ↦ too_late (wanted_kind w) (get_or es at no_entry) (get_or es k no_entry) few late other (in_turn es at k order behind lt) same
        | inr le ↦
            let eq : k ≡ at = omega (arith, le, ge) in
            let so : is_kind (wanted_kind w) (get_or es at no_entry) ≡ true = eq-eqb (kind_of (get_or es at no_entry)) (wanted_kind w) (ap (λ (m : ℕ). kind_of (get_or es m no_entry)) (sym eq) ∙ same) in
            cc
      ]

pub found_at : (w : Wanted) (es : List DictEntry) (at : ℕ) → at < length es → NoneBefore w es at → is_wanted w (get_or es at no_entry) ≡ true → Some at ≡ position (is_wanted w) es
found_at w es at lt none so =
    let here : position_or_len (is_wanted w) es ≡ at = position_or_len_is (is_wanted w) es at no_entry (omega (arith, lt)) none (λ within. so) in
    rw here (rw (lt-ltb at (length es) lt) refl)

pub found_none : (w : Wanted) (es : List DictEntry) → NoneBefore w es (length es) → None ≡ position (is_wanted w) es
found_none w es none =
    let here : position_or_len (is_wanted w) es ≡ length es = position_or_len_is (is_wanted w) es (length es) no_entry (omega arith) none (λ lt. absurd (omega (arith, lt))) in
    rw here (rw (le-ltb (length es) (length es) (omega arith)) refl)

pub one_more_none : (w : Wanted) (es : List DictEntry) (at : ℕ) → NoneBefore w es at → is_wanted w (get_or es at no_entry) ≡ false → NoneBefore w es (at + 1)
one_more_none w es at none here k lt = elim (cases_lt k at) [
  | inl before ↦ none k before
  | inr ge ↦ let same : k ≡ at = omega (arith, lt, ge) in subst (λ (m : ℕ). is_wanted w (get_or es m no_entry) ≡ false) (sym same) here
]

pub none_up_to : (w : Wanted) (es : List DictEntry) (at : ℕ) → NoneBefore w es at → length es ≤ at → NoneBefore w es (length es)
none_up_to w es at none over k lt = none k (omega (arith, lt, over))

-- ---- the entry at its place

pub told : (p : DictEntry → Bool) (es : List DictEntry) (at : ℕ) (e : DictEntry) → Some at ≡ position p es → slice_get es at ≡ Some e → Some e ≡ find p es
told p es at e is here = sym here ∙ ap (slice_get es) (at_position p es at (sym is)) ∙ sym (find_at p es)
  where
    at_position : (p : DictEntry → Bool) (es : List DictEntry) (at : ℕ) → position p es ≡ Some at → at ≡ position_or_len p es
    at_position p es at is = elim (cases_Bool (nat_lt (position_or_len p es) (length es))) [
      | inl lt ↦ let same : Some (position_or_len p es) ≡ Some at = rw lt at is in cc
      | inr ge ↦ let other : None ≡ Some at = rw ge at is in cc
    ]

pub not_told : (p : DictEntry → Bool) (es : List DictEntry) → None ≡ position p es → None ≡ find p es
not_told p es is = elim (cases_Bool (nat_lt (position_or_len p es) (length es))) [
  | inl lt ↦ let other : None ≡ Some (position_or_len p es) = rw lt at is in cc
  | inr ge ↦ sym (find_at p es ∙ past es (position_or_len p es) (ltb-false (position_or_len p es) (length es) ge))
]
  where
    past : (es : List DictEntry) (n : ℕ) → length es ≤ n → slice_get es n ≡ None
    past [] n le = refl
    past (e ∷ es) zero le = absurd (omega (arith, le))
    past (e ∷ es) (suc n) le = past es n (omega (arith, le))
