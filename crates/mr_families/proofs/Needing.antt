-- What families need for a batch, and room for it.
use Rattle.std.proofs.Common.{◌≡◌, ◌≢◌, ◌==◌, ℕ, zero, suc, ◌+◌, ◌<◌, ◌≤◌, if◌then◌else◌, Bool, true, false, List, [], ◌∷◌, ◌++◌, length, length-set, get_or, set, refl, sym, ◌∙◌, ap, subst, inl, inr, arith}
use Rattle.std.proofs.lemmas.Bool.{cases_Bool}
use Rattle.std.proofs.lemmas.Bool.Decides.{nat_tests}
use Rattle.std.proofs.lemmas.List.{length-map, get_or_read, get_or-set_same, get_or-set_other}
use Rattle.mr_wal.specs.declared.operation.Operation.{Operation}
use Rattle.mr_families.specs.declared.numbered.Numbered.{Numbered}
use Rattle.mr_families.specs.declared.need.Need.{Need}
use Rattle.mr_families.specs.Known.{family_at, numbers, is_known, one_at, AreAscending, IsAt, IsGapFor}
use Rattle.mr_families.specs.Changed.{without_room, SameButRooms}
use Rattle.mr_families.specs.Batches.{size_of, entries_for, bytes_for, AreKnown, AreAwaited}
use Rattle.mr_families.specs.Rooms.{no_need, need_at, IsNeed, AreNeeds, HasRoom}
use Rattle.mr_families.proofs.Numbering.{number_at, same_of, differ, gap_is_nowhere, numbers-set, each-set}
use Rattle.mr_families.proofs.Batched.{entries-append, bytes-append, entries_own, bytes_own, entries_other, bytes_other}

-- ---- what is needed

one_more_need : (f : ℕ) (os : List Operation) (o : Operation) (x y : Need) → o.family ≡ f → y.entries ≡ x.entries + 1 → y.bytes ≡ x.bytes + size_of o → IsNeed f os x → IsNeed f (os ++ o ∷ []) y
one_more_need f os o x y own entries bytes is = record {
  entries = omega (arith, entries, is.entries, entries-append f os (o ∷ []), entries_own f o own);
  bytes = omega (arith, bytes, is.bytes, bytes-append f os (o ∷ []), bytes_own f o own);
}

same_need : (f : ℕ) (os : List Operation) (o : Operation) (x : Need) → (o.family == f) ≡ false → IsNeed f os x → IsNeed f (os ++ o ∷ []) x
same_need f os o x other is = record {
  entries = omega (arith, is.entries, entries-append f os (o ∷ []), entries_other f o other);
  bytes = omega (arith, is.bytes, bytes-append f os (o ∷ []), bytes_other f o other);
}

pub not_counted : (ns : List Numbered) (os : List Operation) (o : Operation) (needs : List Need) (i : ℕ) → IsGapFor ns o.family i → AreNeeds ns os needs → AreNeeds ns (os ++ o ∷ []) needs
not_counted ns os o needs i gap are = record {
  as_many = are.as_many;
  each = λ j lt. same_need (number_at ns j) os o (need_at needs j) (differ o.family (number_at ns j) (λ e. gap_is_nowhere ns o.family i gap j lt (sym e))) (are.each j lt);
}

pub counted : (ns : List Numbered) (os : List Operation) (o : Operation) (needs : List Need) (i : ℕ) (x y : Need) → AreAscending ns → IsAt ns o.family i → length needs ≡ length ns → x ≡ get_or needs i x → y.entries ≡ x.entries + 1 → y.bytes ≡ x.bytes + size_of o → AreNeeds ns os needs → AreNeeds ns (os ++ o ∷ []) (set needs i y)
counted ns os o needs i x y rising here as_many is entries bytes are = record { as_many = length-set needs i y ∙ as_many; each = each }
  where
    within : i < length needs
    within = omega (arith, here.in_range, as_many)

    read : x ≡ need_at needs i
    read = get_or_read needs i x within is no_need

    own : IsNeed (number_at ns i) os x
    own = subst (IsNeed (number_at ns i) os) (sym read) (are.each i here.in_range)

    apart : (j : ℕ) → j < length ns → j ≢ i → number_at ns j ≢ o.family
    apart j lt ne same = grind (arith, rising i j, rising j i, here.has_number, here.in_range, same)

    each : (j : ℕ) → j < length ns → IsNeed (number_at ns j) (os ++ o ∷ []) (need_at (set needs i y) j)
    each j lt = elim (cases_Bool (j == i)) [
      | inl at ↦
          subst (λ (k : ℕ). IsNeed (number_at ns k) (os ++ o ∷ []) (need_at (set needs i y) k)) (sym (same_of j i at))
          (subst (IsNeed (number_at ns i) (os ++ o ∷ [])) (sym (get_or-set_same needs i y no_need within)) (one_more_need (number_at ns i) os o x y (sym here.has_number) entries bytes own))
      | inr other ↦
          let ne : j ≢ i = grind (arith, nat_tests, other) in
          subst (IsNeed (number_at ns j) (os ++ o ∷ [])) (sym (get_or-set_other needs i j y no_need ne)) (same_need (number_at ns j) os o (need_at needs j) (differ o.family (number_at ns j) (λ e. apart j lt ne (sym e))) (are.each j lt))
    ]

-- ---- nothing but rooms

pub number_read : (ns : List Numbered) (j : ℕ) → get_or (numbers ns) j 0 ≡ number_at ns j
number_read [] j = refl
number_read (n ∷ ns) zero = refl
number_read (n ∷ ns) (suc j) = number_read ns j

pub number_by : (a b : List Numbered) → numbers b ≡ numbers a → (j : ℕ) → number_at b j ≡ number_at a j
number_by a b same j = sym (number_read b j) ∙ ap (λ (ks : List ℕ). get_or ks j 0) same ∙ number_read a j

pub as_many_by : (a b : List Numbered) → numbers b ≡ numbers a → length b ≡ length a
as_many_by a b same = sym (length-map b (λ (n : Numbered). n.number)) ∙ ap length same ∙ length-map a (λ (n : Numbered). n.number)

pub rooms_same : (ns : List Numbered) → SameButRooms ns ns
rooms_same ns = record { listed = refl; families = λ f. refl }

pub rooms_then : (a b c : List Numbered) → SameButRooms a b → SameButRooms b c → SameButRooms a c
rooms_then a b c first second = record { listed = second.listed ∙ first.listed; families = λ f. second.families f ∙ first.families f }

pub rooms_at : (ns : List Numbered) (i : ℕ) (x m : Numbered) → AreAscending ns → i < length ns → x ≡ one_at ns i → m.number ≡ x.number → without_room m.family ≡ without_room x.family → SameButRooms ns (set ns i m)
rooms_at ns i x m rising lt read number room = record {
  listed = numbers-set ns i m same;
  families = each-set (λ f y z. without_room z ≡ without_room y) ns i m rising lt same (λ f y other. refl) (room ∙ ap (λ (y : Numbered). without_room y.family) read);
}
  where
    same : m.number ≡ number_at ns i
    same = number ∙ ap (λ (y : Numbered). y.number) read

-- ---- room in each

not_for : (ns : List Numbered) (f : ℕ) (o : Operation) → is_known ns o.family ≡ true → is_known ns f ≡ false → (o.family == f) ≡ false
not_for ns f o known not_so = differ o.family f (λ e. let low : is_known ns o.family ≡ false = subst (λ (k : ℕ). is_known ns k ≡ false) (sym e) not_so in cc)

no_entries : (ns : List Numbered) (f : ℕ) (os : List Operation) → AreKnown ns os → is_known ns f ≡ false → entries_for f os ≡ 0
no_entries ns f [] known not_so = refl
no_entries ns f (o ∷ os) known not_so = rw (not_for ns f o known.0 not_so) (omega (arith, no_entries ns f os known.1 not_so))

no_bytes : (ns : List Numbered) (f : ℕ) (os : List Operation) → AreKnown ns os → is_known ns f ≡ false → bytes_for f os ≡ 0
no_bytes ns f [] known not_so = refl
no_bytes ns f (o ∷ os) known not_so = rw (not_for ns f o known.0 not_so) (omega (arith, no_bytes ns f os known.1 not_so))

room_of : (os : List Operation) (ns : List Numbered) (f : ℕ) → ((j : ℕ) → j < length ns → HasRoom os (one_at ns j)) → is_known ns f ≡ true → (entries_for f os ≤ (family_at ns f).memtable.entries) × (bytes_for f os ≤ (family_at ns f).memtable.bytes)
room_of os [] f each known = cc
room_of os (n ∷ ns) f each known = elim (cases_Bool (n.number == f)) [
  | inl is ↦
      let own : HasRoom os n = each 0 (omega arith) in
      let e : n.number ≡ f = same_of n.number f is in
      rw is (subst (λ (k : ℕ). entries_for k os ≤ n.family.memtable.entries) e own.entries, subst (λ (k : ℕ). bytes_for k os ≤ n.family.memtable.bytes) e own.bytes)
  | inr other ↦
      let known' : is_known ns f ≡ true = subst (λ (b : Bool). (if b then true else is_known ns f) ≡ true) other known in
      rw other (room_of os ns f (λ j lt. each (suc j) (omega (arith, lt))) known')
]

pub awaited_in : (os : List Operation) (ns : List Numbered) → AreKnown ns os → ((j : ℕ) → j < length ns → HasRoom os (one_at ns j)) → AreAwaited ns os
awaited_in os ns known each = record {
  known = known;
  entries = λ f. elim (cases_Bool (is_known ns f)) [
    | inl is ↦ (room_of os ns f each is).0
    | inr other ↦ omega (arith, no_entries ns f os known other)
  ];
  bytes = λ f. elim (cases_Bool (is_known ns f)) [
    | inl is ↦ (room_of os ns f each is).1
    | inr other ↦ omega (arith, no_bytes ns f os known other)
  ];
}

-- ---- the next one gets its room

pub need_read : (ns : List Numbered) (os : List Operation) (needs : List Need) (i : ℕ) (need : Need) (now : List Numbered) → numbers now ≡ numbers ns → i < length ns → need ≡ get_or needs i need → AreNeeds ns os needs → IsNeed (number_at now i) os need
need_read ns os needs i need now same lt is are =
    let read : need ≡ need_at needs i = get_or_read needs i need (omega (arith, lt, are.as_many)) is no_need in
    subst (λ (k : ℕ). IsNeed k os need) (sym (number_by ns now same i)) (subst (IsNeed (number_at ns i) os) (sym read) (are.each i lt))

pub rooms_more : (os : List Operation) (old new : List Numbered) (i : ℕ) → ((j : ℕ) → j ≢ i → one_at new j ≡ one_at old j) → ((j : ℕ) → j < i → HasRoom os (one_at old j)) → HasRoom os (one_at new i) → (j : ℕ) → j < i + 1 → HasRoom os (one_at new j)
rooms_more os old new i others before here j lt = elim (cases_Bool (j == i)) [
  | inl at ↦ subst (λ (k : ℕ). HasRoom os (one_at new k)) (sym (same_of j i at)) here
  | inr other ↦
      let ne : j ≢ i = grind (arith, nat_tests, other) in
      subst (HasRoom os) (sym (others j ne)) (before j (omega (arith, lt, ne)))
]
