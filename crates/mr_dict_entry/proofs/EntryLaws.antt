-- Entries are read from their keys and values, and from nothing else.
use Rattle.std.proofs.Common.{◌≡◌, ℕ, suc, ◌+◌, ◌-◌, ◌^◌, ◌<◌, ◌≤◌, List, [], ◌∷◌, ◌++◌, length, drop, refl, ap, sym, ◌∙◌, subst, arith, Bool, true, false, cond, nat_lt, inl, inr, Option, Some, None, Result, Ok, Err, IfOk}
use Rattle.std.specs.List.{list_all, AllByRecursion}
use Rattle.std.proofs.lemmas.Bool.{cases_Bool, ltb-false, lt-ltb, le-ltb}
use Rattle.std.proofs.lemmas.List.{drop_all}
use Rattle.byteorder.specs.Endian.{big_bytes, big_number}
use Rattle.byteorder.specs.Numbers.{big_number-reads_back, length-bytes_high_first}
use Rattle.mr_types.specs.declared.definition.IndexDef.{IndexDef}
use Rattle.mr_types.specs.declared.definition.TableDef.{TableDef}
use Rattle.mr_types.specs.Refusals.{◌>>=◌}
use Rattle.mr_spec.specs.RowForm.{text16_bytes}
use Rattle.mr_fields.specs.Fields.{is_byte, is_name, is_any, number_in, name_bytes, name_in, text16_in, listed_bytes, ended}
use Rattle.mr_fields.proofs.Reading.{IsRead, Front, both, by_mark, last}
use Rattle.mr_fields.proofs.FieldLaws.{Number as IsNumber, number_only, number_back, name_only, name_back, text16_only, text16_back}
use Rattle.mr_schema.specs.DefinitionForm.{key_bytes, key_in, definition_bytes}
use Rattle.mr_schema.proofs.DefinitionLaws.{key_only, key_back}
use Rattle.mr_dict_entry.specs.declared.entry.DictEntry.{DictEntry}
use Rattle.mr_dict_entry.specs.declared.entry.DictEntry.TheVariants.{Table, Index, Family, Dropped, Building, Greatest, NextHidden, LastCommit}
use Rattle.mr_dict_entry.specs.Entries.{kind_of, rest_of, kinded_key, entry_key, entry_value, lone_number_in, is_table_name, is_family_name, numbered_in, table_of, table_in, index_in, family_in, dropped_in, building_in, greatest_in, next_hidden_in, last_commit_in, kinded_in, entry_in, placed_in, reads_entry}
use Rattle.mr_dict_entry.specs.EntryFitting.{TableFits, EntryFits, NumbersFit}
use Rattle.mr_dict_entry.specs.Given.{ReadsBack}
use Rattle.mr_dict_entry.proofs.TableLaws.{no_end, then_ok, in_front, is_long, behind_it, IsTable, numbered_only, numbered_back, named_back}

-- ---- lone numbers

abbrev IsLone : ℕ → List ℕ → ℕ → Type 0
IsLone n s x = s ≡ big_bytes n x

lone_only : (n behind : ℕ) (s : List ℕ) → list_all is_byte s ≡ true → IfOk (lone_number_in n behind s) (IsLone n s)
lone_only n behind s e = elim (cases_Bool (nat_lt (length s) n)) [
  | inl short ↦ rw short tt
  | inr long ↦ rw long (elim (cases_Bool (nat_lt n (length s))) [
    | inl more ↦ rw more tt
    | inr all ↦ rw all (exact long all)
  ])
]
  where
    exact : nat_lt (length s) n ≡ false → nat_lt n (length s) ≡ false → s ≡ big_bytes n (big_number n s)
    exact long all =
        (in_front n s e long).0.whole
        ∙ ap (λ (x : List ℕ). big_bytes n (big_number n s) ++ x) (drop_all n s (ltb-false n (length s) all))
        ∙ no_end (big_bytes n (big_number n s))

lone_back : (n behind x : ℕ) → x < 256 ^ n → lone_number_in n behind (big_bytes n x) ≡ Ok x
lone_back n behind x lt =
    let size : length (big_bytes n x) ≡ n = length-bytes_high_first n x in
    let long : nat_lt (length (big_bytes n x)) n ≡ false = le-ltb (length (big_bytes n x)) n (omega (arith, size)) in
    let all : nat_lt n (length (big_bytes n x)) ≡ false = le-ltb n (length (big_bytes n x)) (omega (arith, size)) in
    rw (long, all) (ap (λ (y : ℕ). Ok y) (ap (big_number n) (sym (no_end (big_bytes n x))) ∙ big_number-reads_back n x [] lt))

-- ---- only what is written is read

-- an entry of this kind, with this rest of its key and this value
record Is (kind : ℕ) (rest value : List ℕ) (e : DictEntry) : Type 0 where
  kind_is : kind ≡ kind_of e
  rest_is : rest ≡ rest_of e
  value_is : value ≡ entry_value e

module _ (rest value : List ℕ) (e : list_all is_byte rest ≡ true) (f : list_all is_byte value ≡ true) where
  table_of_only : (r : Result (List ℕ × TableDef) (Option ℕ)) → IfOk r (IsTable value) → IfOk (table_of rest (length value) r) (Is 1 rest value)
  table_of_only (Ok t) is = record { kind_is = refl; rest_is = refl; value_is = is }
  table_of_only (Err (Some left)) is = tt
  table_of_only (Err None) is = tt

  table_only : IfOk (table_in rest value) (Is 1 rest value)
  table_only = elim (is_table_name rest) as (λ b. IfOk (cond b (table_of rest (length value) (numbered_in rest 256 0 value)) (Err (length rest + length value))) (Is 1 rest value)) [
    | true ↦ table_of_only (numbered_in rest 256 0 value) (numbered_only rest 256 0 value f)
    | false ↦ tt
  ]

  index_only : IfOk (index_in rest value) (Is 2 rest value)
  index_only =
      then_ok (IsLone 4 rest) (Is 2 rest value) (lone_number_in 4 (length value) rest) _ (lone_only 4 (length value) rest e) (λ number number_is.
      then_ok (IsLone 4 value) (Is 2 rest value) (lone_number_in 4 0 value) _ (lone_only 4 0 value f) (λ family family_is.
      record { kind_is = refl; rest_is = number_is; value_is = family_is }))

  family_only : IfOk (family_in rest value) (Is 3 rest value)
  family_only =
      then_ok (IsLone 4 rest) (Is 3 rest value) (lone_number_in 4 (length value) rest) _ (lone_only 4 (length value) rest e) (λ family family_is.
      named family family_is (is_family_name value))
    where
      named : (family : ℕ) → IsLone 4 rest family → (b : Bool) → IfOk (cond b (Ok (Family family value)) (Err (length value))) (Is 3 rest value)
      named family is true = record { kind_is = refl; rest_is = is; value_is = refl }
      named family is false = tt

  dropped_only : IfOk (dropped_in rest value) (Is 4 rest value)
  dropped_only =
      then_ok (IsLone 4 rest) (Is 4 rest value) (lone_number_in 4 (length value) rest) _ (lone_only 4 (length value) rest e) (λ number number_is.
      then_ok (IsLone 4 value) (Is 4 rest value) (lone_number_in 4 0 value) _ (lone_only 4 0 value f) (λ family family_is.
      record { kind_is = refl; rest_is = number_is; value_is = family_is }))

  building_only : IfOk (building_in rest value) (Is 5 rest value)
  building_only =
      then_ok (IsLone 4 rest) (Is 5 rest value) (lone_number_in 4 (length value) rest) _ (lone_only 4 (length value) rest e) (λ number number_is.
      then_ok (Front name_bytes value) (Is 5 rest value) (name_in value) _ (name_only value f) (λ table table_is.
      then_ok (Front key_bytes table.1) (Is 5 rest value) (key_in 256 table.1) _ (key_only 256 table.1 table_is.rest_bytes) (λ key key_is.
      then_ok (IsNumber 4 key.1) (Is 5 rest value) (number_in 4 key.1) _ (number_only 4 key.1 key_is.rest_bytes) (λ family family_is.
      then_ok (Front text16_bytes family.1) (Is 5 rest value) (text16_in is_any family.1) _ (text16_only is_any family.1 family_is.0.rest_bytes) (λ filled filled_is.
      over number table.0 key.0 family.0 filled.0 number_is filled.1 (
      both value (name_bytes table.0) table.1 _ filled.1 table_is (
      both table.1 (key_bytes key.0) key.1 _ filled.1 key_is (
      both key.1 (big_bytes 4 family.0) family.1 (text16_bytes filled.0) filled.1 family_is.0 filled_is))))))))
    where
      over : (number : ℕ) (table : List ℕ) (key : IndexDef) (family : ℕ) (filled : List ℕ) → IsLone 4 rest number → (behind : List ℕ) → IsRead value (entry_value (Building number table key family filled)) behind →
          IfOk (ended (Building number table key family filled, behind)) (Is 5 rest value)
      over number table key family filled number_is [] is = record { kind_is = refl; rest_is = number_is; value_is = is.whole ∙ no_end (entry_value (Building number table key family filled)) }
      over number table key family filled number_is (b ∷ behind) is = tt

  nothing : (kind : ℕ) (r : Result DictEntry ℕ) → (rest ≡ [] → IfOk r (Is kind rest value)) → IfOk (cond (nat_lt 0 (length rest)) (Err (length rest + length value)) r) (Is kind rest value)
  nothing kind r is = elim (cases_Bool (nat_lt 0 (length rest))) [
    | inl some ↦ rw some tt
    | inr none ↦ rw none (is (empty rest none))
  ]
    where
      empty : (s : List ℕ) → nat_lt 0 (length s) ≡ false → s ≡ []
      empty [] n = refl
      empty (x ∷ s) n = let short : length (x ∷ s) ≤ 0 = ltb-false 0 (length (x ∷ s)) n in absurd (omega (arith, short))

  greatest_only : IfOk (greatest_in rest value) (Is 6 rest value)
  greatest_only = nothing 6 _ (λ none.
      then_ok (IsLone 4 value) (Is 6 rest value) (lone_number_in 4 0 value) _ (lone_only 4 0 value f) (λ number number_is.
      record { kind_is = refl; rest_is = none; value_is = number_is }))

  next_hidden_only : IfOk (next_hidden_in rest value) (Is 7 rest value)
  next_hidden_only =
      then_ok (IsLone 4 rest) (Is 7 rest value) (lone_number_in 4 (length value) rest) _ (lone_only 4 (length value) rest e) (λ number number_is.
      then_ok (IsLone 8 value) (Is 7 rest value) (lone_number_in 8 0 value) _ (lone_only 8 0 value f) (λ next next_is.
      record { kind_is = refl; rest_is = number_is; value_is = next_is }))

  last_commit_only : IfOk (last_commit_in rest value) (Is 8 rest value)
  last_commit_only = nothing 8 _ (λ none.
      then_ok (IsNumber 8 value) (Is 8 rest value) (number_in 8 value) _ (number_only 8 value f) (λ commits commits_are.
      then_ok (IsLone 8 commits.1) (Is 8 rest value) (lone_number_in 8 0 commits.1) _ (lone_only 8 0 commits.1 commits_are.0.rest_bytes) (λ moment moment_is.
      record { kind_is = refl; rest_is = none; value_is = commits_are.0.whole ∙ ap (λ (x : List ℕ). big_bytes 8 commits.0 ++ x) moment_is })))

  at_kind : (k kind : ℕ) (r : Result DictEntry ℕ) → IfOk r (Is k rest value) → kind ≡ k → IfOk r (Is kind rest value)
  at_kind k kind r is same = subst (λ (n : ℕ). IfOk r (Is n rest value)) (sym same) is

  kinded_only : (whole kind : ℕ) → IfOk (kinded_in whole kind rest value) (Is kind rest value)
  kinded_only whole kind =
      let Q : DictEntry → Type 0 = Is kind rest value in
      by_mark Q kind 1 _ _ (at_kind 1 kind (table_in rest value) table_only) (
      by_mark Q kind 2 _ _ (at_kind 2 kind (index_in rest value) index_only) (
      by_mark Q kind 3 _ _ (at_kind 3 kind (family_in rest value) family_only) (
      by_mark Q kind 4 _ _ (at_kind 4 kind (dropped_in rest value) dropped_only) (
      by_mark Q kind 5 _ _ (at_kind 5 kind (building_in rest value) building_only) (
      by_mark Q kind 6 _ _ (at_kind 6 kind (greatest_in rest value) greatest_only) (
      by_mark Q kind 7 _ _ (at_kind 7 kind (next_hidden_in rest value) next_hidden_only) (
      by_mark Q kind 8 _ (Err whole) (at_kind 8 kind (last_commit_in rest value) last_commit_only) tt)))))))

abbrev pub IsEntry : List ℕ → List ℕ → DictEntry → Type 0
IsEntry key value e = (key ≡ entry_key e) × (value ≡ entry_value e)

pub entry_only : (key value : List ℕ) → list_all is_byte key ≡ true → list_all is_byte value ≡ true → IfOk (entry_in key value) (IsEntry key value)
entry_only key value e f = elim (cases_Bool (nat_lt (length key) 4)) [
  | inl short ↦ rw short tt
  | inr long ↦ rw long (
      let front = in_front 4 key e long in
      weaker (kinded_in (length key + length value) (big_number 4 key) (drop 4 key) value) (kinded_only (drop 4 key) value front.0.rest_bytes f (length key + length value) (big_number 4 key)) front.0.whole)
]
  where
    weaker : (r : Result DictEntry ℕ) → IfOk r (Is (big_number 4 key) (drop 4 key) value) → key ≡ big_bytes 4 (big_number 4 key) ++ drop 4 key → IfOk r (IsEntry key value)
    weaker (Ok x) is front = (front ∙ ap (λ (k : ℕ). big_bytes 4 k ++ drop 4 key) is.kind_is ∙ ap (λ (t : List ℕ). big_bytes 4 (kind_of x) ++ t) is.rest_is, is.value_is)
    weaker (Err left) is front = tt

-- ---- what is written is read

table_back : (name numbers : List ℕ) (def : TableDef) → TableFits name numbers def → AllByRecursion (λ n. n < 2 ^ 32) numbers → ReadsBack (Table name numbers def) (entry_value (Table name numbers def)) → table_in name (entry_value (Table name numbers def)) ≡ Ok (Table name numbers def)
table_back name [] def fits small clear = let not_so : 0 ≡ suc (length def.secondary) = fits.one_each in absurd (omega (arith, not_so))
table_back name (number ∷ numbers) def fits small clear =
    let value : List ℕ = listed_bytes (big_bytes 4) (number ∷ numbers) ++ definition_bytes def in
    let short : length name < 256 = omega (arith, fits.def_fits.name.short, ap (λ (n : List ℕ). length n) fits.name_is) in
    let good : is_table_name name ≡ true = rw (lt-ltb (length name) 256 short) (ap is_name fits.name_is ∙ fits.def_fits.name.is_name) in
    let count : length numbers ≡ length def.secondary = omega (arith, fits.one_each) in
    let few : length numbers < 256 = omega (arith, count, fits.def_fits.key_count) in
    let here : 256 ≡ suc (length numbers + (255 - length numbers)) = omega (arith, few) in
    let one_less : suc (length numbers) - 1 ≡ length numbers = omega arith in
    let read : numbered_in name 256 0 value ≡ Ok (number ∷ numbers, def) =
    ap (λ (m : ℕ). numbered_in name m 0 value) here
    ∙ numbered_back name def number numbers 0 (length def.secondary) (255 - length numbers) clear.0 small (omega (arith, count)) (named_back name def fits.name_is fits.def_fits)
    (ap (λ (m : ℕ). numbered_in name m 0 value) (sym one_less) ∙ clear.1) in
    ap (λ (b : Bool). cond b (table_of name (length value) (numbered_in name 256 0 value)) (Err (length name + length value))) good
    ∙ ap (table_of name (length value)) read

two_numbers : (n m behind x y : ℕ) (g : ℕ → ℕ → DictEntry) → x < 256 ^ n → y < 256 ^ m → (lone_number_in n behind (big_bytes n x) >>= (λ a. lone_number_in m 0 (big_bytes m y) >>= (λ b. Ok (g a b)))) ≡ Ok (g x y)
two_numbers n m behind x y g lt lt' =
    ap (λ (r : Result ℕ ℕ). r >>= (λ a. lone_number_in m 0 (big_bytes m y) >>= (λ b. Ok (g a b)))) (lone_back n behind x lt)
    ∙ ap (λ (r : Result ℕ ℕ). r >>= (λ b. Ok (g x b))) (lone_back m 0 y lt')

kind_back : (kind : ℕ) (rest value : List ℕ) → kind < 2 ^ 32 → (r : Result DictEntry ℕ) → ((whole : ℕ) → kinded_in whole kind rest value ≡ r) → entry_in (kinded_key kind rest) value ≡ r
kind_back kind rest value lt r is =
    let key : List ℕ = kinded_key kind rest in
    let whole : ℕ = length key + length value in
    ap (λ (b : Bool). cond b (Err whole) (kinded_in whole (big_number 4 key) (drop 4 key) value)) (is_long 4 kind rest)
    ∙ ap (λ (k : ℕ). kinded_in whole k (drop 4 key) value) (big_number-reads_back 4 kind rest (omega (arith, lt)))
    ∙ ap (λ (t : List ℕ). kinded_in whole kind t value) (behind_it 4 kind rest)
    ∙ is whole

building_back : (number : ℕ) (table : List ℕ) (key : IndexDef) (family : ℕ) (filled : List ℕ) → EntryFits (Building number table key family filled) → NumbersFit (Building number table key family filled) → building_in (big_bytes 4 number) (entry_value (Building number table key family filled)) ≡ Ok (Building number table key family filled)
building_back number table key family filled fits small =
    let value : List ℕ = entry_value (Building number table key family filled) in
    ap (λ (r : Result ℕ ℕ). r >>= (λ number. name_in value >>= (λ table. key_in 256 table.1 >>= (λ key. number_in 4 key.1 >>= (λ family. text16_in is_any family.1 >>= (λ filled. ended (Building number table.0 key.0 family.0 filled.0, filled.1))))))) (lone_back 4 (length value) number (omega (arith, small.0)))
    ∙ last name_in (name_bytes table) (key_bytes key ++ (big_bytes 4 family ++ text16_bytes filled)) table _ _ (λ t. name_back table t fits.0) (
    last (key_in 256) (key_bytes key) (big_bytes 4 family ++ text16_bytes filled) key _ _ (λ t. key_back 256 key t fits.1) (
    last (number_in 4) (big_bytes 4 family) (text16_bytes filled) family _ _ (λ t. number_back 4 family t (omega (arith, small.1))) (
    ap (λ (x : List ℕ). text16_in is_any x >>= (λ filled. ended (Building number table key family filled.0, filled.1))) (sym (no_end (text16_bytes filled)))
    ∙ last (text16_in is_any) (text16_bytes filled) [] filled _ _ (λ t. text16_back is_any filled t fits.2 refl) refl)))

entry_back : (e : DictEntry) → EntryFits e → NumbersFit e → ReadsBack e (entry_value e) → entry_in (entry_key e) (entry_value e) ≡ Ok e
entry_back (Table name numbers def) fits small clear = kind_back 1 name (entry_value (Table name numbers def)) (omega arith) _ (λ whole. table_back name numbers def fits small clear)
entry_back (Index number family) fits small clear = kind_back 2 (big_bytes 4 number) (big_bytes 4 family) (omega arith) _ (λ whole. two_numbers 4 4 (length (big_bytes 4 family)) number family (λ a b. Index a b) (omega (arith, small.0)) (omega (arith, small.1)))
entry_back (Family family name) fits small clear = kind_back 3 (big_bytes 4 family) name (omega arith) _ (λ whole.
    ap (λ (r : Result ℕ ℕ). r >>= (λ family. cond (is_family_name name) (Ok (Family family name)) (Err (length name)))) (lone_back 4 (length name) family (omega (arith, small)))
    ∙ ap (λ (b : Bool). cond b (Ok (Family family name)) (Err (length name))) fits)
entry_back (Dropped number family) fits small clear = kind_back 4 (big_bytes 4 number) (big_bytes 4 family) (omega arith) _ (λ whole. two_numbers 4 4 (length (big_bytes 4 family)) number family (λ a b. Dropped a b) (omega (arith, small.0)) (omega (arith, small.1)))
entry_back (Building number table key family filled) fits small clear = kind_back 5 (big_bytes 4 number) (entry_value (Building number table key family filled)) (omega arith) _ (λ whole. building_back number table key family filled fits small)
entry_back (Greatest number) fits small clear = kind_back 6 [] (big_bytes 4 number) (omega arith) _ (λ whole. ap (λ (r : Result ℕ ℕ). r >>= (λ n. Ok (Greatest n))) (lone_back 4 0 number (omega (arith, small))))
entry_back (NextHidden number next) fits small clear = kind_back 7 (big_bytes 4 number) (big_bytes 8 next) (omega arith) _ (λ whole. two_numbers 4 8 (length (big_bytes 8 next)) number next (λ a b. NextHidden a b) (omega (arith, small.0)) (omega (arith, small.1)))
entry_back (LastCommit commits moment) fits small clear = kind_back 8 [] (big_bytes 8 commits ++ big_bytes 8 moment) (omega arith) _ (λ whole.
    last (number_in 8) (big_bytes 8 commits) (big_bytes 8 moment) commits (λ c. lone_number_in 8 0 c.1 >>= (λ m. Ok (LastCommit c.0 m))) _ (λ t. number_back 8 commits t (omega (arith, small.0))) (
    ap (λ (r : Result ℕ ℕ). r >>= (λ m. Ok (LastCommit commits m))) (lone_back 8 0 moment (omega (arith, small.1)))))

pub entry_written : (e : DictEntry) → EntryFits e → NumbersFit e → ReadsBack e (entry_value e) → reads_entry (entry_key e) (entry_value e) ≡ Ok e
entry_written e fits small clear = ap (placed_in (length (entry_key e) + length (entry_value e))) (entry_back e fits small clear)
