-- Index numbers and definitions of tables are read from their bytes, and from nothing else.
use Rattle.std.proofs.Common.{◌≡◌, ℕ, zero, suc, ◌+◌, ◌^◌, ◌<◌, List, [], ◌∷◌, ◌++◌, length, drop, refl, ap, sym, ◌∙◌, arith, Bool, true, false, cond, ◌&&◌, nat_lt, nat_eq, inl, inr, length-append, append_assoc, Option, None, Result, Ok, Err, IfOk}
use Rattle.std.specs.List.{list_all, AllByRecursion, starts_with}
use Rattle.std.specs.Cmp.Lexicographic.{pointwise}
use Rattle.std.proofs.lemmas.Bool.{cases_Bool, eq-eqb, le-ltb}
use Rattle.std.proofs.lemmas.Cmp.{nat_list_eq_equiv}
use Rattle.std.proofs.Math.Seq.{drop-append_seam, take-append_seam}
use Rattle.byteorder.specs.Endian.{big_bytes, big_number}
use Rattle.byteorder.specs.Numbers.{big_number-reads_back, length-bytes_high_first}
use Rattle.mr_types.specs.declared.definition.TableDef.{TableDef}
use Rattle.mr_types.specs.Refusals.{◌>>=◌}
use Rattle.mr_fields.specs.Fields.{Read, is_byte, number_in, name_bytes, listed_bytes, ended, whole_in}
use Rattle.mr_fields.proofs.Reading.{of_ok}
use Rattle.mr_fields.proofs.FieldLaws.{Number as IsNumber, number_only, whole_only}
use Rattle.mr_schema.specs.DefinitionForm.{definition_bytes, definition_in}
use Rattle.mr_schema.specs.DefinitionFitting.{DefinitionFits}
use Rattle.mr_schema.proofs.DefinitionLaws.{definition_only, definition_back}
use Rattle.mr_dict_entry.specs.Entries.{has_name, keyed_def_in, with_offence, named_def_in, or_more, numbered_in}

pub no_end : {X : Type 0} (xs : List X) → xs ++ [] ≡ xs
no_end [] = refl
no_end (x ∷ xs) = ap (λ ys. x ∷ ys) (no_end xs)

pub then_ok : {X Y E : Type 0} (P : X → Type 0) (Q : Y → Type 0) (r : Result X E) (f : X → Result Y E) → IfOk r P → ((x : X) → P x → IfOk (f x) Q) → IfOk (r >>= f) Q
then_ok P Q (Ok x) f is go = go x is
then_ok P Q (Err e) f is go = tt

-- ---- a number in front

-- bytes of at least n are the number in front and the others
pub in_front : (n : ℕ) (s : List ℕ) → list_all is_byte s ≡ true → nat_lt (length s) n ≡ false → IsNumber n s (big_number n s, drop n s)
in_front n s e long =
    let is : number_in n s ≡ Ok (big_number n s, drop n s) = ap (λ (b : Bool). cond b (Err (length s)) (Ok (big_number n s, drop n s))) long in
    of_ok (IsNumber n s) (number_in n s) (big_number n s, drop n s) (number_only n s e) is

pub is_long : (n x : ℕ) (t : List ℕ) → nat_lt (length (big_bytes n x ++ t)) n ≡ false
is_long n x t = le-ltb (length (big_bytes n x ++ t)) n (omega (arith, length-append (big_bytes n x) t, length-bytes_high_first n x))

pub behind_it : (n x : ℕ) (t : List ℕ) → drop n (big_bytes n x ++ t) ≡ t
behind_it n x t = ap (λ k. drop k (big_bytes n x ++ t)) (sym (length-bytes_high_first n x)) ∙ drop-append_seam (big_bytes n x) t

-- ---- only what is written is read

module _ (s : List ℕ) (e : list_all is_byte s ≡ true) where
  abbrev pub IsDef : TableDef → Type 0
  IsDef def = s ≡ definition_bytes def

  whole_def_only : (r : Result TableDef ℕ) → whole_in definition_in s ≡ r → IfOk r IsDef
  whole_def_only (Ok def) is = whole_only definition_bytes definition_in s def (definition_only s e) is
  whole_def_only (Err left) is = tt

  keyed_only : (keys : ℕ) → IfOk (keyed_def_in keys s) IsDef
  keyed_only keys = then_ok IsDef IsDef (whole_in definition_in s) _ (whole_def_only (whole_in definition_in s) refl) (λ def is. tested def is (nat_eq (length def.secondary) keys))
    where
      tested : (def : TableDef) → IsDef def → (b : Bool) → IfOk (cond b (Ok def) (Err (length s))) IsDef
      tested def is true = is
      tested def is false = tt

  offence_only : (r : Result TableDef ℕ) → IfOk r IsDef → IfOk (with_offence r) IsDef
  offence_only (Ok def) is = is
  offence_only (Err left) is = tt

  pub named_only : (name : List ℕ) (keys : ℕ) → IfOk (named_def_in name keys s) IsDef
  named_only name keys = elim (has_name name s) as (λ b. IfOk (cond b (with_offence (keyed_def_in keys s)) (Err None)) IsDef) [
    | true ↦ offence_only (keyed_def_in keys s) (keyed_only keys)
    | false ↦ tt
  ]

abbrev pub IsTable : List ℕ → List ℕ × TableDef → Type 0
IsTable s t = s ≡ listed_bytes (big_bytes 4) t.0 ++ definition_bytes t.1

more_only : (s rest : List ℕ) (number : ℕ) (r : Result TableDef (Option ℕ)) (more : Result (List ℕ × TableDef) (Option ℕ)) → s ≡ big_bytes 4 number ++ rest → IfOk r (λ def. rest ≡ definition_bytes def) → IfOk more (IsTable rest) → IfOk (or_more number r more) (IsTable s)
more_only s rest number (Ok def) more front is others =
    front ∙ ap (λ (x : List ℕ). big_bytes 4 number ++ x) is ∙ ap (λ (x : List ℕ). x ++ definition_bytes def) (sym (no_end (big_bytes 4 number)))
more_only s rest number (Err offence) (Ok t) front is others =
    front ∙ ap (λ (x : List ℕ). big_bytes 4 number ++ x) others ∙ sym (append_assoc (big_bytes 4 number) (listed_bytes (big_bytes 4) t.0) (definition_bytes t.1))
more_only s rest number (Err offence) (Err other) front is others = tt

pub numbered_only : (name : List ℕ) (most keys : ℕ) (s : List ℕ) → list_all is_byte s ≡ true → IfOk (numbered_in name most keys s) (IsTable s)
unfolding numbered_in
numbered_only name zero keys s e = tt
numbered_only name (suc most) keys s e = elim (cases_Bool (nat_lt (length s) 4)) [
  | inl short ↦ rw short tt
  | inr long ↦
      let front = in_front 4 s e long in
      rw long (more_only s (drop 4 s) (big_number 4 s) (named_def_in name keys (drop 4 s)) (numbered_in name most (keys + 1) (drop 4 s)) front.0.whole
      (named_only (drop 4 s) front.0.rest_bytes name keys) (numbered_only name most (keys + 1) (drop 4 s) front.0.rest_bytes))
]

-- ---- what is written is read

-- one number more in front
pub step : (name : List ℕ) (most keys number : ℕ) (t : List ℕ) → number < 2 ^ 32 → numbered_in name (suc most) keys (big_bytes 4 number ++ t) ≡ or_more number (named_def_in name keys t) (numbered_in name most (keys + 1) t)
unfolding numbered_in
step name most keys number t lt =
    ap (λ (b : Bool). cond b (Err None) (or_more (big_number 4 (big_bytes 4 number ++ t)) (named_def_in name keys (drop 4 (big_bytes 4 number ++ t))) (numbered_in name most (keys + 1) (drop 4 (big_bytes 4 number ++ t))))) (is_long 4 number t)
    ∙ ap (λ (n : ℕ). or_more n (named_def_in name keys (drop 4 (big_bytes 4 number ++ t))) (numbered_in name most (keys + 1) (drop 4 (big_bytes 4 number ++ t)))) (big_number-reads_back 4 number t (omega (arith, lt)))
    ∙ ap (λ (x : List ℕ). or_more number (named_def_in name keys x) (numbered_in name most (keys + 1) x)) (behind_it 4 number t)

none_of_both : (number : ℕ) (r : Result TableDef (Option ℕ)) (more : Result (List ℕ × TableDef) (Option ℕ)) (left : Option ℕ) → or_more number r more ≡ Err left → ((o : Option ℕ) × (r ≡ Err o)) × ((o : Option ℕ) × (more ≡ Err o))
none_of_both number (Ok def) more left is = cc
none_of_both number (Err offence) (Ok t) left is = cc
none_of_both number (Err offence) (Err other) left is = ((offence, refl), (other, refl))

later : (number : ℕ) (o : Option ℕ) (r : Result TableDef (Option ℕ)) (t : List ℕ × TableDef) (more : Result (List ℕ × TableDef) (Option ℕ)) → r ≡ Err o → more ≡ Ok t → or_more number r more ≡ Ok (number ∷ t.0, t.1)
later number o r t more none is = ap (λ (x : Result TableDef (Option ℕ)). or_more number x more) none ∙ ap (λ (x : Result (List ℕ × TableDef) (Option ℕ)). or_more number (Err o) x) is

pub numbered_back : (name : List ℕ) (def : TableDef) (number : ℕ) (numbers : List ℕ) (keys total extra : ℕ) (left : Option ℕ) → AllByRecursion (λ n. n < 2 ^ 32) (number ∷ numbers) → total ≡ keys + length numbers → named_def_in name total (definition_bytes def) ≡ Ok def →
    numbered_in name (length numbers) keys (listed_bytes (big_bytes 4) (number ∷ numbers) ++ definition_bytes def) ≡ Err left →
    numbered_in name (suc (length numbers + extra)) keys (listed_bytes (big_bytes 4) (number ∷ numbers) ++ definition_bytes def) ≡ Ok (number ∷ numbers, def)
numbered_back name def number [] keys total extra left fit sum is none =
    let same : total ≡ keys = omega (arith, sum) in
    ap (λ (x : List ℕ). numbered_in name (suc (0 + extra)) keys (x ++ definition_bytes def)) (no_end (big_bytes 4 number))
    ∙ step name (0 + extra) keys number (definition_bytes def) fit.0
    ∙ ap (λ (r : Result TableDef (Option ℕ)). or_more number r (numbered_in name (0 + extra) (keys + 1) (definition_bytes def))) (ap (λ (k : ℕ). named_def_in name k (definition_bytes def)) (sym same) ∙ is)
numbered_back name def number (next ∷ numbers) keys total extra left fit sum is none =
    let rest : List ℕ = listed_bytes (big_bytes 4) (next ∷ numbers) ++ definition_bytes def in
    let parts : listed_bytes (big_bytes 4) (number ∷ next ∷ numbers) ++ definition_bytes def ≡ big_bytes 4 number ++ rest = append_assoc (big_bytes 4 number) (listed_bytes (big_bytes 4) (next ∷ numbers)) (definition_bytes def) in
    let apart = none_of_both number (named_def_in name keys rest) (numbered_in name (length numbers) (keys + 1) rest) left
    (sym (step name (length numbers) keys number rest fit.0) ∙ ap (λ (x : List ℕ). numbered_in name (suc (length numbers)) keys x) (sym parts) ∙ none) in
    let fewer : suc (length numbers) + extra ≡ suc (length numbers + extra) = omega arith in
    let onward : total ≡ keys + 1 + length numbers = omega (arith, sum) in
    let behind : numbered_in name (suc (length numbers) + extra) (keys + 1) rest ≡ Ok (next ∷ numbers, def) =
    ap (λ (m : ℕ). numbered_in name m (keys + 1) rest) fewer ∙ numbered_back name def next numbers (keys + 1) total extra apart.1.0 fit.1 onward is apart.1.1 in
    ap (λ (x : List ℕ). numbered_in name (suc (suc (length numbers) + extra)) keys x) parts
    ∙ step name (suc (length numbers) + extra) keys number rest fit.0
    ∙ later number apart.0.0 (named_def_in name keys rest) (next ∷ numbers, def) (numbered_in name (suc (length numbers) + extra) (keys + 1) rest) apart.0.1 behind

same_bytes : (name t : List ℕ) → starts_with nat_eq (name ++ t) name ≡ true
same_bytes name t = ap (λ (x : List ℕ). pointwise nat_eq name x) (take-append_seam name t) ∙ nat_list_eq_equiv.refl name

named_here : (name t : List ℕ) → has_name name (name_bytes name ++ t) ≡ true
named_here name t = ap (λ (b : Bool). b && starts_with nat_eq (name ++ t) name) (eq-eqb (length name) (length name) refl) ∙ same_bytes name t

whole_def_back : (def : TableDef) → DefinitionFits def → whole_in definition_in (definition_bytes def) ≡ Ok def
whole_def_back def fits =
    ap (λ (x : List ℕ). whole_in definition_in x) (sym (no_end (definition_bytes def)))
    ∙ ap (λ (r : Read TableDef). r >>= ended) (definition_back def [] fits)

pub named_back : (name : List ℕ) (def : TableDef) → name ≡ def.name → DefinitionFits def → named_def_in name (length def.secondary) (definition_bytes def) ≡ Ok def
named_back name def same fits =
    let here : has_name name (definition_bytes def) ≡ true = ap (λ (n : List ℕ). has_name n (definition_bytes def)) same ∙ named_here def.name _ in
    ap (λ (b : Bool). cond b (with_offence (keyed_def_in (length def.secondary) (definition_bytes def))) (Err None)) here
    ∙ ap with_offence (ap (λ (r : Result TableDef ℕ). r >>= (λ d. cond (nat_eq (length d.secondary) (length def.secondary)) (Ok d) (Err (length (definition_bytes def))))) (whole_def_back def fits)
    ∙ ap (λ (b : Bool). cond b (Ok def) (Err (length (definition_bytes def)))) (eq-eqb (length def.secondary) (length def.secondary) refl))
