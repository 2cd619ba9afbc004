-- Index numbers read one after the other, as far as no definition of the table stands behind them.
use Rattle.std.proofs.Common.{◌≡◌, ℕ, suc, ◌+◌, ◌-◌, ◌<◌, ◌≤◌, List, [], ◌∷◌, ◌++◌, length, drop, refl, ap, sym, ◌∙◌, arith, Bool, true, false, cond, nat_lt, append_assoc, Option, Some, None, Result, Ok, Err}
use Rattle.std.proofs.lemmas.Bool.{lt-ltb, le-ltb}
use Rattle.byteorder.specs.Endian.{big_number}
use Rattle.mr_types.specs.declared.definition.TableDef.{TableDef}
use Rattle.mr_dict_entry.specs.Entries.{named_def_in, first_of, or_more, numbered_in}
use Rattle.mr_dict_entry.specs.Given.{behind_numbers}

first_none : (o : Option ℕ) → first_of o None ≡ o
first_none None = refl
first_none (Some left) = refl

first_assoc : (a b c : Option ℕ) → first_of a (first_of b c) ≡ first_of (first_of a b) c
first_assoc None b c = refl
first_assoc (Some left) b c = refl

abbrev pub Tables : Type 0
Tables = Result (List ℕ × TableDef) (Option ℕ)

pub started : (r : Tables) → r ≡ behind_numbers [] None r
started (Ok t) = refl
started (Err other) = refl

past : (numbers : List ℕ) (n : ℕ) (offence other : Option ℕ) (more : Tables) → behind_numbers numbers offence (or_more n (Err other) more) ≡ behind_numbers (numbers ++ n ∷ []) (first_of offence other) more
past numbers n offence other (Ok t) = ap (λ (ns : List ℕ). Ok (ns, t.1)) (sym (append_assoc numbers (n ∷ []) t.0))
past numbers n offence other (Err last) = ap (λ (o : Option ℕ). Err o) (first_assoc offence other last)

module _ (name : List ℕ) (whole : Tables) (numbers : List ℕ) (offence : Option ℕ) (most i : ℕ) (rest : List ℕ) (so_far : whole ≡ behind_numbers numbers offence (numbered_in name (most - i) i rest)) where
  -- no more numbers may be read
  pub ended : most ≤ i → whole ≡ Err offence
  unfolding numbered_in
  ended over =
      let none : most - i ≡ 0 = omega (arith, over) in
      so_far ∙ ap (λ (m : ℕ). behind_numbers numbers offence (numbered_in name m i rest)) none ∙ ap (λ (o : Option ℕ). Err o) (first_none offence)

  module _ (lt : i < most) where
    one_left : most - i ≡ suc (most - (i + 1))
    one_left = omega (arith, lt)

    begun : (b : Bool) → nat_lt (length rest) 4 ≡ b → whole ≡ behind_numbers numbers offence (cond b (Err None) (or_more (big_number 4 rest) (named_def_in name i (drop 4 rest)) (numbered_in name (most - (i + 1)) (i + 1) (drop 4 rest))))
    unfolding numbered_in
    begun b is =
        so_far ∙ ap (λ (m : ℕ). behind_numbers numbers offence (numbered_in name m i rest)) one_left
        ∙ ap (λ (b : Bool). behind_numbers numbers offence (cond b (Err None) (or_more (big_number 4 rest) (named_def_in name i (drop 4 rest)) (numbered_in name (most - (i + 1)) (i + 1) (drop 4 rest))))) is

    -- the rest is too short for a number
    pub too_short : length rest < 4 → whole ≡ Err offence
    too_short short = begun true (lt-ltb (length rest) 4 short) ∙ ap (λ (o : Option ℕ). Err o) (first_none offence)

    -- the definition stands behind the number
    pub found : 4 ≤ length rest → (def : TableDef) → named_def_in name i (drop 4 rest) ≡ Ok def → whole ≡ Ok (numbers ++ big_number 4 rest ∷ [], def)
    found long def is =
        begun false (le-ltb (length rest) 4 long)
        ∙ ap (λ (r : Result TableDef (Option ℕ)). behind_numbers numbers offence (or_more (big_number 4 rest) r (numbered_in name (most - (i + 1)) (i + 1) (drop 4 rest)))) is

    -- it doesn't
    pub goes_on : 4 ≤ length rest → (other : Option ℕ) → named_def_in name i (drop 4 rest) ≡ Err other → whole ≡ behind_numbers (numbers ++ big_number 4 rest ∷ []) (first_of offence other) (numbered_in name (most - (i + 1)) (i + 1) (drop 4 rest))
    goes_on long other is =
        begun false (le-ltb (length rest) 4 long)
        ∙ ap (λ (r : Result TableDef (Option ℕ)). behind_numbers numbers offence (or_more (big_number 4 rest) r (numbered_in name (most - (i + 1)) (i + 1) (drop 4 rest)))) is
        ∙ past numbers (big_number 4 rest) offence other (numbered_in name (most - (i + 1)) (i + 1) (drop 4 rest))
