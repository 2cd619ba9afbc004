-- Index numbers whose first byte is 0 are no beginning of a definition.
use Rattle.std.proofs.Common.{◌≡◌, ℕ, suc, ◌+◌, ◌-◌, ◌/◌, ◌%◌, ◌^◌, ◌<◌, List, [], ◌∷◌, ◌++◌, length, refl, ap, ◌∙◌, arith, Bool, false, cond, ◌&&◌, nat_eq, append_assoc, Option, None, Result, Err}
use Rattle.std.specs.List.{AllByRecursion, starts_with}
use Rattle.std.proofs.lemmas.Bool.{ne_eqb}
use Rattle.byteorder.specs.Endian.{big_bytes}
use Rattle.mr_types.specs.declared.definition.TableDef.{TableDef}
use Rattle.mr_fields.specs.Fields.{listed_bytes}
use Rattle.mr_schema.specs.DefinitionForm.{definition_bytes}
use Rattle.mr_dict_entry.specs.declared.entry.DictEntry.TheVariants.{Table}
use Rattle.mr_dict_entry.specs.Entries.{keyed_def_in, with_offence, named_def_in, or_more, numbered_in, entry_value}
use Rattle.mr_dict_entry.specs.Given.{ReadsBack}
use Rattle.mr_dict_entry.proofs.TableLaws.{step}

high_byte : (n : ℕ) → n < 2 ^ 24 → n / 16777216 % 256 ≡ 0
high_byte n lt = omega (arith, lt)

no_name : (name : List ℕ) (keys n : ℕ) (t : List ℕ) → 0 < length name → n < 2 ^ 24 → named_def_in name keys (big_bytes 4 n ++ t) ≡ Err None
no_name name keys n t some lt =
    let bytes : List ℕ = big_bytes 4 n ++ t in
    let other : nat_eq (n / 16777216 % 256) (length name) ≡ false = ne_eqb (n / 16777216 % 256) (length name) (λ same. omega (arith, same, high_byte n lt, some)) in
    ap (λ (b : Bool). cond (b && starts_with nat_eq (n / 65536 % 256 ∷ n / 256 % 256 ∷ n % 256 ∷ t) name) (with_offence (keyed_def_in keys bytes)) (Err None)) other

none_fewer : (name : List ℕ) (def : TableDef) (number : ℕ) (numbers : List ℕ) (keys : ℕ) → 0 < length name → number < 2 ^ 32 → AllByRecursion (λ n. n < 2 ^ 24) numbers → numbered_in name (length numbers) keys (listed_bytes (big_bytes 4) (number ∷ numbers) ++ definition_bytes def) ≡ Err None
unfolding numbered_in
none_fewer name def number [] keys some lt small = refl
none_fewer name def number (next ∷ numbers) keys some lt small =
    let rest : List ℕ = listed_bytes (big_bytes 4) (next ∷ numbers) ++ definition_bytes def in
    let parts : listed_bytes (big_bytes 4) (number ∷ next ∷ numbers) ++ definition_bytes def ≡ big_bytes 4 number ++ rest = append_assoc (big_bytes 4 number) (listed_bytes (big_bytes 4) (next ∷ numbers)) (definition_bytes def) in
    let more : rest ≡ big_bytes 4 next ++ (listed_bytes (big_bytes 4) numbers ++ definition_bytes def) = append_assoc (big_bytes 4 next) (listed_bytes (big_bytes 4) numbers) (definition_bytes def) in
    ap (λ (x : List ℕ). numbered_in name (suc (length numbers)) keys x) parts
    ∙ step name (length numbers) keys number rest lt
    ∙ ap (λ (r : Result TableDef (Option ℕ)). or_more number r (numbered_in name (length numbers) (keys + 1) rest)) (ap (λ (x : List ℕ). named_def_in name keys x) more ∙ no_name name keys next (listed_bytes (big_bytes 4) numbers ++ definition_bytes def) some small.0)
    ∙ ap (λ (r : Result (List ℕ × TableDef) (Option ℕ)). or_more number (Err None) r) (none_fewer name def next numbers (keys + 1) some (omega (arith, small.0)) small.1)

pub small_back : (name : List ℕ) (number : ℕ) (numbers : List ℕ) (def : TableDef) → 0 < length name → number < 2 ^ 32 → AllByRecursion (λ n. n < 2 ^ 24) numbers → ReadsBack (Table name (number ∷ numbers) def) (entry_value (Table name (number ∷ numbers) def))
small_back name number numbers def some lt small =
    let count : suc (length numbers) - 1 ≡ length numbers = omega arith in
    (None, ap (λ (m : ℕ). numbered_in name m 0 (listed_bytes (big_bytes 4) (number ∷ numbers) ++ definition_bytes def)) count ∙ none_fewer name def number numbers 0 some lt small)
