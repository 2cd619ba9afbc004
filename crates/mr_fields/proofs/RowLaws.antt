-- Rows are read from their bytes, and from nothing else.
use Rattle.std.proofs.Common.{cond, ◌≡◌, ℕ, zero, suc, ◌+◌, ◌<◌, List, [], ◌∷◌, ◌++◌, length, refl, ap, sym, ◌∙◌, arith, Bool, true, false, Option, Some, None, is_some, Ok, IfOk}
use Rattle.std.specs.List.{list_all, AllByRecursion}
use Rattle.mr_types.specs.declared.value.Value.{Value}
use Rattle.mr_types.specs.declared.row.Row.{Row}
use Rattle.mr_types.specs.Refusals.{◌>>=◌}
use Rattle.mr_spec.specs.RowForm.{value_bytes, values_bytes, given_bytes, flag_of, flags_of, row_bytes}
use Rattle.mr_fields.specs.Fields.{Read, is_byte, byte_in, number_in, listed_bytes, listed_in}
use Rattle.mr_fields.specs.Rows.{value_in, given_in, has_hidden, has_stamp, row_in}
use Rattle.mr_fields.specs.Fitting.{GivenFits, ValueFits, RowFits}
use Rattle.mr_fields.proofs.Reading.{IsRead, Front, both, same_front, then_read, mid, last, front_byte}
use Rattle.mr_fields.proofs.FieldLaws.{Byte, byte_only, Number as IsNumber, number_only, number_back, Listed, listed_only, listed_back}
use Rattle.mr_fields.proofs.ValueLaws.{value_only, value_back, values_listed}

-- a number where it is wanted, in front
abbrev Wanted : Bool → List ℕ → Option ℕ × List ℕ → Type 0
Wanted wanted s p = IsRead s (given_bytes p.0) p.1 × (is_some p.0 ≡ wanted)

given_only : (wanted : Bool) (s : List ℕ) → list_all is_byte s ≡ true → IfOk (given_in wanted s) (Wanted wanted s)
given_only false s e = (record { whole = refl; rest_bytes = e }, refl)
given_only true s e = then_read (IsNumber 8 s) (Wanted true s) (number_in 8 s) _ (number_only 8 s e) (λ n is. (is.0, refl))

given_back : (n : Option ℕ) (rest : List ℕ) → GivenFits n → given_in (is_some n) (given_bytes n ++ rest) ≡ Ok (n, rest)
given_back None rest fits = refl
given_back (Some n) rest fits = ap (λ (r : Read ℕ). r >>= (λ number. Ok (Some number.0, number.1))) (number_back 8 n rest (omega (arith, fits)))

flag_is : (flag : ℕ) (a : Option ℕ) (b : Bool) → is_some a ≡ b → flag_of flag a ≡ cond b flag 0
flag_is flag None b e = ap (λ (x : Bool). cond x flag 0) e
flag_is flag (Some n) b e = ap (λ (x : Bool). cond x flag 0) e

flags_again : (flags : ℕ) → flags < 4 → flags ≡ cond (has_hidden flags) 1 0 + cond (has_stamp flags) 2 0
flags_again zero lt = refl
flags_again (suc zero) lt = refl
flags_again (suc (suc zero)) lt = refl
flags_again (suc (suc (suc zero))) lt = refl
flags_again (suc (suc (suc (suc n)))) lt = absurd (omega (arith, lt))

pub row_only : (s : List ℕ) → list_all is_byte s ≡ true → IfOk (row_in s) (Front row_bytes s)
row_only s e =
    then_read (Byte 4 s) (Front row_bytes s) (byte_in 4 s) _ (byte_only 4 s e) (λ flags flags_is.
    then_read (Wanted (has_hidden flags.0) flags.1) (Front row_bytes s) (given_in (has_hidden flags.0) flags.1) _ (given_only (has_hidden flags.0) flags.1 flags_is.0.rest_bytes) (λ hidden hidden_is.
    then_read (Wanted (has_stamp flags.0) hidden.1) (Front row_bytes s) (given_in (has_stamp flags.0) hidden.1) _ (given_only (has_stamp flags.0) hidden.1 hidden_is.0.rest_bytes) (λ stamp stamp_is.
    then_read (Byte 256 stamp.1) (Front row_bytes s) (byte_in 256 stamp.1) _ (byte_only 256 stamp.1 stamp_is.0.rest_bytes) (λ count count_is.
    then_read (Listed value_bytes count.0 count.1) (Front row_bytes s) (listed_in value_in count.0 count.1) _ (listed_only value_bytes value_in value_only count.0 count.1 count_is.0.rest_bytes) (λ fields fields_are.
    let flags_same : flags.0 ≡ flag_of 1 hidden.0 + flag_of 2 stamp.0 =
    flags_again flags.0 flags_is.1
    ∙ ap (λ (n : ℕ). n + cond (has_stamp flags.0) 2 0) (sym (flag_is 1 hidden.0 (has_hidden flags.0) hidden_is.1))
    ∙ ap (λ (n : ℕ). flag_of 1 hidden.0 + n) (sym (flag_is 2 stamp.0 (has_stamp flags.0) stamp_is.1)) in
    both s (_ ∷ []) flags.1 _ fields.1 (same_front s (flags.0 ∷ []) ((flag_of 1 hidden.0 + flag_of 2 stamp.0) ∷ []) flags.1 (ap (λ (n : ℕ). n ∷ []) flags_same) flags_is.0) (
    both flags.1 (given_bytes hidden.0) hidden.1 _ fields.1 hidden_is.0 (
    both hidden.1 (given_bytes stamp.0) stamp.1 _ fields.1 stamp_is.0 (
    both stamp.1 (length fields.0 ∷ []) count.1 (values_bytes fields.0) fields.1
    (same_front stamp.1 (count.0 ∷ []) (length fields.0 ∷ []) count.1 (ap (λ (n : ℕ). n ∷ []) (sym fields_are.1)) count_is.0)
    (same_front count.1 (listed_bytes value_bytes fields.0) (values_bytes fields.0) fields.1 (values_listed fields.0) fields_are.0)))))))))

-- ---- what is written is read

flags_small : (a b : Option ℕ) → flag_of 1 a + flag_of 2 b < 4
flags_small None None = omega arith
flags_small None (Some n) = omega arith
flags_small (Some m) None = omega arith
flags_small (Some m) (Some n) = omega arith

says_hidden : (a b : Option ℕ) → has_hidden (flag_of 1 a + flag_of 2 b) ≡ is_some a
says_hidden None None = refl
says_hidden None (Some n) = refl
says_hidden (Some m) None = refl
says_hidden (Some m) (Some n) = refl

says_stamp : (a b : Option ℕ) → has_stamp (flag_of 1 a + flag_of 2 b) ≡ is_some b
says_stamp None None = refl
says_stamp None (Some n) = refl
says_stamp (Some m) None = refl
says_stamp (Some m) (Some n) = refl

values_back : (vs : List Value) (rest : List ℕ) → AllByRecursion ValueFits vs → listed_in value_in (length vs) (values_bytes vs ++ rest) ≡ Ok (vs, rest)
values_back vs rest fits = ap (λ (x : List ℕ). listed_in value_in (length vs) (x ++ rest)) (sym (values_listed vs)) ∙ listed_back value_bytes value_in ValueFits value_back vs rest fits

pub row_back : (row : Row) (rest : List ℕ) → RowFits row → row_in (row_bytes row ++ rest) ≡ Ok (row, rest)
row_back row rest fits =
    front_byte 4 (flags_of row) _ _ _ (flags_small row.hidden row.stamp) (
    mid (given_in (has_hidden (flags_of row))) (given_bytes row.hidden) _ rest row.hidden _ _
    (λ t. ap (λ (b : Bool). given_in b (given_bytes row.hidden ++ t)) (says_hidden row.hidden row.stamp) ∙ given_back row.hidden t fits.hidden) (
    mid (given_in (has_stamp (flags_of row))) (given_bytes row.stamp) _ rest row.stamp _ _
    (λ t. ap (λ (b : Bool). given_in b (given_bytes row.stamp ++ t)) (says_stamp row.hidden row.stamp) ∙ given_back row.stamp t fits.stamp) (
    front_byte 256 (length row.fields) _ _ _ (omega (arith, fits.count)) (
    last (listed_in value_in (length row.fields)) (values_bytes row.fields) rest row.fields _ _ (λ t. values_back row.fields t fits.fields) refl))))
