-- Columns that the checks give have a form as bytes.
use Rattle.std.proofs.Common.{◌≡◌, ℕ, ℤ, pos, negsuc, zero, suc, ◌+◌, ◌-◌, ◌^◌, ◌<◌, ◌≤◌, List, [], ◌∷◌, ◌++◌, length, take, drop, slice_index, subst, refl, arith, Bool, true, false, cond, ◌&&◌, nat_lt, nat_le, Option, Some, None, Result, Ok, Err, IfOk, length-append, length-take}
use Rattle.std.specs.Prelude.{not, ⊤}
use Rattle.std.specs.List.{list_all, AllByRecursion}
use Rattle.std.specs.Fmt.{signed_decimal, decimal}
use Rattle.std.proofs.lemmas.Bool.{ltb-true, ltb-false, leb-true, lt-ltb}
use Rattle.std.proofs.lemmas.Bool.Decides.{nat_tests}
use Rattle.std.proofs.lemmas.Fmt.{IsAscii-decimal_wide}
use Rattle.mr_lanes.specs.Kernels.{is_low, is_space}
use Rattle.mr_types.specs.declared.value.Value.{Value}
use Rattle.mr_types.specs.declared.value.Value.TheVariants.{Null, Number, Text, Bytes}
use Rattle.mr_types.specs.declared.kind.Kind.{Kind}
use Rattle.mr_types.specs.declared.kind.Kind.TheVariants.{Int, IntUnsigned, BigInt, BigIntUnsigned, VarChar, VarBinary}
use Rattle.mr_types.specs.declared.kind.KindText.{KindText}
use Rattle.mr_types.specs.declared.kind.KindText.TheVariants as written
use Rattle.mr_types.specs.declared.kind.ColumnType.{ColumnType}
use Rattle.mr_types.specs.declared.definition.ColumnDef.{ColumnDef}
use Rattle.mr_types.specs.declared.text.ColumnText.{ColumnText}
use Rattle.mr_types.specs.declared.text.KeyText.{KeyText}
use Rattle.mr_types.specs.Refusals.{◌>>=◌, ◌>>◌, refuse_where, some_or, refused_as, in_turn}
use Rattle.mr_types.specs.Grammatical.{is_name as is_grammatical_name, is_literal, is_written, where_given, is_column_text, is_kind_text}
use Rattle.mr_types.specs.Values.{Sort, Numbers, Texts, Binaries, sort_of, converted, convert_to, is_in_kind, fitted, is_null, assign_to, whole_number}
use Rattle.mr_spec.specs.ColumnChecks.{kind_of, default_kept, checked_column, with_column, is_primary_column}
use Rattle.mr_fields.specs.Fields.{is_text}
use Rattle.mr_fields.specs.Fitting.{NameFits, NumberFits, ValueFits}
use Rattle.mr_schema.specs.DefinitionFitting.{KindFits, DefaultFits, ColumnFits}

-- ---- answers

pub then_if : {A B : Type 0} (P : A → Type 0) (Q : B → Type 0) (r : Result A ℕ) (f : A → Result B ℕ) → IfOk r P → ((x : A) → P x → IfOk (f x) Q) → IfOk (r >>= f) Q
then_if P Q (Ok x) f h go = go x h
then_if P Q (Err e) f h go = tt

pub after : {B : Type 0} (Q : B → Type 0) (code : ℕ) (refused : Bool) (next : Result B ℕ) → (refused ≡ false → IfOk next Q) → IfOk (refuse_where code refused >> next) Q
after Q code true next go = tt
after Q code false next go = go refl

pub refused_else : {A : Type 0} (P : A → Type 0) (code : ℕ) (r : Result A ℕ) → IfOk r P → IfOk (refused_as code r) P
refused_else P code (Ok x) h = h
refused_else P code (Err e) h = tt

pub both_true : (a b : Bool) → (a && b) ≡ true → (a ≡ true) × (b ≡ true)
both_true true b e = (refl, e)
both_true false b e = cc

not_false : (b : Bool) → not b ≡ false → b ≡ true
not_false true e = refl
not_false false e = cc

pub name_fits : (name : List ℕ) → is_grammatical_name name ≡ true → NameFits name
name_fits name e =
    let some = both_true (nat_lt 0 (length name)) _ e in
    let rest = both_true (nat_le (length name) 64) _ some.1 in
    let short : length name ≤ 64 = leb-true (length name) 64 rest.0 in
    record { short = omega (arith, short); is_name = rw (some.0, rest.1) refl }

-- ---- values

all_low : (s : List ℕ) → ((i : ℕ) → slice_index s i < 128) → list_all is_low s ≡ true
all_low [] h = refl
all_low (b ∷ s) h = rw (lt-ltb b 128 (h 0)) (all_low s (λ i. h (suc i)))

decimal_low : (z : ℤ) → is_written z ≡ true → list_all is_low (signed_decimal z) ≡ true
decimal_low (pos n) e = let small : n < 2 ^ 127 = ltb-true n (2 ^ 127) e in all_low (decimal n) (IsAscii-decimal_wide n (omega (arith, small)))
decimal_low (negsuc n) e = let small : n < 2 ^ 127 - 1 = ltb-true n (2 ^ 127 - 1) e in all_low (decimal (suc n)) (IsAscii-decimal_wide (suc n) (omega (arith, small)))

-- a value of the sort
abbrev pub IsOfSort : Sort → Value → Type 0
IsOfSort sort Null = ⊤
IsOfSort Numbers (Number n) = ⊤
IsOfSort Numbers (Text t) = ⊥
IsOfSort Numbers (Bytes b) = ⊥
IsOfSort Texts (Number n) = ⊥
IsOfSort Texts (Text t) = is_text t ≡ true
IsOfSort Texts (Bytes b) = ⊥
IsOfSort Binaries (Number n) = ⊥
IsOfSort Binaries (Text t) = ⊥
IsOfSort Binaries (Bytes b) = ⊤

number_sort : (t : List ℕ) (n : Option ℤ) → IfOk {E = ℕ} (some_or 1366 n >>= (λ n. Ok (Number n))) (IsOfSort Numbers)
number_sort t None = tt
number_sort t (Some n) = tt

ascii_sort : (b : List ℕ) (low : Bool) → list_all is_low b ≡ low → IfOk {E = ℕ} (cond low (Ok (Text b)) (Err 1366)) (IsOfSort Texts)
ascii_sort b true e = e
ascii_sort b false e = tt

converted_sort : (sort : Sort) (v : Value) → is_literal v ≡ true → IfOk (converted sort v) (IsOfSort sort)
converted_sort Numbers Null e = tt
converted_sort Texts Null e = tt
converted_sort Binaries Null e = tt
converted_sort Numbers (Number n) e = tt
converted_sort Numbers (Text t) e = number_sort t (whole_number t)
converted_sort Numbers (Bytes b) e = number_sort b (whole_number b)
converted_sort Texts (Number n) e = decimal_low n e
converted_sort Texts (Text t) e = e
converted_sort Texts (Bytes b) e = ascii_sort b (list_all is_low b) refl
converted_sort Binaries (Number n) e = tt
converted_sort Binaries (Text t) e = tt
converted_sort Binaries (Bytes b) e = tt

int_fits : (z : ℤ) → is_in_kind Int z ≡ true → NumberFits z
int_fits (pos n) e = grind (arith, nat_tests)
int_fits (negsuc n) e = grind (arith, nat_tests)

int_unsigned_fits : (z : ℤ) → is_in_kind IntUnsigned z ≡ true → NumberFits z
int_unsigned_fits (pos n) e = grind (arith, nat_tests)
int_unsigned_fits (negsuc n) e = absurd cc

bigint_fits : (z : ℤ) → is_in_kind BigInt z ≡ true → NumberFits z
bigint_fits (pos n) e = grind (arith, nat_tests)
bigint_fits (negsuc n) e = grind (arith, nat_tests)

bigint_unsigned_fits : (z : ℤ) → is_in_kind BigIntUnsigned z ≡ true → NumberFits z
bigint_unsigned_fits (pos n) e = grind (arith, nat_tests)
bigint_unsigned_fits (negsuc n) e = absurd cc

taken_low : (n : ℕ) (t : List ℕ) → list_all is_low t ≡ true → list_all is_low (take n t) ≡ true
taken_low zero t e = refl
taken_low (suc n) [] e = refl
taken_low (suc n) (b ∷ t) e = let parts = both_true (is_low b) (list_all is_low t) e in rw parts.0 (taken_low n t parts.1)

number_fitted : (kind : Kind) (z : ℤ) → (is_in_kind kind z ≡ true → NumberFits z) → IfOk {E = ℕ} (refuse_where 1264 (not (is_in_kind kind z)) >> Ok (Number z)) ValueFits
number_fitted kind z fits = after ValueFits 1264 (not (is_in_kind kind z)) (Ok (Number z)) (λ e. fits (not_false (is_in_kind kind z) e))

pub fitted_fits : (kind : Kind) (v : Value) → KindFits kind → IsOfSort (sort_of kind) v → IfOk (fitted kind v) ValueFits
fitted_fits kind Null fits is = tt
fitted_fits Int (Number z) fits is = number_fitted Int z (int_fits z)
fitted_fits IntUnsigned (Number z) fits is = number_fitted IntUnsigned z (int_unsigned_fits z)
fitted_fits BigInt (Number z) fits is = number_fitted BigInt z (bigint_fits z)
fitted_fits BigIntUnsigned (Number z) fits is = number_fitted BigIntUnsigned z (bigint_unsigned_fits z)
fitted_fits (VarChar n c) (Number z) fits is = absurd is
fitted_fits (VarBinary n) (Number z) fits is = absurd is
fitted_fits Int (Text t) fits is = absurd is
fitted_fits IntUnsigned (Text t) fits is = absurd is
fitted_fits BigInt (Text t) fits is = absurd is
fitted_fits BigIntUnsigned (Text t) fits is = absurd is
fitted_fits (VarChar n c) (Text t) fits is = after ValueFits 1406 (not (list_all is_space (drop n t))) (Ok (Text (take n t))) (λ e.
    record { short = omega (arith, length-take n t, fits); is_text = taken_low n t is })
fitted_fits (VarBinary n) (Text t) fits is = absurd is
fitted_fits Int (Bytes b) fits is = absurd is
fitted_fits IntUnsigned (Bytes b) fits is = absurd is
fitted_fits BigInt (Bytes b) fits is = absurd is
fitted_fits BigIntUnsigned (Bytes b) fits is = absurd is
fitted_fits (VarChar n c) (Bytes b) fits is = absurd is
fitted_fits (VarBinary n) (Bytes b) fits is = after ValueFits 1406 (nat_lt n (length b)) (Ok (Bytes b)) (λ e.
    let short : length b ≤ n = ltb-false n (length b) e in omega (arith, short, fits))

pub assigned_fits : (ty : ColumnType) (v : Value) → KindFits ty.kind → is_literal v ≡ true → IfOk (assign_to ty v) ValueFits
assigned_fits ty v fits e =
    after ValueFits 1048 (is_null v && not ty.nullable) _ (λ taken.
    then_if (IsOfSort (sort_of ty.kind)) ValueFits (convert_to ty.kind v) (fitted ty.kind) (converted_sort (sort_of ty.kind) v e) (λ c is. fitted_fits ty.kind c fits is))

-- ---- columns

short_kind : (n : ℕ) (long : Bool) (kind : Kind) → nat_lt 65535 n ≡ long → (n < 2 ^ 16 → KindFits kind) → IfOk {E = ℕ} (some_or 1074 (cond long None (Some kind))) KindFits
short_kind n true kind e fits = tt
short_kind n false kind e fits = let short : n ≤ 65535 = ltb-false 65535 n e in fits (omega (arith, short))

kind_fits : (k : KindText) → IfOk {E = ℕ} (some_or 1074 (kind_of k)) KindFits
kind_fits written.Int = tt
kind_fits written.IntUnsigned = tt
kind_fits written.BigInt = tt
kind_fits written.BigIntUnsigned = tt
kind_fits (written.VarChar n c) = short_kind n (nat_lt 65535 n) (VarChar n c) refl (λ lt. lt)
kind_fits (written.VarBinary n) = short_kind n (nat_lt 65535 n) (VarBinary n) refl (λ lt. lt)

null_or_none : (nullable : Bool) → DefaultFits (cond nullable (Some Null) None)
null_or_none true = tt
null_or_none false = tt

default_fits : (ty : ColumnType) (d : Option Value) → KindFits ty.kind → where_given is_literal d ≡ true → IfOk (default_kept ty d) DefaultFits
default_fits ty None fits e = null_or_none ty.nullable
default_fits ty (Some v) fits e =
    then_if ValueFits DefaultFits (refused_as 1067 (assign_to ty v)) (λ d. Ok (Some d)) (refused_else ValueFits 1067 (assign_to ty v) (assigned_fits ty v fits e)) (λ d is. is)

column_fits : (keys : List KeyText) (before : List ColumnDef) (c : ColumnText) → is_column_text c ≡ true → IfOk (checked_column keys before c) ColumnFits
column_fits keys before c e =
    let name = both_true (is_grammatical_name c.name) _ e in
    let rest = both_true (is_kind_text c.kind) _ name.1 in
    after ColumnFits 1060 _ _ (λ free.
    then_if KindFits ColumnFits (some_or 1074 (kind_of c.kind)) _ (kind_fits c.kind) (λ kind fits.
    let ty : ColumnType = record { kind = kind; nullable = c.nullable && not (is_primary_column keys c.name) } in
    let made : Option Value → ColumnDef = λ default. record { name = c.name; ty = ty; default = default } in
    then_if DefaultFits ColumnFits (default_kept ty c.default) (λ default. Ok (made default)) (default_fits ty c.default fits rest.1) (λ default is.
    record { name = name_fits c.name name.0; kind = fits; default = is })))

pub more_all : {A : Type 0} (P : A → Type 0) (xs : List A) (x : A) → AllByRecursion P xs → P x → AllByRecursion P (xs ++ x ∷ [])
more_all P [] x all h = (h, tt)
more_all P (y ∷ xs) x all h = (all.0, more_all P xs x all.1 h)

-- so many columns that fit
pub record SoMany (n : ℕ) (columns : List ColumnDef) : Type 0 where
  pub count : length columns ≡ n
  pub all : AllByRecursion ColumnFits columns

-- one element after the other
pub in_turn_fits : {S A : Type 0} (P : ℕ → S → Type 0) (test : A → Bool) (f : S → A → Result S ℕ)
    → ((n : ℕ) (s : S) (x : A) → P n s → test x ≡ true → IfOk (f s x) (P (suc n)))
    → (n : ℕ) (s : S) (xs : List A) → P n s → list_all test xs ≡ true → IfOk (in_turn f s xs) (P (n + length xs))
in_turn_fits P test f step n s [] h e = let same : n ≡ n + 0 = omega arith in subst (λ (m : ℕ). P m s) same h
in_turn_fits P test f step n s (x ∷ xs) h e =
    let parts = both_true (test x) (list_all test xs) e in
    then_if (P (suc n)) (P (n + suc (length xs))) (f s x) (λ t. in_turn f t xs) (step n s x h parts.0) (λ t is.
    let same : suc n + length xs ≡ n + suc (length xs) = omega arith in
    subst (λ (m : ℕ). IfOk (in_turn f t xs) (P m)) same (in_turn_fits P test f step (suc n) t xs is parts.1))

pub columns_fit : (keys : List KeyText) (texts : List ColumnText) → list_all is_column_text texts ≡ true → IfOk (in_turn (with_column keys) [] texts) (SoMany (0 + length texts))
columns_fit keys texts e = in_turn_fits SoMany is_column_text (with_column keys) (λ n before c are e.
    then_if ColumnFits (SoMany (suc n)) (checked_column keys before c) (λ d. Ok (before ++ d ∷ [])) (column_fits keys before c e) (λ d is.
    record { count = omega (arith, length-append before (d ∷ []), are.count); all = more_all ColumnFits before d are.all is })) 0 [] texts (record { count = refl; all = tt }) e
