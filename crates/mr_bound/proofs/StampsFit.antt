-- Assignments give no number of more than 64 bits, so a stamp within 64 bits is the stamp.
use Rattle.std.proofs.Common.{◌≡◌, ℕ, ℤ, pos, negsuc, ◌^◌, ◌<◌, zero, suc, List, [], ◌∷◌, length, refl, sym, ap, subst, arith, Bool, true, false, cond, Option, Some, None, Result, Ok, Err, IfOk}
use Rattle.std.specs.Prelude.{not, ⊤, is_some, IfSome, if◌then◌else◌, slice_get, slice_set, unwrap_or, nat_lt, drop, take}
use Rattle.std.specs.List.{list_all}
use Rattle.std.specs.Option.{option_map_or}
use Rattle.std.proofs.lemmas.Bool.Decides.{nat_tests}
use Rattle.mr_lanes.specs.Kernels.{is_low, is_space}
use Rattle.mr_types.specs.declared.value.Value.{Value}
use Rattle.mr_types.specs.declared.value.Value.TheVariants.{Null, Number, Text, Bytes}
use Rattle.mr_types.specs.declared.kind.Kind.{Kind}
use Rattle.mr_types.specs.declared.kind.Kind.TheVariants.{Int, IntUnsigned, BigInt, BigIntUnsigned, VarChar, VarBinary}
use Rattle.mr_types.specs.declared.kind.ColumnType.{ColumnType}
use Rattle.mr_types.specs.declared.definition.TableDef.{TableDef}
use Rattle.mr_types.specs.declared.definition.Ttl.{Ttl}
use Rattle.mr_types.specs.declared.row.Row.{Row}
use Rattle.mr_types.specs.Rows.{IsRowOf, IsWanted, IsStampOf}
use Rattle.mr_types.specs.Refusals.{◌>>=◌, ◌>>◌, refuse_where, some_or, in_turn}
use Rattle.mr_types.specs.Values.{Sort, Numbers, Texts, Binaries, sort_of, converted, convert_to, is_in_kind, length_of_kind, fitted, assign_to}
use Rattle.mr_spec.specs.NewRows.{number_in, stamp_for}
use Rattle.mr_spec.specs.Setting.{same_fields, updated_row}
use Rattle.mr_bound.specs.declared.bound.BoundSet.{BoundSet}
use Rattle.mr_bound.specs.declared.bound.BoundUpdate.{BoundUpdate}
use Rattle.mr_bound.specs.BoundUpdates.{with_set, sum_of, updated}
use Rattle.mr_bound.specs.Stamps.{number_within, stamp_within, row_within, updated_within, HasStamp}

-- ---- answers

after : {B : Type 0} (Q : B → Type 0) (code : ℕ) (refused : Bool) (next : Result B ℕ) → (refused ≡ false → IfOk next Q) → IfOk (refuse_where code refused >> next) Q
after Q code true next go = tt
after Q code false next go = go refl

then_if : {A B : Type 0} (P : A → Type 0) (Q : B → Type 0) (r : Result A ℕ) (f : A → Result B ℕ) → IfOk r P → ((x : A) → P x → IfOk (f x) Q) → IfOk (r >>= f) Q
then_if P Q (Ok x) f h go = go x h
then_if P Q (Err e) f h go = tt

whatever : {A B : Type 0} (Q : B → Type 0) (r : Result A ℕ) (f : A → Result B ℕ) → ((x : A) → IfOk (f x) Q) → IfOk (r >>= f) Q
whatever Q (Ok x) f go = go x
whatever Q (Err e) f go = tt

whenever : {A : Type 0} (P : A → Type 0) (r : Result A ℕ) → ((x : A) → P x) → IfOk r P
whenever P (Ok x) go = go x
whenever P (Err e) go = tt

not_false : (b : Bool) → not b ≡ false → b ≡ true
not_false true e = refl
not_false false e = cc

-- ---- numbers

-- a number of at most 64 bits, where it is one
abbrev IsSmall : Value → Type 0
IsSmall v = number_in v < 2 ^ 64

-- a number only where the sort is of numbers
abbrev IsNumberOf : Sort → Value → Type 0
IsNumberOf Numbers v = ⊤
IsNumberOf Texts Null = ⊤
IsNumberOf Texts (Number n) = ⊥
IsNumberOf Texts (Text t) = ⊤
IsNumberOf Texts (Bytes b) = ⊤
IsNumberOf Binaries Null = ⊤
IsNumberOf Binaries (Number n) = ⊥
IsNumberOf Binaries (Text t) = ⊤
IsNumberOf Binaries (Bytes b) = ⊤

any_number : (r : Result Value ℕ) → IfOk r (IsNumberOf Numbers)
any_number (Ok v) = tt
any_number (Err e) = tt

ascii_text : (b : List ℕ) (low : Bool) → IfOk {E = ℕ} (cond low (Ok (Text b)) (Err 1366)) (IsNumberOf Texts)
ascii_text b true = tt
ascii_text b false = tt

converted_number : (sort : Sort) (v : Value) → IfOk (converted sort v) (IsNumberOf sort)
converted_number Numbers v = any_number (converted Numbers v)
converted_number Texts Null = tt
converted_number Texts (Number n) = tt
converted_number Texts (Text t) = tt
converted_number Texts (Bytes b) = ascii_text b (list_all is_low b)
converted_number Binaries Null = tt
converted_number Binaries (Number n) = tt
converted_number Binaries (Text t) = tt
converted_number Binaries (Bytes b) = tt

int_small : (z : ℤ) → is_in_kind Int z ≡ true → IsSmall (Number z)
int_small (pos n) e = grind (arith, nat_tests)
int_small (negsuc n) e = omega arith

int_unsigned_small : (z : ℤ) → is_in_kind IntUnsigned z ≡ true → IsSmall (Number z)
int_unsigned_small (pos n) e = grind (arith, nat_tests)
int_unsigned_small (negsuc n) e = omega arith

bigint_small : (z : ℤ) → is_in_kind BigInt z ≡ true → IsSmall (Number z)
bigint_small (pos n) e = grind (arith, nat_tests)
bigint_small (negsuc n) e = omega arith

bigint_unsigned_small : (z : ℤ) → is_in_kind BigIntUnsigned z ≡ true → IsSmall (Number z)
bigint_unsigned_small (pos n) e = grind (arith, nat_tests)
bigint_unsigned_small (negsuc n) e = omega arith

in_kind_small : (kind : Kind) (z : ℤ) → IsNumberOf (sort_of kind) (Number z) → is_in_kind kind z ≡ true → IsSmall (Number z)
in_kind_small Int z is e = int_small z e
in_kind_small IntUnsigned z is e = int_unsigned_small z e
in_kind_small BigInt z is e = bigint_small z e
in_kind_small BigIntUnsigned z is e = bigint_unsigned_small z e
in_kind_small (VarChar n c) z is e = absurd is
in_kind_small (VarBinary n) z is e = absurd is

fitted_small : (kind : Kind) (v : Value) → IsNumberOf (sort_of kind) v → IfOk (fitted kind v) IsSmall
fitted_small kind Null is = omega arith
fitted_small kind (Number z) is = after IsSmall 1264 (not (is_in_kind kind z)) (Ok (Number z)) (λ e. in_kind_small kind z is (not_false (is_in_kind kind z) e))
fitted_small kind (Text t) is = after IsSmall 1406 (not (list_all is_space (drop (length_of_kind kind) t))) (Ok (Text (take (length_of_kind kind) t))) (λ e. omega arith)
fitted_small kind (Bytes b) is = after IsSmall 1406 (nat_lt (length_of_kind kind) (length b)) (Ok (Bytes b)) (λ e. omega arith)

assigned_small : (ty : ColumnType) (v : Value) → IfOk (assign_to ty v) IsSmall
assigned_small ty v =
    after IsSmall 1048 _ _ (λ e.
    then_if (IsNumberOf (sort_of ty.kind)) IsSmall (convert_to ty.kind v) (fitted ty.kind) (converted_number (sort_of ty.kind) v) (λ c is. fitted_small ty.kind c is))

-- ---- fields

-- the field at a place
abbrev IsSmallAt : ℕ → List Value → Type 0
IsSmallAt i fields = IsSmall (unwrap_or (slice_get fields i) Null)

small_set : (i at : ℕ) (fields : List Value) (a : Value) → IsSmall a → IsSmallAt i fields → IsSmallAt i (slice_set fields at a)
small_set i at [] a small h = h
small_set zero zero (x ∷ xs) a small h = small
small_set (suc i) zero (x ∷ xs) a small h = h
small_set zero (suc at) (x ∷ xs) a small h = h
small_set (suc i) (suc at) (x ∷ xs) a small h = small_set i at xs a small h

turn_keeps : {S A : Type 0} (P : S → Type 0) (f : S → A → Result S ℕ) → ((s : S) (x : A) → P s → IfOk (f s x) P) → (s : S) (xs : List A) → P s → IfOk (in_turn f s xs) P
turn_keeps P f step s [] h = h
turn_keeps P f step s (x ∷ xs) h = then_if P P (f s x) (λ next. in_turn f next xs) (step s x h) (λ next is. turn_keeps P f step next xs is)

set_small : (i : ℕ) (def : TableDef) (fields : List Value) (s : BoundSet) → IsSmallAt i fields → IfOk (with_set def fields s) (IsSmallAt i)
set_small i def fields s h =
    whatever (IsSmallAt i) (some_or 1054 (slice_get def.columns s.column)) _ (λ c.
    whatever (IsSmallAt i) (sum_of fields s.to) _ (λ v.
    then_if IsSmall (IsSmallAt i) (assign_to c.ty v) (λ a. Ok (slice_set fields s.column a)) (assigned_small c.ty v) (λ a small. small_set i s.column fields a small h)))

sets_small : (i : ℕ) (def : TableDef) (fields : List Value) (set : List BoundSet) → IsSmallAt i fields → IfOk (in_turn (with_set def) fields set) (IsSmallAt i)
sets_small i def fields set h = turn_keeps (IsSmallAt i) (with_set def) (set_small i def) fields set h

-- ---- stamps

-- the number in the TTL column
abbrev IsStampIn : Option Ttl → List Value → Type 0
IsStampIn ttl fields = IfSome (stamp_for ttl 0 fields) (λ n. n < 2 ^ 64)

-- the number in the column, where there is one
abbrev IsSmallIn : Option ℕ → List Value → Type 0
IsSmallIn column fields = option_map_or (λ i. number_in (unwrap_or (slice_get fields i) Null)) column 0 < 2 ^ 64

column_stays : (column : Option ℕ) (def : TableDef) (fields : List Value) (set : List BoundSet) → IsSmallIn column fields → IfOk (in_turn (with_set def) fields set) (IsSmallIn column)
column_stays None def fields set h = whenever (IsSmallIn None) (in_turn (with_set def) fields set) (λ after. h)
column_stays (Some i) def fields set h = sets_small i def fields set h

stamps_stay : (ttl : Option Ttl) (def : TableDef) (fields : List Value) (set : List BoundSet) → IsStampIn ttl fields → IfOk (in_turn (with_set def) fields set) (IsStampIn ttl)
stamps_stay None def fields set h = whenever (IsStampIn None) (in_turn (with_set def) fields set) (λ after. tt)
stamps_stay (Some ttl) def fields set h = column_stays ttl.column def fields set h

column_is : (column : Option ℕ) (given : ℕ) (fields : List Value) → IsSmallIn column fields
    → option_map_or (λ i. number_within (unwrap_or (slice_get fields i) Null)) column given ≡ option_map_or (λ i. number_in (unwrap_or (slice_get fields i) Null)) column given
column_is None given fields h = refl
column_is (Some i) given fields h = omega arith

stamp_is : (ttl : Option Ttl) (given : ℕ) (fields : List Value) → IsStampIn ttl fields → stamp_within ttl given fields ≡ stamp_for ttl given fields
stamp_is None given fields h = refl
stamp_is (Some ttl) given fields h = ap (λ (n : ℕ). Some n) (column_is ttl.column given fields h)

row_is : (def : TableDef) (old : Row) (fields : List Value) → IsStampIn def.ttl fields → row_within def old fields ≡ updated_row def old fields
row_is def old fields h = ap (λ (stamp : Option ℕ). record old { stamp = stamp; fields = fields }) (stamp_is def.ttl (unwrap_or old.stamp 0) fields h)

rows_are : (def : TableDef) (old : Row) (r : Result (List Value) ℕ) → IfOk r (IsStampIn def.ttl)
    → (r >>= (λ fields. Ok (if same_fields old.fields fields then None else Some (row_within def old fields)))) ≡ (r >>= (λ fields. Ok (if same_fields old.fields fields then None else Some (updated_row def old fields))))
rows_are def old (Err e) h = refl
rows_are def old (Ok fields) h = ap (λ (row : Row). Ok (if same_fields old.fields fields then None else Some row)) (row_is def old fields h)

pub updated_is : (def : TableDef) (row : Row) (u : BoundUpdate) → HasStamp def row → updated_within def row u ≡ updated def row u
updated_is def row u h = rows_are def row (in_turn (with_set def) row.fields u.set) (stamps_stay def.ttl def row.fields u.set h)

-- ---- rows of tables

column_has : (column stamp : Option ℕ) (fields : List Value) → IsWanted true stamp → ((place s : ℕ) → column ≡ Some place → stamp ≡ Some s → slice_get fields place ≡ Some (Number (pos s))) → IsSmallIn column fields
column_has None stamp fields wanted is = omega arith
column_has (Some i) None fields wanted is = absurd wanted
column_has (Some i) (Some s) fields wanted is = subst (λ (v : Option Value). IsSmall (unwrap_or v Null)) (sym (is i s refl refl)) wanted

stamp_has : (ttl : Option Ttl) (row : Row) → IsWanted (is_some ttl) row.stamp → IsStampOf ttl row → IsStampIn ttl row.fields
stamp_has None row wanted is = tt
stamp_has (Some ttl) row wanted is = column_has ttl.column row.stamp row.fields wanted is

pub rows_have_stamps : (def : TableDef) (row : Row) → IsRowOf def row → HasStamp def row
rows_have_stamps def row is = stamp_has def.ttl row is.stamp is.stamp_column
