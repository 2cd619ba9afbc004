-- Columns are read from their bytes, and from nothing else.
use Rattle.std.proofs.Common.{◌≡◌, ℕ, ◌<◌, List, [], ◌∷◌, ◌++◌, length, refl, ap, sym, arith, Bool, true, false, nat_eq, cond, Option, Some, None, subst, Ok, Err, IfOk}
use Rattle.std.specs.List.{list_all}
use Rattle.std.proofs.lemmas.Bool.{eqb-true}
use Rattle.byteorder.specs.Endian.{big_bytes}
use Rattle.mr_pieces.specs.declared.collation.Collation.{Collation}
use Rattle.mr_pieces.specs.declared.collation.Collation.TheVariants.{Bin, Ci}
use Rattle.mr_types.specs.declared.value.Value.{Value}
use Rattle.mr_types.specs.declared.kind.Kind.{Kind}
use Rattle.mr_types.specs.declared.kind.Kind.TheVariants.{Int, IntUnsigned, BigInt, BigIntUnsigned, VarChar, VarBinary}
use Rattle.mr_types.specs.declared.definition.ColumnDef.{ColumnDef}
use Rattle.mr_types.specs.Refusals.{◌>>=◌}
use Rattle.mr_spec.specs.RowForm.{value_bytes}
use Rattle.mr_fields.specs.Fields.{Read, is_byte, byte_in, flag_in, number_in, name_bytes, name_in}
use Rattle.mr_fields.specs.Rows.{value_in}
use Rattle.mr_fields.proofs.Reading.{IsRead, Front, both, then_read, where_true, by_mark, mid, last}
use Rattle.mr_fields.proofs.FieldLaws.{and_true, Byte, byte_only, flag_bytes, flag_only, flag_back, Number as IsNumber, number_only, number_back, name_only, name_back}
use Rattle.mr_fields.proofs.ValueLaws.{value_only, value_back}
use Rattle.mr_schema.specs.DefinitionForm.{collation_byte, kind_bytes, default_bytes, column_bytes, no_length_in, number_kind_in, collation_in, text_kind_in, binary_kind_in, kind_in, given_default_in, default_in, column_in}
use Rattle.mr_schema.specs.DefinitionFitting.{KindFits, DefaultFits, ColumnFits}

-- ---- kinds

-- behind the number of a kind
abbrev Behind : ℕ → List ℕ → Kind × List ℕ → Type 0
Behind mark s p = IsRead (mark ∷ s) (kind_bytes p.0) p.1

marked : (mark : ℕ) (s front rest : List ℕ) → IsRead s front rest → IsRead (mark ∷ s) (mark ∷ front) rest
marked mark s front rest is = record { whole = ap (λ (x : List ℕ). mark ∷ x) is.whole; rest_bytes = is.rest_bytes }

below_one : (b : ℕ) → b < 1 → b ≡ 0
below_one b lt = omega (arith, lt)

-- this number of a kind, with no length and no collation
module _ (mark : ℕ) (kind : Kind) (form : kind_bytes kind ≡ mark ∷ 0 ∷ 0 ∷ 0 ∷ []) where
  number_kind_only : (s : List ℕ) → list_all is_byte s ≡ true → IfOk (number_kind_in kind s) (Behind mark s)
  number_kind_only s e =
      then_read (λ p. IsRead s (0 ∷ 0 ∷ []) p.1) (Behind mark s) (no_length_in s) _ no_length (λ size size_is.
      then_read (Byte 1 size.1) (Behind mark s) (byte_in 1 size.1) _ (byte_only 1 size.1 size_is.rest_bytes) (λ collation collation_is.
      subst (λ (x : List ℕ). IsRead (mark ∷ s) x collation.1) (sym form) (marked mark s (0 ∷ 0 ∷ 0 ∷ []) collation.1 (
      both s (0 ∷ 0 ∷ []) size.1 (0 ∷ []) collation.1 size_is (subst (λ (b : ℕ). IsRead size.1 (b ∷ []) collation.1) (below_one collation.0 collation_is.1) collation_is.0)))))
    where
      no_length : IfOk (no_length_in s) (λ p. IsRead s (0 ∷ 0 ∷ []) p.1)
      no_length =
          then_read (IsNumber 2 s) (λ p. IsRead s (0 ∷ 0 ∷ []) p.1) (number_in 2 s) _ (number_only 2 s e) (λ size is.
          where_true (λ p. IsRead s (0 ∷ 0 ∷ []) p.1) (nat_eq size.0 0) size (length s) (λ none.
          subst (λ (n : ℕ). IsRead s (big_bytes 2 n) size.1) (eqb-true size.0 0 none) is.0))

abbrev collation_bytes : Collation → List ℕ
collation_bytes c = collation_byte c ∷ []

collation_only : (s : List ℕ) → list_all is_byte s ≡ true → IfOk (collation_in s) (Front collation_bytes s)
collation_only [] e = tt
collation_only (b ∷ s) e =
    let bytes = (and_true (is_byte b) (list_all is_byte s) e).1 in
    by_mark (Front collation_bytes (b ∷ s)) b 1 _ _ (λ is. record { whole = ap (λ (x : ℕ). x ∷ s) is; rest_bytes = bytes }) (
    by_mark (Front collation_bytes (b ∷ s)) b 2 _ (Err (length (b ∷ s))) (λ is. record { whole = ap (λ (x : ℕ). x ∷ s) is; rest_bytes = bytes }) tt)

text_kind_only : (s : List ℕ) → list_all is_byte s ≡ true → IfOk (text_kind_in s) (Behind 5 s)
text_kind_only s e =
    then_read (IsNumber 2 s) (Behind 5 s) (number_in 2 s) _ (number_only 2 s e) (λ size size_is.
    then_read (Front collation_bytes size.1) (Behind 5 s) (collation_in size.1) _ (collation_only size.1 size_is.0.rest_bytes) (λ collation collation_is.
    marked 5 s (big_bytes 2 size.0 ++ collation_bytes collation.0) collation.1 (both s (big_bytes 2 size.0) size.1 (collation_bytes collation.0) collation.1 size_is.0 collation_is)))

binary_kind_only : (s : List ℕ) → list_all is_byte s ≡ true → IfOk (binary_kind_in s) (Behind 6 s)
binary_kind_only s e =
    then_read (IsNumber 2 s) (Behind 6 s) (number_in 2 s) _ (number_only 2 s e) (λ size size_is.
    then_read (Byte 1 size.1) (Behind 6 s) (byte_in 1 size.1) _ (byte_only 1 size.1 size_is.0.rest_bytes) (λ collation collation_is.
    marked 6 s (big_bytes 2 size.0 ++ 0 ∷ []) collation.1 (both s (big_bytes 2 size.0) size.1 (0 ∷ []) collation.1 size_is.0
    (subst (λ (b : ℕ). IsRead size.1 (b ∷ []) collation.1) (below_one collation.0 collation_is.1) collation_is.0))))

at_mark : (k mark : ℕ) (s : List ℕ) (r : Read Kind) → IfOk r (Behind k s) → mark ≡ k → IfOk r (Front kind_bytes (mark ∷ s))
at_mark k mark s r is e = subst (λ (m : ℕ). IfOk r (Front kind_bytes (m ∷ s))) (sym e) is

kind_only : (s : List ℕ) → list_all is_byte s ≡ true → IfOk (kind_in s) (Front kind_bytes s)
kind_only [] e = tt
kind_only (mark ∷ s) e =
    let bytes = (and_true (is_byte mark) (list_all is_byte s) e).1 in
    let Q : Kind × List ℕ → Type 0 = Front kind_bytes (mark ∷ s) in
    by_mark Q mark 1 _ _ (at_mark 1 mark s (number_kind_in Int s) (number_kind_only 1 Int refl s bytes)) (
    by_mark Q mark 2 _ _ (at_mark 2 mark s (number_kind_in IntUnsigned s) (number_kind_only 2 IntUnsigned refl s bytes)) (
    by_mark Q mark 3 _ _ (at_mark 3 mark s (number_kind_in BigInt s) (number_kind_only 3 BigInt refl s bytes)) (
    by_mark Q mark 4 _ _ (at_mark 4 mark s (number_kind_in BigIntUnsigned s) (number_kind_only 4 BigIntUnsigned refl s bytes)) (
    by_mark Q mark 5 _ _ (at_mark 5 mark s (text_kind_in s) (text_kind_only s bytes)) (
    by_mark Q mark 6 _ (Err (length (mark ∷ s))) (at_mark 6 mark s (binary_kind_in s) (binary_kind_only s bytes)) tt)))))

collation_back : (c : Collation) (rest : List ℕ) → collation_in (collation_byte c ∷ rest) ≡ Ok (c, rest)
collation_back Bin rest = refl
collation_back Ci rest = refl

no_length_back : (t : List ℕ) → no_length_in (0 ∷ 0 ∷ t) ≡ Ok (0, t)
no_length_back t = last (number_in 2) (0 ∷ 0 ∷ []) t 0 (λ size. cond (nat_eq size.0 0) (Ok size) (Err (length (0 ∷ 0 ∷ t)))) (Ok (0, t)) (λ t. number_back 2 0 t (omega arith)) refl

number_kind_back : (kind : Kind) (rest : List ℕ) → number_kind_in kind (0 ∷ 0 ∷ 0 ∷ rest) ≡ Ok (kind, rest)
number_kind_back kind rest = last no_length_in (0 ∷ 0 ∷ []) (0 ∷ rest) 0 (λ size. byte_in 1 size.1 >>= (λ collation. Ok (kind, collation.1))) (Ok (kind, rest)) no_length_back refl

kind_back : (kind : Kind) (rest : List ℕ) → KindFits kind → kind_in (kind_bytes kind ++ rest) ≡ Ok (kind, rest)
kind_back Int rest fits = number_kind_back Int rest
kind_back IntUnsigned rest fits = number_kind_back IntUnsigned rest
kind_back BigInt rest fits = number_kind_back BigInt rest
kind_back BigIntUnsigned rest fits = number_kind_back BigIntUnsigned rest
kind_back (VarChar n collation) rest fits =
    mid (number_in 2) (big_bytes 2 n) (collation_byte collation ∷ []) rest n _ _ (λ t. number_back 2 n t (omega (arith, fits))) (
    last collation_in (collation_byte collation ∷ []) rest collation _ _ (collation_back collation) refl)
kind_back (VarBinary n) rest fits =
    mid (number_in 2) (big_bytes 2 n) (0 ∷ []) rest n _ _ (λ t. number_back 2 n t (omega (arith, fits))) refl

-- ---- defaults and columns

default_only : (s : List ℕ) → list_all is_byte s ≡ true → IfOk (default_in s) (Front default_bytes s)
default_only s e =
    then_read (Front flag_bytes s) (Front default_bytes s) (flag_in s) _ (flag_only s e) (λ given given_is. behind s given.0 given.1 given_is)
  where
    behind : (s : List ℕ) (given : Bool) (rest : List ℕ) → IsRead s (flag_bytes given) rest → IfOk (given_default_in given rest) (Front default_bytes s)
    behind s false rest is = is
    behind s true rest is = then_read (Front value_bytes rest) (Front default_bytes s) (value_in rest) _ (value_only rest is.rest_bytes) (λ v v_is.
        both s (1 ∷ []) rest (value_bytes v.0) v.1 is v_is)

default_back : (d : Option Value) (rest : List ℕ) → DefaultFits d → default_in (default_bytes d ++ rest) ≡ Ok (d, rest)
default_back None rest fits = refl
default_back (Some v) rest fits = ap (λ (r : Read Value). r >>= (λ v. Ok (Some v.0, v.1))) (value_back v rest fits)

pub column_only : (s : List ℕ) → list_all is_byte s ≡ true → IfOk (column_in s) (Front column_bytes s)
column_only s e =
    then_read (Front name_bytes s) (Front column_bytes s) (name_in s) _ (name_only s e) (λ name name_is.
    then_read (Front kind_bytes name.1) (Front column_bytes s) (kind_in name.1) _ (kind_only name.1 name_is.rest_bytes) (λ kind kind_is.
    then_read (Front flag_bytes kind.1) (Front column_bytes s) (flag_in kind.1) _ (flag_only kind.1 kind_is.rest_bytes) (λ nullable nullable_is.
    then_read (Front default_bytes nullable.1) (Front column_bytes s) (default_in nullable.1) _ (default_only nullable.1 nullable_is.rest_bytes) (λ default default_is.
    both s (name_bytes name.0) name.1 _ default.1 name_is (
    both name.1 (kind_bytes kind.0) kind.1 _ default.1 kind_is (
    both kind.1 (flag_bytes nullable.0) nullable.1 (default_bytes default.0) default.1 nullable_is default_is))))))

pub column_back : (c : ColumnDef) (rest : List ℕ) → ColumnFits c → column_in (column_bytes c ++ rest) ≡ Ok (c, rest)
column_back c rest fits =
    mid name_in (name_bytes c.name) _ rest c.name _ _ (λ t. name_back c.name t fits.name) (
    mid kind_in (kind_bytes c.ty.kind) _ rest c.ty.kind _ _ (λ t. kind_back c.ty.kind t fits.kind) (
    mid flag_in (flag_bytes c.ty.nullable) _ rest c.ty.nullable _ _ (flag_back c.ty.nullable) (
    last default_in (default_bytes c.default) rest c.default _ _ (λ t. default_back c.default t fits.default) refl)))
