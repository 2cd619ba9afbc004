-- What assignment keeps of a value.
use Rattle.std.proofs.Common.{◌≡◌, ℕ, List, [], ◌∷◌, ◌++◌, length, replicate, take, drop, refl, sym, ap, ◌∙◌, Bool, true, false, inl, inr, Result, Ok, Err, Option, Some, None, ℤ, cond}
use Rattle.std.specs.List.{list_all}
use Rattle.std.specs.Prelude.{not, nat_lt}
use Rattle.std.proofs.lemmas.Bool.{cases_Bool, eqb-true, and_parts}
use Rattle.std.proofs.lemmas.List.{take-append-drop}
use Rattle.mr_lanes.specs.Kernels.{is_space}
use Rattle.mr_pieces.specs.declared.collation.Collation.{Collation}
use Rattle.mr_types.specs.declared.kind.Kind.{Kind}
use Rattle.mr_types.specs.declared.kind.Kind.TheVariants.{Int, IntUnsigned, BigInt, BigIntUnsigned, VarChar, VarBinary}
use Rattle.mr_types.specs.declared.kind.ColumnType.{ColumnType}
use Rattle.mr_types.specs.declared.value.Value.{Value}
use Rattle.mr_types.specs.declared.value.Value.TheVariants.{Number, Text, Bytes}
use Rattle.mr_types.specs.Refusals.{◌>>=◌, ◌>>◌, refuse_where, some_or}
use Rattle.mr_types.specs.Values.{assign_to, cut_text, convert_to, fitted, whole_number, is_in_kind, is_ascii}
use Rattle.mr_types.specs.Promises.{AssignKeeps}

abbrev kept : Value → Result Value ℕ
kept v = Ok v

text_is : (a b : List ℕ) → kept (Text a) ≡ kept (Text b) → a ≡ b
text_is a b e = cc

bytes_is : (a b : List ℕ) → kept (Bytes a) ≡ kept (Bytes b) → a ≡ b
bytes_is a b e = cc

blanks_are : (xs : List ℕ) → list_all is_space xs ≡ true → xs ≡ replicate (length xs) 32
blanks_are [] h = refl
blanks_are (x ∷ xs) h =
    let parts = and_parts (is_space x) (list_all is_space xs) h in
    let first = eqb-true x 32 parts.0 in
    let rest = blanks_are xs parts.1 in
    cc

cut_keeps : (n : ℕ) (given text : List ℕ) → cut_text n given ≡ kept (Text text) → (spaces : ℕ) × (given ≡ text ++ replicate spaces 32)
cut_keeps n given text e =
    elim (cases_Bool (list_all is_space (drop n given))) [
      | inl blank ↦
          let same : take n given ≡ text = text_is (take n given) text (rw blank at e) in
          (length (drop n given), sym (take-append-drop n given) ∙ ap (λ (l : List ℕ). l ++ drop n given) same ∙ ap (λ (l : List ℕ). text ++ l) (blanks_are (drop n given) blank))
      | inr other ↦ absurd (let no : Result Value ℕ = Err 1406 in let f : no ≡ kept (Text text) = rw other at e in cc)
    ]

-- a number is no text and no bytes

number_fitted : (refused : Bool) (n : ℤ) (w : Value) → (refuse_where 1264 refused >> Ok (Number n)) ≡ kept w → Number n ≡ w
number_fitted true n w e = absurd (let no : Result Value ℕ = Err 1264 in let f : no ≡ kept w = e in cc)
number_fitted false n w e = let f : kept (Number n) ≡ kept w = e in cc

bytes_fitted : (refused : Bool) (b : List ℕ) (w : Value) → (refuse_where 1406 refused >> Ok (Bytes b)) ≡ kept w → Bytes b ≡ w
bytes_fitted true b w e = absurd (let no : Result Value ℕ = Err 1406 in let f : no ≡ kept w = e in cc)
bytes_fitted false b w e = let f : kept (Bytes b) ≡ kept w = e in cc

no_text : (n : ℤ) (t : List ℕ) → Number n ≡ Text t → ⊥
no_text n t e = cc

bytes_are : (a b : List ℕ) → Bytes a ≡ Bytes b → a ≡ b
bytes_are a b e = cc

no_bytes : (n : ℤ) (b : List ℕ) → Number n ≡ Bytes b → ⊥
no_bytes n b e = cc

bytes_no_text : (b t : List ℕ) → Bytes b ≡ Text t → ⊥
bytes_no_text b t e = cc

-- a text that is read as a number is kept as a number
read_no_text : (kind : Kind) (o : Option ℤ) (text : List ℕ) → ((n : ℤ) (w : Value) → fitted kind (Number n) ≡ kept w → Number n ≡ w) → ((some_or 1366 o >>= (λ n. Ok (Number n))) >>= fitted kind) ≡ kept (Text text) → ⊥
read_no_text kind None text fits e = let no : Result Value ℕ = Err 1366 in let f : no ≡ kept (Text text) = e in cc
read_no_text kind (Some n) text fits e = no_text n text (fits n (Text text) e)

read_no_bytes : (kind : Kind) (o : Option ℤ) (bytes : List ℕ) → ((n : ℤ) (w : Value) → fitted kind (Number n) ≡ kept w → Number n ≡ w) → ((some_or 1366 o >>= (λ n. Ok (Number n))) >>= fitted kind) ≡ kept (Bytes bytes) → ⊥
read_no_bytes kind None bytes fits e = let no : Result Value ℕ = Err 1366 in let f : no ≡ kept (Bytes bytes) = e in cc
read_no_bytes kind (Some n) bytes fits e = no_bytes n bytes (fits n (Bytes bytes) e)

by_kind : (kind : Kind) (given text : List ℕ) → (convert_to kind (Text given) >>= fitted kind) ≡ kept (Text text) → (spaces : ℕ) × (given ≡ text ++ replicate spaces 32)
by_kind Int given text e = absurd (read_no_text Int (whole_number given) text (λ n w f. number_fitted (not (is_in_kind Int n)) n w f) e)
by_kind IntUnsigned given text e = absurd (read_no_text IntUnsigned (whole_number given) text (λ n w f. number_fitted (not (is_in_kind IntUnsigned n)) n w f) e)
by_kind BigInt given text e = absurd (read_no_text BigInt (whole_number given) text (λ n w f. number_fitted (not (is_in_kind BigInt n)) n w f) e)
by_kind BigIntUnsigned given text e = absurd (read_no_text BigIntUnsigned (whole_number given) text (λ n w f. number_fitted (not (is_in_kind BigIntUnsigned n)) n w f) e)
by_kind (VarChar n c) given text e = cut_keeps n given text e
by_kind (VarBinary n) given text e = absurd (bytes_no_text given text (bytes_fitted (nat_lt n (length given)) given (Text text) e))

ascii_no_bytes : (n : ℕ) (c : Collation) (ascii : Bool) (given bytes : List ℕ) → (cond ascii (Ok (Text given)) (Err 1366) >>= fitted (VarChar n c)) ≡ kept (Bytes bytes) → ⊥
ascii_no_bytes n c true given bytes e =
    elim (cases_Bool (list_all is_space (drop n given))) [
      | inl blank ↦ let f : kept (Text (take n given)) ≡ kept (Bytes bytes) = rw blank at e in cc
      | inr other ↦ let no : Result Value ℕ = Err 1406 in let f : no ≡ kept (Bytes bytes) = rw other at e in cc
    ]
ascii_no_bytes n c false given bytes e = let no : Result Value ℕ = Err 1366 in let f : no ≡ kept (Bytes bytes) = e in cc

bytes_by_kind : (kind : Kind) (given bytes : List ℕ) → (convert_to kind (Bytes given) >>= fitted kind) ≡ kept (Bytes bytes) → given ≡ bytes
bytes_by_kind Int given bytes e = absurd (read_no_bytes Int (whole_number given) bytes (λ n w f. number_fitted (not (is_in_kind Int n)) n w f) e)
bytes_by_kind IntUnsigned given bytes e = absurd (read_no_bytes IntUnsigned (whole_number given) bytes (λ n w f. number_fitted (not (is_in_kind IntUnsigned n)) n w f) e)
bytes_by_kind BigInt given bytes e = absurd (read_no_bytes BigInt (whole_number given) bytes (λ n w f. number_fitted (not (is_in_kind BigInt n)) n w f) e)
bytes_by_kind BigIntUnsigned given bytes e = absurd (read_no_bytes BigIntUnsigned (whole_number given) bytes (λ n w f. number_fitted (not (is_in_kind BigIntUnsigned n)) n w f) e)
bytes_by_kind (VarChar n c) given bytes e = absurd (ascii_no_bytes n c (is_ascii given) given bytes e)
bytes_by_kind (VarBinary n) given bytes e = bytes_are (given) bytes (bytes_fitted (nat_lt n (length given)) given (Bytes bytes) e)

bytes_kept : (column : ColumnType) (given bytes : List ℕ) → assign_to column (Bytes given) ≡ kept (Bytes bytes) → given ≡ bytes
bytes_kept column given bytes e = bytes_by_kind column.kind given bytes e

pub text_kept : (column : ColumnType) (given text : List ℕ) → assign_to column (Text given) ≡ kept (Text text) → (spaces : ℕ) × (given ≡ text ++ replicate spaces 32)
text_kept column given text e = by_kind column.kind given text e

pub keeps : (column : ColumnType) → AssignKeeps column
keeps column = record { texts = text_kept column; bytes = bytes_kept column }
