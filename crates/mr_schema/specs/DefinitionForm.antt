-- A definition as bytes, and the definition that bytes are. Numbers are big-endian.
--   definition   the table's name; count of columns u8, columns; the primary key; count of secondary keys u8, keys; the comment as text
--   column       name; kind u8 (1 INT, 2 INT UNSIGNED, 3 BIGINT, 4 BIGINT UNSIGNED, 5 VARCHAR, 6 VARBINARY); length u16 (0 for numbers);
--                collation u8 (0, but for 5: 1 ascii_bin, 2 ascii_general_ci); 1 where nullable else 0; default (00, or 01 and a value)
--   primary key  count of parts u8 (0: hidden), their places u8, each below the count of columns; comment as text
--   key          name; 1 where unique else 0; count of parts u8, places u8; comment as text
--   text         length u16, bytes
-- The TTL isn't written: the comment says it.
use Rattle.std.specs.Prelude.{ℕ, ◌==◌, Bool, true, false, if◌then◌else◌, List, [], ◌∷◌, ◌++◌, length, Option, Some, None, Result, Ok, Err}
use Rattle.byteorder.specs.Endian.{big_bytes}
use Rattle.mr_pieces.specs.declared.collation.Collation.{Collation}
use Rattle.mr_pieces.specs.declared.collation.Collation.TheVariants.{Bin, Ci}
use Rattle.mr_types.specs.declared.value.Value.{Value}
use Rattle.mr_types.specs.declared.kind.Kind.{Kind}
use Rattle.mr_types.specs.declared.kind.Kind.TheVariants.{Int, IntUnsigned, BigInt, BigIntUnsigned, VarChar, VarBinary}
use Rattle.mr_types.specs.declared.definition.ColumnDef.{ColumnDef}
use Rattle.mr_types.specs.declared.definition.IndexDef.{IndexDef}
use Rattle.mr_types.specs.declared.definition.Ttl.{Ttl}
use Rattle.mr_types.specs.declared.definition.TableDef.{TableDef}
use Rattle.mr_types.specs.Refusals.{◌>>=◌, refused_as}
use Rattle.mr_spec.specs.RowForm.{text16_bytes, value_bytes}
use Rattle.mr_spec.specs.TtlOptions.{options_of, ttl_for}
use Rattle.mr_fields.specs.Fields.{Read, byte_in, flag_byte, flag_in, number_in, name_bytes, name_in, is_text, text16_in, listed_bytes, listed_in, read_whole}
use Rattle.mr_fields.specs.Rows.{value_in}

-- ---- the bytes of a definition

abbrev pub collation_byte : Collation → ℕ
collation_byte Bin = 1
collation_byte Ci = 2

-- kind, length, collation
abbrev pub kind_bytes : Kind → List ℕ
kind_bytes Int = 1 ∷ 0 ∷ 0 ∷ 0 ∷ []
kind_bytes IntUnsigned = 2 ∷ 0 ∷ 0 ∷ 0 ∷ []
kind_bytes BigInt = 3 ∷ 0 ∷ 0 ∷ 0 ∷ []
kind_bytes BigIntUnsigned = 4 ∷ 0 ∷ 0 ∷ 0 ∷ []
kind_bytes (VarChar n collation) = 5 ∷ (big_bytes 2 n ++ collation_byte collation ∷ [])
kind_bytes (VarBinary n) = 6 ∷ (big_bytes 2 n ++ 0 ∷ [])

abbrev pub default_bytes : Option Value → List ℕ
default_bytes None = 0 ∷ []
default_bytes (Some v) = 1 ∷ value_bytes v

abbrev pub column_bytes : ColumnDef → List ℕ
column_bytes c = name_bytes c.name ++ (kind_bytes c.ty.kind ++ (flag_byte c.ty.nullable ∷ default_bytes c.default))

abbrev pub places_bytes : List ℕ → List ℕ
places_bytes places = length places ∷ places

abbrev pub primary_bytes : IndexDef → List ℕ
primary_bytes key = places_bytes key.columns ++ text16_bytes key.comment

abbrev pub key_bytes : IndexDef → List ℕ
key_bytes key = name_bytes key.name ++ (flag_byte key.unique ∷ primary_bytes key)

-- a count of one byte, and so many
abbrev pub counted_bytes : {X : Type 0} → (X → List ℕ) → List X → List ℕ
counted_bytes write xs = length xs ∷ listed_bytes write xs

abbrev pub definition_bytes : TableDef → List ℕ
definition_bytes def =
    name_bytes def.name ++ (counted_bytes column_bytes def.columns ++ (primary_bytes def.primary ++ (counted_bytes key_bytes def.secondary ++ text16_bytes def.comment)))

-- ---- columns of bytes

-- a number of two bytes that is 0
abbrev pub no_length_in : List ℕ → Read ℕ
no_length_in bytes = do
  size ← number_in 2 bytes
  if size.0 == 0 then Ok size else Err (length bytes)

-- a number has no length and no collation
abbrev pub number_kind_in : Kind → List ℕ → Read Kind
number_kind_in kind bytes = do
  size ← no_length_in bytes
  collation ← byte_in 1 size.1
  Ok (kind, collation.1)

abbrev pub collation_in : List ℕ → Read Collation
collation_in [] = Err 0
collation_in (b ∷ bytes) = if b == 1 then Ok (Bin, bytes) else (if b == 2 then Ok (Ci, bytes) else Err (length (b ∷ bytes)))

abbrev pub text_kind_in : List ℕ → Read Kind
text_kind_in bytes = do
  size ← number_in 2 bytes
  collation ← collation_in size.1
  Ok (VarChar size.0 collation.0, collation.1)

abbrev pub binary_kind_in : List ℕ → Read Kind
binary_kind_in bytes = do
  size ← number_in 2 bytes
  collation ← byte_in 1 size.1
  Ok (VarBinary size.0, collation.1)

abbrev pub kind_in : List ℕ → Read Kind
kind_in [] = Err 0
kind_in (b ∷ bytes) =
    if b == 1 then number_kind_in Int bytes
    else (if b == 2 then number_kind_in IntUnsigned bytes
    else (if b == 3 then number_kind_in BigInt bytes
    else (if b == 4 then number_kind_in BigIntUnsigned bytes
    else (if b == 5 then text_kind_in bytes
    else (if b == 6 then binary_kind_in bytes else Err (length (b ∷ bytes)))))))

abbrev pub given_default_in : Bool → List ℕ → Read (Option Value)
given_default_in false bytes = Ok (None, bytes)
given_default_in true bytes = do
  v ← value_in bytes
  Ok (Some v.0, v.1)

abbrev pub default_in : List ℕ → Read (Option Value)
default_in bytes = do
  given ← flag_in bytes
  given_default_in given.0 given.1

abbrev pub column_in : List ℕ → Read ColumnDef
column_in bytes = do
  name ← name_in bytes
  kind ← kind_in name.1
  nullable ← flag_in kind.1
  default ← default_in nullable.1
  Ok (record { name = name.0; ty = record { kind = kind.0; nullable = nullable.0 }; default = default.0 }, default.1)

-- ---- keys of bytes

-- a count of one byte, and so many
abbrev pub counted_in : {X : Type 0} → (List ℕ → Read X) → List ℕ → Read (List X)
counted_in read bytes = do
  count ← byte_in 256 bytes
  listed_in read count.0 count.1

-- places below `limit`
abbrev pub places_in : ℕ → List ℕ → Read (List ℕ)
places_in limit bytes = counted_in (byte_in limit) bytes

-- it has no name, and is unique
abbrev pub primary_in : ℕ → List ℕ → Read IndexDef
primary_in limit bytes = do
  columns ← places_in limit bytes
  comment ← text16_in is_text columns.1
  Ok (record { name = []; columns = columns.0; unique = true; comment = comment.0 }, comment.1)

abbrev pub key_in : ℕ → List ℕ → Read IndexDef
key_in limit bytes = do
  name ← name_in bytes
  unique ← flag_in name.1
  columns ← places_in limit unique.1
  comment ← text16_in is_text columns.1
  Ok (record { name = name.0; columns = columns.0; unique = unique.0; comment = comment.0 }, comment.1)

-- ---- the definition of bytes

-- the TTL that a comment of any length says
abbrev pub ttl_said : List ColumnDef → List ℕ → Result (Option Ttl) ℕ
ttl_said columns comment = do
  o ← options_of comment
  ttl_for columns o.duration o.column

-- a comment, with its TTL
abbrev pub comment_in : List ColumnDef → List ℕ → Read (List ℕ × Option Ttl)
comment_in columns bytes = do
  comment ← text16_in is_text bytes
  ttl ← refused_as (length bytes) (ttl_said columns comment.0)
  Ok ((comment.0, ttl), comment.1)

-- what stands behind these columns of a table of this name
abbrev pub behind_columns : List ℕ → List ColumnDef → List ℕ → Read TableDef
behind_columns name columns bytes = do
  primary ← primary_in (length columns) bytes
  secondary ← counted_in (key_in (length columns)) primary.1
  comment ← comment_in columns secondary.1
  Ok (record { name = name; columns = columns; primary = primary.0; secondary = secondary.0; comment = comment.0.0; ttl = comment.0.1 }, comment.1)

abbrev pub definition_in : List ℕ → Read TableDef
definition_in bytes = do
  name ← name_in bytes
  columns ← counted_in column_in name.1
  behind_columns name.0 columns.0 columns.1

-- the definition that the bytes are, or the first offending place
abbrev pub reads_definition : List ℕ → Result TableDef ℕ
reads_definition bytes = read_whole definition_in bytes
