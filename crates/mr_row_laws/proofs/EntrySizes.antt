-- Entries of rows are short.
use Rattle.std.proofs.Common.{◌≡◌, ℕ, zero, suc, ◌+◌, ◌*◌, ◌≤◌, ℤ, List, [], ◌∷◌, ◌++◌, length, arith, slice_get, Bool, true, false}
use Rattle.std.specs.List.{suffix_len}
use Rattle.std.specs.Int.{w16, to_be_bytes}
use Rattle.std.proofs.lemmas.List.{length-append}
use Rattle.byteorder.specs.Endian.{big_bytes}
use Rattle.byteorder.specs.Numbers.{length-bytes_high_first}
use Rattle.mr_lanes.specs.Kernels.{is_space}
use Rattle.mr_pieces.specs.declared.collation.Collation.{Collation}
use Rattle.mr_pieces.specs.declared.collation.Collation.TheVariants.{Bin, Ci}
use Rattle.mr_pieces.specs.Pieces.{trimmed}
use Rattle.mr_pieces.specs.Unpack.{bits_of, case_bits, unpack_form}
use Rattle.mr_types.specs.declared.kind.Kind.{Kind}
use Rattle.mr_types.specs.declared.kind.Kind.TheVariants.{Int, IntUnsigned, BigInt, BigIntUnsigned, VarChar, VarBinary}
use Rattle.mr_types.specs.declared.definition.ColumnDef.{ColumnDef}
use Rattle.mr_types.specs.declared.definition.TableDef.{TableDef}
use Rattle.mr_types.specs.declared.row.Row.{Row}
use Rattle.mr_types.specs.declared.value.Value.{Value}
use Rattle.mr_types.specs.declared.value.Value.TheVariants.{Null, Number, Text, Bytes}
use Rattle.mr_types.specs.Rows.{AreFields, IsRowOf}
use Rattle.mr_types.specs.Order.{collation_of}
use Rattle.mr_types.specs.Values.{assign_to, is_null}
use Rattle.mr_memcmp.specs.Keys.{hidden_bytes, magnitude}
use Rattle.mr_memcmp.specs.ComeBack.{unpack_bytes, part_unpack, parts_unpack}
use Rattle.mr_memcmp.proofs.Fitted.{kept, text_taken}
use Rattle.mr_memcmp.proofs.Assigned.{text_short}
use Rattle.mr_rowval.specs.KeyParts.{is_in}
use Rattle.mr_rowval.specs.NullBits.{with_flag, null_flags, bits_from, null_bits}
use Rattle.mr_rowval.specs.Plain.{complement, plain_number, plain_bytes}
use Rattle.mr_rowval.specs.RowValue.{field_bytes, fields_bytes}
use Rattle.mr_entry.specs.Entry.{entry_places, entry_value}
use Rattle.mr_spec.specs.KeyChecks.{key_bytes, width_of}
use Rattle.mr_spec.specs.Weight.{value_size, values_size, row_size}
use Rattle.mr_row_laws.proofs.CheckedDefinitions.{IsFormed}
use Rattle.mr_row_laws.proofs.KeySizes.{trimmed_size, width_at, width_cons, few, hidden_size}

-- ---- what a key drops of a text: two bytes, and no more than one for each of its letters

bits_size : (text : List ℕ) → length (bits_of text) ≤ length text
unfolding bits_of
bits_size (a ∷ b ∷ c ∷ d ∷ e ∷ f ∷ g ∷ h ∷ rest) = let more = bits_size rest in omega arith
bits_size [] = omega arith
bits_size (a ∷ []) = omega arith
bits_size (a ∷ b ∷ []) = omega arith
bits_size (a ∷ b ∷ c ∷ []) = omega arith
bits_size (a ∷ b ∷ c ∷ d ∷ []) = omega arith
bits_size (a ∷ b ∷ c ∷ d ∷ e ∷ []) = omega arith
bits_size (a ∷ b ∷ c ∷ d ∷ e ∷ f ∷ []) = omega arith
bits_size (a ∷ b ∷ c ∷ d ∷ e ∷ f ∷ g ∷ []) = omega arith

case_size : (c : Collation) (text : List ℕ) → length (case_bits c text) ≤ length text
case_size Bin text = omega arith
case_size Ci text = bits_size text

form_size : (c : Collation) (text : List ℕ) → length (unpack_form c text) ≤ 2 + length text
form_size c text = omega (arith, length-append (to_be_bytes w16 (suffix_len is_space text)) (case_bits c (trimmed text)), case_size c (trimmed text), trimmed_size text)

texts_unpacked : (nullable : Bool) (kind : Kind) (t : List ℕ) → assign_to (record { kind = kind; nullable = nullable }) (Text t) ≡ kept (Text t) → length (unpack_form (collation_of kind) t) ≤ key_bytes kind + 2
texts_unpacked nullable Int t e = absurd (text_taken Int t e)
texts_unpacked nullable IntUnsigned t e = absurd (text_taken IntUnsigned t e)
texts_unpacked nullable BigInt t e = absurd (text_taken BigInt t e)
texts_unpacked nullable BigIntUnsigned t e = absurd (text_taken BigIntUnsigned t e)
texts_unpacked nullable (VarChar n c) t e = omega (arith, form_size c t, text_short n c t e)
texts_unpacked nullable (VarBinary n) t e = absurd (text_taken (VarBinary n) t e)

unpacked : (nullable : Bool) (kind : Kind) (v : Value) → assign_to (record { kind = kind; nullable = nullable }) v ≡ kept v → length (unpack_bytes kind v) ≤ key_bytes kind + 2
unpacked nullable kind Null e = omega arith
unpacked nullable kind (Number z) e = omega arith
unpacked nullable kind (Text t) e = texts_unpacked nullable kind t e
unpacked nullable kind (Bytes b) e = omega arith

part_unpacked : (columns : List ColumnDef) (fields : List Value) (p : ℕ) → AreFields columns fields → length (part_unpack (slice_get columns p) (slice_get fields p)) ≤ width_at columns p + 2
part_unpacked [] [] p h = omega arith
part_unpacked [] (v ∷ fields) p h = absurd h
part_unpacked (column ∷ columns) [] p h = absurd h
part_unpacked (column ∷ columns) (v ∷ fields) zero h = unpacked column.ty.nullable column.ty.kind v h.0.as_it_is
part_unpacked (column ∷ columns) (v ∷ fields) (suc p) h = part_unpacked columns fields p h.1

parts_unpacked : (columns : List ColumnDef) (fields : List Value) (places : List ℕ) → AreFields columns fields → length (parts_unpack columns fields places) ≤ width_of columns places + 2 * length places
parts_unpacked columns fields [] h = omega arith
parts_unpacked columns fields (p ∷ places) h =
    let a = length-append (part_unpack (slice_get columns p) (slice_get fields p)) (parts_unpack columns fields places) in
    omega (arith, a, part_unpacked columns fields p h, parts_unpacked columns fields places h, width_cons columns p places)

-- ---- the columns that aren't in the key, with their null bits: no more than the form of the fields

plain_number_size : (kind : Kind) (z : ℤ) → length (plain_number kind z) ≤ 8
plain_number_size Int z = omega (arith, length-bytes_high_first 4 (complement 32 z))
plain_number_size IntUnsigned z = omega (arith, length-bytes_high_first 4 (magnitude z))
plain_number_size BigInt z = omega (arith, length-bytes_high_first 8 (complement 64 z))
plain_number_size BigIntUnsigned z = omega (arith, length-bytes_high_first 8 (magnitude z))
plain_number_size (VarChar n c) z = omega arith
plain_number_size (VarBinary n) z = omega arith

plain_size : (kind : Kind) (v : Value) → suc (length (plain_bytes kind v)) ≤ value_size v
plain_size kind Null = omega arith
plain_size kind (Number z) = omega (arith, plain_number_size kind z)
plain_size kind (Text t) = omega (arith, length-append (big_bytes 2 (length t)) t, length-bytes_high_first 2 (length t))
plain_size kind (Bytes b) = omega (arith, length-append (big_bytes 2 (length b)) b, length-bytes_high_first 2 (length b))

field_size : (is_key : Bool) (kind : Kind) (v : Value) → suc (length (field_bytes is_key kind v)) ≤ value_size v
field_size true kind v = omega (arith, plain_size kind v)
field_size false kind v = plain_size kind v

flag_size : (nullable flag : Bool) (flags : List Bool) → length (with_flag nullable flag flags) ≤ suc (length flags)
flag_size true flag flags = omega arith
flag_size false flag flags = omega arith

fields_size : (places : List ℕ) (at : ℕ) (columns : List ColumnDef) (values : List Value) → length (null_flags columns values) + length (fields_bytes places at columns values) ≤ values_size values
fields_size places at [] values = omega arith
fields_size places at (column ∷ columns) [] = omega arith
fields_size places at (column ∷ columns) (v ∷ values) =
    let a = length-append (field_bytes (is_in places at) column.ty.kind v) (fields_bytes places (suc at) columns values) in
    omega (arith, a, field_size (is_in places at) column.ty.kind v, flag_size column.ty.nullable (is_null v) (null_flags columns values), fields_size places (suc at) columns values)

bits_from_size : (left : ℕ) (flags : List Bool) → length (bits_from left flags).1 ≤ length flags
bits_from_size left [] = omega arith
bits_from_size zero (flag ∷ flags) = omega (arith, bits_from_size 7 flags)
bits_from_size (suc left) (flag ∷ flags) = omega (arith, bits_from_size left flags)

-- ---- entries

pub entry_size : (def : TableDef) (row : Row) (index : ℕ) → IsFormed def → IsRowOf def row → length (entry_value def row index) ≤ 2048 + row_size row
entry_size def row zero formed is =
    let stamp = hidden_bytes row.stamp in
    let bits = null_bits (null_flags def.columns row.fields) in
    let unpack = parts_unpack def.columns row.fields def.primary.columns in
    let fields = fields_bytes def.primary.columns 0 def.columns row.fields in
    omega (arith, formed.primary.few, formed.primary.narrow, hidden_size row.stamp, bits_from_size 0 (null_flags def.columns row.fields), fields_size def.primary.columns 0 def.columns row.fields, parts_unpacked def.columns row.fields def.primary.columns is.fields, length-append stamp bits, length-append (stamp ++ bits) unpack, length-append (stamp ++ bits ++ unpack) fields)
entry_size def row (suc i) formed is =
    let places = entry_places def (suc i) in
    let f = few def (suc i) formed in
    omega (arith, f.few, f.narrow, hidden_size row.stamp, parts_unpacked def.columns row.fields places is.fields, length-append (hidden_bytes row.stamp) (parts_unpack def.columns row.fields places))
