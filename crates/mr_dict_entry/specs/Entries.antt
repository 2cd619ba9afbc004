-- An entry of the dictionary as a key and a value, and the entry that they are. Numbers are big-endian. A key begins with its kind u32.
--   kind   rest of the key    value
--   1      a table's name     its primary key's index number u32, one u32 a secondary key, the definition
--   2      index number u32   its family u32
--   3      family u32         its name
--   4      index number u32   its family u32: a dropped index
--   5      index number u32   the table's name, the key, its family u32, the filled place as text: a building index
--   6                         the greatest index number u32
--   7      index number u32   the next hidden number u64
--   8                         commits u64, moment u64 of the last one
-- Nothing tells how many index numbers stand before a definition. They are the fewest behind which the rest of the value is a definition
-- of that name, with one secondary key less than there are numbers. Places of a value follow those of its key.
use Rattle.std.specs.Prelude.{ℕ, zero, suc, ◌+◌, ◌-◌, ◌==◌, ◌&&◌, Bool, false, nat_lt, nat_eq, if◌then◌else◌, List, [], ◌∷◌, ◌++◌, length, drop, Option, Some, None, Result, Ok, Err}
use Rattle.std.specs.List.{starts_with}
use Rattle.byteorder.specs.Endian.{big_bytes, big_number}
use Rattle.mr_types.specs.declared.definition.TableDef.{TableDef}
use Rattle.mr_types.specs.Refusals.{◌>>=◌}
use Rattle.mr_spec.specs.RowForm.{text16_bytes}
use Rattle.mr_fields.specs.Fields.{is_name, is_text, is_any, number_in, name_bytes, name_in, text16_in, listed_bytes, ended, whole_in}
use Rattle.mr_schema.specs.DefinitionForm.{key_bytes, key_in, definition_bytes, definition_in}
use Rattle.mr_dict_entry.specs.declared.entry.DictEntry.{DictEntry}
use Rattle.mr_dict_entry.specs.declared.entry.DictEntry.TheVariants.{Table, Index, Family, Dropped, Building, Greatest, NextHidden, LastCommit}

-- ---- the bytes of an entry

abbrev pub kind_of : DictEntry → ℕ
kind_of (Table name numbers def) = 1
kind_of (Index number family) = 2
kind_of (Family family name) = 3
kind_of (Dropped number family) = 4
kind_of (Building number table key family filled) = 5
kind_of (Greatest number) = 6
kind_of (NextHidden number next) = 7
kind_of (LastCommit commits moment) = 8

-- the key behind the kind
abbrev pub rest_of : DictEntry → List ℕ
rest_of (Table name numbers def) = name
rest_of (Index number family) = big_bytes 4 number
rest_of (Family family name) = big_bytes 4 family
rest_of (Dropped number family) = big_bytes 4 number
rest_of (Building number table key family filled) = big_bytes 4 number
rest_of (Greatest number) = []
rest_of (NextHidden number next) = big_bytes 4 number
rest_of (LastCommit commits moment) = []

-- the key of a kind and what stands behind it
abbrev pub kinded_key : ℕ → List ℕ → List ℕ
kinded_key kind rest = big_bytes 4 kind ++ rest

abbrev pub entry_key : DictEntry → List ℕ
entry_key e = kinded_key (kind_of e) (rest_of e)

abbrev pub entry_value : DictEntry → List ℕ
entry_value (Table name numbers def) = listed_bytes (big_bytes 4) numbers ++ definition_bytes def
entry_value (Index number family) = big_bytes 4 family
entry_value (Family family name) = name
entry_value (Dropped number family) = big_bytes 4 family
entry_value (Building number table key family filled) = name_bytes table ++ (key_bytes key ++ (big_bytes 4 family ++ text16_bytes filled))
entry_value (Greatest number) = big_bytes 4 number
entry_value (NextHidden number next) = big_bytes 8 next
entry_value (LastCommit commits moment) = big_bytes 8 commits ++ big_bytes 8 moment

-- ---- fields. An error is the number of bytes left from the first offence on, those of the value counted with the key's

-- a number of n bytes, with nothing behind it but so many bytes that are no part of it
abbrev pub lone_number_in : ℕ → ℕ → List ℕ → Result ℕ ℕ
lone_number_in n behind bytes = if nat_lt (length bytes) n then Err (length bytes + behind) else (if nat_lt n (length bytes) then Err (length bytes - n + behind) else Ok (big_number n bytes))

-- a name as a definition has one, of at most 255 bytes
abbrev pub is_table_name : List ℕ → Bool
is_table_name name = nat_lt (length name) 256 && is_name name

-- a family's name is the comment of a key that isn't empty
abbrev pub is_family_name : List ℕ → Bool
is_family_name name = nat_lt 0 (length name) && is_text name

-- ---- tables

-- a definition of so many secondary keys, and nothing behind it
abbrev pub keyed_def_in : ℕ → List ℕ → Result TableDef ℕ
keyed_def_in keys bytes = do
  def ← whole_in definition_in bytes
  if length def.secondary == keys then Ok def else Err (length bytes)

-- whether these begin with this name behind its length
abbrev pub has_name : List ℕ → List ℕ → Bool
has_name name [] = false
has_name name (size ∷ bytes) = (size == length name) && starts_with nat_eq bytes name

-- an offence that is told
abbrev pub with_offence : Result TableDef ℕ → Result TableDef (Option ℕ)
with_offence (Ok def) = Ok def
with_offence (Err left) = Err (Some left)

-- the definition of a table of this name; there is no offence where no definition of it begins
abbrev pub named_def_in : List ℕ → ℕ → List ℕ → Result TableDef (Option ℕ)
named_def_in name keys bytes = if has_name name bytes then with_offence (keyed_def_in keys bytes) else Err None

abbrev pub first_of : Option ℕ → Option ℕ → Option ℕ
first_of None other = other
first_of (Some left) other = Some left

-- The numbers of a table and its definition: this one in front of the definition, or of more of them. Of two offences the first is told.
abbrev pub or_more : ℕ → Result TableDef (Option ℕ) → Result (List ℕ × TableDef) (Option ℕ) → Result (List ℕ × TableDef) (Option ℕ)
or_more number (Ok def) more = Ok (number ∷ [], def)
or_more number (Err offence) (Ok t) = Ok (number ∷ t.0, t.1)
or_more number (Err offence) (Err other) = Err (first_of offence other)

-- at most so many numbers, the fewest, in front of the definition of a table of this name with so many keys or more
unfoldable pub numbered_in : List ℕ → ℕ → ℕ → List ℕ → Result (List ℕ × TableDef) (Option ℕ)
numbered_in name zero keys bytes = Err None
numbered_in name (suc most) keys bytes =
    if nat_lt (length bytes) 4 then Err None
    else or_more (big_number 4 bytes) (named_def_in name keys (drop 4 bytes)) (numbered_in name most (keys + 1) (drop 4 bytes))

-- Where no definition of the table begins, the offence is that of its first field: of the first number, where that isn't whole, else of
-- the definition behind it.
abbrev pub without_name : ℕ → ℕ
without_name size = if nat_lt size 4 then size else size - 4

abbrev pub table_of : List ℕ → ℕ → Result (List ℕ × TableDef) (Option ℕ) → Result DictEntry ℕ
table_of name size (Ok t) = Ok (Table name t.0 t.1)
table_of name size (Err (Some left)) = Err left
table_of name size (Err None) = Err (without_name size)

abbrev pub table_in : List ℕ → List ℕ → Result DictEntry ℕ
table_in rest value = if is_table_name rest then table_of rest (length value) (numbered_in rest 256 0 value) else Err (length rest + length value)

-- ---- the other kinds

abbrev pub index_in : List ℕ → List ℕ → Result DictEntry ℕ
index_in rest value = do
  number ← lone_number_in 4 (length value) rest
  family ← lone_number_in 4 0 value
  Ok (Index number family)

abbrev pub family_in : List ℕ → List ℕ → Result DictEntry ℕ
family_in rest value = do
  family ← lone_number_in 4 (length value) rest
  if is_family_name value then Ok (Family family value) else Err (length value)

abbrev pub dropped_in : List ℕ → List ℕ → Result DictEntry ℕ
dropped_in rest value = do
  number ← lone_number_in 4 (length value) rest
  family ← lone_number_in 4 0 value
  Ok (Dropped number family)

-- how many columns the table has isn't told here, so each place is taken
abbrev pub building_in : List ℕ → List ℕ → Result DictEntry ℕ
building_in rest value = do
  number ← lone_number_in 4 (length value) rest
  table ← name_in value
  key ← key_in 256 table.1
  family ← number_in 4 key.1
  filled ← text16_in is_any family.1
  ended (Building number table.0 key.0 family.0 filled.0, filled.1)

abbrev pub greatest_in : List ℕ → List ℕ → Result DictEntry ℕ
greatest_in rest value = if nat_lt 0 (length rest) then Err (length rest + length value) else (do
  number ← lone_number_in 4 0 value
  Ok (Greatest number))

abbrev pub next_hidden_in : List ℕ → List ℕ → Result DictEntry ℕ
next_hidden_in rest value = do
  number ← lone_number_in 4 (length value) rest
  next ← lone_number_in 8 0 value
  Ok (NextHidden number next)

abbrev pub last_commit_in : List ℕ → List ℕ → Result DictEntry ℕ
last_commit_in rest value = if nat_lt 0 (length rest) then Err (length rest + length value) else (do
  commits ← number_in 8 value
  moment ← lone_number_in 8 0 commits.1
  Ok (LastCommit commits.0 moment))

-- ---- the entry of a key and a value

abbrev pub kinded_in : ℕ → ℕ → List ℕ → List ℕ → Result DictEntry ℕ
kinded_in whole kind rest value =
    if kind == 1 then table_in rest value
    else (if kind == 2 then index_in rest value
    else (if kind == 3 then family_in rest value
    else (if kind == 4 then dropped_in rest value
    else (if kind == 5 then building_in rest value
    else (if kind == 6 then greatest_in rest value
    else (if kind == 7 then next_hidden_in rest value
    else (if kind == 8 then last_commit_in rest value else Err whole)))))))

abbrev pub entry_in : List ℕ → List ℕ → Result DictEntry ℕ
entry_in key value = if nat_lt (length key) 4 then Err (length key + length value) else kinded_in (length key + length value) (big_number 4 key) (drop 4 key) value

-- the first offending place of so many bytes
abbrev pub placed_in : ℕ → Result DictEntry ℕ → Result DictEntry ℕ
placed_in total (Ok e) = Ok e
placed_in total (Err left) = Err (total - left)

-- the entry that the key and the value are, or the first offending place
abbrev pub reads_entry : List ℕ → List ℕ → Result DictEntry ℕ
reads_entry key value = placed_in (length key + length value) (entry_in key value)
