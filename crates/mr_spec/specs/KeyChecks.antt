-- The keys of a definition, or the first refusal of a key.
use Rattle.std.specs.Prelude.{ℕ, Bool, true, false, not, ◌||◌, ◌&&◌, nat_le, nat_lt, nat_eq, if◌then◌else◌, List, [], ◌∷◌, ◌++◌, length, map, Option, Some, is_some, Result, Ok, slice_get, codes, sum}
use Rattle.std.specs.List.{list_any}
use Rattle.std.specs.Option.{option_map_or}
use Rattle.mr_types.specs.declared.kind.Kind.{Kind}
use Rattle.mr_types.specs.declared.kind.Kind.TheVariants.{Int, IntUnsigned, BigInt, BigIntUnsigned, VarChar, VarBinary}
use Rattle.mr_types.specs.declared.definition.ColumnDef.{ColumnDef}
use Rattle.mr_types.specs.declared.definition.IndexDef.{IndexDef}
use Rattle.mr_types.specs.declared.text.KeyText.{KeyText}
use Rattle.mr_types.specs.Refusals.{◌>>=◌, ◌>>◌, refuse_where, some_or, each}
use Rattle.mr_types.specs.Values.{same_name, same_bytes}
use Rattle.mr_spec.specs.Rows.{place_from}

-- the bytes that a column counts for in a key
abbrev pub key_bytes : Kind → ℕ
key_bytes Int = 4
key_bytes IntUnsigned = 4
key_bytes BigInt = 8
key_bytes BigIntUnsigned = 8
key_bytes (VarChar n c) = n
key_bytes (VarBinary n) = n

-- a place stands twice
abbrev pub has_repeat : List ℕ → Bool
has_repeat [] = false
has_repeat (n ∷ ns) = list_any (nat_eq n) ns || has_repeat ns

-- the key's name, without regard to case
abbrev pub is_named : List ℕ → IndexDef → Bool
is_named name key = same_name key.name name

-- the places of these columns; 1072 where one isn't there
abbrev pub places_of : List ColumnDef → List (List ℕ) → Result (List ℕ) ℕ
places_of columns names = each (λ n. some_or 1072 (place_from 0 n columns)) names

-- the bytes of the columns at these places, summed
abbrev pub width_of : List ColumnDef → List ℕ → ℕ
width_of columns places = sum (map (λ i. option_map_or (λ c. key_bytes c.ty.kind) (slice_get columns i) 0) places)

-- the keys so far
pub record Keys : Type 0 where
  pub primary : Option IndexDef
  pub secondary : List IndexDef

-- the name is PRIMARY, or one of these, or that of a key
abbrev pub is_taken : List ℕ → List (List ℕ) → List IndexDef → Bool
is_taken name taken keys = same_name name (codes "PRIMARY") || (list_any (same_name name) taken || list_any (λ d. same_name name d.name) keys)

-- A key over these columns, beside a primary key or none and these secondary keys; `taken` are further names in use. 1069: more than 16 secondary keys; 1061: its
-- name is used, or is PRIMARY; 1068: a second primary key; 1070: more than 16 parts; 1072: a column that isn't there; 1060: a
-- column twice; 1071: more than 767 bytes; 1064: a comment of more than 1,024 bytes, or the name of the engine's own family.
abbrev pub checked_key : List ColumnDef → Bool → List IndexDef → List (List ℕ) → KeyText → Result IndexDef ℕ
checked_key columns has_primary secondary taken k = do
  refuse_where 1069 (not k.primary && nat_le 16 (length secondary))
  refuse_where 1061 (not k.primary && is_taken k.name taken secondary)
  refuse_where 1068 (k.primary && has_primary)
  refuse_where 1070 (nat_lt 16 (length k.columns))
  places ← places_of columns k.columns
  refuse_where 1060 (has_repeat places)
  refuse_where 1071 (nat_lt 767 (width_of columns places))
  refuse_where 1064 (nat_lt 1024 (length k.comment) || same_bytes k.comment (codes "__system__"))
  Ok (record { name = k.name; columns = places; unique = k.unique; comment = k.comment })

-- these keys, and one more
abbrev pub with_key : List ColumnDef → Keys → KeyText → Result Keys ℕ
with_key columns keys k = do
  d ← checked_key columns (is_some keys.primary) keys.secondary [] k
  Ok (if k.primary then record keys { primary = Some d } else record keys { secondary = keys.secondary ++ d ∷ [] })

-- the primary key of a table without one: the hidden number
abbrev pub hidden_key : IndexDef
hidden_key = record { name = []; columns = []; unique = true; comment = [] }
