-- The options in a table's comment: how long its rows live, and the column that holds their stamp.
use Rattle.std.specs.Prelude.{ℕ, ℤ, pos, negsuc, ◌^◌, Bool, true, false, not, ◌&&◌, nat_lt, ◌==◌, if◌then◌else◌, List, [], ◌∷◌, ◌++◌, length, Option, Some, None, is_some, Result, Ok, Err, slice_get, codes}
use Rattle.std.specs.Option.{option_map_or}
use Rattle.mr_types.specs.declared.kind.Kind.{Kind}
use Rattle.mr_types.specs.declared.kind.Kind.TheVariants.{BigIntUnsigned}
use Rattle.mr_types.specs.declared.definition.ColumnDef.{ColumnDef}
use Rattle.mr_types.specs.declared.definition.Ttl.{Ttl}
use Rattle.mr_types.specs.Refusals.{◌>>=◌, ◌>>◌, refuse_where, some_or, in_turn}
use Rattle.mr_types.specs.Values.{whole_number}
use Rattle.mr_spec.specs.Rows.{place_from}

-- what a comment says: `ttl_duration=N` and `ttl_col=c`
pub record Options : Type 0 where
  pub duration : Option ℕ
  pub column : Option (List ℕ)

-- the parts of a text at each `;`, where `front` stands in front
abbrev pub parts_from : List ℕ → List ℕ → List (List ℕ)
parts_from front [] = front ∷ []
parts_from front (b ∷ bs) = if b == 59 then front ∷ parts_from [] bs else parts_from (front ++ b ∷ []) bs

-- what stands behind these bytes, where the text begins with them
abbrev pub behind : List ℕ → List ℕ → Option (List ℕ)
behind [] text = Some text
behind (a ∷ front) [] = None
behind (a ∷ front) (b ∷ text) = if a == b then behind front text else None

-- digits without the zeros in front
abbrev pub without_zeros : List ℕ → List ℕ
without_zeros [] = []
without_zeros (b ∷ bs) = if b == 48 then without_zeros bs else b ∷ bs

-- from 1 to 2^63 - 1
abbrev pub duration_in : ℤ → Result ℕ ℕ
duration_in (pos n) = refuse_where 1064 (not (nat_lt 0 n && nat_lt n (2 ^ 63))) >> Ok n
duration_in (negsuc n) = Err 1064

-- decimal digits, with zeros in front or not, that write a number from 1 to 2^63 - 1, else 1064
abbrev pub duration_of : List ℕ → Result ℕ ℕ
duration_of digits = do
  n ← some_or 1064 (whole_number (without_zeros digits))
  duration_in n

-- a duration, which stands once
abbrev pub with_duration : Options → List ℕ → Result Options ℕ
with_duration o digits = do
  refuse_where 1064 (is_some o.duration)
  n ← duration_of digits
  Ok (record o { duration = Some n })

-- a column, which stands once
abbrev pub with_stamp_column : Options → List ℕ → Result Options ℕ
with_stamp_column o name = refuse_where 1064 (is_some o.column) >> Ok (record o { column = Some name })

-- a part is a duration, else a column, else it has no meaning
abbrev pub with_part : Options → List ℕ → Result Options ℕ
with_part o part = option_map_or (with_duration o) (behind (codes "ttl_duration=") part)
    (option_map_or (with_stamp_column o) (behind (codes "ttl_col=") part) (Ok o))

-- a column without a duration is 1064
abbrev pub whole_options : Options → Result Options ℕ
whole_options o = refuse_where 1064 (is_some o.column && not (is_some o.duration)) >> Ok o

-- the options of a comment, or 1064
abbrev pub options_of : List ℕ → Result Options ℕ
options_of comment = do
  o ← in_turn with_part (record { duration = None; column = None }) (parts_from [] comment)
  whole_options o

-- BIGINT UNSIGNED NOT NULL
abbrev pub may_hold_stamp : ColumnDef → Bool
may_hold_stamp c = may_hold c.ty.kind && not c.ty.nullable
  where
    may_hold : Kind → Bool
    may_hold BigIntUnsigned = true
    may_hold _ = false

-- the place of the column of this name: 1054 where it isn't there, 1064 where it may not hold a stamp
abbrev pub stamp_column : List ColumnDef → List ℕ → Result ℕ ℕ
stamp_column columns name = do
  i ← some_or 1054 (place_from 0 name columns)
  refuse_where 1064 (not (option_map_or may_hold_stamp (slice_get columns i) false))
  Ok i

-- the TTL of these options
abbrev pub ttl_for : List ColumnDef → Option ℕ → Option (List ℕ) → Result (Option Ttl) ℕ
ttl_for columns None column = Ok None
ttl_for columns (Some n) None = Ok (Some (record { duration = n; column = None }))
ttl_for columns (Some n) (Some name) = do
  i ← stamp_column columns name
  Ok (Some (record { duration = n; column = Some i }))

-- the TTL of a table with these columns and this comment
abbrev pub ttl_of : List ColumnDef → List ℕ → Result (Option Ttl) ℕ
ttl_of columns comment = do
  refuse_where 1064 (nat_lt 1024 (length comment))
  o ← options_of comment
  ttl_for columns o.duration o.column
