-- The primary key of the row whose entry in another key is at hand.
use Rattle.std.specs.Prelude.{◌≡◌, ℕ, ◌-◌, ◌≤◌, List, [], ◌∷◌, ◌++◌, length, take, Bool, true, false, ◌==◌, if◌then◌else◌, Option, Some, None, Result, Ok, Err, slice_get}
use Rattle.std.specs.Borrow.{Bor}
use Rattle.std.specs.List.{flat_map}
use Rattle.mr_types.specs.declared.definition.ColumnDef.{ColumnDef}
use Rattle.mr_types.specs.declared.definition.TableDef.{TableDef}
use Rattle.mr_types.specs.declared.row.Row.{Row}
use Rattle.mr_memcmp.specs.Keys.{key_bytes_of}
use Rattle.mr_rowval.specs.KeyParts.{is_in, part_kept}
use Rattle.mr_entry.specs.Entry.{entry_places, entry_key, entry_value, fields_held}
use Rattle.mr_entry.specs.Held.{HeldEntry, entry_held}

-- what the entry holds of its row; columns that its key doesn't hold are NULL
abbrev pub row_held : HeldEntry → Row
row_held entry = record { hidden = entry.hidden; stamp = entry.stamp; fields = fields_held entry.held 0 entry.def.columns }

-- the primary key of that row
abbrev pub primary_key_held : ℕ → HeldEntry → List ℕ
primary_key_held number entry = key_bytes_of number entry.def entry.def.primary.columns (row_held entry)

-- The entry of a row in another key leads to the row: the primary key that is made from it is the row's own.
abbrev pub LeadsToRow : TableDef → List ℕ → Row → ℕ → Type 0
LeadsToRow def numbers row index = (entry : HeldEntry) → entry_held def (entry_places def index) (entry_key def numbers row index) (entry_value def row index) ≡ Ok entry → (number : ℕ) → primary_key_held number entry ≡ key_bytes_of number def def.primary.columns row

-- ---- column by column, as the bytes stand in the entry's key

-- NULL in a key
abbrev pub null_part : Option ColumnDef → List ℕ
null_part None = []
null_part (Some column) = if column.ty.nullable then 0 ∷ [] else []

-- what was split off where this is the column, else what comes of the rest
abbrev pub front_or : List ℕ → Bool → Result (List ℕ) ℕ → (List ℕ → List ℕ) → List ℕ
front_or key true (Ok rest) later = take (length key - length rest) key
front_or key false (Ok rest) later = later rest
front_or key true (Err left) later = []
front_or key false (Err left) later = []

abbrev pub part_in : List ColumnDef → List ℕ → List ℕ → ℕ → List ℕ
part_in columns [] key place = []
part_in columns (p ∷ places) key place = front_or key (p == place) (part_kept (slice_get columns p) key) (λ rest. part_in columns places rest place)

abbrev pub part_held : List ColumnDef → List ℕ → List ℕ → ℕ → List ℕ
part_held columns places key place = if is_in places place then part_in columns places key place else null_part (slice_get columns place)

abbrev pub parts_in : List ColumnDef → List ℕ → List ℕ → List ℕ → List ℕ
parts_in columns places key wanted = flat_map (λ p. part_held columns places key p) wanted

-- what a function splits off, against the reading
abbrev pub SplitsPart : List ℕ → Result (Bor (List ℕ) × Bor (List ℕ)) ℕ → Result (List ℕ) ℕ → Type 0
SplitsPart key (Ok x) read = (read ≡ Ok x.1.now) × (x.0.now ≡ take (length key - length x.1.now) key)
SplitsPart key (Err left) read = read ≡ Err left
