-- What the readers of tables give. Want of memory says nothing of the bytes.
use Rattle.std.specs.Prelude.{◌≡◌, ℕ, ◌-◌, List, ◌++◌, length, Option, Result, Ok, Err, ⊤}
use Rattle.mr_types.specs.declared.definition.TableDef.{TableDef}
use Rattle.mr_dict_entry.specs.declared.table.NoTable.{NoTable}
use Rattle.mr_dict_entry.specs.declared.table.NoTable.TheVariants.{Memory, Offence}
use Rattle.mr_dict_entry.specs.declared.entry.DictEntry.{DictEntry}
use Rattle.mr_dict_entry.specs.declared.entry.DictEntry.TheVariants.{Table}
use Rattle.mr_dict_entry.specs.Entries.{first_of, numbered_in}

abbrev pub HasNone : {X : Type 0} → NoTable → Result X (Option ℕ) → Type 0
HasNone Memory read = ⊤
HasNone (Offence left) read = read ≡ Err left

abbrev pub GivesNamed : {X : Type 0} → Result X NoTable → Result X (Option ℕ) → Type 0
GivesNamed (Ok x) read = read ≡ Ok x
GivesNamed (Err stop) read = HasNone stop read

-- what is read behind these numbers, where this is the first offence so far
abbrev pub behind_numbers : List ℕ → Option ℕ → Result (List ℕ × TableDef) (Option ℕ) → Result (List ℕ × TableDef) (Option ℕ)
behind_numbers numbers first (Ok t) = Ok (numbers ++ t.0, t.1)
behind_numbers numbers first (Err other) = Err (first_of first other)

-- no fewer numbers than so many are read in front of a definition of a table of this name
abbrev pub HasNoFewer : List ℕ → ℕ → List ℕ → Type 0
HasNoFewer name count value = (left : Option ℕ) × (numbered_in name (count - 1) 0 value ≡ Err left)

-- where the entry is a table, the value isn't read with fewer numbers
abbrev pub ReadsBack : DictEntry → List ℕ → Type 0
ReadsBack (Table name numbers def) value = HasNoFewer name (length numbers) value
ReadsBack _ value = ⊤
