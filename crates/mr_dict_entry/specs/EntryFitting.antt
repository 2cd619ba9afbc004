-- Entries that have a form as bytes: lengths are in their fields, names are names, and a table has one index number for each of its keys.
-- Those whose numbers are in their fields, as each entry's are that is held as a value. And those whose lengths have a place there.
use Rattle.std.specs.Prelude.{◌≡◌, ℕ, ◌<◌, ◌^◌, suc, true, List, length, ⊤}
use Rattle.std.specs.List.{AllByRecursion}
use Rattle.mr_types.specs.declared.definition.TableDef.{TableDef}
use Rattle.mr_fields.specs.Fitting.{NameFits}
use Rattle.mr_schema.specs.DefinitionFitting.{KeyFits, DefinitionFits, KeyHasPlace, DefinitionHasPlace}
use Rattle.mr_dict_entry.specs.Entries.{is_family_name}
use Rattle.mr_dict_entry.specs.declared.entry.DictEntry.{DictEntry}
use Rattle.mr_dict_entry.specs.declared.entry.DictEntry.TheVariants.{Table, Index, Family, Dropped, Building, Greatest, NextHidden, LastCommit}

pub record TableFits (name : List ℕ) (numbers : List ℕ) (def : TableDef) : Type 0 where
  pub name_is : name ≡ def.name
  pub one_each : length numbers ≡ suc (length def.secondary)
  pub def_fits : DefinitionFits def

abbrev pub EntryFits : DictEntry → Type 0
EntryFits (Table name numbers def) = TableFits name numbers def
EntryFits (Family family name) = is_family_name name ≡ true
EntryFits (Building number table key family filled) = NameFits table × KeyFits 256 key × (length filled < 2 ^ 16)
EntryFits _ = ⊤

-- the numbers of an entry are of 32 bits, hidden numbers, moments and counts of commits of 64
abbrev pub NumbersFit : DictEntry → Type 0
NumbersFit (Table name numbers def) = AllByRecursion (λ number. number < 2 ^ 32) numbers
NumbersFit (Index number family) = (number < 2 ^ 32) × (family < 2 ^ 32)
NumbersFit (Family family name) = family < 2 ^ 32
NumbersFit (Dropped number family) = (number < 2 ^ 32) × (family < 2 ^ 32)
NumbersFit (Building number table key family filled) = (number < 2 ^ 32) × (family < 2 ^ 32)
NumbersFit (Greatest number) = number < 2 ^ 32
NumbersFit (NextHidden number next) = (number < 2 ^ 32) × (next < 2 ^ 64)
NumbersFit (LastCommit commits moment) = (commits < 2 ^ 64) × (moment < 2 ^ 64)

abbrev pub EntryHasPlace : DictEntry → Type 0
EntryHasPlace (Table name numbers def) = DefinitionHasPlace def
EntryHasPlace (Building number table key family filled) = (length table < 2 ^ 8) × KeyHasPlace key × (length filled < 2 ^ 16)
EntryHasPlace _ = ⊤
