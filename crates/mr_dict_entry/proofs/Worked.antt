-- Worked entries, one of each kind.
use Rattle.std.proofs.Common.{◌≡◌, [], ◌∷◌, refl, true, false, None, Ok, Err}
use Rattle.mr_types.specs.declared.kind.Kind.TheVariants.{BigInt}
use Rattle.mr_types.specs.declared.definition.ColumnDef.{ColumnDef}
use Rattle.mr_types.specs.declared.definition.IndexDef.{IndexDef}
use Rattle.mr_types.specs.declared.definition.TableDef.{TableDef}
use Rattle.mr_dict_entry.specs.declared.entry.DictEntry.TheVariants.{Table, Index, Family, Dropped, Building, Greatest, NextHidden, LastCommit}
use Rattle.mr_dict_entry.specs.Entries.{entry_key, entry_value, numbered_in, reads_entry}

-- table t of a BIGINT column id, with a key k on it
abbrev id : ColumnDef
id = record { name = 105 ∷ 100 ∷ []; ty = record { kind = BigInt; nullable = false }; default = None }

abbrev k : IndexDef
k = record { name = 107 ∷ []; columns = 0 ∷ []; unique = true; comment = [] }

abbrev t : TableDef
t = record { name = 116 ∷ []; columns = id ∷ []; primary = record { name = []; columns = 0 ∷ []; unique = true; comment = [] }; secondary = k ∷ []; comment = []; ttl = None }

table_key : entry_key (Table (116 ∷ []) (256 ∷ 257 ∷ []) t) ≡ 0 ∷ 0 ∷ 0 ∷ 1 ∷ 116 ∷ []
table_key = refl

table_value : entry_value (Table (116 ∷ []) (256 ∷ 257 ∷ []) t)
    ≡ 0 ∷ 0 ∷ 1 ∷ 0 ∷ 0 ∷ 0 ∷ 1 ∷ 1 ∷ 1 ∷ 116 ∷ 1 ∷ 2 ∷ 105 ∷ 100 ∷ 3 ∷ 0 ∷ 0 ∷ 0 ∷ 0 ∷ 0 ∷ 1 ∷ 0 ∷ 0 ∷ 0 ∷ 1 ∷ 1 ∷ 107 ∷ 1 ∷ 1 ∷ 0 ∷ 0 ∷ 0 ∷ 0 ∷ 0 ∷ []
table_value = refl

table_read : reads_entry (0 ∷ 0 ∷ 0 ∷ 1 ∷ 116 ∷ []) (0 ∷ 0 ∷ 1 ∷ 0 ∷ 0 ∷ 0 ∷ 1 ∷ 1 ∷ 1 ∷ 116 ∷ 1 ∷ 2 ∷ 105 ∷ 100 ∷ 3 ∷ 0 ∷ 0 ∷ 0 ∷ 0 ∷ 0 ∷ 1 ∷ 0 ∷ 0 ∷ 0 ∷ 1 ∷ 1 ∷ 107 ∷ 1 ∷ 1 ∷ 0 ∷ 0 ∷ 0 ∷ 0 ∷ 0 ∷ [])
    ≡ Ok (Table (116 ∷ []) (256 ∷ 257 ∷ []) t)
unfolding numbered_in
table_read = refl

-- its column's kind is 9, which stands at place 5 + 14
table_offends : reads_entry (0 ∷ 0 ∷ 0 ∷ 1 ∷ 116 ∷ []) (0 ∷ 0 ∷ 1 ∷ 0 ∷ 0 ∷ 0 ∷ 1 ∷ 1 ∷ 1 ∷ 116 ∷ 1 ∷ 2 ∷ 105 ∷ 100 ∷ 9 ∷ 0 ∷ 0 ∷ 0 ∷ 0 ∷ 0 ∷ []) ≡ Err 19
unfolding numbered_in
table_offends = refl

index_key : entry_key (Index 256 1) ≡ 0 ∷ 0 ∷ 0 ∷ 2 ∷ 0 ∷ 0 ∷ 1 ∷ 0 ∷ []
index_key = refl

index_value : entry_value (Index 256 1) ≡ 0 ∷ 0 ∷ 0 ∷ 1 ∷ []
index_value = refl

family_key : entry_key (Family 2 (114 ∷ 101 ∷ 118 ∷ 58 ∷ [])) ≡ 0 ∷ 0 ∷ 0 ∷ 3 ∷ 0 ∷ 0 ∷ 0 ∷ 2 ∷ []
family_key = refl

family_value : entry_value (Family 2 (114 ∷ 101 ∷ 118 ∷ 58 ∷ [])) ≡ 114 ∷ 101 ∷ 118 ∷ 58 ∷ []
family_value = refl

dropped_key : entry_key (Dropped 258 2) ≡ 0 ∷ 0 ∷ 0 ∷ 4 ∷ 0 ∷ 0 ∷ 1 ∷ 2 ∷ []
dropped_key = refl

dropped_value : entry_value (Dropped 258 2) ≡ 0 ∷ 0 ∷ 0 ∷ 2 ∷ []
dropped_value = refl

building_key : entry_key (Building 259 (116 ∷ []) k 1 (0 ∷ 1 ∷ [])) ≡ 0 ∷ 0 ∷ 0 ∷ 5 ∷ 0 ∷ 0 ∷ 1 ∷ 3 ∷ []
building_key = refl

building_value : entry_value (Building 259 (116 ∷ []) k 1 (0 ∷ 1 ∷ [])) ≡ 1 ∷ 116 ∷ 1 ∷ 107 ∷ 1 ∷ 1 ∷ 0 ∷ 0 ∷ 0 ∷ 0 ∷ 0 ∷ 0 ∷ 1 ∷ 0 ∷ 2 ∷ 0 ∷ 1 ∷ []
building_value = refl

greatest_key : entry_key (Greatest 259) ≡ 0 ∷ 0 ∷ 0 ∷ 6 ∷ []
greatest_key = refl

greatest_value : entry_value (Greatest 259) ≡ 0 ∷ 0 ∷ 1 ∷ 3 ∷ []
greatest_value = refl

next_key : entry_key (NextHidden 260 7) ≡ 0 ∷ 0 ∷ 0 ∷ 7 ∷ 0 ∷ 0 ∷ 1 ∷ 4 ∷ []
next_key = refl

next_value : entry_value (NextHidden 260 7) ≡ 0 ∷ 0 ∷ 0 ∷ 0 ∷ 0 ∷ 0 ∷ 0 ∷ 7 ∷ []
next_value = refl

commit_key : entry_key (LastCommit 3 50) ≡ 0 ∷ 0 ∷ 0 ∷ 8 ∷ []
commit_key = refl

commit_value : entry_value (LastCommit 3 50) ≡ 0 ∷ 0 ∷ 0 ∷ 0 ∷ 0 ∷ 0 ∷ 0 ∷ 3 ∷ 0 ∷ 0 ∷ 0 ∷ 0 ∷ 0 ∷ 0 ∷ 0 ∷ 50 ∷ []
commit_value = refl

-- a byte is left over behind the kind
commit_offends : reads_entry (0 ∷ 0 ∷ 0 ∷ 8 ∷ 0 ∷ []) (0 ∷ []) ≡ Err 4
commit_offends = refl
