-- What a dictionary tells. Index numbers, families and hidden numbers without a record have their first values.
use Rattle.std.specs.Prelude.{ℕ, ◌==◌, Bool, false, nat_eq, if◌then◌else◌, List, [], ◌∷◌, Option, Some, None}
use Rattle.std.specs.List.{list_any, find}
use Rattle.std.specs.Cmp.Lexicographic.{pointwise}
use Rattle.byteorder.specs.Endian.{big_bytes}
use Rattle.mr_dict_entry.specs.Entries.{kind_of, kinded_key}
use Rattle.mr_dict_entry.specs.declared.entry.DictEntry.{DictEntry}
use Rattle.mr_dict_entry.specs.declared.entry.DictEntry.TheVariants.{Table, Index, Family, Building, Greatest, NextHidden, LastCommit}
use Rattle.mr_dict.specs.declared.scan.Wanted.{Wanted}
use Rattle.mr_dict.specs.declared.scan.Wanted.TheVariants.{First, Numbered, Named, BuildingOn}
use Rattle.mr_dict.specs.Dictionary.{entry_of}

-- ---- the last commit: its number and its moment, 0 where there is none

abbrev pub commits_told : Option DictEntry → ℕ
commits_told (Some (LastCommit commits moment)) = commits
commits_told _ = 0

abbrev pub moment_told : Option DictEntry → ℕ
moment_told (Some (LastCommit commits moment)) = moment
moment_told _ = 0

abbrev pub commits_in : List DictEntry → ℕ
commits_in es = commits_told (entry_of (kinded_key 8 []) es)

abbrev pub moment_in : List DictEntry → ℕ
moment_in es = moment_told (entry_of (kinded_key 8 []) es)

-- ---- index numbers and hidden numbers

abbrev pub greatest_told : Option DictEntry → ℕ
greatest_told (Some (Greatest number)) = number
greatest_told _ = 255

-- the greatest index number that was given, 255 where none was
abbrev pub greatest_in : List DictEntry → ℕ
greatest_in es = greatest_told (entry_of (kinded_key 6 []) es)

abbrev pub next_told : Option DictEntry → ℕ
next_told (Some (NextHidden number next)) = next
next_told _ = 1

-- the next hidden number of the table whose primary key has this index number, 1 where it has none
abbrev pub next_in : ℕ → List DictEntry → ℕ
next_in number es = next_told (entry_of (kinded_key 7 (big_bytes 4 number)) es)

abbrev pub family_told : Option DictEntry → Option ℕ
family_told (Some (Index number family)) = Some family
family_told _ = None

-- the family of an index
abbrev pub index_family_in : ℕ → List DictEntry → Option ℕ
index_family_in number es = family_told (entry_of (kinded_key 2 (big_bytes 4 number)) es)

-- ---- families

-- `__system__`
abbrev pub system_name : List ℕ
system_name = 95 ∷ 95 ∷ 115 ∷ 121 ∷ 115 ∷ 116 ∷ 101 ∷ 109 ∷ 95 ∷ 95 ∷ []

-- `default`
abbrev pub default_name : List ℕ
default_name = 100 ∷ 101 ∷ 102 ∷ 97 ∷ 117 ∷ 108 ∷ 116 ∷ []

abbrev pub name_told : Option DictEntry → Option (List ℕ)
name_told (Some (Family family name)) = Some name
name_told _ = None

-- the name of a family; 0 and 1 have theirs without a record
abbrev pub family_name_in : ℕ → List DictEntry → Option (List ℕ)
family_name_in family es =
    if family == 0 then Some system_name
    else (if family == 1 then Some default_name else name_told (entry_of (kinded_key 3 (big_bytes 4 family)) es))

abbrev pub is_family_of : List ℕ → DictEntry → Bool
is_family_of name (Family family other) = pointwise nat_eq other name
is_family_of name _ = false

abbrev pub number_told : Option DictEntry → Option ℕ
number_told (Some (Family family name)) = Some family
number_told _ = None

-- the family of a name
abbrev pub family_in : List ℕ → List DictEntry → Option ℕ
family_in name es =
    if pointwise nat_eq name system_name then Some 0
    else (if pointwise nat_eq name default_name then Some 1 else number_told (find (is_family_of name) es))

-- ---- entries that are looked for by what they say

-- a table that has a key of this index number
abbrev pub has_number : ℕ → DictEntry → Bool
has_number number (Table name numbers def) = list_any (λ n. n == number) numbers
has_number number _ = false

-- a building index of this table
abbrev pub builds_on : List ℕ → DictEntry → Bool
builds_on name (Building number table key family filled) = pointwise nat_eq table name
builds_on name _ = false

abbrev pub is_kind : ℕ → DictEntry → Bool
is_kind kind e = kind_of e == kind

-- the kind of the entries that are looked for, and which of them
abbrev pub wanted_kind : Wanted → ℕ
wanted_kind (First kind) = kind
wanted_kind (Numbered number) = 1
wanted_kind (Named name) = 3
wanted_kind (BuildingOn table) = 5

abbrev pub is_wanted : Wanted → DictEntry → Bool
is_wanted (First kind) e = is_kind kind e
is_wanted (Numbered number) e = has_number number e
is_wanted (Named name) e = is_family_of name.now e
is_wanted (BuildingOn table) e = builds_on table.now e
