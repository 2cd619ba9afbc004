-- The dictionary: entries in the order of their keys, each key once.
use Rattle.std.specs.Prelude.{ℕ, ◌&&◌, Bool, true, if◌then◌else◌, List, [], ◌∷◌, Option}
use Rattle.std.specs.List.{list_all, find}
use Rattle.std.specs.Cmp.Lexicographic.{slice_cmp}
use Rattle.std.specs.Ordering.{nat_cmp, is_lt, is_eq}
use Rattle.mr_dict_entry.specs.Entries.{entry_key}
use Rattle.mr_dict_entry.specs.declared.entry.DictEntry.{DictEntry}

-- its key comes before this key
abbrev pub is_before : List ℕ → DictEntry → Bool
is_before key e = is_lt (slice_cmp nat_cmp (entry_key e) key)

-- its key is this key
abbrev pub is_at : List ℕ → DictEntry → Bool
is_at key e = is_eq (slice_cmp nat_cmp (entry_key e) key)

-- each key comes before all those behind it
abbrev pub are_ordered : List DictEntry → Bool
are_ordered [] = true
are_ordered (e ∷ es) = list_all (λ f. is_before (entry_key f) e) es && are_ordered es

-- with this entry, in the place of the one that has its key
abbrev pub put_in : DictEntry → List DictEntry → List DictEntry
put_in e [] = e ∷ []
put_in e (f ∷ fs) = if is_before (entry_key e) f then f ∷ put_in e fs else (if is_at (entry_key e) f then e ∷ fs else e ∷ f ∷ fs)

-- the entry with a key
abbrev pub entry_of : List ℕ → List DictEntry → Option DictEntry
entry_of key es = find (is_at key) es
