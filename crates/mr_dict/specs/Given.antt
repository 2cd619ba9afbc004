-- Keys that entries lend, and the key that was passed.
use Rattle.std.specs.Prelude.{ℕ, cond, List, [], Option, Some, None}
use Rattle.mr_dict_entry.specs.declared.entry.DictEntry.{DictEntry}
use Rattle.mr_dict_entry.specs.declared.entry.DictEntry.TheVariants.{Greatest}
use Rattle.mr_dict.specs.declared.keys.Rest.{Rest}
use Rattle.mr_dict.specs.declared.keys.Rest.TheVariants.{Name, Number, Nothing}
use Rattle.mr_dict.specs.declared.passed.Passed.{Passed}

abbrev pub rest_bytes : Rest → List ℕ
rest_bytes (Name name) = name.now
rest_bytes (Number bytes) = bytes
rest_bytes Nothing = []

abbrev pub passed_key : Passed → Option (List ℕ)
passed_key p = cond p.is (Some p.key.items) None

-- what stands at a place behind the last entry
abbrev pub no_entry : DictEntry
no_entry = Greatest 0
