-- What is lent from a memtable.
use Rattle.std.specs.Prelude.{ℕ, cond, List, Option, Some, None}
use Rattle.std.specs.Option.{option_map}
use Rattle.mr_iter.specs.Versions.{Version, as_version}
use Rattle.mr_memtable.specs.declared.version.VersionRef.{VersionRef}

-- the version of this key
abbrev pub version_of : List ℕ → VersionRef → Version
version_of key v = as_version key v.sequence (cond v.is_put (Some v.value.now) None)

abbrev pub version_given : List ℕ → Option VersionRef → Option Version
version_given key o = option_map (version_of key) o
