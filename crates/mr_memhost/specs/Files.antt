-- The files of a host by number.
use Rattle.std.specs.Prelude.{ℕ, List, [], Option, Some, None, Vec}
use Rattle.std.specs.BTreeMap.{get}
use Rattle.std.specs.Ordering.{nat_cmp}
use Rattle.std.specs.declared.alloc.Global.{Global}
use Rattle.std.specs.declared.collections.BTreeMap.{BTreeMap}
use Rattle.mr_memhost.specs.declared.mem_file.MemFile.{MemFile}
use Rattle.mr_memhost.specs.Held.{Held, held_in}

abbrev pub items_of : Option (Vec ℕ Global) → List ℕ
items_of None = []
items_of (Some v) = v.items

-- the bytes that a file began with
abbrev pub bytes_of : BTreeMap ℕ (Vec ℕ Global) Global → ℕ → List ℕ
bytes_of initial file = items_of (get nat_cmp initial file)

abbrev pub held : BTreeMap ℕ (Vec ℕ Global) Global → BTreeMap ℕ MemFile Global → ℕ → Held
held initial files file = held_in (get nat_cmp files file) (bytes_of initial file)
