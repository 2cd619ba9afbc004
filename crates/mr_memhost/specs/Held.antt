-- What is held of a file.
use Rattle.std.specs.Prelude.{ℕ, List, take, Option, Some, None}
use Rattle.mr_base.specs.Disk.{overwrite}
use Rattle.mr_memhost.specs.declared.mem_file.MemFile.{MemFile}

-- the bytes that a read gives, and how many steps there were at the last sync
pub record Held : Type 0 where
  pub bytes : List ℕ
  pub synced : ℕ

abbrev pub shown : MemFile → Held
shown m = record { bytes = m.bytes.items; synced = m.synced }

-- a file that no call changed
abbrev pub untouched : List ℕ → Held
untouched bytes = record { bytes = bytes; synced = 0 }

-- after a write, a cut, and the sync that is the step after so many
abbrev pub wrote : ℕ → List ℕ → Held → Held
wrote at bytes h = record { bytes = overwrite at bytes h.bytes; synced = h.synced }

abbrev pub shortened : ℕ → Held → Held
shortened to h = record { bytes = take to h.bytes; synced = h.synced }

abbrev pub settled : ℕ → Held → Held
settled steps h = record { bytes = h.bytes; synced = steps }

-- what is held of a file that began with these bytes
abbrev pub held_in : Option MemFile → List ℕ → Held
held_in None bytes = untouched bytes
held_in (Some m) bytes = shown m
