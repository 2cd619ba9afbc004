-- What the readers give that borrow from a block.
use Rattle.std.specs.Prelude.{ℕ, Bool, List, Result, Ok, Err}
use Rattle.std.specs.Borrow.{Bor}
use Rattle.mr_iter.specs.Versions.{Version, as_version}
use Rattle.mr_block.specs.Fields.{Read}
use Rattle.mr_block.specs.Block.{value_of}
use Rattle.mr_block.specs.declared.entry.Entry.{Entry}

abbrev pub kind_given : Result (Bool × Bor (List ℕ)) ℕ → Read Bool
kind_given (Ok r) = Ok (r.0, r.1.now)
kind_given (Err left) = Err left

abbrev pub version_of : Entry → Version
version_of e = as_version e.key.now e.sequence (value_of e.is_put e.value.now)

abbrev pub entry_given : Result (Entry × Bor (List ℕ)) ℕ → Read Version
entry_given (Ok r) = Ok (version_of r.0, r.1.now)
entry_given (Err left) = Err left
