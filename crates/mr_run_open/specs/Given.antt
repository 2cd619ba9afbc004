-- What the readers of an index give.
use Rattle.std.specs.Prelude.{◌≡◌, ◌==◌, ℕ, List, map, length, Result, Ok, Err}
use Rattle.std.specs.Borrow.{Bor}
use Rattle.mr_block.specs.Fields.{Read, ◌>>=◌}
use Rattle.mr_block.specs.Block.{key_in}
use Rattle.mr_run_file.specs.Reading.{Indexed, Index, demand}
use Rattle.mr_run_open.specs.declared.index.IndexEntry.{IndexEntry}
use Rattle.mr_run_open.specs.declared.index.EntryRef.{EntryRef}
use Rattle.mr_run_open.specs.declared.index.IndexRead.{IndexRead}
use Rattle.mr_run_open.specs.declared.index.Unread.{Unread}
use Rattle.mr_run_open.specs.declared.index.Unread.TheVariants.{Memory, Left}

abbrev pub indexed_of : IndexEntry → Indexed
indexed_of e = record { place = e.place; size = e.size; key = e.key }

abbrev pub indexed_ref : EntryRef → Indexed
indexed_ref e = record { place = e.place; size = e.size; key = e.key.now }

abbrev pub entry_given : Result (EntryRef × Bor (List ℕ)) ℕ → Read Indexed
entry_given (Ok r) = Ok (indexed_ref r.0, r.1.now)
entry_given (Err left) = Err left

-- the offence is the one that was read, but for want of memory
abbrev pub IsUnread : {X : Type 0} → Result X ℕ → Unread → Type 0
IsUnread r Memory = Unit {0}
IsUnread r (Left n) = r ≡ Err n

-- the last key, and nothing behind it
abbrev pub last_read : List ℕ → Result (List ℕ) ℕ
last_read bytes = do
  last ← key_in bytes
  none_left ← demand (length last.1 == 0) (length last.1)
  Ok last.0

abbrev pub index_of : IndexRead → Index
index_of x = record { blocks = map indexed_of x.blocks.items; last = x.last }
