-- The body of a manifest's record as bytes, and the edits that bytes are. Numbers are big-endian.
--   a body    its edits, one behind the other
--   1         run added: family u32, level u8 (at most 4), file u64, length u64, entries u64
--   2         run dropped: file u64
--   3         live engine log: file u64
--   4         binary-log place: place u64, commits u64 (at most the place)
--   5         next file number: u64 (at most 2^63)
--   6         last sequence number: u64 (below 2^63)
--   7         folder format: u32 (1)
use Rattle.std.specs.Prelude.{ℕ, zero, suc, ◌+◌, ◌-◌, ◌^◌, ◌≤◌, ◌<◌, ◌≡◌, ◌==◌, List, [], ◌∷◌, ◌++◌, length, if◌then◌else◌, nat_lt, Result, Ok, Err}
use Rattle.byteorder.specs.Endian.{big_bytes}
use Rattle.mr_manifest.specs.declared.edit.Edit.{Edit}
use Rattle.mr_manifest.specs.declared.edit.Edit.TheVariants.{RunAdded, RunDropped, LiveLog, BinlogPlace, NextFile, LastSequence, Format}
use Rattle.mr_manifest.specs.Fields.{Read, ◌>>=◌, number_in}

-- ---- the bytes of edits

abbrev pub edit_bytes : Edit → List ℕ
edit_bytes (RunAdded family level file length entries) = 1 ∷ (big_bytes 4 family ++ (level ∷ (big_bytes 8 file ++ (big_bytes 8 length ++ big_bytes 8 entries))))
edit_bytes (RunDropped file) = 2 ∷ big_bytes 8 file
edit_bytes (LiveLog file) = 3 ∷ big_bytes 8 file
edit_bytes (BinlogPlace place commits) = 4 ∷ (big_bytes 8 place ++ big_bytes 8 commits)
edit_bytes (NextFile file) = 5 ∷ big_bytes 8 file
edit_bytes (LastSequence sequence) = 6 ∷ big_bytes 8 sequence
edit_bytes (Format format) = 7 ∷ big_bytes 4 format

abbrev pub edits_bytes : List Edit → List ℕ
edits_bytes [] = []
edits_bytes (e ∷ es) = edit_bytes e ++ edits_bytes es

-- how many they are
abbrev pub edit_size : Edit → ℕ
edit_size (RunAdded family level file length entries) = 30
edit_size (RunDropped file) = 9
edit_size (LiveLog file) = 9
edit_size (BinlogPlace place commits) = 17
edit_size (NextFile file) = 9
edit_size (LastSequence sequence) = 9
edit_size (Format format) = 5

abbrev pub edits_size : List Edit → ℕ
edits_size [] = 0
edits_size (e ∷ es) = edit_size e + edits_size es

-- ---- the edits of bytes

abbrev pub level_in : List ℕ → Read ℕ
level_in [] = Err 0
level_in (level ∷ bytes) = if nat_lt level 5 then Ok (level, bytes) else Err (length (level ∷ bytes))

abbrev pub run_in : List ℕ → Read Edit
run_in bytes = do
  family ← number_in 4 bytes
  level ← level_in family.1
  file ← number_in 8 level.1
  long ← number_in 8 file.1
  entries ← number_in 8 long.1
  Ok (RunAdded family.0 level.0 file.0 long.0 entries.0, entries.1)

abbrev pub dropped_in : List ℕ → Read Edit
dropped_in bytes = do
  file ← number_in 8 bytes
  Ok (RunDropped file.0, file.1)

abbrev pub log_in : List ℕ → Read Edit
log_in bytes = do
  file ← number_in 8 bytes
  Ok (LiveLog file.0, file.1)

abbrev pub commits_in : ℕ → List ℕ → Read ℕ
commits_in place bytes = do
  commits ← number_in 8 bytes
  if nat_lt place commits.0 then Err (length bytes) else Ok commits

abbrev pub place_in : List ℕ → Read Edit
place_in bytes = do
  place ← number_in 8 bytes
  commits ← commits_in place.0 place.1
  Ok (BinlogPlace place.0 commits.0, commits.1)

-- a number below a bound
abbrev pub below_in : ℕ → List ℕ → Read ℕ
below_in bound bytes = do
  number ← number_in 8 bytes
  if nat_lt number.0 bound then Ok number else Err (length bytes)

abbrev pub next_in : List ℕ → Read Edit
next_in bytes = do
  file ← below_in (2 ^ 63 + 1) bytes
  Ok (NextFile file.0, file.1)

abbrev pub sequence_in : List ℕ → Read Edit
sequence_in bytes = do
  sequence ← below_in (2 ^ 63) bytes
  Ok (LastSequence sequence.0, sequence.1)

abbrev pub format_in : List ℕ → Read Edit
format_in bytes = do
  format ← number_in 4 bytes
  if format.0 == 1 then Ok (Format format.0, format.1) else Err (length bytes)

-- the edit in front, or the number of bytes left from its first offence on
abbrev pub edit_in : List ℕ → Read Edit
edit_in [] = Err 0
edit_in (tag ∷ bytes) =
    if tag == 1 then run_in bytes
    else (if tag == 2 then dropped_in bytes
    else (if tag == 3 then log_in bytes
    else (if tag == 4 then place_in bytes
    else (if tag == 5 then next_in bytes
    else (if tag == 6 then sequence_in bytes
    else (if tag == 7 then format_in bytes else Err (length (tag ∷ bytes))))))))

abbrev pub in_front : Edit → Result (List Edit) ℕ → Result (List Edit) ℕ
in_front e (Ok es) = Ok (e ∷ es)
in_front e (Err left) = Err left

-- the edits, at most so many of them
abbrev pub edits_in : ℕ → List ℕ → Result (List Edit) ℕ
edits_in n [] = Ok []
edits_in zero (b ∷ bytes) = Err (length (b ∷ bytes))
edits_in (suc n) (b ∷ bytes) = do
  one ← edit_in (b ∷ bytes)
  in_front one.0 (edits_in n one.1)

-- the first offending place
abbrev pub offence_in : List ℕ → Result (List Edit) ℕ → Result (List Edit) ℕ
offence_in bytes (Ok es) = Ok es
offence_in bytes (Err left) = Err (length bytes - left)

-- The edits that the bytes are, or the first offending place. No edit is empty, so there are no more edits than bytes.
abbrev pub read_edits : List ℕ → Result (List Edit) ℕ
read_edits bytes = offence_in bytes (edits_in (length bytes) bytes)

-- ---- edits that are in the format

pub record RunFits (f l n s e : ℕ) : Type 0 where
  pub family : f < 2 ^ 32
  pub level : l ≤ 4
  pub file : n < 2 ^ 64
  pub long : s < 2 ^ 64
  pub entries : e < 2 ^ 64

abbrev pub EditFits : Edit → Type 0
EditFits (RunAdded family level file length entries) = RunFits family level file length entries
EditFits (RunDropped file) = file < 2 ^ 64
EditFits (LiveLog file) = file < 2 ^ 64
EditFits (BinlogPlace place commits) = (place < 2 ^ 64) × (commits ≤ place)
EditFits (NextFile file) = file ≤ 2 ^ 63
EditFits (LastSequence sequence) = sequence < 2 ^ 63
EditFits (Format format) = format ≡ 1

abbrev pub AllFit : List Edit → Type 0
AllFit [] = Unit {0}
AllFit (e ∷ es) = EditFits e × AllFit es

-- ---- the first record

-- the edits of an empty folder
abbrev pub first_record : List Edit
first_record = Format 1 ∷ LiveLog 16 ∷ BinlogPlace 0 0 ∷ NextFile 17 ∷ LastSequence 0 ∷ []
