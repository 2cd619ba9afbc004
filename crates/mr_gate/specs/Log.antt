-- A file of records: a gate, the length of a body in four bytes, the body, and behind it the next record's gate.
use Rattle.std.specs.Prelude.{◌≡◌, ℕ, zero, suc, ◌+◌, ◌^◌, Bool, false, ◌&&◌, ◌==◌, nat_lt, if◌then◌else◌, List, [], ◌∷◌, ◌++◌, length, take, drop, ◌≤◌}
use Rattle.std.specs.Int.{w32, to_be_bytes, from_be_bytes}

-- the length of the body that follows
abbrev pub size_of : List ℕ → ℕ
size_of behind = from_be_bytes w32 (take 4 behind)

-- behind an open gate stand a whole record and the next gate
abbrev pub is_whole : List ℕ → Bool
is_whole behind = nat_lt (size_of behind) (2 ^ 29 + 1) && nat_lt (4 + size_of behind) (length behind)

-- the bodies of the records that follow, once so many bytes have passed
unfoldable pub walk : ℕ → List ℕ → List (List ℕ)
walk skip [] = []
walk (suc skip) (byte ∷ rest) = walk skip rest
walk zero (gate ∷ rest) = if (gate == 167) && is_whole rest then take (size_of rest) (drop 4 rest) ∷ walk (4 + size_of rest) rest else []

-- how many bytes records take
abbrev pub span : List (List ℕ) → ℕ
span [] = 0
span (body ∷ bodies) = 5 + length body + span bodies

-- what stands where the records end is damage: nothing, but at the file's start, or an open gate with bytes behind it
abbrev pub is_bad_end : ℕ → List ℕ → Bool
is_bad_end place [] = nat_lt 0 place
is_bad_end place (gate ∷ []) = false
is_bad_end place (gate ∷ behind ∷ rest) = gate == 167

-- the records of a file from a place on, the place where they end, and whether there is damage
abbrev pub records_from : ℕ → List ℕ → List (List ℕ)
records_from from file = walk 0 (drop from file)

abbrev pub end_from : ℕ → List ℕ → ℕ
end_from from file = from + span (records_from from file)

abbrev pub is_damaged_from : ℕ → List ℕ → Bool
is_damaged_from from file = is_bad_end (end_from from file) (drop (end_from from file) file)

-- from there the file has just these records, and no damage
pub record IsLog (from : ℕ) (bodies : List (List ℕ)) (file : List ℕ) : Type 0 where
  pub records : records_from from file ≡ bodies
  pub sound : is_damaged_from from file ≡ false

-- a record as bytes, records one behind the other, and the file that has just these
abbrev pub record_bytes : List ℕ → List ℕ
record_bytes body = 167 ∷ to_be_bytes w32 (length body) ++ body

abbrev pub frames : List (List ℕ) → List ℕ
frames [] = []
frames (body ∷ bodies) = record_bytes body ++ frames bodies

abbrev pub log_bytes : List (List ℕ) → List ℕ
log_bytes bodies = frames bodies ++ 0 ∷ []

-- each body is short enough for a record
abbrev pub AreShort : List (List ℕ) → Type 0
AreShort [] = Unit {0}
AreShort (body ∷ bodies) = (length body ≤ 2 ^ 29) × AreShort bodies
