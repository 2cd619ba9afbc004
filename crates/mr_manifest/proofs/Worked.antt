-- The first record of a folder, byte for byte.
use Rattle.std.proofs.Common.{◌≡◌, ℕ, List, ◌∷◌, [], refl, Ok}
use Rattle.mr_manifest.specs.Edits.{edits_bytes, read_edits, first_record}

first_bytes : List ℕ
first_bytes =
    7 ∷ 0 ∷ 0 ∷ 0 ∷ 1
    ∷ 3 ∷ 0 ∷ 0 ∷ 0 ∷ 0 ∷ 0 ∷ 0 ∷ 0 ∷ 16
    ∷ 4 ∷ 0 ∷ 0 ∷ 0 ∷ 0 ∷ 0 ∷ 0 ∷ 0 ∷ 0 ∷ 0 ∷ 0 ∷ 0 ∷ 0 ∷ 0 ∷ 0 ∷ 0 ∷ 0
    ∷ 5 ∷ 0 ∷ 0 ∷ 0 ∷ 0 ∷ 0 ∷ 0 ∷ 0 ∷ 17
    ∷ 6 ∷ 0 ∷ 0 ∷ 0 ∷ 0 ∷ 0 ∷ 0 ∷ 0 ∷ 0 ∷ []

first_written : edits_bytes first_record ≡ first_bytes
unfolding first_bytes
first_written = refl

first_read : read_edits first_bytes ≡ Ok first_record
unfolding first_bytes
first_read = refl
