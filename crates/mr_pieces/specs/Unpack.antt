-- What a key drops of a text: the spaces at its end, and which letters were lower-case.
use Rattle.std.specs.Prelude.{ℕ, ◌+◌, ◌*◌, ◌/◌, ◌%◌, List, [], ◌∷◌, ◌++◌, replicate, take, drop, nat_le, ◌&&◌, ◌==◌, if◌then◌else◌}
use Rattle.std.specs.List.{suffix_len}
use Rattle.std.specs.Int.{w16, to_be_bytes, from_be_bytes}
use Rattle.mr_lanes.specs.Kernels.{is_space}
use Rattle.mr_pieces.specs.declared.collation.Collation.{Collation}
use Rattle.mr_pieces.specs.declared.collation.Collation.TheVariants.{Bin, Ci}
use Rattle.mr_pieces.specs.Pieces.{trimmed}

-- 1 for a to z
abbrev pub lower_bit : ℕ → ℕ
lower_bit c = if nat_le 97 c && nat_le c 122 then 1 else 0

-- a bit per byte, the least significant first
abbrev pub bits_value : List ℕ → ℕ
bits_value [] = 0
bits_value (c ∷ text) = lower_bit c + 2 * bits_value text

-- by 8 bytes of the text
unfoldable pub bits_of : List ℕ → List ℕ
bits_of (a ∷ b ∷ c ∷ d ∷ e ∷ f ∷ g ∷ h ∷ rest) = bits_value (a ∷ b ∷ c ∷ d ∷ e ∷ f ∷ g ∷ h ∷ []) ∷ bits_of rest
bits_of [] = []
bits_of rest = bits_value rest ∷ []

abbrev pub case_bits : Collation → List ℕ → List ℕ
case_bits Bin text = []
case_bits Ci text = bits_of text

abbrev pub unpack_form : Collation → List ℕ → List ℕ
unpack_form collation text = to_be_bytes w16 (suffix_len is_space text) ++ case_bits collation (trimmed text)

-- ---- and back

-- 32 more where a letter was lower-case
abbrev pub lower_one : ℕ → ℕ → ℕ
lower_one bit c = if bit == 1 then c + 32 else c

abbrev pub lower_by : ℕ → List ℕ → List ℕ
lower_by bits [] = []
lower_by bits (c ∷ text) = lower_one (bits % 2) c ∷ lower_by (bits / 2) text

unfoldable pub restored : List ℕ → List ℕ → List ℕ
restored [] text = text
restored (v ∷ bits) (a ∷ b ∷ c ∷ d ∷ e ∷ f ∷ g ∷ h ∷ rest) = lower_by v (a ∷ b ∷ c ∷ d ∷ e ∷ f ∷ g ∷ h ∷ []) ++ restored bits rest
restored (v ∷ bits) rest = lower_by v rest

abbrev pub case_back_of : Collation → List ℕ → List ℕ → List ℕ
case_back_of Bin bits text = text
case_back_of Ci bits text = restored bits text

-- the text whose pieces hold `text` and whose unpack form is `unpack`
abbrev pub original : Collation → List ℕ → List ℕ → List ℕ
original collation text unpack = case_back_of collation (drop 2 unpack) text ++ replicate (from_be_bytes w16 (take 2 unpack)) 32
