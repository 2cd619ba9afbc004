-- The order of texts and of bytes.
use Rattle.std.specs.Prelude.{ℕ, ◌<◌, List, [], ◌∷◌, map}
use Rattle.std.specs.declared.cmp.Ordering.TheVariants.{Equal}
use Rattle.std.specs.declared.cmp.Ordering.{Ordering}
use Rattle.std.specs.Ordering.{nat_cmp, ordering_then, ordering_reverse}
use Rattle.std.specs.Cmp.Lexicographic.{slice_cmp}
use Rattle.std.specs.List.{AllByRecursion}
use Rattle.mr_lanes.specs.Kernels.{upper}
use Rattle.mr_pieces.specs.declared.collation.Collation.{Collation}
use Rattle.mr_pieces.specs.declared.collation.Collation.TheVariants.{Bin, Ci}

-- ---- lists with a filler behind them

-- a list against fillers alone
abbrev pub filler_cmp : ℕ → List ℕ → Ordering
filler_cmp filler [] = Equal
filler_cmp filler (x ∷ xs) = ordering_then (nat_cmp x filler) (filler_cmp filler xs)

-- two lists, the shorter one with fillers behind it
abbrev pub filled_cmp : ℕ → List ℕ → List ℕ → Ordering
filled_cmp filler [] ys = ordering_reverse (filler_cmp filler ys)
filled_cmp filler (x ∷ xs) [] = filler_cmp filler (x ∷ xs)
filled_cmp filler (x ∷ xs) (y ∷ ys) = ordering_then (nat_cmp x y) (filled_cmp filler xs ys)

-- ---- texts

-- each byte is below 0x80
abbrev pub IsAscii : List ℕ → Type 0
IsAscii text = AllByRecursion (λ b. b < 128) text

-- Ci folds a to z onto A to Z, Bin leaves a text as it is
abbrev pub folded : Collation → List ℕ → List ℕ
folded Bin text = text
folded Ci text = map upper text

-- texts are compared after folding, the shorter one padded with spaces
abbrev pub text_cmp : Collation → List ℕ → List ℕ → Ordering
text_cmp collation a b = filled_cmp 32 (folded collation a) (folded collation b)

-- ---- bytes

-- as words in a dictionary
abbrev pub bytes_cmp : List ℕ → List ℕ → Ordering
bytes_cmp a b = slice_cmp nat_cmp a b
