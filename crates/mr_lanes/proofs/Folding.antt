-- One more byte is folded in place.
use Rattle.std.proofs.Common.{◌≡◌, ℕ, ◌+◌, ◌<◌, List, ◌++◌, length, map, take, drop, get_or, set}
use Rattle.std.proofs.lemmas.List.Edits.{map_over_more}
use Rattle.mr_lanes.specs.Kernels.{upper}

pub fold_more : (xs ys : List ℕ) (i x y : ℕ) → i < length xs → ys ≡ map upper (take i xs) ++ drop i xs → x ≡ get_or ys i x → y ≡ upper x → set ys i y ≡ map upper (take (i + 1) xs) ++ drop (i + 1) xs
fold_more xs ys i x y within so_far at is = rw is (map_over_more upper xs ys i x within so_far at)
