-- A text that was emitted in part.
use Rattle.std.specs.Prelude.{◌≡◌, ℕ, ◌<◌, List, ◌++◌, length, take}

-- less than the whole text came behind the output
pub record IsCutShort (text before now : List ℕ) : Type 0 where
  pub count : ℕ
  pub less : count < length text
  pub output : now ≡ before ++ take count text
