-- A number that becomes known.
use Rattle.std.specs.Prelude.{◌≡◌, ℕ, true, List}
use Rattle.mr_families.specs.declared.numbered.Numbered.{Numbered}
use Rattle.mr_families.specs.Known.{is_known}

-- the number is known, and so is each that was
pub record Knows (number : ℕ) (old new : List Numbered) : Type 0 where
  pub own : is_known new number ≡ true
  pub others : (f : ℕ) → is_known old f ≡ true → is_known new f ≡ true
