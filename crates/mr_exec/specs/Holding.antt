-- What rows that are held have to do with those that were seen.
use Rattle.std.specs.Prelude.{◌≡◌, ◌<◌, ◌≤◌, ◌-◌, ℕ, true, false, List, length, get_or, take, Option, Some, None}
use Rattle.std.specs.List.{AllByRecursion}
use Rattle.std.specs.Ordering.{is_gt}
use Rattle.std.specs.declared.cmp.Ordering.{Ordering}
use Rattle.mr_types.specs.declared.row.Row.{Row}
use Rattle.mr_spec.specs.Select.{sorted}
use Rattle.mr_exec.specs.declared.held.Held.{Held}
use Rattle.mr_exec.specs.Gathering.{StandsFor}

-- there are so many rows, and of the first so many in order none is behind the last of those in front
abbrev pub IsBound : (Row → Row → Ordering) → Option ℕ → List Row → Type 0
IsBound cmp None rows = ⊥
IsBound cmp (Some most) rows = (most ≤ length rows) × (0 < most) × ((d : Row) → AllByRecursion (λ y. is_gt (cmp y (get_or rows (most - 1) d)) ≡ false) (take most (sorted cmp rows)))

-- they stand for the rows that were seen, and are bound where they say so
abbrev pub Holds : (Row → Row → Ordering) → Option ℕ → Held → List Row → Type 0
Holds cmp reach held seen = StandsFor cmp reach held.rows.items seen × (held.is_bound ≡ true → IsBound cmp reach held.rows.items)
