-- The choice of an index.
use Rattle.std.specs.Prelude.{◌≡◌, ◌<◌, ℕ, zero, suc, ◌+◌, ◌*◌, ◌/◌, ◌%◌, ◌^◌, ◌==◌, nat_lt, not, ◌&&◌, ◌||◌, Bool, true, false, if◌then◌else◌, List, [], ◌∷◌, Option, Some, None, is_some}
use Rattle.std.specs.List.{list_all}
use Rattle.mr_types.specs.declared.definition.IndexDef.{IndexDef}
use Rattle.mr_types.specs.declared.definition.TableDef.{TableDef}
use Rattle.mr_spec.specs.declared.bound.Bound.{Bound}
use Rattle.mr_entry.specs.Entry.{entry_places, is_reached, IsNeeded}
use Rattle.mr_plan.specs.Columns.{fixed, narrows}

-- ---- covering

-- each needed column below a place, one bit per column, is in the key or in the primary key
abbrev pub needed_below : TableDef → ℕ → ℕ → ℕ → Bool
needed_below def index needed zero = true
needed_below def index needed (suc p) = (not (needed / 2 ^ p % 2 == 1) || is_reached def index p) && needed_below def index needed p

-- the entries of the index hold each needed column
unfoldable pub is_covering : TableDef → ℕ → ℕ → Bool
is_covering def index needed = index == 0 || needed_below def index needed 64

-- ---- how well an index serves

-- so many of its first columns are fixed by `=`
abbrev pub fixed_count : Option Bound → List ℕ → ℕ
fixed_count e [] = 0
fixed_count e (p ∷ places) = if is_some (fixed p e) then suc (fixed_count e places) else 0

-- the condition says something of its first column
abbrev pub narrows_first : Option Bound → List ℕ → Bool
narrows_first e [] = false
narrows_first e (p ∷ places) = narrows p e

-- 0 where the condition says nothing of its first column; else the more columns are fixed, and then where it covers
abbrev pub score : TableDef → Option Bound → ℕ → ℕ → ℕ
score def e needed index = if narrows_first e (entry_places def index) then 1 + 2 * fixed_count e (entry_places def index) + (if is_covering def index needed then 1 else 0) else 0

-- the first of those that serve best, from a secondary key on
abbrev pub best_from : TableDef → Option Bound → ℕ → ℕ → List IndexDef → ℕ → ℕ
best_from def e needed next [] best = best
best_from def e needed next (key ∷ keys) best = best_from def e needed (suc next) keys (if nat_lt (score def e needed best) (score def e needed next) then next else best)

-- each column of a primary key that isn't hidden is fixed by `=`
abbrev pub fixes_all : Option Bound → List ℕ → Bool
fixes_all e [] = false
fixes_all e (p ∷ places) = list_all (λ q. is_some (fixed q e)) (p ∷ places)

abbrev pub chosen : TableDef → Option Bound → ℕ → Option ℕ → ℕ
chosen def e needed (Some index) = index
chosen def e needed None = if fixes_all e def.primary.columns then 0 else best_from def e needed 1 def.secondary 0

-- The entries of the primary key hold each column; of another key each needed column must be in it or in the primary key.
abbrev pub Covers : TableDef → ℕ → ℕ → Type 0
Covers def zero needed = Unit {0}
Covers def (suc i) needed = (p : ℕ) → p < 64 → IsNeeded needed p → is_reached def (suc i) p ≡ true
