-- Hidden numbers never fall while a statement on rows is judged.
use Rattle.std.proofs.Common.{◌≤◌, ℕ, ◌+◌, Bool, true, false, List, [], ◌∷◌, Result, Ok, Err, arith}
use Rattle.std.specs.Prelude.{if◌then◌else◌}
use Rattle.std.proofs.Math.Nat.{le_refl, le_trans}
use Rattle.mr_types.specs.declared.row.Row.{Row}
use Rattle.mr_types.specs.declared.statement.Insert.{Insert}
use Rattle.mr_types.specs.declared.statement.ItemValue.{ItemValue}
use Rattle.mr_types.specs.declared.statement.SetItem.{SetItem}
use Rattle.mr_types.specs.Refusals.{◌>>=◌, ◌>>◌, in_turn}
use Rattle.mr_spec.specs.declared.progress.Progress.{Progress}
use Rattle.mr_spec.specs.declared.progress.Refusal.{Refusal}
use Rattle.mr_spec.specs.declared.world.Table.{Table}
use Rattle.mr_spec.specs.Truth.{Where}
use Rattle.mr_spec.specs.Progress.{Scene, told}
use Rattle.mr_spec.specs.NewRows.{drawn, has_hidden_key}
use Rattle.mr_spec.specs.Changes.{inserted, replaced, deleted, moved, updated, insert_changes, replace_changes, update_changes, delete_changes}
use Rattle.mr_spec.specs.World.{World}
use Rattle.mr_spec.specs.RowSteps.{scene_of, start_of, not_too_heavy, written}

-- the next hidden number is n or a greater one, behind a refusal too
abbrev pub FromOn : ℕ → Result Progress Refusal → Type 0
FromOn n (Ok g) = n ≤ g.next
FromOn n (Err e) = n ≤ e.next

from-lower : (m n : ℕ) (r : Result Progress Refusal) → m ≤ n → FromOn n r → FromOn m r
from-lower m n (Ok g) le h = le_trans le h
from-lower m n (Err e) le h = le_trans le h

from-bound : (n : ℕ) (r : Result Progress Refusal) (f : Progress → Result Progress Refusal) → FromOn n r → ((g : Progress) → FromOn g.next (f g)) → FromOn n (r >>= f)
from-bound n (Ok g) f h k = from-lower n g.next (f g) h (k g)
from-bound n (Err e) f h k = h

from-told : {A : Type 0} (n next : ℕ) (m : Result A ℕ) (f : A → Result Progress Refusal) → n ≤ next → ((x : A) → FromOn n (f x)) → FromOn n (told next m >>= f)
from-told n next (Ok x) f le h = h x
from-told n next (Err code) f le h = le

from-behind : {A : Type 0} (n next : ℕ) (m : Result A ℕ) (r : Result Progress Refusal) → n ≤ next → FromOn n r → FromOn n (told next m >> r)
from-behind n next (Ok x) r le h = h
from-behind n next (Err code) r le h = le

from-either : (n : ℕ) (b : Bool) (r s : Result Progress Refusal) → FromOn n r → FromOn n s → FromOn n (if b then r else s)
from-either n true r s h k = h
from-either n false r s h k = k

from-in_turn : {A : Type 0} (f : Progress → A → Result Progress Refusal) (g : Progress) (xs : List A) → ((h : Progress) (x : A) → FromOn h.next (f h x)) → FromOn g.next (in_turn f g xs)
from-in_turn f g [] k = le_refl g.next
from-in_turn f g (x ∷ xs) k = from-bound g.next (f g x) (λ h. in_turn f h xs) (k g x) (λ h. from-in_turn f h xs k)

drawn-from : (a : Scene) (g : Progress) → g.next ≤ (drawn a.def g).next
drawn-from a g = elim (has_hidden_key a.def) as (λ b. g.next ≤ (if b then g.next + 1 else g.next)) [ true ↦ omega arith | false ↦ le_refl g.next ]

-- ---- one row

from-inserted : (a : Scene) (at : List ℕ) (g : Progress) (tuple : List ItemValue) → FromOn g.next (inserted a at g tuple)
from-inserted a at g tuple = search (from-told, from-behind, le_refl, drawn-from)

from-replaced : (a : Scene) (at : List ℕ) (g : Progress) (tuple : List ItemValue) → FromOn g.next (replaced a at g tuple)
from-replaced a at g tuple = search (from-told, from-behind, le_refl, drawn-from)

from-deleted : (a : Scene) (g : Progress) (old : Row) → FromOn g.next (deleted a g old)
from-deleted a g old = search (from-behind, le_refl)

from-moved : (a : Scene) (g : Progress) (old new : Row) → FromOn g.next (moved a g old new)
from-moved a g old new = search (from-behind, le_refl)

from-updated : (a : Scene) (set : List SetItem) (g : Progress) (old : Row) → FromOn g.next (updated a set g old)
from-updated a set g old = search (from-told, from-either, from-moved, le_refl)

-- ---- the statements

pub from-insert : (s : Insert) (a : Scene) (g : Progress) → FromOn g.next (insert_changes a s g)
from-insert s a g = search (from-told, from-in_turn, from-inserted, le_refl)

pub from-replace : (s : Insert) (a : Scene) (g : Progress) → FromOn g.next (replace_changes a s g)
from-replace s a g = search (from-told, from-in_turn, from-replaced, le_refl)

pub from-update : (set : List SetItem) (c : Where) (a : Scene) (g : Progress) → FromOn g.next (update_changes a set c g)
from-update set c a g = search (from-behind, from-in_turn, from-updated, le_refl)

pub from-delete : (c : Where) (a : Scene) (g : Progress) → FromOn g.next (delete_changes a c g)
from-delete c a g = search (from-behind, from-in_turn, from-deleted, le_refl)

from-weighed : (w : World) (g : Progress) → FromOn g.next (not_too_heavy w g)
from-weighed w g = search (from-behind, le_refl)

-- from the table's next number on
pub from-written : (changes : Scene → Progress → Result Progress Refusal) (t : Table) (w : World) → ((a : Scene) (g : Progress) → FromOn g.next (changes a g)) → FromOn (w.numbers t.def.name) (written changes t w)
from-written changes t w h = from-bound (w.numbers t.def.name) (changes (scene_of t w) (start_of t w)) (λ g. not_too_heavy w g) (h (scene_of t w) (start_of t w)) (from-weighed w)
