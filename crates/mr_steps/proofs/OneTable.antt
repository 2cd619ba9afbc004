-- The changes of a statement on rows are of its table.
use Rattle.std.proofs.Common.{◌≡◌, inl, inr, ℕ, List, [], ◌∷◌, ◌++◌, length, ◌+◌, map, filter, Result, Ok, IfOk, refl, ap, sym, subst}
use Rattle.std.specs.Prelude.{nat_lt}
use Rattle.std.specs.List.{list_any}
use Rattle.mr_types.specs.declared.row.Row.{Row}
use Rattle.mr_types.specs.declared.row.Change.{Change}
use Rattle.mr_types.specs.declared.row.Change.TheVariants.{Insert, Update, Delete}
use Rattle.mr_types.specs.declared.statement.Insert.{Insert as Inserting}
use Rattle.mr_types.specs.declared.statement.ItemValue.{ItemValue}
use Rattle.mr_types.specs.declared.statement.SetItem.{SetItem}
use Rattle.mr_types.specs.Refusals.{refuse_where, in_turn}
use Rattle.mr_spec.specs.declared.progress.Progress.{Progress}
use Rattle.mr_spec.specs.declared.progress.Refusal.{Refusal}
use Rattle.mr_spec.specs.declared.world.Table.{Table}
use Rattle.mr_spec.specs.Truth.{Where, known_columns, right_literals}
use Rattle.mr_spec.specs.Rows.{clashes, without, table_name}
use Rattle.mr_spec.specs.Claims.{claimed}
use Rattle.mr_spec.specs.Progress.{Scene, told, seen_rows, advanced}
use Rattle.mr_spec.specs.NewRows.{drawn, new_row, fields_of, insert_tests}
use Rattle.mr_spec.specs.Setting.{with_item, same_fields, updated_row, update_tests}
use Rattle.mr_spec.specs.Changes.{inserted, replaced, deleted, moved, updated, chosen, insert_changes, replace_changes, update_changes, delete_changes}
use Rattle.mr_spec.specs.Weight.{total_weight}
use Rattle.mr_spec.specs.Database.{replay}
use Rattle.mr_spec.specs.World.{World, changes_by}
use Rattle.mr_spec.specs.RowSteps.{scene_of, start_of, not_too_heavy, written}
use Rattle.mr_sound.specs.Sound.{IsIn}
use Rattle.mr_sound.proofs.Basics.{in-append}
use Rattle.mr_sound.proofs.Made.{ok-bound, ok-behind, in-map, one-name}
use Rattle.mr_sound.proofs.MadeRows.{either-ok, then-ok}
use Rattle.mr_sound.proofs.NewFits.{turn-keeps}
use Rattle.mr_steps.specs.Adding.{AreOf}

-- the changes so far are of the scene's table
abbrev HasOwn : Scene → Progress → Type 0
HasOwn a g = AreOf a.def.name g.changes

more-own : (a : Scene) (g h : Progress) (made : List Change) (count : ℕ) → HasOwn a g → h.changes ≡ g.changes → AreOf a.def.name made → HasOwn a (advanced a made count h)
more-own a g h made count own same new c i = elim (in-append c h.changes made i) [ inl j ↦ own c (subst (IsIn c) same j) | inr j ↦ new c j ]

one-own : (name : List ℕ) (c : Change) → table_name c ≡ name → AreOf name (c ∷ [])
one-own name c e d i = one-name name c d e i

own-inserted : (a : Scene) (at : List ℕ) (g : Progress) (tuple : List ItemValue) → HasOwn a g → IfOk (inserted a at g tuple) (HasOwn a)
own-inserted a at g tuple own =
    ok-bound (HasOwn a) (told g.next (fields_of a.def at tuple)) _ (λ fields e.
    ok-behind (HasOwn a) (told (drawn a.def g).next (claimed a.held a.changed (Insert a.def.name (new_row a g.next fields) ∷ []))) _ (λ x f.
    ok-behind (HasOwn a) (told (drawn a.def g).next (refuse_where 1062 (list_any (clashes a.def (new_row a g.next fields)) (seen_rows a g)))) _ (λ y f.
    more-own a g (drawn a.def g) (Insert a.def.name (new_row a g.next fields) ∷ []) 1 own refl (one-own a.def.name (Insert a.def.name (new_row a g.next fields)) refl))))

own-gone : (name : List ℕ) (gone : List Row) (c : Change) → AreOf name (c ∷ []) → AreOf name (map (Delete name) gone ++ c ∷ [])
own-gone name gone c last d i = elim (in-append d (map (Delete name) gone) (c ∷ []) i) [ inl j ↦ ap table_name (sym (in-map (Delete name) d gone j).1) | inr j ↦ last d j ]

own-replaced : (a : Scene) (at : List ℕ) (g : Progress) (tuple : List ItemValue) → HasOwn a g → IfOk (replaced a at g tuple) (HasOwn a)
own-replaced a at g tuple own =
    ok-bound (HasOwn a) (told g.next (fields_of a.def at tuple)) _ (λ fields e.
    ok-behind (HasOwn a) (told (drawn a.def g).next (claimed a.held a.changed (map (Delete a.def.name) (filter (clashes a.def (new_row a g.next fields)) (seen_rows a g)) ++ Insert a.def.name (new_row a g.next fields) ∷ []))) _ (λ x f.
    more-own a g (drawn a.def g) (map (Delete a.def.name) (filter (clashes a.def (new_row a g.next fields)) (seen_rows a g)) ++ Insert a.def.name (new_row a g.next fields) ∷ []) (length (filter (clashes a.def (new_row a g.next fields)) (seen_rows a g)) + 1) own refl
    (own-gone a.def.name (filter (clashes a.def (new_row a g.next fields)) (seen_rows a g)) (Insert a.def.name (new_row a g.next fields)) (one-own a.def.name (Insert a.def.name (new_row a g.next fields)) refl))))

own-deleted : (a : Scene) (g : Progress) (old : Row) → HasOwn a g → IfOk (deleted a g old) (HasOwn a)
own-deleted a g old own = ok-behind (HasOwn a) (told g.next (claimed a.held a.changed (Delete a.def.name old ∷ []))) _ (λ x f. more-own a g g (Delete a.def.name old ∷ []) 1 own refl (one-own a.def.name (Delete a.def.name old) refl))

own-moved : (a : Scene) (g : Progress) (old new : Row) → HasOwn a g → IfOk (moved a g old new) (HasOwn a)
own-moved a g old new own =
    ok-behind (HasOwn a) (told g.next (claimed a.held a.changed (Update a.def.name old new ∷ []))) _ (λ x f.
    ok-behind (HasOwn a) (told g.next (refuse_where 1062 (list_any (clashes a.def new) (without a.def old (seen_rows a g))))) _ (λ y f.
    more-own a g g (Update a.def.name old new ∷ []) 1 own refl (one-own a.def.name (Update a.def.name old new) refl)))

own-updated : (a : Scene) (set : List SetItem) (g : Progress) (old : Row) → HasOwn a g → IfOk (updated a set g old) (HasOwn a)
own-updated a set g old own =
    ok-bound (HasOwn a) (told g.next (in_turn (with_item a.def) old.fields set)) _ (λ fields e. either-ok (HasOwn a) (same_fields old.fields fields) (Ok g) (moved a g old (updated_row a.def old fields)) own (own-moved a g old (updated_row a.def old fields) own))

-- the statement's changes are of the scene's table
abbrev pub Owns : (Scene → Progress → Result Progress Refusal) → Type 0
Owns changes = (a : Scene) (g : Progress) → HasOwn a g → IfOk (changes a g) (HasOwn a)

pub insert-owns : (s : Inserting) → Owns (λ a g. insert_changes a s g)
insert-owns s a g own = ok-bound (HasOwn a) (told g.next (insert_tests a.def s)) _ (λ at e. turn-keeps (HasOwn a) (inserted a at) s.rows g (λ h tuple k i. own-inserted a at h tuple k) own)

pub replace-owns : (s : Inserting) → Owns (λ a g. replace_changes a s g)
replace-owns s a g own = ok-bound (HasOwn a) (told g.next (insert_tests a.def s)) _ (λ at e. turn-keeps (HasOwn a) (replaced a at) s.rows g (λ h tuple k i. own-replaced a at h tuple k) own)

pub update-owns : (set : List SetItem) (c : Where) → Owns (λ a g. update_changes a set c g)
update-owns set c a g own = ok-behind (HasOwn a) (told g.next (update_tests a.def set c)) _ (λ x e. turn-keeps (HasOwn a) (updated a set) (chosen a c g) g (λ h r k i. own-updated a set h r k) own)

pub delete-owns : (c : Where) → Owns (λ a g. delete_changes a c g)
delete-owns c a g own = ok-behind (HasOwn a) (told g.next (known_columns a.def c)) _ (λ x e. ok-behind (HasOwn a) (told g.next (right_literals a.def c)) _ (λ y f. turn-keeps (HasOwn a) (deleted a) (chosen a c g) g (λ h r k i. own-deleted a h r k) own))

pub written-owns : (changes : Scene → Progress → Result Progress Refusal) (t : Table) (u : World) → Owns changes → IfOk (written changes t u) (λ g. AreOf t.def.name g.changes)
written-owns changes t u owns =
    then-ok (HasOwn (scene_of t u)) (λ (g : Progress). AreOf t.def.name g.changes) (changes (scene_of t u) (start_of t u)) (λ g. not_too_heavy u g) (owns (scene_of t u) (start_of t u) (λ c i. absurd i))
    (λ g own. ok-behind (λ (h : Progress). AreOf t.def.name h.changes) (told g.next (refuse_where 1197 (nat_lt 67108864 (total_weight (replay u.commits) (changes_by u.here.txn ++ g.changes))))) (Ok g) (λ x e. own))
