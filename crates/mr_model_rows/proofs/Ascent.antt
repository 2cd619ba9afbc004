-- Tables whose rows ascend, one after the other, and after what changes them.
use Rattle.std.proofs.Common.{not, IfOk, Result, Ok, Err, ◌≡◌, List, [], ◌∷◌, ◌++◌, subst, sym}
use Rattle.std.specs.List.{AllByRecursion}
use Rattle.mr_types.specs.declared.definition.TableDef.{TableDef}
use Rattle.mr_types.specs.declared.row.Row.{Row}
use Rattle.mr_types.specs.declared.row.Change.{Change}
use Rattle.mr_types.specs.declared.row.CommitBody.{CommitBody}
use Rattle.mr_spec.specs.declared.world.Table.{Table}
use Rattle.mr_spec.specs.Database.{changed, with_body}
use Rattle.mr_spec.specs.Rows.{same_primary, without, put}
use Rattle.mr_orders.specs.Orders.{IsAscending, AreAscending}
use Rattle.mr_orders.proofs.Tables.{ascends-kept, ascends-put, with-changes, with-body}

front : (before : List Table) (t : Table) → AreAscending (before ++ t ∷ []) → AreAscending before
front [] t all = tt
front (u ∷ us) t all = (all.0, front us t all.1)

last : (before : List Table) (t : Table) → AreAscending (before ++ t ∷ []) → IsAscending t.def t.rows
last [] t all = all.0
last (u ∷ us) t all = last us t all.1

pub front_ascends : (xs before : List Table) (t : Table) → xs ≡ before ++ t ∷ [] → AreAscending xs → AreAscending before
front_ascends xs before t e all = front before t (subst AreAscending e all)

pub last_ascends : (xs before : List Table) (t : Table) → xs ≡ before ++ t ∷ [] → AreAscending xs → IsAscending t.def t.rows
last_ascends xs before t e all = last before t (subst AreAscending e all)

pub changed_ascends : (tables after : List Table) (c : Change) → AreAscending tables → after ≡ changed tables c → AreAscending after
changed_ascends tables after c all e = subst AreAscending (sym e) (with-changes (c ∷ []) tables all)

pub body_ascends : (tables after : List Table) (b : CommitBody) → AreAscending tables → after ≡ with_body tables b → AreAscending after
body_ascends tables after b all e = subst AreAscending (sym e) (with-body b tables all)

pub without_ascends : (def : TableDef) (gone : Row) (rows kept : List Row) → IsAscending def rows → kept ≡ without def gone rows → IsAscending def kept
without_ascends def gone rows kept all e = subst (IsAscending def) (sym e) (ascends-kept def (λ r. not (same_primary def gone r)) rows all)

pub put_ascends : (def : TableDef) (new : Row) (rows after : List Row) → IsAscending def rows → after ≡ put def new rows → IsAscending def after
put_ascends def new rows after all e = subst (IsAscending def) (sym e) (ascends-put def new rows all)

pub ok_then : {A E : Type 0} (r : Result A E) (P Q : A → Type 0) → ((x : A) → P x → Q x) → IfOk r P → IfOk r Q
ok_then (Ok x) P Q h p = h x p
ok_then (Err e) P Q h p = tt
