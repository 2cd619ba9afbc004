-- The rows that a session sees of a table that it has opened ascend.
use Rattle.std.proofs.Common.{◌≡◌, ℕ, false, List, [], length, drop, Option, Some, None, option_map, refl, sym, ◌∙◌, ap, subst}
use Rattle.std.specs.List.{list_any}
use Rattle.std.specs.Option.{option_map_or}
use Rattle.mr_types.specs.declared.definition.TableDef.{TableDef}
use Rattle.mr_spec.specs.declared.world.Table.{Table}
use Rattle.mr_spec.specs.Database.{table_of, replay}
use Rattle.mr_spec.specs.World.{World, view_of, is_stale, entered}
use Rattle.mr_spec.specs.RowSteps.{rows_seen}
use Rattle.mr_orders.specs.Orders.{IsAscending}
use Rattle.mr_orders.proofs.Tables.{found-ascends, views-ascend}
use Rattle.mr_sound.proofs.Tables.{name-of}
use Rattle.mr_steps.proofs.Weighing.{view-def}

rows-ascend : (w : World) (name : List ℕ) (t : Table) → is_stale name w ≡ false → table_of name (replay w.commits) ≡ Some t → IsAscending t.def (rows_seen name w)
rows-ascend w name t fresh e = go (table_of name (view_of w.commits w.here.txn)) refl (view-def w.commits w.here.txn name fresh ∙ ap (option_map (λ u. u.def)) e)
  where
    go : (o : Option Table) → table_of name (view_of w.commits w.here.txn) ≡ o → option_map (λ u. u.def) o ≡ Some t.def → IsAscending t.def (rows_seen name w)
    go None is d = absurd cc
    go (Some u) is d =
        let same : u.def ≡ t.def = cc in
        rw is (subst (λ def. IsAscending def u.rows) same (found-ascends name (view_of w.commits w.here.txn) u (views-ascend w.commits w.here.txn) is))

named : (w : World) (name : List ℕ) (def : TableDef) (o : Option Table) → is_stale name w ≡ false → table_of name (replay w.commits) ≡ o → Some def ≡ option_map (λ t. t.def) o → IsAscending def (rows_seen def.name w)
named w name def None fresh is e = absurd cc
named w name def (Some t) fresh is e =
    let same : t.def ≡ def = cc in
    subst (λ d. IsAscending d (rows_seen d.name w)) same
    (subst (λ n. IsAscending t.def (rows_seen n w)) (sym (name-of name (replay w.commits) t is)) (rows-ascend w name t fresh is))

pub opened_ascends : (w : World) (name : List ℕ) (def : TableDef) → is_stale name w ≡ false → Some def ≡ option_map (λ t. t.def) (table_of name (replay w.commits)) → IsAscending def (rows_seen def.name w)
opened_ascends w name def fresh e = named w name def (table_of name (replay w.commits)) fresh refl e
