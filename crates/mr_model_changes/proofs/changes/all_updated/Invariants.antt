use Rattle.std.proofs.Common.{◌≡◌, drop}
use Rattle.mr_types.specs.Refusals.{in_turn}
use Rattle.mr_spec.specs.Changes.{updated}
use Rattle.mr_orders.specs.Orders.{IsAscending}
use Rattle.mr_model_changes.specs.Telling.{scene_in}
use Rattle.mr_model_changes.proofs.changes.all_updated.Given as goal

abbrev pub invariant-loop-row : goal.invariant-loop-row
invariant-loop-row l = record {
  same : in_turn (updated (scene_in l.scene) l.set) l.so_far (drop l.row-index l.rows) ≡ in_turn (updated (scene_in l.scene) l.set) l.fn.start l.rows;
  rising : IsAscending l.scene.def.now l.so_far.rows;
}
