use Rattle.std.proofs.Common.{◌≡◌, drop}
use Rattle.mr_types.specs.Refusals.{in_turn}
use Rattle.mr_spec.specs.Changes.{replaced}
use Rattle.mr_orders.specs.Orders.{IsAscending}
use Rattle.mr_model_changes.specs.Telling.{scene_in}
use Rattle.mr_model_changes.proofs.changes.all_replaced.Given as goal

abbrev pub invariant-loop-tuple : goal.invariant-loop-tuple
invariant-loop-tuple l = record {
  same : in_turn (replaced (scene_in l.scene) l.at) l.so_far (drop l.tuple-index l.tuples) ≡ in_turn (replaced (scene_in l.scene) l.at) l.fn.start l.tuples;
  rising : IsAscending l.scene.def.now l.so_far.rows;
}
