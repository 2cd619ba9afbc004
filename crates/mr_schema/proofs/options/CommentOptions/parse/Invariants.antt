use Rattle.std.proofs.Common.{◌≡◌, ◌≤◌, ◌-◌, drop, take, None, []}
use Rattle.mr_types.specs.Refusals.{in_turn}
use Rattle.mr_spec.specs.TtlOptions.{with_part, parts_from}
use Rattle.mr_schema.specs.Said.{said}
use Rattle.mr_schema.proofs.options.CommentOptions.parse.Given as goal

abbrev pub invariant-loop-i : goal.invariant-loop-i
invariant-loop-i l = record {
  inside : l.start ≤ l.i;
  parts : in_turn with_part (said l.options) (parts_from (take (l.i - l.start) (drop l.start l.text)) (drop l.i l.text)) ≡ in_turn with_part (record { duration = None; column = None }) (parts_from [] l.text);
}
