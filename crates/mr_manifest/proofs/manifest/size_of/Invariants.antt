use Rattle.std.proofs.Common.{◌≡◌, ◌≤◌, ◌+◌, ◌-◌, ◌^◌, min, drop}
use Rattle.mr_manifest.specs.Edits.{edits_size}
use Rattle.mr_manifest.proofs.manifest.size_of.Given as goal

abbrev pub invariant-sizing : goal.invariant-sizing
invariant-sizing l = record {
  sum : min (2 ^ 64 - 1) (edits_size l.edits) ≡ min (2 ^ 64 - 1) (l.size + edits_size (drop l.edit-index l.edits));
  small : l.size ≤ 2 ^ 64 - 1;
}
