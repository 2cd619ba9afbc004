use Rattle.std.proofs.Common.{◌≡◌, ◌≤◌, ◌+◌, ◌-◌, ◌^◌, min, drop}
use Rattle.mr_manifest.specs.Manifest.{taken}
use Rattle.mr_manifest.proofs.manifest.taken_by.Given as goal

abbrev pub invariant-taking : goal.invariant-taking
invariant-taking l = record {
  sum : min (2 ^ 64 - 1) (taken l.edits) ≡ min (2 ^ 64 - 1) (l.count + taken (drop l.edit-index l.edits));
  small : l.count ≤ 2 ^ 64 - 1;
}
