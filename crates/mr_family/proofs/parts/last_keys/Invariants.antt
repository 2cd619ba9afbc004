use Rattle.std.proofs.Common.{◌≡◌, take}
use Rattle.mr_family.specs.Parts.{lasts_of}
use Rattle.mr_family.proofs.parts.last_keys.Given as goal

abbrev pub invariant-gathering : goal.invariant-gathering
invariant-gathering l = l.lasts.items ≡ lasts_of (take l.i l.runs)
