-- An operation of family 0 in its memory.
use Rattle.std.specs.Prelude.{ℕ, List}
use Rattle.mr_base.specs.declared.stop.Direction.TheVariants.{Forward}
use Rattle.mr_wal.specs.declared.operation.Operation.{Operation}
use Rattle.mr_iter.specs.Versions.{Version, version_cmp, place_in}
use Rattle.mr_families.specs.Batches.{version_of}

-- one version more
abbrev pub with_own : ℕ → Operation → List Version → List Version
with_own sequence o vs = place_in (version_cmp Forward) (version_of sequence o) vs
