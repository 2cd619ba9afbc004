-- A run of some blocks.
use Rattle.std.specs.Prelude.{◌≡◌, ℕ, ◌<◌, ◌^◌, List, length}
use Rattle.std.specs.List.{AllByRecursion}
use Rattle.mr_iter.specs.Versions.{Version, joined}
use Rattle.mr_run_file.specs.Format.{last_key, run_bytes}
use Rattle.mr_run_file.specs.Written.{ReadsBack}

-- the file is the run of these blocks, at least one, each of some versions and read back, and the versions are theirs, one after the other
pub record IsRunOf (file : List ℕ) (vs : List Version) (vss : List (List Version)) : Type 0 where
  pub some : 0 < length vss
  pub each : AllByRecursion ReadsBack vss
  pub last : length (last_key (joined vss)) < 2 ^ 32
  pub list : vs ≡ joined vss
  pub bytes : file ≡ run_bytes vss
