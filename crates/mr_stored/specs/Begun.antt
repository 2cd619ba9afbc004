-- A manifest that has a record, and files apart from one another.
use Rattle.std.specs.Prelude.{◌≡◌, ◌≢◌, ◌<◌, Bool, true, false, is_some, Result, Ok, Err}
use Rattle.std.specs.List.{AllByRecursion}
use Rattle.mr_base.specs.Disk.{Image}
use Rattle.mr_manifest.specs.declared.live.Live.{Live}
use Rattle.mr_manifest.specs.declared.live.LiveRun.{LiveRun}
use Rattle.mr_manifest.specs.declared.sum.Sum.{Sum}
use Rattle.mr_stored.specs.Said.{Place, Said, manifest_sum, said}

abbrev pub has_record : Result Sum Place → Bool
has_record (Ok sum) = is_some sum.at
has_record (Err place) = false

-- the manifest has a record, and with the live log it says this
pub record Says (image : Image) (s : Said) : Type 0 where
  pub begun : has_record (manifest_sum image) ≡ true
  pub said_is : said image ≡ Ok s

-- a run's file is neither one of the first sixteen nor the live log's
abbrev pub IsApart : Live → LiveRun → Type 0
IsApart live run = (15 < run.file) × (run.file ≢ live.log)

pub record AreApart (live : Live) : Type 0 where
  pub log : 15 < live.log
  pub runs : AllByRecursion (IsApart live) live.runs

-- the live runs' files have numbers that are given out
abbrev pub AreGiven : Live → Type 0
AreGiven live = AllByRecursion (λ (run : LiveRun). run.file < live.next_file) live.runs
