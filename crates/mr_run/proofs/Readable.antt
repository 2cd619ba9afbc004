-- Of a folder that is readable each answer may be given.
use Rattle.std.proofs.Common.{Bool, Result, Ok, Err, List}
use Rattle.mr_base.specs.Disk.{State, seen, file_of}
use Rattle.mr_base.specs.declared.stop.Stop.TheVariants.{Memory, Disk, Full, Damaged}
use Rattle.mr_commit_log.specs.declared.ending.Ending.{Ending}
use Rattle.mr_commit_log.specs.declared.ending.Ending.TheVariants.{Stopped, EmitFault, SourceFault, TooLong}
use Rattle.mr_commit_log.specs.Folder.{Holds, IsReadable}
use Rattle.mr_run.specs.Ended.{IsServed}
use Rattle.mr_types.specs.declared.row.Commit.{Commit}

pub readable_served : (r : Result Bool Ending) (s : State) (commits : List Commit) → Holds commits (file_of s 1).bytes → IsServed r (IsReadable (seen s))
readable_served (Ok answer) s commits h = (commits, h)
readable_served (Err (Stopped Memory)) s commits h = tt
readable_served (Err (Stopped Disk)) s commits h = tt
readable_served (Err (Stopped (Damaged file at))) s commits h = tt
readable_served (Err (Stopped (Full what at limit))) s commits h = (commits, h)
readable_served (Err EmitFault) s commits h = (commits, h)
readable_served (Err SourceFault) s commits h = (commits, h)
readable_served (Err TooLong) s commits h = (commits, h)

pub unreadable_none : {P : Type 0} (s : State) (commits : List Commit) → Holds commits (file_of s 1).bytes → (IsReadable (seen s) → ⊥) → P
unreadable_none s commits h none = absurd (none (commits, h))
