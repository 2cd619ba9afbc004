-- Why a run ends early, and what shows it.
use Rattle.std.specs.Prelude.{◌≡◌, ℕ}
use Rattle.mr_base.specs.Disk.{State, HasRisen}
use Rattle.mr_base.specs.Source.{SourceState}
use Rattle.mr_commit_log.specs.Causes.{IsCausedBy}
use Rattle.mr_commit_log.specs.declared.ending.Ending.{Ending}
use Rattle.mr_commit_log.specs.declared.ending.Ending.TheVariants.{Stopped, EmitFault, SourceFault, TooLong}

-- What a call shows that serves from a source and ends so: a fault of the source rose its count, and a script that is too long gave
-- one byte more than a script may have; else what serving shows.
abbrev pub IsScriptCause : ℕ → SourceState → SourceState → State → State → ℕ → Ending → Type 0
IsScriptCause most source_old source_new old new taken SourceFault = HasRisen source_old.faults source_new.faults
IsScriptCause most source_old source_new old new taken TooLong = taken ≡ 1073741825
IsScriptCause most source_old source_new old new taken EmitFault = IsCausedBy most old new EmitFault
IsScriptCause most source_old source_new old new taken (Stopped stop) = IsCausedBy most old new (Stopped stop)
