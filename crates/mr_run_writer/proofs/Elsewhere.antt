-- No other file changes over a run of calls, and the causes of its stops.
use Rattle.std.proofs.Common.{ℕ, ◌≤◌, refl, ◌∙◌, arith, Result, Ok, Err, IfErr}
use Rattle.mr_base.specs.Disk.{State, File, present}
use Rattle.mr_base.specs.Calls.{Changes, Settles}
use Rattle.mr_base.specs.declared.stop.Stop.{Stop}
use Rattle.mr_base.specs.declared.stop.Stop.TheVariants.{Memory, Disk, Full, Damaged}
use Rattle.mr_base.proofs.Counting.{risen_within}
use Rattle.mr_base.proofs.Moments.{started, weaker, goes_on, at_end}
use Rattle.mr_iter.specs.RunOuts.{IsElsewhere, KeepsOthers, MayFail}

pub others_start : (file : ℕ) (s : State) → KeepsOthers file s s
others_start file s = started s (IsElsewhere file (present s)) (record { files = λ other not. refl; output = refl })

pub others_then : (file : ℕ) (old mid new : State) → KeepsOthers file old mid → KeepsOthers file mid new → KeepsOthers file old new
others_then file old mid new first second =
    let here = at_end old mid (IsElsewhere file (present old)) first in
    goes_on old mid new (IsElsewhere file (present old)) (IsElsewhere file (present mid)) first second (λ m is. record { files = λ other not. is.files other not ∙ here.files other not; output = is.output ∙ here.output })

pub others_changes : (file : ℕ) (begun : File → File) (old new : State) → Changes file begun old new → KeepsOthers file old new
others_changes file begun old new changes = weaker old new _ (IsElsewhere file (present old)) (λ m is. record { files = is.files; output = is.output }) changes

pub others_settles : (file : ℕ) (old new : State) → Settles file old new → KeepsOthers file old new
others_settles file old new settles = weaker old new _ (IsElsewhere file (present old)) (λ m is. record { files = is.files; output = is.output }) settles

pub fails_later : (old mid new : State) (e : Stop) → old.faults ≤ mid.faults → MayFail mid new e → MayFail old new e
fails_later old mid new Memory le may = tt
fails_later old mid new Disk le may = risen_within old.faults mid.faults new.faults new.faults le (omega arith) may
fails_later old mid new (Full what at limit) le may = may
fails_later old mid new (Damaged file at) le may = may

pub stops_later : {X : Type 0} (r : Result X Stop) (old mid new : State) → old.faults ≤ mid.faults → IfErr r (MayFail mid new) → IfErr r (MayFail old new)
stops_later (Ok x) old mid new le may = tt
stops_later (Err e) old mid new le may = fails_later old mid new e le may
