-- A stop of a later call that finds no damage.
use Rattle.std.proofs.Common.{◌≡◌, ℕ, arith, Ok, Err, Result}
use Rattle.mr_base.specs.Disk.{State, Image}
use Rattle.mr_base.specs.Calls.{Rises}
use Rattle.mr_base.specs.declared.stop.Stop.{Stop}
use Rattle.mr_base.specs.declared.stop.Stop.TheVariants.{Memory, Disk, Full, Damaged}
use Rattle.mr_base.proofs.Counting.{risen_within, rises_tells}
use Rattle.mr_stored.specs.Said.{Place}
use Rattle.mr_run_judge.specs.Judged.{JudgeStops}

abbrev none : Result (Unit {0}) Place
none = Ok tt

apart : (place : Place) → none ≡ Err place → ⊥
apart place e = cc

pub later_stop : (judged : Image → Result (Unit {0}) Place) (s : ℕ) (old mid new : State) (e : Stop) → Rises s old mid → JudgeStops (λ image. Ok tt) mid new e → JudgeStops judged old new e
later_stop judged s old mid new Memory rises stop = tt
later_stop judged s old mid new Disk rises stop = risen_within old.faults mid.faults new.faults new.faults rises.faults (omega arith) stop
later_stop judged s old mid new (Full what at limit) rises stop = stop
later_stop judged s old mid new (Damaged file at) rises stop = λ tells. absurd (apart (file, at) (stop (rises_tells s old mid rises tells)))
