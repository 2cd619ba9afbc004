-- The exit status of a run that ends early. One with replies has 0, or 1 where one of them is an error.
use Rattle.std.specs.Prelude.{ℕ}
use Rattle.mr_reference.specs.declared.failure.Failure.{Failure}
use Rattle.mr_reference.specs.declared.failure.Failure.TheVariants.{Usage, Memory, Read, Write, TooLong}

abbrev pub status_of : Failure → ℕ
status_of Usage = 2
status_of Memory = 3
status_of Read = 4
status_of Write = 6
status_of TooLong = 8
