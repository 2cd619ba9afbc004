-- What calls answer, where their memory suffices.
use Rattle.std.specs.Prelude.{◌≡◌, ℕ, ◌+◌, ◌≤◌, Bool, List, [], length, Option, Result, Ok, Err}
use Rattle.std.specs.Borrow.{Bor}
use Rattle.mr_base.specs.declared.stop.DefAnswer.{DefAnswer}
use Rattle.mr_base.specs.declared.stop.DefAnswer.TheVariants.{Memory, Malformed}
use Rattle.mr_types.specs.declared.definition.ColumnDef.{ColumnDef}
use Rattle.mr_types.specs.declared.row.Row.{Row}
use Rattle.mr_types.specs.Refusals.{◌>>=◌}
use Rattle.mr_rowval.specs.KeyParts.{wanted_read, ended, parts_full}
use Rattle.mr_rowval.specs.Decoded.{held_in}

-- the row, or the first offence among so many bytes
abbrev pub GivesRow : ℕ → Result Row DefAnswer → Result Row ℕ → Type 0
GivesRow total (Ok row) read = read ≡ Ok row
GivesRow total (Err Memory) read = Unit {0}
GivesRow total (Err (Malformed at)) read = (left : ℕ) × (read ≡ Err left) × (at + left ≡ total)

-- the stamp and the unpack data of a value, which end with it
pub record HasForms (wanted : Bool) (columns : List ColumnDef) (places key value : List ℕ) (stamp : Option ℕ) (unpack : List ℕ) : Type 0 where
  pub its_stamp : wanted_read wanted value ≡ Ok (stamp, unpack)
  pub held : parts_full columns places key unpack ≡ Ok (held_in columns places key unpack, [])

-- the offence in the stamp, in the unpack data or behind them
abbrev pub FormsOffend : Bool → List ColumnDef → List ℕ → List ℕ → List ℕ → ℕ → Type 0
FormsOffend wanted columns places key value left = (wanted_read wanted value >>= (λ stamp. parts_full columns places key stamp.1 >>= (λ held. ended held.0 held.1))) ≡ Err left

abbrev pub TakesForms : Bool → List ColumnDef → List ℕ → List ℕ → List ℕ → Result (Option ℕ × Bor (List ℕ)) ℕ → Type 0
TakesForms wanted columns places key value (Ok x) = HasForms wanted columns places key value x.0 x.1.now
TakesForms wanted columns places key value (Err left) = FormsOffend wanted columns places key value left × (left ≤ length value)
