-- A place for new runs.
use Rattle.std.specs.Prelude.{◌≡◌, ◌≢◌, ℕ, ◌+◌, List, [], ◌∷◌, ◌++◌, length, Option, unwrap_or}
use Rattle.mr_base.specs.Disk.{State, Moment, Image, present, HasRisen}
use Rattle.mr_base.specs.Calls.{During}
use Rattle.mr_base.specs.declared.stop.Direction.{Direction}
use Rattle.mr_base.specs.declared.stop.Stop.{Stop}
use Rattle.mr_base.specs.declared.stop.Stop.TheVariants.{Memory, Disk, Full, Damaged}
use Rattle.mr_iter.specs.Versions.{Version, version_cmp, IsInOrder}

-- Its direction, the number of the file of the run that is begun, if there is one, the versions that were added to it by what
-- that file has, and the bytes of their entries.
pub record OutState : Type 0 where
  pub direction : Direction
  pub file : Option ℕ
  pub added : Image → List Version
  pub bytes : ℕ

-- the bytes of an entry: two lengths of 4, a sequence number of 8, a kind of 1, the key and the value
abbrev pub entry_bytes : Version → ℕ
entry_bytes v = 17 + length v.key + length (unwrap_or v.put [])

abbrev pub with_version : List Version → Version → List Version
with_version vs v = vs ++ v ∷ []

-- a version that may be added to these
abbrev pub FitsBehind : Direction → List Version → Version → Type 0
FitsBehind direction vs v = IsInOrder (version_cmp direction) (with_version vs v)

-- at this moment the other files and the output are as at the start
pub record IsElsewhere (file : ℕ) (start m : Moment) : Type 0 where
  pub files : (other : ℕ) → other ≢ file → m.files other ≡ start.files other
  pub output : m.output ≡ start.output

-- at each moment of the calls no file but this one changes
abbrev pub KeepsOthers : ℕ → State → State → Type 0
KeepsOthers file old new = During old new (IsElsewhere file (present old))

-- a stop of one that writes, and its cause
abbrev pub MayFail : State → State → Stop → Type 0
MayFail old new Memory = Unit {0}
MayFail old new Disk = HasRisen old.faults new.faults
MayFail old new (Full what at limit) = ⊥
MayFail old new (Damaged file at) = ⊥
