-- A reader of a key: the length of its whole key, and what is left of the key and of the unpack data.
use Rattle.std.specs.Prelude.{◌≡◌, ℕ, ◌+◌, List, Result, Ok, Err}
use Rattle.mr_base.specs.declared.stop.Malformed.{Malformed}
use Rattle.mr_types.specs.declared.kind.Kind.{Kind}
use Rattle.mr_types.specs.declared.field.FieldRef.{FieldRef}
use Rattle.mr_types.specs.FieldValues.{field_value}
use Rattle.mr_memcmp.specs.Reading.{ReadNumber, ReadColumn}

pub record KeyState : Type 0 where
  pub total : ℕ
  pub left : List ℕ
  pub unpack : List ℕ

-- an offence that many bytes before the end
abbrev pub OffendsAt : {A : Type 0} → Result A ℕ → ℕ → ℕ → Type 0
OffendsAt (Ok x) at total = ⊥
OffendsAt (Err left) at total = at + left ≡ total

-- the index number, and the reader behind it; or the offence, and the reader as it was
abbrev pub GivesIndex : KeyState → KeyState → Result ℕ Malformed → ReadNumber → Type 0
GivesIndex old new (Ok index) read = (read ≡ Ok (index, new.left)) × (new ≡ record old { left = new.left })
GivesIndex old new (Err malformed) read = OffendsAt read malformed.0 old.total × (new ≡ old)

-- the column that stands next, and the reader behind it; or the first offence, and the reader as it was
abbrev pub GivesField : Kind → KeyState → KeyState → Result FieldRef Malformed → ReadColumn → Type 0
GivesField kind old new (Ok field) read = (read ≡ Ok (field_value kind field, new.left, new.unpack)) × (new.total ≡ old.total)
GivesField kind old new (Err malformed) read = OffendsAt read malformed.0 old.total × (new ≡ old)
