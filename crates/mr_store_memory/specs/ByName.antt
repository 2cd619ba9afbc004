-- The family that an operation names.
use Rattle.std.specs.Prelude.{◌≡◌, ◌≤◌, ◌<◌, ◌^◌, ◌==◌, ◌&&◌, ℕ, true, false, if◌then◌else◌, nat_eq, is_some, List, length, take, drop, Option, Some, None}
use Rattle.std.specs.Cmp.Lexicographic.{pointwise}
use Rattle.byteorder.specs.Endian.{big_number}
use Rattle.mr_base.specs.declared.stop.Direction.{Direction}
use Rattle.mr_wal.specs.declared.operation.Operation.{Operation}
use Rattle.mr_families.specs.Batches.{is_on}
use Rattle.mr_stored.specs.Names.{family_kind, family_key, put_direction}

-- the number behind the kind of records that name families
abbrev pub number_in : List ℕ → Option ℕ
number_in key = if length key == 8 && pointwise nat_eq (take 4 key) family_kind then Some (big_number 4 (drop 4 key)) else None

-- the key is that of the record of this family, which is none of the first two
pub record IsKeyOf (f : ℕ) (key : List ℕ) : Type 0 where
  pub far : 2 ≤ f
  pub small : f < 2 ^ 32
  pub is : key ≡ family_key f

-- the key is that of no family's record but maybe of one of the first two
abbrev pub IsNoKey : List ℕ → Type 0
IsNoKey key = (f : ℕ) → 2 ≤ f → f < 2 ^ 32 → key ≡ family_key f → ⊥

-- the operation puts the record of this family, with a name of this direction
pub record IsName (o : Operation) (f : ℕ) (d : Direction) : Type 0 where
  pub far : 2 ≤ f
  pub small : f < 2 ^ 32
  pub own : is_on 0 (family_key f) o ≡ true
  pub is_put : is_some o.put ≡ true
  pub direction_is : put_direction o.put ≡ d

-- the operation puts no family's record but maybe one of the first two
abbrev pub IsNoName : Operation → Type 0
IsNoName o = (f : ℕ) → 2 ≤ f → f < 2 ^ 32 → (is_on 0 (family_key f) o && is_some o.put) ≡ false
