-- Families by the records that name them. A record of the third kind in family 0 names a family: its key is the kind and the family's
-- number, its value the family's name, and a name that begins with rev: has keys in reverse order.
use Rattle.std.specs.Prelude.{◌≡◌, ℕ, ◌^◌, Bool, true, false, ◌||◌, ◌&&◌, ◌==◌, nat_lt, nat_eq, if◌then◌else◌, is_some, List, [], ◌∷◌, ◌++◌, take, Option, Some, None}
use Rattle.std.specs.List.{AllByRecursion}
use Rattle.std.specs.Cmp.Lexicographic.{pointwise}
use Rattle.byteorder.specs.Endian.{big_bytes}
use Rattle.mr_base.specs.declared.stop.Direction.{Direction}
use Rattle.mr_base.specs.declared.stop.Direction.TheVariants.{Forward, Reverse}
use Rattle.mr_wal.specs.declared.operation.Operation.{Operation}
use Rattle.mr_iter.specs.Versions.{Version}
use Rattle.mr_iter.specs.Newest.{newest}
use Rattle.mr_families.specs.Batches.{is_on}

-- the kind of records that name families
abbrev pub family_kind : List ℕ
family_kind = 0 ∷ 0 ∷ 0 ∷ 3 ∷ []

abbrev pub family_key : ℕ → List ℕ
family_key family = family_kind ++ big_bytes 4 family

abbrev pub is_reverse : List ℕ → Bool
is_reverse name = pointwise nat_eq (take 4 name) (114 ∷ 101 ∷ 118 ∷ 58 ∷ [])

abbrev pub direction_of_name : List ℕ → Direction
direction_of_name name = if is_reverse name then Reverse else Forward

-- ---- by the versions of family 0

-- the last record of a family, whatever its sequence number
abbrev pub record_of : ℕ → List Version → Option Version
record_of family system = newest (2 ^ 63) (family_key family) system

abbrev pub is_name : Option Version → Bool
is_name None = false
is_name (Some v) = is_some v.put

-- families 0 and 1 are there without a record
abbrev pub is_named : List Version → ℕ → Bool
is_named system family = nat_lt family 2 || is_name (record_of family system)

abbrev pub put_direction : Option (List ℕ) → Direction
put_direction None = Forward
put_direction (Some name) = direction_of_name name

abbrev pub record_direction : Option Version → Direction
record_direction None = Forward
record_direction (Some v) = put_direction v.put

abbrev pub direction_in : List Version → ℕ → Direction
direction_in system family = if nat_lt family 2 then Forward else record_direction (record_of family system)

-- ---- by a batch

abbrev pub or_else : Option Operation → Option Operation → Option Operation
or_else (Some o) before = Some o
or_else None before = before

-- the last operation of a batch on a key of a family
abbrev pub last_on : ℕ → List ℕ → List Operation → Option Operation
last_on family key [] = None
last_on family key (o ∷ os) = or_else (last_on family key os) (if is_on family key o then Some o else None)

abbrev pub is_naming : Option Operation → Bool
is_naming None = false
is_naming (Some o) = is_some o.put

-- the batch names the family
abbrev pub names : ℕ → List Operation → Bool
names family batch = is_naming (last_on 0 (family_key family) batch)

abbrev pub operation_direction : Option Operation → Direction
operation_direction None = Forward
operation_direction (Some o) = put_direction o.put

abbrev pub named_direction : ℕ → List Operation → Direction
named_direction family batch = operation_direction (last_on 0 (family_key family) batch)

-- the operation is on a record of that kind
abbrev pub is_on_name : Operation → Bool
is_on_name o = (o.family == 0) && pointwise nat_eq (take 4 o.key) family_kind

-- Each family of the batch has a record that names it, earlier or in the batch, and no earlier one is replaced or deleted.
pub record IsNaming (system : List Version) (batch : List Operation) : Type 0 where
  pub named : AllByRecursion (λ (o : Operation). (is_named system o.family || names o.family batch) ≡ true) batch
  pub kept : AllByRecursion (λ (o : Operation). is_on_name o ≡ true → newest (2 ^ 63) o.key system ≡ None) batch
