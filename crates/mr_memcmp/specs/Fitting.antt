-- Which values have bytes in a column of a key.
use Rattle.std.specs.Prelude.{ℕ, ◌<◌, ◌^◌, ℤ, pos, negsuc, List, [], ◌∷◌, Option, Some, None, IsTrue, slice_get}
use Rattle.mr_types.specs.declared.kind.Kind.{Kind}
use Rattle.mr_types.specs.declared.kind.Kind.TheVariants.{Int, IntUnsigned, BigInt, BigIntUnsigned, VarChar, VarBinary}
use Rattle.mr_types.specs.declared.kind.ColumnType.{ColumnType}
use Rattle.mr_types.specs.declared.definition.ColumnDef.{ColumnDef}
use Rattle.mr_types.specs.declared.value.Value.{Value}
use Rattle.mr_types.specs.declared.value.Value.TheVariants.{Null, Number, Text, Bytes}

-- from -2^half to below 2^half
abbrev pub IsSigned : ℕ → ℤ → Type 0
IsSigned half (pos n) = n < 2 ^ half
IsSigned half (negsuc n) = n < 2 ^ half

abbrev pub IsUnsigned : ℕ → ℤ → Type 0
IsUnsigned width (pos n) = n < 2 ^ width
IsUnsigned width (negsuc n) = ⊥

-- a number in the range of a kind of numbers
abbrev pub IsNumber : Kind → ℤ → Type 0
IsNumber Int z = IsSigned 31 z
IsNumber IntUnsigned z = IsUnsigned 32 z
IsNumber BigInt z = IsSigned 63 z
IsNumber BigIntUnsigned z = IsUnsigned 64 z
IsNumber (VarChar n collation) z = ⊥
IsNumber (VarBinary n) z = ⊥

abbrev pub HoldsTexts : Kind → Type 0
HoldsTexts (VarChar n collation) = Unit {0}
HoldsTexts _ = ⊥

abbrev pub HoldsBytes : Kind → Type 0
HoldsBytes (VarBinary n) = Unit {0}
HoldsBytes _ = ⊥

-- not NULL; texts and bytes may be longer than a column of the kind takes
abbrev pub HasKind : Kind → Value → Type 0
HasKind kind Null = ⊥
HasKind kind (Number z) = IsNumber kind z
HasKind kind (Text text) = HoldsTexts kind
HasKind kind (Bytes bytes) = HoldsBytes kind

-- NULL where the column takes it, else a value of its kind
abbrev pub FitsColumn : ColumnType → Value → Type 0
FitsColumn column Null = IsTrue column.nullable
FitsColumn column (Number z) = IsNumber column.kind z
FitsColumn column (Text text) = HoldsTexts column.kind
FitsColumn column (Bytes bytes) = HoldsBytes column.kind

-- a column has a value, and it fits; a place past the last column has no bytes
abbrev pub FitsPart : Option ColumnDef → Option Value → Type 0
FitsPart (Some column) (Some value) = FitsColumn column.ty value
FitsPart (Some column) None = ⊥
FitsPart None value = Unit {0}

-- the values of the columns at these places, whatever stands in the others
abbrev pub AllFit : List ColumnDef → List Value → List ℕ → Type 0
AllFit columns values [] = Unit {0}
AllFit columns values (p ∷ places) = FitsPart (slice_get columns p) (slice_get values p) × AllFit columns values places
