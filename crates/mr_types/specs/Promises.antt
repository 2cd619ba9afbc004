-- What the order and the assignment of values are, as contracts say it.
use Rattle.std.specs.Prelude.{◌≡◌, ℕ, List, ◌++◌, replicate, Ok}
use Rattle.std.specs.Cmp.{IsTotalOrder}
use Rattle.mr_types.specs.declared.value.Value.{Value}
use Rattle.mr_types.specs.declared.value.Value.TheVariants.{Text, Bytes}
use Rattle.mr_types.specs.declared.kind.Kind.{Kind}
use Rattle.mr_types.specs.declared.kind.ColumnType.{ColumnType}
use Rattle.mr_types.specs.Order.{value_cmp, IsSame}
use Rattle.mr_types.specs.Values.{assign_to}

-- The order of values is total, and 'the same' an equivalence.
pub record ValuesInOrder (kind : Kind) : Type 0 where
  pub total : IsTotalOrder (value_cmp kind)
  pub same_itself : (a : Value) → IsSame kind a a
  pub same_back : (a b : Value) → IsSame kind a b → IsSame kind b a
  pub same_on : (a b c : Value) → IsSame kind a b → IsSame kind b c → IsSame kind a c

-- A text that a column of texts takes is kept byte for byte, but for spaces at its end that are
-- too many; bytes that a column of bytes takes are kept whole.
pub record AssignKeeps (column : ColumnType) : Type 0 where
  pub texts : (given kept : List ℕ) → assign_to column (Text given) ≡ Ok (Text kept) → (spaces : ℕ) × (given ≡ kept ++ replicate spaces 32)
  pub bytes : (given kept : List ℕ) → assign_to column (Bytes given) ≡ Ok (Bytes kept) → given ≡ kept
