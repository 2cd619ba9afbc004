-- The order of values is total.
use Rattle.std.proofs.Common.{◌≡◌, refl, ap, ◌∙◌}
use Rattle.std.specs.Ordering.{ordering_reverse}
use Rattle.std.specs.Cmp.{IsTotalOrder}
use Rattle.std.specs.declared.cmp.Ordering.{Ordering}
use Rattle.std.specs.declared.cmp.Ordering.TheVariants.{Less, Equal, Greater}
use Rattle.std.proofs.lemmas.Cmp.{int_cmp_total, nat_list_cmp_total}
use Rattle.mr_pieces.proofs.Kept.{in_order}
use Rattle.mr_types.specs.declared.kind.Kind.{Kind}
use Rattle.mr_types.specs.declared.value.Value.{Value}
use Rattle.mr_types.specs.declared.value.Value.TheVariants.{Null, Number, Text, Bytes}
use Rattle.mr_types.specs.Order.{collation_of, value_cmp, IsSame}
use Rattle.mr_types.specs.Promises.{ValuesInOrder}

less_first : {P : Type 0} → Less ≡ Equal → P
less_first e = absurd cc

greater_same : {P : Type 0} → Greater ≡ Equal → P
greater_same e = absurd cc

greater_less : {P : Type 0} → Greater ≡ Less → P
greater_less e = absurd cc

same_less : {P : Type 0} → Equal ≡ Less → P
same_less e = absurd cc

turned : (kind : Kind) (x y : Value) → value_cmp kind x y ≡ ordering_reverse (value_cmp kind y x)
turned kind Null Null = refl
turned kind Null (Number y) = refl
turned kind Null (Text y) = refl
turned kind Null (Bytes y) = refl
turned kind (Number x) Null = refl
turned kind (Number x) (Number y) = int_cmp_total.antisymm x y
turned kind (Number x) (Text y) = refl
turned kind (Number x) (Bytes y) = refl
turned kind (Text x) Null = refl
turned kind (Text x) (Number y) = refl
turned kind (Text x) (Text y) = (in_order.total (collation_of kind)).antisymm x y
turned kind (Text x) (Bytes y) = refl
turned kind (Bytes x) Null = refl
turned kind (Bytes x) (Number y) = refl
turned kind (Bytes x) (Text y) = refl
turned kind (Bytes x) (Bytes y) = nat_list_cmp_total.antisymm x y

less_on : (kind : Kind) (x y z : Value) → value_cmp kind x y ≡ Less → value_cmp kind y z ≡ Less → value_cmp kind x z ≡ Less
less_on kind Null Null Null p q = same_less p
less_on kind Null Null (Number z) p q = refl
less_on kind Null Null (Text z) p q = refl
less_on kind Null Null (Bytes z) p q = refl
less_on kind Null (Number y) Null p q = greater_less q
less_on kind Null (Number y) (Number z) p q = refl
less_on kind Null (Number y) (Text z) p q = refl
less_on kind Null (Number y) (Bytes z) p q = refl
less_on kind Null (Text y) Null p q = greater_less q
less_on kind Null (Text y) (Number z) p q = greater_less q
less_on kind Null (Text y) (Text z) p q = refl
less_on kind Null (Text y) (Bytes z) p q = refl
less_on kind Null (Bytes y) Null p q = greater_less q
less_on kind Null (Bytes y) (Number z) p q = greater_less q
less_on kind Null (Bytes y) (Text z) p q = greater_less q
less_on kind Null (Bytes y) (Bytes z) p q = refl
less_on kind (Number x) Null Null p q = greater_less p
less_on kind (Number x) Null (Number z) p q = greater_less p
less_on kind (Number x) Null (Text z) p q = greater_less p
less_on kind (Number x) Null (Bytes z) p q = greater_less p
less_on kind (Number x) (Number y) Null p q = greater_less q
less_on kind (Number x) (Number y) (Number z) p q = int_cmp_total.trans x y z p q
less_on kind (Number x) (Number y) (Text z) p q = refl
less_on kind (Number x) (Number y) (Bytes z) p q = refl
less_on kind (Number x) (Text y) Null p q = greater_less q
less_on kind (Number x) (Text y) (Number z) p q = greater_less q
less_on kind (Number x) (Text y) (Text z) p q = refl
less_on kind (Number x) (Text y) (Bytes z) p q = refl
less_on kind (Number x) (Bytes y) Null p q = greater_less q
less_on kind (Number x) (Bytes y) (Number z) p q = greater_less q
less_on kind (Number x) (Bytes y) (Text z) p q = greater_less q
less_on kind (Number x) (Bytes y) (Bytes z) p q = refl
less_on kind (Text x) Null Null p q = greater_less p
less_on kind (Text x) Null (Number z) p q = greater_less p
less_on kind (Text x) Null (Text z) p q = greater_less p
less_on kind (Text x) Null (Bytes z) p q = greater_less p
less_on kind (Text x) (Number y) Null p q = greater_less p
less_on kind (Text x) (Number y) (Number z) p q = greater_less p
less_on kind (Text x) (Number y) (Text z) p q = greater_less p
less_on kind (Text x) (Number y) (Bytes z) p q = greater_less p
less_on kind (Text x) (Text y) Null p q = greater_less q
less_on kind (Text x) (Text y) (Number z) p q = greater_less q
less_on kind (Text x) (Text y) (Text z) p q = (in_order.total (collation_of kind)).trans x y z p q
less_on kind (Text x) (Text y) (Bytes z) p q = refl
less_on kind (Text x) (Bytes y) Null p q = greater_less q
less_on kind (Text x) (Bytes y) (Number z) p q = greater_less q
less_on kind (Text x) (Bytes y) (Text z) p q = greater_less q
less_on kind (Text x) (Bytes y) (Bytes z) p q = refl
less_on kind (Bytes x) Null Null p q = greater_less p
less_on kind (Bytes x) Null (Number z) p q = greater_less p
less_on kind (Bytes x) Null (Text z) p q = greater_less p
less_on kind (Bytes x) Null (Bytes z) p q = greater_less p
less_on kind (Bytes x) (Number y) Null p q = greater_less p
less_on kind (Bytes x) (Number y) (Number z) p q = greater_less p
less_on kind (Bytes x) (Number y) (Text z) p q = greater_less p
less_on kind (Bytes x) (Number y) (Bytes z) p q = greater_less p
less_on kind (Bytes x) (Text y) Null p q = greater_less p
less_on kind (Bytes x) (Text y) (Number z) p q = greater_less p
less_on kind (Bytes x) (Text y) (Text z) p q = greater_less p
less_on kind (Bytes x) (Text y) (Bytes z) p q = greater_less p
less_on kind (Bytes x) (Bytes y) Null p q = greater_less q
less_on kind (Bytes x) (Bytes y) (Number z) p q = greater_less q
less_on kind (Bytes x) (Bytes y) (Text z) p q = greater_less q
less_on kind (Bytes x) (Bytes y) (Bytes z) p q = nat_list_cmp_total.trans x y z p q

same_against : (kind : Kind) (x y z : Value) → value_cmp kind x y ≡ Equal → value_cmp kind x z ≡ value_cmp kind y z
same_against kind Null Null Null p = refl
same_against kind Null Null (Number z) p = refl
same_against kind Null Null (Text z) p = refl
same_against kind Null Null (Bytes z) p = refl
same_against kind Null (Number y) Null p = less_first p
same_against kind Null (Number y) (Number z) p = less_first p
same_against kind Null (Number y) (Text z) p = less_first p
same_against kind Null (Number y) (Bytes z) p = less_first p
same_against kind Null (Text y) Null p = less_first p
same_against kind Null (Text y) (Number z) p = less_first p
same_against kind Null (Text y) (Text z) p = less_first p
same_against kind Null (Text y) (Bytes z) p = less_first p
same_against kind Null (Bytes y) Null p = less_first p
same_against kind Null (Bytes y) (Number z) p = less_first p
same_against kind Null (Bytes y) (Text z) p = less_first p
same_against kind Null (Bytes y) (Bytes z) p = less_first p
same_against kind (Number x) Null Null p = greater_same p
same_against kind (Number x) Null (Number z) p = greater_same p
same_against kind (Number x) Null (Text z) p = greater_same p
same_against kind (Number x) Null (Bytes z) p = greater_same p
same_against kind (Number x) (Number y) Null p = refl
same_against kind (Number x) (Number y) (Number z) p = int_cmp_total.congr x y z p
same_against kind (Number x) (Number y) (Text z) p = refl
same_against kind (Number x) (Number y) (Bytes z) p = refl
same_against kind (Number x) (Text y) Null p = less_first p
same_against kind (Number x) (Text y) (Number z) p = less_first p
same_against kind (Number x) (Text y) (Text z) p = less_first p
same_against kind (Number x) (Text y) (Bytes z) p = less_first p
same_against kind (Number x) (Bytes y) Null p = less_first p
same_against kind (Number x) (Bytes y) (Number z) p = less_first p
same_against kind (Number x) (Bytes y) (Text z) p = less_first p
same_against kind (Number x) (Bytes y) (Bytes z) p = less_first p
same_against kind (Text x) Null Null p = greater_same p
same_against kind (Text x) Null (Number z) p = greater_same p
same_against kind (Text x) Null (Text z) p = greater_same p
same_against kind (Text x) Null (Bytes z) p = greater_same p
same_against kind (Text x) (Number y) Null p = greater_same p
same_against kind (Text x) (Number y) (Number z) p = greater_same p
same_against kind (Text x) (Number y) (Text z) p = greater_same p
same_against kind (Text x) (Number y) (Bytes z) p = greater_same p
same_against kind (Text x) (Text y) Null p = refl
same_against kind (Text x) (Text y) (Number z) p = refl
same_against kind (Text x) (Text y) (Text z) p = (in_order.total (collation_of kind)).congr x y z p
same_against kind (Text x) (Text y) (Bytes z) p = refl
same_against kind (Text x) (Bytes y) Null p = less_first p
same_against kind (Text x) (Bytes y) (Number z) p = less_first p
same_against kind (Text x) (Bytes y) (Text z) p = less_first p
same_against kind (Text x) (Bytes y) (Bytes z) p = less_first p
same_against kind (Bytes x) Null Null p = greater_same p
same_against kind (Bytes x) Null (Number z) p = greater_same p
same_against kind (Bytes x) Null (Text z) p = greater_same p
same_against kind (Bytes x) Null (Bytes z) p = greater_same p
same_against kind (Bytes x) (Number y) Null p = greater_same p
same_against kind (Bytes x) (Number y) (Number z) p = greater_same p
same_against kind (Bytes x) (Number y) (Text z) p = greater_same p
same_against kind (Bytes x) (Number y) (Bytes z) p = greater_same p
same_against kind (Bytes x) (Text y) Null p = greater_same p
same_against kind (Bytes x) (Text y) (Number z) p = greater_same p
same_against kind (Bytes x) (Text y) (Text z) p = greater_same p
same_against kind (Bytes x) (Text y) (Bytes z) p = greater_same p
same_against kind (Bytes x) (Bytes y) Null p = refl
same_against kind (Bytes x) (Bytes y) (Number z) p = refl
same_against kind (Bytes x) (Bytes y) (Text z) p = refl
same_against kind (Bytes x) (Bytes y) (Bytes z) p = nat_list_cmp_total.congr x y z p

pub values_total : (kind : Kind) → IsTotalOrder (value_cmp kind)
values_total kind = record { antisymm = turned kind; trans = less_on kind; congr = same_against kind }

itself : (o : Ordering) → o ≡ ordering_reverse o → o ≡ Equal
itself Less e = absurd cc
itself Equal e = refl
itself Greater e = absurd cc

back : (kind : Kind) (a b : Value) → IsSame kind a b → IsSame kind b a
back kind a b same = turned kind b a ∙ ap ordering_reverse same

pub in_order_of_values : (kind : Kind) → ValuesInOrder kind
in_order_of_values kind =
    record {
      total = values_total kind;
      same_itself = λ a. itself (value_cmp kind a a) (turned kind a a);
      same_back = back kind;
      same_on = λ a b c p q. same_against kind a b c p ∙ q;
    }
