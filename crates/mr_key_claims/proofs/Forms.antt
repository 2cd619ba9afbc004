-- Values are the same exactly where their forms are equal.
use Rattle.std.proofs.Common.{◌≡◌, ℕ, List, [], ◌∷◌, ◌++◌, refl, ap, sym, subst, ◌∙◌}
use Rattle.std.specs.Ordering.{nat_cmp, ordering_then, ordering_reverse}
use Rattle.std.specs.declared.cmp.Ordering.{Ordering}
use Rattle.std.specs.declared.cmp.Ordering.TheVariants.{Less, Equal, Greater}
use Rattle.std.proofs.lemmas.Map.Lookups.{exact_signed}
use Rattle.mr_pieces.specs.declared.collation.Collation.{Collation}
use Rattle.mr_pieces.specs.Order.{filler_cmp, filled_cmp, text_cmp, bytes_cmp, folded}
use Rattle.mr_pieces.specs.Pieces.{trimmed, shortened, text_from, text_pieces}
use Rattle.mr_pieces.proofs.Compare.{then_equal, cmp_equal, equal_bytes, bytes_equal}
use Rattle.mr_pieces.proofs.Kept.{decide_first}
use Rattle.mr_types.specs.declared.kind.Kind.{Kind}
use Rattle.mr_types.specs.declared.value.Value.{Value}
use Rattle.mr_types.specs.declared.value.Value.TheVariants.{Null, Number, Text, Bytes}
use Rattle.mr_types.specs.Order.{collation_of, value_cmp}
use Rattle.mr_types.proofs.Total.{in_order_of_values}
use Rattle.mr_key_claims.specs.Claim.{in_one_form}
use Rattle.mr_key_claims.specs.Promises.{FormsAreOne}

pub both-equal : (a b : Ordering) → ordering_then a b ≡ Equal → (a ≡ Equal) × (b ≡ Equal)
both-equal Less b e = absurd cc
both-equal Equal b e = (refl, e)
both-equal Greater b e = absurd cc

reversed : (a : Ordering) → ordering_reverse a ≡ Equal → a ≡ Equal
reversed Less e = absurd cc
reversed Equal e = refl
reversed Greater e = absurd cc

-- ---- texts

all-spaces : (xs : List ℕ) → filler_cmp 32 xs ≡ Equal → trimmed xs ≡ []
all-spaces [] e = refl
all-spaces (x ∷ xs) e =
    let p = both-equal (nat_cmp x 32) (filler_cmp 32 xs) e in
    let same : x ≡ 32 = cmp_equal x 32 p.0 in
    rw (all-spaces xs p.1, same) refl

same-trimmed : (xs ys : List ℕ) → filled_cmp 32 xs ys ≡ Equal → trimmed xs ≡ trimmed ys
same-trimmed [] ys e = sym (all-spaces ys (reversed (filler_cmp 32 ys) e))
same-trimmed (x ∷ xs) [] e = all-spaces (x ∷ xs) e
same-trimmed (x ∷ xs) (y ∷ ys) e =
    let p = both-equal (nat_cmp x y) (filled_cmp 32 xs ys) e in
    let same : x ≡ y = cmp_equal x y p.0 in
    let more : trimmed xs ≡ trimmed ys = same-trimmed xs ys p.1 in
    rw (same, more) refl

-- what is kept of both is the same: so are the pieces that are cut of it, whose order is that of the texts
trimmed-same : (c : Collation) (x y : List ℕ) → shortened c x ≡ shortened c y → text_cmp c x y ≡ Equal
trimmed-same c x y e =
    let first : ordering_then (text_cmp c x y) (bytes_cmp [] []) ≡ text_cmp c x y = then_equal (text_cmp c x y) in
    let pieces : bytes_cmp (text_pieces c x ++ []) (text_pieces c y ++ []) ≡ Equal = subst (λ (l : List ℕ). bytes_cmp (text_pieces c x ++ []) (text_from 8 l ++ []) ≡ Equal) e (bytes_equal (text_pieces c x ++ [])) in
    sym first ∙ sym (decide_first.of_texts c x y [] []) ∙ pieces

-- ---- values

abbrev text-of : Value → List ℕ
text-of (Text t) = t
text-of _ = []

there : (kind : Kind) (a b : Value) → value_cmp kind a b ≡ Equal → in_one_form kind a ≡ in_one_form kind b
there kind Null Null e = refl
there kind Null (Number b) e = absurd cc
there kind Null (Text b) e = absurd cc
there kind Null (Bytes b) e = absurd cc
there kind (Number a) Null e = absurd cc
there kind (Number a) (Number b) e = ap (λ n. Number n) (exact_signed a b e)
there kind (Number a) (Text b) e = absurd cc
there kind (Number a) (Bytes b) e = absurd cc
there kind (Text a) Null e = absurd cc
there kind (Text a) (Number b) e = absurd cc
there kind (Text a) (Text b) e = ap (λ t. Text t) (same-trimmed (folded (collation_of kind) a) (folded (collation_of kind) b) e)
there kind (Text a) (Bytes b) e = absurd cc
there kind (Bytes a) Null e = absurd cc
there kind (Bytes a) (Number b) e = absurd cc
there kind (Bytes a) (Text b) e = absurd cc
there kind (Bytes a) (Bytes b) e = ap (λ t. Bytes t) (equal_bytes a b e)

back : (kind : Kind) (a b : Value) → in_one_form kind a ≡ in_one_form kind b → value_cmp kind a b ≡ Equal
back kind Null Null e = refl
back kind Null (Number b) e = absurd cc
back kind Null (Text b) e = absurd cc
back kind Null (Bytes b) e = absurd cc
back kind (Number a) Null e = absurd cc
back kind (Number a) (Number b) e = subst (λ v. value_cmp kind (Number a) v ≡ Equal) e ((in_order_of_values kind).same_itself (Number a))
back kind (Number a) (Text b) e = absurd cc
back kind (Number a) (Bytes b) e = absurd cc
back kind (Text a) Null e = absurd cc
back kind (Text a) (Number b) e = absurd cc
back kind (Text a) (Text b) e = trimmed-same (collation_of kind) a b (ap text-of e)
back kind (Text a) (Bytes b) e = absurd cc
back kind (Bytes a) Null e = absurd cc
back kind (Bytes a) (Number b) e = absurd cc
back kind (Bytes a) (Text b) e = absurd cc
back kind (Bytes a) (Bytes b) e = subst (λ v. value_cmp kind (Bytes a) v ≡ Equal) e ((in_order_of_values kind).same_itself (Bytes a))

pub forms-are-one : (kind : Kind) (a b : Value) → FormsAreOne kind a b
forms-are-one kind a b = (there kind a b, back kind a b)
