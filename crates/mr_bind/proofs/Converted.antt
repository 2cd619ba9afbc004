-- Literals converted in one pass give the bound condition, or the refusal of a literal.
use Rattle.std.proofs.Common.{◌≡◌, ℕ, ℤ, Bool, true, false, List, [], ◌∷◌, map, Option, Some, None, Result, Ok, Err, is_none, is_err, refl, ap, sym, ◌∙◌, subst}
use Rattle.std.specs.Prelude.{◌||◌, if◌then◌else◌, ⊤}
use Rattle.std.specs.List.{list_any}
use Rattle.std.specs.Option.{option_map_or}
use Rattle.std.specs.Result.{result_unwrap_or}
use Rattle.std.proofs.lemmas.List.Folds.{list_any-append}
use Rattle.mr_types.specs.declared.value.Value.{Value}
use Rattle.mr_types.specs.declared.value.Value.TheVariants.{Null, Number, Text, Bytes}
use Rattle.mr_types.specs.declared.expr.Expr.{Expr, fold-Expr, roll-Expr, map-Expr}
use Rattle.mr_types.specs.declared.expr.Expr.TheFolds.{fold-roll-Expr, ind-Expr}
use Rattle.mr_types.specs.declared.expr.Expr.TheOpen.{Expr-F, Compare, IsNull, Between, OneOf, Not, And, Or}
use Rattle.mr_types.specs.declared.kind.Kind.{Kind}
use Rattle.mr_types.specs.declared.definition.TableDef.{TableDef}
use Rattle.mr_types.specs.Refusals.{◌>>=◌, ◌>>◌, refuse_where, some_or, each}
use Rattle.mr_types.specs.Values.{Sort, Numbers, Texts, Binaries, sort_of, converted, convert_to, is_ascii, whole_number}
use Rattle.mr_spec.specs.declared.bound.Bound.{Bound}
use Rattle.mr_spec.specs.declared.bound.Bound.TheVariants as bound
use Rattle.mr_spec.specs.Rows.{kind_at, place_of}
use Rattle.mr_spec.specs.Truth.{Named, layer_names, joined, where_of, is_unknown, has_wrong_literal, known_columns, right_literals, literal_as}
use Rattle.mr_spec.specs.Binding.{bound_layer, bound_of, bind}
use Rattle.mr_bind.specs.Converting.{gathered, converted_layer, converted_of}

-- ---- one literal

-- an answer that fails with 1366 alone
abbrev Right : Result Value ℕ → Type 0
Right r = r ≡ (refuse_where 1366 (is_err r) >> Ok (result_unwrap_or r Null))

of-number : (o : Option ℤ) → Right (some_or 1366 o >>= (λ n. Ok (Number n)))
of-number None = refl
of-number (Some n) = refl

of-text : (low : Bool) (b : List ℕ) → Right (if low then Ok (Text b) else Err 1366)
of-text true b = refl
of-text false b = refl

right-of : (sort : Sort) (v : Value) → Right (converted sort v)
right-of Numbers Null = refl
right-of Texts Null = refl
right-of Binaries Null = refl
right-of Numbers (Number n) = refl
right-of Numbers (Text t) = of-number (whole_number t)
right-of Numbers (Bytes b) = of-number (whole_number b)
right-of Texts (Number n) = refl
right-of Texts (Text t) = refl
right-of Texts (Bytes b) = of-text (is_ascii b) b
right-of Binaries (Number n) = refl
right-of Binaries (Text t) = refl
right-of Binaries (Bytes b) = refl

right : (kind : Kind) (v : Value) → Right (convert_to kind v)
right kind v = right-of (sort_of kind) v

-- ---- a few of them

one : (r : Result Value ℕ) → Right r → (k : Value → Bound) → (r >>= (λ w. Ok (k w))) ≡ (refuse_where 1366 ((is_err r || false) || false) >> Ok (k (result_unwrap_or r Null)))
one (Ok w) h k = refl
one (Err e) h k = ap (λ (r : Result Value ℕ). r >>= (λ w. Ok (k w))) h

two : (r s : Result Value ℕ) → Right r → Right s → (k : Value → Value → Bound) →
    (r >>= (λ low. s >>= (λ high. Ok (k low high)))) ≡ (refuse_where 1366 ((is_err r || (is_err s || false)) || false) >> Ok (k (result_unwrap_or r Null) (result_unwrap_or s Null)))
two (Ok u) (Ok w) h g k = refl
two (Ok u) (Err e) h g k = ap (λ (s : Result Value ℕ). s >>= (λ high. Ok (k u high))) g
two (Err e) s h g k = ap (λ (r : Result Value ℕ). r >>= (λ low. s >>= (λ high. Ok (k low high)))) h

-- one more answer in front of others
more : {A : Type 0} (r : Result A ℕ) (a : Bool) (x : A) (rest : Result (List A) ℕ) (b : Bool) (xs : List A) →
    r ≡ (refuse_where 1366 a >> Ok x) → rest ≡ (refuse_where 1366 b >> Ok xs) →
    (r >>= (λ y. rest >>= (λ ys. Ok (y ∷ ys)))) ≡ (refuse_where 1366 (a || b) >> Ok (x ∷ xs))
more r true x rest b xs p q = rw p refl
more r false x rest true xs p q = rw (p, q) refl
more r false x rest false xs p q = rw (p, q) refl

all-right : (kind : Kind) (vs : List Value) → each (convert_to kind) vs ≡ (refuse_where 1366 (list_any (λ v. is_err (convert_to kind v)) vs) >> Ok (map (literal_as kind) vs))
all-right kind [] = refl
all-right kind (v ∷ vs) = more (convert_to kind v) (is_err (convert_to kind v)) (literal_as kind v) (each (convert_to kind) vs) (list_any (λ v. is_err (convert_to kind v)) vs) (map (literal_as kind) vs) (right kind v) (all-right kind vs)

some : (rest : Result (List Value) ℕ) (b : Bool) (ws : List Value) (k : List Value → Bound) → rest ≡ (refuse_where 1366 b >> Ok ws) → (rest >>= (λ ys. Ok (k ys))) ≡ (refuse_where 1366 (b || false) >> Ok (k ws))
some rest true ws k p = rw p refl
some rest false ws k p = rw p refl

of-parts : (rest : Result (List Bound) ℕ) (b : Bool) (bs : List Bound) (k : List Bound → Bound) → rest ≡ (refuse_where 1366 b >> Ok bs) → (rest >>= (λ ys. Ok (k ys))) ≡ (refuse_where 1366 b >> Ok (k bs))
of-parts rest true bs k p = rw p refl
of-parts rest false bs k p = rw p refl

of-part : (r : Result Bound ℕ) (b : Bool) (x : Bound) (k : Bound → Bound) → r ≡ (refuse_where 1366 b >> Ok x) → (r >>= (λ y. Ok (k y))) ≡ (refuse_where 1366 b >> Ok (k x))
of-part r true x k p = rw p refl
of-part r false x k p = rw p refl

left-of : (a b : Bool) → (a || b) ≡ false → a ≡ false
left-of true b h = h
left-of false b h = refl

right-side : (a b : Bool) → (a || b) ≡ false → b ≡ false
right-side true b h = cc
right-side false b h = h

abbrev names : Expr → List Named
names e = fold-Expr (List Named) layer_names e

module _ (def : TableDef) where
  abbrev unknown : Named → Bool
  unknown n = is_unknown def n.column

  abbrev wrong : Named → Bool
  wrong n = has_wrong_literal def n

  -- what a condition whose columns are there gives
  abbrev Converts : Expr → Type 0
  Converts e = list_any unknown (names e) ≡ false → converted_of def e ≡ (refuse_where 1366 (list_any wrong (names e)) >> Ok (bound_of def e))

  -- the bound condition, or the refusal of a literal
  abbrev told : Bool → Bound → Result Bound ℕ
  told wrong_one b = refuse_where 1366 wrong_one >> Ok b

  -- ---- each layer, by the place of its column

  abbrev at : Option ℕ → ℕ
  at o = option_map_or (λ i. i) o 0

  abbrev wrong-at : Option ℕ → List Value → Bool
  wrong-at o vs = option_map_or (λ i. list_any (λ v. is_err (convert_to (kind_at def i) v)) vs) o false

  one-at : (o : Option ℕ) (v : Value) (k : Value → Bound) → (is_none o || false) ≡ false →
      (convert_to (kind_at def (at o)) v >>= (λ w. Ok (k w))) ≡ (refuse_where 1366 (wrong-at o (v ∷ []) || false) >> Ok (k (literal_as (kind_at def (at o)) v)))
  one-at None v k h = cc
  one-at (Some i) v k h = one (convert_to (kind_at def i) v) (right (kind_at def i) v) k

  two-at : (o : Option ℕ) (u v : Value) (k : Value → Value → Bound) → (is_none o || false) ≡ false →
      (convert_to (kind_at def (at o)) u >>= (λ low. convert_to (kind_at def (at o)) v >>= (λ high. Ok (k low high)))) ≡ (refuse_where 1366 (wrong-at o (u ∷ v ∷ []) || false) >> Ok (k (literal_as (kind_at def (at o)) u) (literal_as (kind_at def (at o)) v)))
  two-at None u v k h = cc
  two-at (Some i) u v k h = two (convert_to (kind_at def i) u) (convert_to (kind_at def i) v) (right (kind_at def i) u) (right (kind_at def i) v) k

  some-at : (o : Option ℕ) (vs : List Value) (k : List Value → Bound) → (is_none o || false) ≡ false →
      (each (convert_to (kind_at def (at o))) vs >>= (λ ws. Ok (k ws))) ≡ (refuse_where 1366 (wrong-at o vs || false) >> Ok (k (map (literal_as (kind_at def (at o))) vs)))
  some-at None vs k h = cc
  some-at (Some i) vs k h = some (each (convert_to (kind_at def i)) vs) (list_any (λ v. is_err (convert_to (kind_at def i) v)) vs) (map (literal_as (kind_at def i)) vs) k (all-right (kind_at def i) vs)

  all : (es : List ((e : Expr) × Converts e)) → list_any unknown (joined (map names (map (λ e. e.0) es))) ≡ false →
      gathered (map (converted_of def) (map (λ e. e.0) es)) ≡ (refuse_where 1366 (list_any wrong (joined (map names (map (λ e. e.0) es)))) >> Ok (map (bound_of def) (map (λ e. e.0) es)))
  all [] h = refl
  all (e ∷ es) h =
      let later : List Named = joined (map names (map (λ e. e.0) es)) in
      let known : (list_any unknown (names e.0) || list_any unknown later) ≡ false = sym (list_any-append unknown (names e.0) later) ∙ h in
      more (converted_of def e.0) (list_any wrong (names e.0)) (bound_of def e.0) (gathered (map (converted_of def) (map (λ e. e.0) es))) (list_any wrong later) (map (bound_of def) (map (λ e. e.0) es))
      (e.1 (left-of _ _ known)) (all es (right-side _ _ known))
      ∙ ap (λ (b : Bool). refuse_where 1366 b >> Ok (bound_of def e.0 ∷ map (bound_of def) (map (λ e. e.0) es))) (sym (list_any-append wrong (names e.0) later))

  -- a layer that was rolled: both sides by their layers
  layers : (x : Expr-F Expr) →
      (list_any unknown (layer_names (map-Expr Expr (List Named) names x)) ≡ false →
      converted_layer def (map-Expr Expr (Result Bound ℕ) (converted_of def) x) ≡ (refuse_where 1366 (list_any wrong (layer_names (map-Expr Expr (List Named) names x))) >> Ok (bound_layer def (map-Expr Expr Bound (bound_of def) x)))) →
      Converts (roll-Expr x)
  layers x h known =
      fold-roll-Expr (Result Bound ℕ) (converted_layer def) x
      ∙ h (ap (list_any unknown) (sym (fold-roll-Expr (List Named) layer_names x)) ∙ known)
      ∙ ap (λ (ns : List Named). refuse_where 1366 (list_any wrong ns) >> Ok (bound_layer def (map-Expr Expr Bound (bound_of def) x))) (sym (fold-roll-Expr (List Named) layer_names x))
      ∙ ap (λ (b : Bound). refuse_where 1366 (list_any wrong (names (roll-Expr x))) >> Ok b) (sym (fold-roll-Expr Bound (bound_layer def) x))

  layer-converts : (y : Expr-F ((e : Expr) × Converts e)) → Converts (roll-Expr (map-Expr ((e : Expr) × Converts e) Expr (λ e. e.0) y))
  layer-converts (Compare n c v) = layers (Compare n c v) (one-at (place_of def n) v (λ w. bound.Compare (at (place_of def n)) c w))
  layer-converts (IsNull n) = layers (IsNull n) (is-null (place_of def n) n)
    where
      is-null : (o : Option ℕ) (n : List ℕ) → (is_none o || false) ≡ false → told false (bound.IsNull (at o)) ≡ told (wrong-at o [] || false) (bound.IsNull (at o))
      is-null None n h = cc
      is-null (Some i) n h = refl
  layer-converts (Between n u v) = layers (Between n u v) (two-at (place_of def n) u v (λ low high. bound.Between (at (place_of def n)) low high))
  layer-converts (OneOf n vs) = layers (OneOf n vs) (some-at (place_of def n) vs (λ ws. bound.OneOf (at (place_of def n)) ws))
  layer-converts (Not e) = layers (Not e.0) (λ known. of-part (converted_of def e.0) (list_any wrong (names e.0)) (bound_of def e.0) bound.Not (e.1 known))
  layer-converts (And es) = layers (And (map (λ e. e.0) es)) (λ known. of-parts (gathered (map (converted_of def) (map (λ e. e.0) es))) (list_any wrong (joined (map names (map (λ e. e.0) es)))) (map (bound_of def) (map (λ e. e.0) es)) bound.And (all es known))
  layer-converts (Or es) = layers (Or (map (λ e. e.0) es)) (λ known. of-parts (gathered (map (converted_of def) (map (λ e. e.0) es))) (list_any wrong (joined (map names (map (λ e. e.0) es)))) (map (bound_of def) (map (λ e. e.0) es)) bound.Or (all es known))

  converts : (e : Expr) → Converts e
  converts = ind-Expr Converts (λ x y is. subst (λ z. Converts (roll-Expr z)) is (layer-converts y))

none-refused : (b : Bool) → refuse_where {E = ℕ} 1054 b ≡ Ok tt → b ≡ false
none-refused true h = cc
none-refused false h = refl

-- of a condition whose columns are there, one pass gives what binding gives
pub bound_by : (def : TableDef) (e : Expr) → known_columns def (where_of (Some e)) ≡ Ok tt → converted_of def e ≡ bind def e
bound_by def e h =
    converts def e (none-refused (list_any (λ n. is_unknown def n.column) (names e)) h)
    ∙ ap (λ (r : Result ⊤ ℕ). r >> (right_literals def (where_of (Some e)) >> Ok (bound_of def e))) (sym h)
