-- A bound UPDATE makes of a row what the one that was written makes of it.
use Rattle.std.proofs.Common.{◌≡◌, ℕ, List, [], ◌∷◌, map, Bool, true, false, Option, Some, None, Result, Ok, Err, refl, sym, ap, ◌∙◌}
use Rattle.std.specs.Prelude.{⊤, ◌+ℤ◌, ◌*ℤ◌, neg_ℤ, if◌then◌else◌, ◌||◌, ◌&&◌, is_none, unwrap_or, slice_get, slice_set}
use Rattle.std.specs.List.{list_any}
use Rattle.std.specs.Option.{option_map_or, option_and_then}
use Rattle.mr_types.specs.declared.value.Value.{Value}
use Rattle.mr_types.specs.declared.value.Value.TheVariants.{Null}
use Rattle.mr_types.specs.declared.definition.ColumnDef.{ColumnDef}
use Rattle.mr_types.specs.declared.definition.TableDef.{TableDef}
use Rattle.mr_types.specs.declared.row.Row.{Row}
use Rattle.mr_types.specs.declared.expr.Expr.{Expr}
use Rattle.mr_types.specs.declared.statement.Factor.{Factor}
use Rattle.mr_types.specs.declared.statement.Factor.TheVariants.{Column, Literal}
use Rattle.mr_types.specs.declared.statement.Term.{Term}
use Rattle.mr_types.specs.declared.statement.SetTo.{SetTo}
use Rattle.mr_types.specs.declared.statement.SetTo.TheVariants.{Default, Sum}
use Rattle.mr_types.specs.declared.statement.SetItem.{SetItem}
use Rattle.mr_types.specs.Refusals.{◌>>=◌, ◌>>◌, refuse_where, some_or, in_turn}
use Rattle.mr_types.specs.Values.{assign_to}
use Rattle.mr_spec.specs.Rows.{place_of}
use Rattle.mr_spec.specs.Truth.{where_of, is_unknown, known_columns, right_literals}
use Rattle.mr_spec.specs.Setting.{combined, with_item, update_tests, is_wrong_sum, has_unknown_to, is_unknown_factor, is_default_to, lacks_default}
use Rattle.mr_spec.specs.Setting as written
use Rattle.mr_bound.specs.declared.bound.BoundUpdate.{BoundUpdate}
use Rattle.mr_bound.specs.BoundRefusals.{refusal_of}
use Rattle.mr_bound.specs.BoundSelects.{condition_at, keeps}
use Rattle.mr_bound.proofs.SelectsAgree.{keeps_is}
use Rattle.mr_bound.specs.BoundUpdates.{factor_at, term_at, set_at, bind_update, factor_in, product_of, with_term, sum_of, with_set}

same_behind : {A B : Type 0} (r : Result A ℕ) (f g : A → Result B ℕ) → ((x : A) → f x ≡ g x) → (r >>= f) ≡ (r >>= g)
same_behind (Ok x) f g same = same x
same_behind (Err e) f g same = refl

neither : (a b : Bool) → (a || b) ≡ false → (a ≡ false) × (b ≡ false)
neither true b e = absurd cc
neither false b e = (refl, e)

-- ---- sums whose columns are there

found_is : (fields : List Value) (place : Option ℕ) → is_none place ≡ false → unwrap_or (slice_get fields (option_map_or (λ i. i) place 0)) Null ≡ unwrap_or (option_and_then (slice_get fields) place) Null
found_is fields None e = absurd cc
found_is fields (Some i) e = refl

factor_is : (def : TableDef) (fields : List Value) (f : Factor) → is_unknown_factor def f ≡ false → factor_in fields (factor_at def f) ≡ written.factor_in def fields f
factor_is def fields (Column name) e = found_is fields (place_of def name) e
factor_is def fields (Literal v) e = refl

factors_are : (def : TableDef) (fields : List Value) (fs : List Factor) → list_any (is_unknown_factor def) fs ≡ false → map (factor_in fields) (map (factor_at def) fs) ≡ map (written.factor_in def fields) fs
factors_are def fields [] e = refl
factors_are def fields (f ∷ fs) e =
    let here = neither (is_unknown_factor def f) (list_any (is_unknown_factor def) fs) e in
    ap (λ (v : Value). v ∷ map (factor_in fields) (map (factor_at def) fs)) (factor_is def fields f here.0)
    ∙ ap (λ (vs : List Value). written.factor_in def fields f ∷ vs) (factors_are def fields fs here.1)

product_is : (def : TableDef) (fields : List Value) (fs : List Factor) → list_any (is_unknown_factor def) fs ≡ false → product_of fields (map (factor_at def) fs) ≡ written.product_of def fields fs
product_is def fields [] e = refl
product_is def fields (f ∷ fs) e =
    let here = neither (is_unknown_factor def f) (list_any (is_unknown_factor def) fs) e in
    ap (λ (v : Value). in_turn (combined (λ m n. m *ℤ n)) v (map (factor_in fields) (map (factor_at def) fs))) (factor_is def fields f here.0)
    ∙ ap (in_turn (combined (λ m n. m *ℤ n)) (written.factor_in def fields f)) (factors_are def fields fs here.1)

term_is : (def : TableDef) (fields : List Value) (sum : Value) (t : Term) → list_any (is_unknown_factor def) t.factors ≡ false → with_term fields sum (term_at def t) ≡ written.with_term def fields sum t
term_is def fields sum t e = ap (λ (r : Result Value ℕ). r >>= (λ p. combined (λ m n. if t.minus then m +ℤ neg_ℤ n else m +ℤ n) sum p)) (product_is def fields t.factors e)

terms_are : (def : TableDef) (fields : List Value) (sum : Value) (ts : List Term) → list_any (λ t. list_any (is_unknown_factor def) t.factors) ts ≡ false → in_turn (with_term fields) sum (map (term_at def) ts) ≡ in_turn (written.with_term def fields) sum ts
terms_are def fields sum [] e = refl
terms_are def fields sum (t ∷ ts) e =
    let here = neither (list_any (is_unknown_factor def) t.factors) (list_any (λ t. list_any (is_unknown_factor def) t.factors) ts) e in
    ap (λ (r : Result Value ℕ). r >>= (λ next. in_turn (with_term fields) next (map (term_at def) ts))) (term_is def fields sum t here.0)
    ∙ same_behind (written.with_term def fields sum t) _ _ (λ next. terms_are def fields next ts here.1)

sum_is : (def : TableDef) (fields : List Value) (ts : List Term) → list_any (λ t. list_any (is_unknown_factor def) t.factors) ts ≡ false → sum_of fields (map (term_at def) ts) ≡ written.sum_of def fields ts
sum_is def fields [] e = refl
sum_is def fields (t ∷ ts) e =
    let here = neither (list_any (is_unknown_factor def) t.factors) (list_any (λ t. list_any (is_unknown_factor def) t.factors) ts) e in
    ap (λ (r : Result Value ℕ). r >>= (λ first. in_turn (with_term fields) first (map (term_at def) ts))) (product_is def fields t.factors here.0)
    ∙ same_behind (written.product_of def fields t.factors) _ _ (λ first. terms_are def fields first ts here.1)

-- ---- assignments

-- an assigned value, put in its place
abbrev placed : List Value → ColumnDef → ℕ → Result Value ℕ → Result (List Value) ℕ
placed fields c i r = r >>= (λ v. assign_to c.ty v >>= (λ a. Ok (slice_set fields i a)))

-- the column at a place, and its default
default_there : (fields : List Value) (i : ℕ) (found : Option ColumnDef) →
    (some_or 1054 found >>= (λ c. placed fields c i (Ok (unwrap_or (option_and_then (λ c. c.default) found) Null)))) ≡ (some_or 1054 found >>= (λ c. placed fields c i (Ok (unwrap_or c.default Null))))
default_there fields i None = refl
default_there fields i (Some c) = refl

-- the column of a name that is there
default_is : (fields : List Value) (columns : List ColumnDef) (place : Option ℕ) → is_none place ≡ false →
    (some_or 1054 (slice_get columns (option_map_or (λ i. i) place 0)) >>= (λ c. placed fields c (option_map_or (λ i. i) place 0) (Ok (unwrap_or (option_and_then (λ c. c.default) (slice_get columns (option_map_or (λ i. i) place 0))) Null))))
    ≡ (some_or 1054 place >>= (λ i. some_or 1054 (slice_get columns i) >>= (λ c. placed fields c i (Ok (unwrap_or c.default Null)))))
default_is fields columns None e = absurd cc
default_is fields columns (Some i) e = default_there fields i (slice_get columns i)

assigned_is : (fields : List Value) (columns : List ColumnDef) (place : Option ℕ) (r : Result Value ℕ) → is_none place ≡ false →
    (some_or 1054 (slice_get columns (option_map_or (λ i. i) place 0)) >>= (λ c. placed fields c (option_map_or (λ i. i) place 0) r))
    ≡ (some_or 1054 place >>= (λ i. some_or 1054 (slice_get columns i) >>= (λ c. placed fields c i r)))
assigned_is fields columns None r e = absurd cc
assigned_is fields columns (Some i) r e = refl

-- what a column is set to
to_is : (def : TableDef) (fields : List Value) (name : List ℕ) (to : SetTo) → is_unknown def name ≡ false → has_unknown_to def to ≡ false → with_set def fields (set_at def (record { column = name; to = to })) ≡ with_item def fields (record { column = name; to = to })
to_is def fields name Default known e = default_is fields def.columns (place_of def name) known
to_is def fields name (Sum ts) known e =
    let i = option_map_or (λ i. i) (place_of def name) 0 in
    ap (λ (r : Result Value ℕ). some_or 1054 (slice_get def.columns i) >>= (λ c. placed fields c i r)) (sum_is def fields ts e)
    ∙ assigned_is fields def.columns (place_of def name) (written.sum_of def fields ts) known

item_is : (def : TableDef) (fields : List Value) (s : SetItem) → (is_unknown def s.column || has_unknown_to def s.to) ≡ false → with_set def fields (set_at def s) ≡ with_item def fields s
item_is def fields s e =
    let here = neither (is_unknown def s.column) (has_unknown_to def s.to) e in
    to_is def fields s.column s.to here.0 here.1

-- one of the assignments names a column that isn't there
abbrev some_unknown : TableDef → List SetItem → Bool
some_unknown def set = list_any (λ s. is_unknown def s.column || has_unknown_to def s.to) set

items_are : (def : TableDef) (fields : List Value) (set : List SetItem) → some_unknown def set ≡ false → in_turn (with_set def) fields (map (set_at def) set) ≡ in_turn (with_item def) fields set
items_are def fields [] e = refl
items_are def fields (s ∷ set) e =
    let here = neither (is_unknown def s.column || has_unknown_to def s.to) (some_unknown def set) e in
    ap (λ (r : Result (List Value) ℕ). r >>= (λ next. in_turn (with_set def) next (map (set_at def) set))) (item_is def fields s here.0)
    ∙ same_behind (with_item def fields s) _ _ (λ next. items_are def next set here.1)

-- ---- the whole

-- what five tests and a value give, where it is an answer
answer_is : {A B : Type 0} (code : ℕ) (q : Bool) (r t u v : Result ⊤ ℕ) (x : A) (f : A → B) (b : B) → (refuse_where code q >> (r >> (t >> ((u >> Ok x) >>= (λ y. v >> Ok (f y)))))) ≡ Ok b → (q ≡ false) × (f x ≡ b)
answer_is code false (Ok _) (Ok _) (Ok _) (Ok _) x f b e = (refl, cc)
answer_is code false (Ok _) (Ok _) (Ok _) (Err k) x f b e = absurd cc
answer_is code false (Ok _) (Ok _) (Err k) v x f b e = absurd cc
answer_is code false (Ok _) (Err k) u v x f b e = absurd cc
answer_is code false (Err k) t u v x f b e = absurd cc
answer_is code true r t u v x f b e = absurd cc

-- the bound statement, where nothing is refused
abbrev update_at : TableDef → List SetItem → Option Expr → BoundUpdate
update_at def set c = record { set = map (set_at def) set; condition = condition_at def c }

bound_is : (def : TableDef) (set : List SetItem) (c : Option Expr) (u : BoundUpdate) → bind_update def set c ≡ Ok u → (some_unknown def set ≡ false) × (update_at def set c ≡ u)
bound_is def set c u e =
    answer_is 1054 (some_unknown def set) (known_columns def (where_of c)) (refuse_where 1366 (list_any (λ s. is_wrong_sum def s.to) set)) (right_literals def (where_of c)) (refuse_where 1364 (list_any (λ s. is_default_to s.to && lacks_default def s.column) set))
    (condition_at def c) (λ condition. record { set = map (set_at def) set; condition = condition }) u e

pub assignments_agree : (def : TableDef) (set : List SetItem) (c : Option Expr) (u : BoundUpdate) (fields : List Value) → bind_update def set c ≡ Ok u → in_turn (with_set def) fields u.set ≡ in_turn (with_item def) fields set
assignments_agree def set c u fields e =
    let bound = bound_is def set c u e in
    ap (λ (u : BoundUpdate). in_turn (with_set def) fields u.set) (sym bound.1) ∙ items_are def fields set bound.0

-- ---- the refusals

-- five tests, of which the fourth comes before a value
tests_are : {A B : Type 0} (q r t u v : Result ⊤ ℕ) (x : A) (f : A → B) → (q >> (r >> (t >> (u >> v)))) ≡ ((q >> (r >> (t >> ((u >> Ok x) >>= (λ y. v >> Ok (f y)))))) >> Ok tt)
tests_are (Ok _) (Ok _) (Ok _) (Ok _) (Ok _) x f = refl
tests_are (Ok _) (Ok _) (Ok _) (Ok _) (Err k) x f = refl
tests_are (Ok _) (Ok _) (Ok _) (Err k) v x f = refl
tests_are (Ok _) (Ok _) (Err k) u v x f = refl
tests_are (Ok _) (Err k) t u v x f = refl
tests_are (Err k) r t u v x f = refl

pub refusals_agree : (def : TableDef) (set : List SetItem) (c : Option Expr) → update_tests def set (where_of c) ≡ refusal_of (bind_update def set c)
refusals_agree def set c =
    tests_are (refuse_where 1054 (some_unknown def set)) (known_columns def (where_of c)) (refuse_where 1366 (list_any (λ s. is_wrong_sum def s.to) set)) (right_literals def (where_of c)) (refuse_where 1364 (list_any (λ s. is_default_to s.to && lacks_default def s.column) set))
    (condition_at def c) (λ condition. record { set = map (set_at def) set; condition = condition })

-- ---- the rows

pub rows_agree : (def : TableDef) (set : List SetItem) (c : Option Expr) (u : BoundUpdate) (row : Row) → bind_update def set c ≡ Ok u → keeps def u.condition row ≡ (where_of c).keeps def row
rows_agree def set c u row e = ap (λ (u : BoundUpdate). keeps def u.condition row) (sym (bound_is def set c u e).1) ∙ keeps_is def c row
