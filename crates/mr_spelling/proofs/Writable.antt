-- Each part of a statement's spelling has bytes of its own.
use Rattle.std.proofs.Common.{◌≡◌, ℕ, suc, pos, negsuc, ◌-◌, ◌^◌, List, [], ◌∷◌, ◌++◌, length, map, Bool, true, false, true≢false, not, ◌&&◌, nat_lt, nat_le, if◌then◌else◌, Option, Some, None, codes, arith, refl, sym, subst, ◌∙◌}
use Rattle.std.specs.List.{list_all}
use Rattle.std.proofs.lemmas.Bool.{le-leb, ltb-true, leb-true}
use Rattle.mr_pieces.specs.declared.collation.Collation.{Collation}
use Rattle.mr_pieces.specs.declared.collation.Collation.TheVariants.{Bin, Ci}
use Rattle.mr_types.specs.Grammatical.{is_name, is_ascii_text, is_literal, is_condition, layer_is_grammatical, is_kind_text, is_column_text, is_key_name, is_key_text, is_secondary_text, is_table_text, is_item, is_insert, is_factor, is_term, is_set_to, is_set, is_aggregate, is_list, is_index_name, is_ordered_well, is_select, is_key_of_table, is_empty, is_statement, some_all, where_given}
use Rattle.mr_types.specs.declared.value.Value.{Value}
use Rattle.mr_types.specs.declared.value.Value.TheVariants as values
use Rattle.mr_types.specs.declared.kind.KindText.{KindText}
use Rattle.mr_types.specs.declared.kind.KindText.TheVariants as kinds
use Rattle.mr_types.specs.declared.expr.Cmp.{Cmp}
use Rattle.mr_types.specs.declared.expr.Cmp.TheVariants as cmp
use Rattle.mr_types.specs.declared.expr.Expr.{Expr, roll-Expr, map-Expr}
use Rattle.mr_types.specs.declared.expr.Expr.TheFolds.{fold-roll-Expr, ind-Expr}
use Rattle.mr_types.specs.declared.expr.Expr.TheOpen.{Expr-F, Compare, IsNull, Between, OneOf, Not, And, Or}
use Rattle.mr_types.specs.declared.text.ColumnText.{ColumnText}
use Rattle.mr_types.specs.declared.text.KeyText.{KeyText}
use Rattle.mr_types.specs.declared.text.TableText.{TableText}
use Rattle.mr_types.specs.declared.statement.ItemValue.{ItemValue}
use Rattle.mr_types.specs.declared.statement.ItemValue.TheVariants as items
use Rattle.mr_types.specs.declared.statement.Factor.{Factor}
use Rattle.mr_types.specs.declared.statement.Factor.TheVariants as factors
use Rattle.mr_types.specs.declared.statement.Term.{Term}
use Rattle.mr_types.specs.declared.statement.SetTo.{SetTo}
use Rattle.mr_types.specs.declared.statement.SetTo.TheVariants as sets
use Rattle.mr_types.specs.declared.statement.SetItem.{SetItem}
use Rattle.mr_types.specs.declared.statement.Insert.{Insert}
use Rattle.mr_types.specs.declared.statement.KeyName.{KeyName}
use Rattle.mr_types.specs.declared.statement.Aggregate.{Aggregate}
use Rattle.mr_types.specs.declared.statement.Aggregate.TheVariants as aggregates
use Rattle.mr_types.specs.declared.statement.Columns.{Columns}
use Rattle.mr_types.specs.declared.statement.Columns.TheVariants as columns
use Rattle.mr_types.specs.declared.statement.OrderItem.{OrderItem}
use Rattle.mr_types.specs.declared.statement.IndexName.{IndexName}
use Rattle.mr_types.specs.declared.statement.IndexName.TheVariants as indexes
use Rattle.mr_types.specs.declared.statement.Select.{Select}
use Rattle.mr_types.specs.declared.statement.Statement.{Statement}
use Rattle.mr_types.specs.declared.statement.Statement.TheVariants as statements
use Rattle.mr_spec.specs.Literals.{greatest}
use Rattle.mr_spelling.specs.Parts.{Part, Keyword, Mark, Name, Count}
use Rattle.mr_spelling.specs.Spelling.{spelled_by, spelled_list, spelled_if, spelled_name, spelled_names, spelled_literal}
use Rattle.mr_spelling.specs.Sessions.{spelled_comment, spelled_index_on, spelled_unique, spelled_new_index, spelled_lock}
use Rattle.mr_spelling.specs.Rows.{spelled_item, spelled_tuple, spelled_insert, spelled_factor, spelled_product, sign_of, spelled_sum, spelled_to, spelled_set}
use Rattle.mr_spelling.specs.Conditions.{comparison_sign, Way, Ways, under_not, anywhere, joined, spelled_between, spelled_in, compared, all_joined, any_joined, layer_ways, ways, spelled_where}
use Rattle.mr_spelling.specs.Selects.{spelled_aggregate, spelled_columns, spelled_forced, direction, spelled_order_item, spelled_order, spelled_limit, spelled_select, is_limited}
use Rattle.mr_spelling.specs.Tables.{spelled_kind, spelled_nullable, spelled_default, collation_of, spelled_collation, spelled_column, spelled_key_words, spelled_key, TableItem, OfColumn, OfKey, spelled_table_item, items_of, spelled_engine, spelled_if_not_exists, spelled_create_table}
use Rattle.mr_spelling.specs.Statements.{spelled_statement, is_nested, is_bounded}
use Rattle.mr_spelling.specs.Canonical.{is_plain_word, has_plain_engine}
use Rattle.mr_spelling.proofs.Lists.{Each, each-of, first_of_both, second_of_both, both-true}
use Rattle.mr_spelling.proofs.Alone.{is_writable}

abbrev pub AreWritable : List Part → Type 0
AreWritable ps = list_all is_writable ps ≡ true

abbrev Keeps : {A : Type 0} → (A → List Part → List Part) → A → Type 0
Keeps item x = (more : List Part) → AreWritable more → AreWritable (item x more)

-- ---- lists

by-list : {A : Type 0} (between : Part) (item : A → List Part → List Part) (xs : List A) → is_writable between ≡ true → Each (Keeps item) xs → Keeps (spelled_by between item) xs
by-list between item [] b i more h = h
by-list between item (x ∷ []) b i more h = i.0 more h
by-list between item (x ∷ y ∷ ys) b i more h = i.0 (between ∷ spelled_by between item (y ∷ ys) more) (both-true (is_writable between) (list_all is_writable (spelled_by between item (y ∷ ys) more)) b (by-list between item (y ∷ ys) b i.1 more h))

some-each : {A : Type 0} (P : A → Type 0) (ok : A → Bool) → ((x : A) → ok x ≡ true → P x) → (xs : List A) → some_all ok xs ≡ true → Each P xs
some-each P ok f [] h = tt
some-each P ok f (x ∷ xs) h = each-of P ok f (x ∷ xs) h

name-keeps : (n : List ℕ) → is_name n ≡ true → Keeps spelled_name n
name-keeps n k more h = both-true (is_name n) (list_all is_writable more) k h

names-keep : (ns : List (List ℕ)) → some_all is_name ns ≡ true → Keeps (spelled_list spelled_name) ns
names-keep ns k = by-list (Mark (codes ",")) spelled_name ns refl (some-each (Keeps spelled_name) is_name name-keeps ns k)

names_in-keep : (ns : List (List ℕ)) → some_all is_name ns ≡ true → Keeps spelled_names ns
names_in-keep ns k more h = names-keep ns k (Mark (codes ")") ∷ more) h

-- ---- literals

count-below : (n : ℕ) → nat_lt n (2 ^ 127) ≡ true → nat_le n greatest ≡ true
count-below n h = le-leb n greatest (omega (arith, ltb-true n (2 ^ 127) h))

count-negated : (n : ℕ) → nat_lt n (2 ^ 127 - 1) ≡ true → nat_le (suc n) greatest ≡ true
count-negated n h = le-leb (suc n) greatest (omega (arith, ltb-true n (2 ^ 127 - 1) h))

literal-keeps : (v : Value) → is_literal v ≡ true → Keeps spelled_literal v
literal-keeps values.Null k more h = h
literal-keeps (values.Number (pos n)) k more h = both-true (nat_le n greatest) (list_all is_writable more) (count-below n k) h
literal-keeps (values.Number (negsuc n)) k more h = both-true (nat_le (suc n) greatest) (list_all is_writable more) (count-negated n k) h
literal-keeps (values.Text x) k more h = both-true (is_ascii_text x) (list_all is_writable more) k h
literal-keeps (values.Bytes x) k more h = both-true (list_all (λ b. nat_lt b 256) x) (list_all is_writable more) k h

-- ---- indexes and tables

comment-keeps : (about : List ℕ) → is_ascii_text about ≡ true → Keeps spelled_comment about
comment-keeps [] k more h = h
comment-keeps (c ∷ cs) k more h = both-true (is_ascii_text (c ∷ cs)) (list_all is_writable more) k h

index_on-writable : (at : KeyName) → is_key_of_table at ≡ true → AreWritable (spelled_index_on at)
index_on-writable at k = name-keeps at.key (second_of_both (is_name at.table) (is_name at.key) k) (Keyword (codes "on") ∷ Name at.table ∷ [])
    (name-keeps at.table (first_of_both (is_name at.table) (is_name at.key) k) [] refl)

unique-keeps : (b : Bool) → Keeps spelled_unique b
unique-keeps true more h = h
unique-keeps false more h = h

key-name : (key : KeyText) → is_secondary_text key ≡ true → is_name key.name ≡ true
key-name key k = by key.primary key.name key.unique (first_of_both (not key.primary) (is_key_text key) k) (first_of_both (is_key_name key) _ (second_of_both (not key.primary) (is_key_text key) k))
  where
    by : (primary : Bool) (name : List ℕ) (unique : Bool) → not primary ≡ true → (if primary then is_empty name && unique else is_name name) ≡ true → is_name name ≡ true
    by true name unique h e = absurd (true≢false (sym h))
    by false name unique h e = e

new_index-writable : (table : List ℕ) (key : KeyText) → is_name table ≡ true → is_secondary_text key ≡ true → AreWritable (spelled_new_index table key)
new_index-writable table key t k =
    let k1 : (some_all is_name key.columns && is_ascii_text key.comment) ≡ true = second_of_both (is_key_name key) _ (second_of_both (not key.primary) (is_key_text key) k) in
    let about = spelled_comment key.comment [] in
    let about-is : AreWritable (spelled_comment key.comment []) = comment-keeps key.comment (second_of_both (some_all is_name key.columns) _ k1) [] refl in
    let columns-are : AreWritable (spelled_names key.columns (spelled_comment key.comment [])) = names_in-keep key.columns (first_of_both (some_all is_name key.columns) _ k1) about about-is in
    unique-keeps key.unique (Keyword (codes "index") ∷ Name key.name ∷ Keyword (codes "on") ∷ Name table ∷ spelled_names key.columns about)
    (name-keeps key.name (key-name key k) (Keyword (codes "on") ∷ Name table ∷ spelled_names key.columns about) (name-keeps table t (spelled_names key.columns about) columns-are))

kind-keeps : (k : KindText) → is_kind_text k ≡ true → Keeps spelled_kind k
kind-keeps kinds.Int e more h = h
kind-keeps kinds.IntUnsigned e more h = h
kind-keeps kinds.BigInt e more h = h
kind-keeps kinds.BigIntUnsigned e more h = h
kind-keeps (kinds.VarChar n c) e more h = both-true (nat_le n greatest) (list_all is_writable (Mark (codes ")") ∷ more)) (count-below n e) h
kind-keeps (kinds.VarBinary n) e more h = both-true (nat_le n greatest) (list_all is_writable (Mark (codes ")") ∷ more)) (count-below n e) h

nullable-keeps : (b : Bool) → Keeps spelled_nullable b
nullable-keeps true more h = h
nullable-keeps false more h = h

default-keeps : (d : Option Value) → where_given is_literal d ≡ true → Keeps spelled_default d
default-keeps None k more h = h
default-keeps (Some v) k more h = literal-keeps v k more h

collation-keeps : (o : Option Collation) → Keeps spelled_collation o
collation-keeps None more h = h
collation-keeps (Some Bin) more h = h
collation-keeps (Some Ci) more h = h

column-keeps : (c : ColumnText) → is_column_text c ≡ true → Keeps spelled_column c
column-keeps c k more h =
    let k1 : (is_kind_text c.kind && where_given is_literal c.default) ≡ true = second_of_both (is_name c.name) _ k in
    let o = spelled_collation (collation_of c.kind) more in
    let d = spelled_default c.default o in
    let n = spelled_nullable c.nullable d in
    let o-is : AreWritable (spelled_collation (collation_of c.kind) more) = collation-keeps (collation_of c.kind) more h in
    let d-is : AreWritable (spelled_default c.default (spelled_collation (collation_of c.kind) more)) = default-keeps c.default (second_of_both (is_kind_text c.kind) _ k1) o o-is in
    name-keeps c.name (first_of_both (is_name c.name) _ k) (spelled_kind c.kind n) (kind-keeps c.kind (first_of_both (is_kind_text c.kind) _ k1) n (nullable-keeps c.nullable d d-is))

key_words-keep : (primary unique : Bool) (n : List ℕ) → (if primary then is_empty n && unique else is_name n) ≡ true → Keeps (spelled_key_words primary unique) n
key_words-keep true unique n k more h = h
key_words-keep false true n k more h = name-keeps n k more h
key_words-keep false false n k more h = name-keeps n k more h

key-keeps : (key : KeyText) → is_key_text key ≡ true → Keeps spelled_key key
key-keeps key k more h =
    let k1 : (some_all is_name key.columns && is_ascii_text key.comment) ≡ true = second_of_both (is_key_name key) _ k in
    let about = spelled_comment key.comment more in
    let about-is : AreWritable (spelled_comment key.comment more) = comment-keeps key.comment (second_of_both (some_all is_name key.columns) _ k1) more h in
    key_words-keep key.primary key.unique key.name (first_of_both (is_key_name key) _ k) (spelled_names key.columns about) (names_in-keep key.columns (first_of_both (some_all is_name key.columns) _ k1) about about-is)

item-keeps-columns : (cs : List ColumnText) (xs : List TableItem) → list_all is_column_text cs ≡ true → Each (Keeps spelled_table_item) xs → Each (Keeps spelled_table_item) (map OfColumn cs ++ xs)
item-keeps-columns [] xs k i = i
item-keeps-columns (c ∷ cs) xs k i = (column-keeps c (first_of_both (is_column_text c) (list_all is_column_text cs) k), item-keeps-columns cs xs (second_of_both (is_column_text c) (list_all is_column_text cs) k) i)

item-keeps-keys : (ks : List KeyText) → list_all is_key_text ks ≡ true → Each (Keeps spelled_table_item) (map OfKey ks)
item-keeps-keys [] k = tt
item-keeps-keys (x ∷ xs) k = (key-keeps x (first_of_both (is_key_text x) (list_all is_key_text xs) k), item-keeps-keys xs (second_of_both (is_key_text x) (list_all is_key_text xs) k))

engine-keeps : (o : Option (List ℕ)) → where_given is_plain_word o ≡ true → Keeps spelled_engine o
engine-keeps None k more h = h
engine-keeps (Some w) k more h = both-true (is_plain_word w) (list_all is_writable more) k h

mild-keeps : (b : Bool) → Keeps spelled_if_not_exists b
mild-keeps true more h = h
mild-keeps false more h = h

create_table-writable : (text : TableText) (mild : Bool) (engine : Option (List ℕ)) → is_table_text text ≡ true → where_given is_plain_word engine ≡ true → AreWritable (spelled_create_table text mild engine)
create_table-writable text mild engine k w =
    let columns = list_all is_column_text text.columns in
    let keys = list_all is_key_text text.keys in
    let k1 : (columns && (keys && (not (is_empty text.columns && is_empty text.keys) && is_ascii_text text.comment))) ≡ true = second_of_both (is_name text.name) _ k in
    let k2 : (keys && (not (is_empty text.columns && is_empty text.keys) && is_ascii_text text.comment)) ≡ true = second_of_both columns _ k1 in
    let k3 : (not (is_empty text.columns && is_empty text.keys) && is_ascii_text text.comment) ≡ true = second_of_both keys _ k2 in
    let about = spelled_comment text.comment [] in
    let options = spelled_engine engine about in
    let about-is : AreWritable (spelled_comment text.comment []) = comment-keeps text.comment (second_of_both (not (is_empty text.columns && is_empty text.keys)) _ k3) [] refl in
    let options-are : AreWritable (spelled_engine engine (spelled_comment text.comment [])) = engine-keeps engine w about about-is in
    let items-are : AreWritable (spelled_list spelled_table_item (items_of text) (Mark (codes ")") ∷ spelled_engine engine (spelled_comment text.comment []))) =
    by-list (Mark (codes ",")) spelled_table_item (items_of text) refl (item-keeps-columns text.columns (map OfKey text.keys) (first_of_both columns _ k1) (item-keeps-keys text.keys (first_of_both keys _ k2))) (Mark (codes ")") ∷ options) options-are in
    mild-keeps mild (Name text.name ∷ Mark (codes "(") ∷ spelled_list spelled_table_item (items_of text) (Mark (codes ")") ∷ options))
    (name-keeps text.name (first_of_both (is_name text.name) _ k) (Mark (codes "(") ∷ spelled_list spelled_table_item (items_of text) (Mark (codes ")") ∷ options)) items-are)

-- ---- rows

item-keeps : (i : ItemValue) → is_item i ≡ true → Keeps spelled_item i
item-keeps items.Default k more h = h
item-keeps (items.Literal v) k more h = literal-keeps v k more h

tuple-keeps : (xs : List ItemValue) → some_all is_item xs ≡ true → Keeps spelled_tuple xs
tuple-keeps xs k more h = by-list (Mark (codes ",")) spelled_item xs refl (some-each (Keeps spelled_item) is_item item-keeps xs k) (Mark (codes ")") ∷ more) h

column_names-keep : (o : Option (List (List ℕ))) → where_given (some_all is_name) o ≡ true → Keeps (spelled_if spelled_names) o
column_names-keep None k more h = h
column_names-keep (Some ns) k more h = names_in-keep ns k more h

insert-writable : (i : Insert) → is_insert i ≡ true → AreWritable (spelled_insert i)
insert-writable i k =
    let k1 : (where_given (some_all is_name) i.columns && some_all (some_all is_item) i.rows) ≡ true = second_of_both (is_name i.table) _ k in
    let rows = Keyword (codes "values") ∷ spelled_list spelled_tuple i.rows [] in
    let rows-are : AreWritable (Keyword (codes "values") ∷ spelled_list spelled_tuple i.rows []) =
    by-list (Mark (codes ",")) spelled_tuple i.rows refl (some-each (Keeps spelled_tuple) (some_all is_item) tuple-keeps i.rows (second_of_both (where_given (some_all is_name) i.columns) _ k1)) [] refl in
    name-keeps i.table (first_of_both (is_name i.table) _ k) (spelled_if spelled_names i.columns rows) (column_names-keep i.columns (first_of_both (where_given (some_all is_name) i.columns) _ k1) rows rows-are)

factor-keeps : (f : Factor) → is_factor f ≡ true → Keeps spelled_factor f
factor-keeps (factors.Column n) k more h = name-keeps n k more h
factor-keeps (factors.Literal v) k more h = literal-keeps v k more h

product-keeps : (fs : List Factor) → some_all is_factor fs ≡ true → Keeps spelled_product fs
product-keeps fs k = by-list (Mark (codes "*")) spelled_factor fs refl (some-each (Keeps spelled_factor) is_factor factor-keeps fs k)

sign-writable : (minus : Bool) → is_writable (Mark (sign_of minus)) ≡ true
sign-writable true = refl
sign-writable false = refl

sum-keeps : (ts : List Term) → list_all is_term ts ≡ true → Keeps spelled_sum ts
sum-keeps [] k more h = h
sum-keeps (t ∷ []) k more h = product-keeps t.factors (first_of_both (is_term t) true k) more h
sum-keeps (t ∷ u ∷ us) k more h = product-keeps t.factors (first_of_both (is_term t) (list_all is_term (u ∷ us)) k) (Mark (sign_of u.minus) ∷ spelled_sum (u ∷ us) more)
    (both-true (is_writable (Mark (sign_of u.minus))) (list_all is_writable (spelled_sum (u ∷ us) more)) (sign-writable u.minus) (sum-keeps (u ∷ us) (second_of_both (is_term t) (list_all is_term (u ∷ us)) k) more h))

to-keeps : (to : SetTo) → is_set_to to ≡ true → Keeps spelled_to to
to-keeps sets.Default k more h = h
to-keeps (sets.Sum []) k more h = h
to-keeps (sets.Sum (t ∷ ts)) k more h = sum-keeps (t ∷ ts) k more h

set-keeps : (s : SetItem) → is_set s ≡ true → Keeps spelled_set s
set-keeps s k more h = name-keeps s.column (first_of_both (is_name s.column) (is_set_to s.to) k) (Mark (codes "=") ∷ spelled_to s.to more) (to-keeps s.to (second_of_both (is_name s.column) (is_set_to s.to) k) more h)

-- ---- conditions

abbrev Kept : Way → Type 0
Kept w = (more : List Part) → AreWritable more → AreWritable (w.parts more)

record AllKept (ws : Ways) : Type 0 where
  pub in_and : Kept ws.in_and
  pub in_or : Kept ws.in_or
  pub alone : Kept ws.alone
  pub negated : Kept ws.negated

kept-anywhere : (w v : Way) → Kept w → Kept v → AllKept (anywhere w v)
kept-anywhere w v i j = record { in_and = i; in_or = i; alone = i; negated = j }

kept-joined : (word : List ℕ) (ws : List Way) → is_writable (Keyword word) ≡ true → Each Kept ws → Kept (joined word ws)
kept-joined word ws k i = by-list (Keyword word) (λ w rest. w.parts rest) ws k i

kept-all : (ws : List Way) → Each Kept ws → AllKept (all_joined ws)
kept-all ws i = let j = kept-joined (codes "and") ws refl i in record { in_and = λ more h. j (Mark (codes ")") ∷ more) h; in_or = j; alone = j; negated = λ more h. j (Mark (codes ")") ∷ more) h }

kept-any : (ws : List Way) → Each Kept ws → AllKept (any_joined ws)
kept-any ws i = let j = kept-joined (codes "or") ws refl i in record { in_and = λ more h. j (Mark (codes ")") ∷ more) h; in_or = λ more h. j (Mark (codes ")") ∷ more) h; alone = j; negated = λ more h. j (Mark (codes ")") ∷ more) h }

sign-of-comparison : (c : Cmp) → is_writable (Mark (comparison_sign c)) ≡ true
sign-of-comparison cmp.Eq = refl
sign-of-comparison cmp.Ne = refl
sign-of-comparison cmp.Lt = refl
sign-of-comparison cmp.Le = refl
sign-of-comparison cmp.Gt = refl
sign-of-comparison cmp.Ge = refl

between-keeps : (a b : Value) → is_literal a ≡ true → is_literal b ≡ true → (more : List Part) → AreWritable more → AreWritable (spelled_between a b more)
between-keeps a b k l more h = literal-keeps a k (Keyword (codes "and") ∷ spelled_literal b more) (literal-keeps b l more h)

in-keeps : (vs : List Value) → some_all is_literal vs ≡ true → Keeps spelled_in vs
in-keeps vs k more h = by-list (Mark (codes ",")) spelled_literal vs refl (some-each (Keeps spelled_literal) is_literal literal-keeps vs k) (Mark (codes ")") ∷ more) h

abbrev Written_of : Expr → Type 0
Written_of x = is_condition x ≡ true → AllKept (ways x)

abbrev firsts : List ((x : Expr) × Written_of x) → List Expr
firsts xs = map (λ p. p.0) xs

kept-parts : (way_of : Ways → Way) → ((ws : Ways) → AllKept ws → Kept (way_of ws)) → (xs : List ((x : Expr) × Written_of x)) → list_all (λ b. b) (map is_condition (firsts xs)) ≡ true → Each Kept (map way_of (map ways (firsts xs)))
kept-parts way_of f [] k = tt
kept-parts way_of f (p ∷ ps) k = (f (ways p.0) (p.1 (first_of_both (is_condition p.0) (list_all (λ b. b) (map is_condition (firsts ps))) k)), kept-parts way_of f ps (second_of_both (is_condition p.0) (list_all (λ b. b) (map is_condition (firsts ps))) k))

of-layer : (x : Expr-F Expr) → (layer_is_grammatical (map-Expr Expr Bool is_condition x) ≡ true → AllKept (layer_ways (map-Expr Expr Ways ways x))) → Written_of (roll-Expr x)
of-layer x f k = subst AllKept (sym (fold-roll-Expr Ways layer_ways x)) (f (sym (fold-roll-Expr Bool layer_is_grammatical x) ∙ k))

layer-written : (y : Expr-F ((x : Expr) × Written_of x)) → Written_of (roll-Expr (map-Expr ((x : Expr) × Written_of x) Expr (λ p. p.0) y))
layer-written (Compare n c v) = of-layer (Compare n c v) (λ k.
    let i : Kept (compared n c v) = λ more h. name-keeps n (first_of_both (is_name n) (is_literal v) k) (Mark (comparison_sign c) ∷ spelled_literal v more)
    (both-true (is_writable (Mark (comparison_sign c))) (list_all is_writable (spelled_literal v more)) (sign-of-comparison c) (literal-keeps v (second_of_both (is_name n) (is_literal v) k) more h)) in
    kept-anywhere (compared n c v) (under_not (compared n c v)) i i)
layer-written (IsNull n) = of-layer (IsNull n) (λ k. kept-anywhere _ _ (λ more h. name-keeps n k (Keyword (codes "is") ∷ Keyword (codes "null") ∷ more) h) (λ more h. name-keeps n k (Keyword (codes "is") ∷ Keyword (codes "not") ∷ Keyword (codes "null") ∷ more) h))
layer-written (Between n a b) = of-layer (Between n a b) (λ k.
    let l : (is_literal a && is_literal b) ≡ true = second_of_both (is_name n) _ k in
    let i : (more : List Part) → AreWritable more → AreWritable (spelled_between a b more) = between-keeps a b (first_of_both (is_literal a) (is_literal b) l) (second_of_both (is_literal a) (is_literal b) l) in
    kept-anywhere _ _ (λ more h. name-keeps n (first_of_both (is_name n) _ k) (spelled_between a b more) (i more h)) (λ more h. name-keeps n (first_of_both (is_name n) _ k) (Keyword (codes "not") ∷ spelled_between a b more) (i more h)))
layer-written (OneOf n vs) = of-layer (OneOf n vs) (λ k.
    let i : Keeps spelled_in vs = in-keeps vs (second_of_both (is_name n) (some_all is_literal vs) k) in
    kept-anywhere _ _ (λ more h. name-keeps n (first_of_both (is_name n) (some_all is_literal vs) k) (spelled_in vs more) (i more h)) (λ more h. name-keeps n (first_of_both (is_name n) (some_all is_literal vs) k) (Keyword (codes "not") ∷ spelled_in vs more) (i more h)))
layer-written (Not p) = of-layer (Not p.0) (λ k. kept-anywhere (ways p.0).negated (under_not (ways p.0).negated) (p.1 k).negated (p.1 k).negated)
layer-written (And ps) = of-layer (And (firsts ps)) (λ k. kept-all (map (λ w. w.in_and) (map ways (firsts ps))) (kept-parts (λ w. w.in_and) (λ ws i. i.in_and) ps (second_of_both (nat_le 2 (length (map is_condition (firsts ps)))) _ k)))
layer-written (Or ps) = of-layer (Or (firsts ps)) (λ k. kept-any (map (λ w. w.in_or) (map ways (firsts ps))) (kept-parts (λ w. w.in_or) (λ ws i. i.in_or) ps (second_of_both (nat_le 2 (length (map is_condition (firsts ps)))) _ k)))

condition-kept : (x : Expr) → Written_of x
condition-kept = ind-Expr Written_of (λ x y is. subst (λ z. Written_of (roll-Expr z)) is (layer-written y))

where-keeps : (o : Option Expr) → where_given is_condition o ≡ true → Keeps spelled_where o
where-keeps None k more h = h
where-keeps (Some x) k more h = (condition-kept x k).alone more h

-- ---- SELECT

aggregate-keeps : (a : Aggregate) → is_aggregate a ≡ true → Keeps spelled_aggregate a
aggregate-keeps aggregates.Count k more h = h
aggregate-keeps (aggregates.Min n) k more h = name-keeps n k (Mark (codes ")") ∷ more) h
aggregate-keeps (aggregates.Max n) k more h = name-keeps n k (Mark (codes ")") ∷ more) h

columns-keep : (c : Columns) → is_list c ≡ true → Keeps spelled_columns c
columns-keep columns.All k more h = h
columns-keep (columns.Names ns) k more h = names-keep ns k more h
columns-keep (columns.Aggregates list) k more h = by-list (Mark (codes ",")) spelled_aggregate list refl (some-each (Keeps spelled_aggregate) is_aggregate aggregate-keeps list k) more h

forced-keeps : (o : Option IndexName) → where_given is_index_name o ≡ true → Keeps spelled_forced o
forced-keeps None k more h = h
forced-keeps (Some indexes.Primary) k more h = h
forced-keeps (Some (indexes.Name n)) k more h = name-keeps n k (Mark (codes ")") ∷ more) h

order_item-keeps : (o : OrderItem) → is_name o.column ≡ true → Keeps spelled_order_item o
order_item-keeps o k more h = name-keeps o.column k (Keyword (direction o.descending) ∷ more) (by o.descending)
  where
    by : (b : Bool) → AreWritable (Keyword (direction b) ∷ more)
    by false = h
    by true = h

order-keeps : (os : List OrderItem) → list_all (λ o. is_name o.column) os ≡ true → Keeps spelled_order os
order-keeps [] k more h = h
order-keeps (o ∷ os) k more h = by-list (Mark (codes ",")) spelled_order_item (o ∷ os) refl (each-of (Keeps spelled_order_item) (λ o. is_name o.column) order_item-keeps (o ∷ os) k) more h

count-of : (n : ℕ) → nat_le n (2 ^ 64 - 1) ≡ true → nat_le n greatest ≡ true
count-of n h = le-leb n greatest (omega (arith, leb-true n (2 ^ 64 - 1) h))

limit-writable : (skip : ℕ) (most : Option ℕ) → is_limited skip most ≡ true → AreWritable (spelled_limit skip most)
limit-writable skip None k = refl
limit-writable skip (Some most) k =
    both-true (nat_le most greatest) (list_all is_writable (Keyword (codes "offset") ∷ Count skip ∷ [])) (count-of most (second_of_both (nat_le skip (2 ^ 64 - 1)) (nat_le most (2 ^ 64 - 1)) k))
    (both-true (nat_le skip greatest) true (count-of skip (first_of_both (nat_le skip (2 ^ 64 - 1)) (nat_le most (2 ^ 64 - 1)) k)) refl)

ordered : (c : Columns) (s : Select) → is_ordered_well c s ≡ true → list_all (λ o. is_name o.column) s.order ≡ true
ordered columns.All s h = h
ordered (columns.Names ns) s h = h
ordered (columns.Aggregates list) s h = none-ordered s.order (first_of_both (is_empty s.order) _ h)
  where
    none-ordered : (os : List OrderItem) → is_empty os ≡ true → list_all (λ o. is_name o.column) os ≡ true
    none-ordered [] h = refl
    none-ordered (o ∷ os) h = absurd (true≢false (sym h))

select-writable : (s : Select) → is_select s ≡ true → is_limited s.skip s.most ≡ true → AreWritable (spelled_select s)
select-writable s k l =
    let k1 : (is_name s.table && (where_given is_index_name s.forced && (where_given is_condition s.condition && is_ordered_well s.columns s))) ≡ true = second_of_both (is_list s.columns) _ k in
    let k2 : (where_given is_index_name s.forced && (where_given is_condition s.condition && is_ordered_well s.columns s)) ≡ true = second_of_both (is_name s.table) _ k1 in
    let k3 : (where_given is_condition s.condition && is_ordered_well s.columns s) ≡ true = second_of_both (where_given is_index_name s.forced) _ k2 in
    let last = spelled_limit s.skip s.most in
    let rows = spelled_order s.order last in
    let test = spelled_where s.condition rows in
    let forced = spelled_forced s.forced test in
    let rows-are : AreWritable (spelled_order s.order (spelled_limit s.skip s.most)) = order-keeps s.order (ordered s.columns s (second_of_both (where_given is_condition s.condition) _ k3)) last (limit-writable s.skip s.most l) in
    let test-is : AreWritable (spelled_where s.condition (spelled_order s.order (spelled_limit s.skip s.most))) = where-keeps s.condition (first_of_both (where_given is_condition s.condition) _ k3) rows rows-are in
    let forced-is : AreWritable (spelled_forced s.forced (spelled_where s.condition (spelled_order s.order (spelled_limit s.skip s.most)))) = forced-keeps s.forced (first_of_both (where_given is_index_name s.forced) _ k2) test test-is in
    columns-keep s.columns (first_of_both (is_list s.columns) _ k) (Keyword (codes "from") ∷ Name s.table ∷ forced) (name-keeps s.table (first_of_both (is_name s.table) _ k1) forced forced-is)

-- ---- statements

lock-keeps : (n : List ℕ) → is_name n ≡ true → Keeps spelled_lock n
lock-keeps n k more h = name-keeps n k (Keyword (codes "read") ∷ more) h

count-units : (n : ℕ) → nat_le n 1000000 ≡ true → nat_le n greatest ≡ true
count-units n h = le-leb n greatest (omega (arith, leb-true n 1000000 h))

one-name : (n : List ℕ) → is_name n ≡ true → AreWritable (Name n ∷ [])
one-name n k = name-keeps n k [] refl

pub writable : (s : Statement) → is_statement s ≡ true → is_bounded s ≡ true → has_plain_engine s ≡ true → AreWritable (spelled_statement s)
writable (statements.CreateTable text mild engine) k b w = create_table-writable text mild engine (first_of_both (is_table_text text) _ k) w
writable (statements.DropTable table true) k b w = one-name table k
writable (statements.DropTable table false) k b w = one-name table k
writable (statements.CreateIndex table key) k b w = new_index-writable table key (first_of_both (is_name table) _ k) (second_of_both (is_name table) (is_secondary_text key) k)
writable (statements.DropIndex at) k b w = index_on-writable at k
writable (statements.BeginIndex table key) k b w = new_index-writable table key (first_of_both (is_name table) _ k) (second_of_both (is_name table) (is_secondary_text key) k)
writable (statements.FinishIndex at) k b w = index_on-writable at k
writable (statements.CancelIndex at) k b w = index_on-writable at k
writable (statements.Insert i) k b w = insert-writable i k
writable (statements.Replace i) k b w = insert-writable i k
writable (statements.Update table set o) k b w =
    let k1 : (some_all is_set set && where_given is_condition o) ≡ true = second_of_both (is_name table) _ k in
    name-keeps table (first_of_both (is_name table) _ k) (Keyword (codes "set") ∷ spelled_list spelled_set set (spelled_where o []))
    (by-list (Mark (codes ",")) spelled_set set refl (some-each (Keeps spelled_set) is_set set-keeps set (first_of_both (some_all is_set set) _ k1)) (spelled_where o []) (where-keeps o (second_of_both (some_all is_set set) _ k1) [] refl))
writable (statements.Delete table o) k b w = name-keeps table (first_of_both (is_name table) _ k) (spelled_where o []) (where-keeps o (second_of_both (is_name table) (where_given is_condition o) k) [] refl)
writable (statements.Select s) k b w = select-writable s k (second_of_both (is_nested s.condition) _ b)
writable (statements.Begin true) k b w = refl
writable (statements.Begin false) k b w = refl
writable statements.Commit k b w = refl
writable statements.Rollback k b w = refl
writable (statements.RollbackTo n) k b w = one-name n k
writable (statements.Savepoint n) k b w = one-name n k
writable (statements.Release n) k b w = one-name n k
writable (statements.Lock ns) k b w = by-list (Mark (codes ",")) spelled_lock ns refl (some-each (Keeps spelled_lock) is_name lock-keeps ns k) [] refl
writable statements.Unlock k b w = refl
writable (statements.Session n) k b w = one-name n k
writable statements.Disconnect k b w = refl
writable (statements.Work units) k b w = both-true (nat_le units greatest) true (count-units units k) refl
