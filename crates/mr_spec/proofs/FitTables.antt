-- CREATE TABLE fits.
use Rattle.std.proofs.Common.{◌≡◌, ℕ, zero, suc, ◌+◌, ◌^◌, ◌≤◌, List, [], ◌∷◌, ◌++◌, true, false, Bool, not, ◌&&◌, length, map, arith, refl, ap, ◌∙◌, Option, Some, None, if◌then◌else◌, nat_lt}
use Rattle.std.specs.List.{list_all}
use Rattle.std.proofs.lemmas.Bool.{lt-ltb, leb-true}
use Rattle.mr_pieces.specs.declared.collation.Collation.{Collation}
use Rattle.mr_pieces.specs.declared.collation.Collation.TheVariants.{Bin, Ci}
use Rattle.mr_types.specs.declared.kind.KindText.{KindText}
use Rattle.mr_types.specs.declared.kind.KindText.TheVariants as kinds
use Rattle.mr_types.specs.declared.text.ColumnText.{ColumnText}
use Rattle.mr_types.specs.declared.text.KeyText.{KeyText}
use Rattle.mr_types.specs.declared.statement.Statement.TheVariants as statements
use Rattle.mr_types.specs.Grammatical.{is_name, is_literal, is_kind_text, is_column_text, is_key_text, is_grammatical, is_ascii_text, is_empty, some_all, where_given}
use Rattle.mr_types.specs.Sizes.{name_size, names_size, literal_size, column_size, key_size, statement_size, if_given, summed}
use Rattle.mr_spec.specs.declared.drafts.Attributes.{Attributes}
use Rattle.mr_spec.specs.declared.drafts.ColumnDraft.{ColumnDraft}
use Rattle.mr_spec.specs.declared.drafts.TableDraft.{TableDraft}
use Rattle.mr_spec.specs.declared.drafts.TableOptions.{TableOptions}
use Rattle.mr_spec.specs.Phrases.{Phrase, pure}
use Rattle.mr_spec.specs.Literals.{greatest}
use Rattle.mr_spec.specs.TablePhrases as t
use Rattle.mr_spec.proofs.Fitting.{From, bind, pass, given, none, either, eaten, eaten_sign, expected, checked, maybe_sign-fits, keyword_mark, in_parentheses-fits, by_sight, wide, as_well, both, first_holds, second_holds, always, nothing, last_keyword, all-more, size-more, demanded}
use Rattle.mr_spec.proofs.FitTokens.{name-fits, literal-fits, word-fits, text-fits, is_engine, number-fits, below_most}
use Rattle.mr_spec.proofs.FitRows.{names_in-fits}

collation-fits : From always nothing 0 t.collation
unfolding t.collation
collation-fits = eaten _ (given Bin refl (omega arith)) (expected _ _ (given Ci refl (omega arith)))

set_ascii-fits : From always nothing 0 t.set_ascii
unfolding t.set_ascii
set_ascii-fits = expected _ _ (wide (omega arith) (last_keyword _))

-- ---- keys

key_word-fits : From always nothing 0 t.key_word
unfolding t.key_word
key_word-fits = eaten _ (given true refl (omega arith)) (keyword_mark _)

pub comment-fits : From is_ascii_text length 0 t.comment
unfolding t.comment
comment-fits = eaten _ (wide (omega arith) (as_well (λ x e. e) (λ x. omega arith) text-fits)) (given [] refl (omega arith))

pub named_key-fits : (unique : Bool) → From is_key_text key_size 0 (t.named_key unique)
unfolding t.named_key
named_key-fits unique = bind name-fits (λ n a. bind names_in-fits (λ cs b. bind comment-fits (λ c d.
    given (record { name = n; primary = false; unique = unique; columns = cs; comment = c }) (both a (both b d)) (omega arith))))

name_has_bytes : (x : List ℕ) → is_name x ≡ true → 1 ≤ length x
name_has_bytes x h = leb-true 1 (length x) (first_holds (nat_lt 0 (length x)) _ h)

-- a primary key is counted by its columns' number alone
few_names : (xs : List (List ℕ)) → list_all is_name xs ≡ true → length xs ≤ names_size xs
few_names [] h = omega arith
few_names (x ∷ xs) h = omega (arith, few_names xs (second_holds (is_name x) (list_all is_name xs) h), name_has_bytes x (first_holds (is_name x) (list_all is_name xs) h))

few_some : (xs : List (List ℕ)) → some_all is_name xs ≡ true → length xs ≤ names_size xs
few_some [] h = omega arith
few_some (x ∷ xs) h = few_names (x ∷ xs) h

primary_key-fits : From is_key_text key_size 0 t.primary_key
unfolding t.primary_key
primary_key-fits = expected _ _ (bind names_in-fits (λ cs a. bind comment-fits (λ c b. given (t.primary_of cs c) (both refl (both a b)) (omega (arith, few_some cs a)))))

-- ---- types

display_width-fits : From always nothing 0 t.display_width
unfolding t.display_width
display_width-fits = by_sight _ (bind (in_parentheses-fits _ _ (number-fits 1 255)) (λ n e. given tt refl (omega arith))) (given tt refl (omega arith))

number_type-fits : (signed unsigned : KindText) → is_kind_text signed ≡ true → is_kind_text unsigned ≡ true → From is_kind_text nothing 0 (t.number_type signed unsigned)
unfolding t.number_type
number_type-fits signed unsigned a b = bind display_width-fits (λ u e. eaten _ (given unsigned b (omega arith)) (given signed a (omega arith)))

small : (n : ℕ) → n ≤ greatest → nat_lt n (2 ^ 127) ≡ true
small n h = lt-ltb n (2 ^ 127) (omega (arith, h))

column_type-fits : From is_kind_text nothing 0 t.column_type
unfolding t.column_type
column_type-fits = eaten _ (wide (omega arith) (number_type-fits kinds.Int kinds.IntUnsigned refl refl)) (eaten _ (wide (omega arith) (number_type-fits kinds.Int kinds.IntUnsigned refl refl))
    (eaten _ (wide (omega arith) (number_type-fits kinds.BigInt kinds.BigIntUnsigned refl refl))
    (eaten _ (bind (in_parentheses-fits _ _ (number-fits 0 greatest)) (λ n e. given (kinds.VarChar n Ci) (small n (below_most greatest n e)) (omega arith)))
    (expected _ _ (bind (in_parentheses-fits _ _ (number-fits 0 greatest)) (λ n e. given (kinds.VarBinary n) (small n (below_most greatest n e)) (omega arith)))))))

kept_kind : (c : Collation) (k : KindText) → is_kind_text (t.with_collation c k) ≡ is_kind_text k
kept_kind c kinds.Int = refl
kept_kind c kinds.IntUnsigned = refl
kept_kind c kinds.BigInt = refl
kept_kind c kinds.BigIntUnsigned = refl
kept_kind c (kinds.VarChar n old) = refl
kept_kind c (kinds.VarBinary n) = refl

-- ---- attributes

abbrev one_where : Bool → ℕ
one_where b = if b then 1 else 0

abbrev is_attributes : Attributes → Bool
is_attributes a = where_given is_literal a.default

abbrev attributes_size : Attributes → ℕ
attributes_size a = if_given literal_size a.default + one_where a.primary

more-fits : {A : Type 0} {ok : A → Bool} {size : A → ℕ} {m before : ℕ} {p : Phrase A} → From ok size m p → m ≤ before → From (λ q. ok q.0) (λ q. size q.0) before (t.with_more p)
more-fits g le = pass g le (λ x e. given (x, true) e (omega arith))

module _ (a : Attributes) (h : is_attributes a ≡ true) where
  nullable-fits : (b : Bool) → From is_attributes attributes_size (attributes_size a) (t.with_nullable a b)
  unfolding t.with_nullable
  nullable-fits b = checked _ _ (λ e. given (record a { nullable = Some b }) h (omega arith))

  default-fits : From is_attributes attributes_size (attributes_size a) (t.with_default a)
  unfolding t.with_default
  default-fits = checked _ _ (λ e. bind literal-fits (λ v k. given (record a { default = Some v }) k (omega arith)))

  charset-fits : From is_attributes attributes_size (attributes_size a) (t.with_charset a)
  unfolding t.with_charset
  charset-fits = checked _ _ (λ e. bind set_ascii-fits (λ u k. given (record a { charset = true }) h (omega arith)))

  column_collation-fits : From is_attributes attributes_size (attributes_size a) (t.with_column_collation a)
  unfolding t.with_column_collation
  column_collation-fits = checked _ _ (λ e. bind collation-fits (λ c k. given (record a { collation = Some c }) h (omega arith)))

  primary-fits : From is_attributes attributes_size (attributes_size a) (t.with_primary a)
  unfolding t.with_primary
  primary-fits = checked _ _ (λ e. expected _ _ (given (record a { primary = true }) h (omega arith)))

  column_comment-fits : From is_attributes attributes_size (attributes_size a) (t.with_column_comment a)
  unfolding t.with_column_comment
  column_comment-fits = checked _ _ (λ e. bind text-fits (λ c k. given (record a { comment = true }) h (omega arith)))

  text_attribute-fits : From (λ q. is_attributes q.0) (λ q. attributes_size q.0) (attributes_size a) (t.text_attribute a)
  unfolding t.text_attribute
  text_attribute-fits = eaten _ (more-fits charset-fits (omega arith)) (eaten _ (more-fits column_collation-fits (omega arith))
      (eaten _ (more-fits column_comment-fits (omega arith)) (given (a, false) h (omega arith))))

  attribute-fits : From (λ q. is_attributes q.0) (λ q. attributes_size q.0) (attributes_size a) (t.attribute a)
  unfolding t.attribute
  attribute-fits = eaten _ (expected _ _ (more-fits (nullable-fits false) (omega arith))) (eaten _ (more-fits (nullable-fits true) (omega arith))
      (eaten _ (more-fits default-fits (omega arith)) (eaten _ (more-fits primary-fits (omega arith)) text_attribute-fits)))

attributes_from-fits : (n : ℕ) (a : Attributes) → is_attributes a ≡ true → From is_attributes attributes_size (attributes_size a) (t.attributes_from n a)
unfolding t.attributes_from
attributes_from-fits zero a h = given a h (omega arith)
attributes_from-fits (suc n) a h = pass (attribute-fits a h) (omega arith) (λ next e. either next.1 (attributes_from-fits n next.0 e) (given next.0 e (omega arith)))

attributes-fits : From is_attributes attributes_size 0 t.attributes
attributes-fits = record { good = λ ts h. (attributes_from-fits (length ts) t.no_attributes refl).good ts h }

-- ---- columns and keys

abbrev is_draft : TableDraft → Bool
is_draft d = list_all (λ c. is_column_text c.text) d.columns && list_all is_key_text d.keys

abbrev has_items : TableDraft → Bool
has_items d = not (is_empty d.columns && is_empty d.keys)

abbrev draft_size : TableDraft → ℕ
draft_size d = summed (λ c. column_size c.text) d.columns + summed key_size d.keys

abbrev is_full : TableDraft → Bool
is_full d = is_draft d && has_items d

not_empty : {A : Type 0} (xs : List A) (x : A) (b : Bool) → not (is_empty (xs ++ x ∷ []) && b) ≡ true
not_empty [] x b = refl
not_empty (y ∷ ys) x b = refl

not_empty_behind : {A : Type 0} (b : Bool) (xs : List A) (x : A) → not (b && is_empty (xs ++ x ∷ [])) ≡ true
not_empty_behind true [] x = refl
not_empty_behind true (y ∷ ys) x = refl
not_empty_behind false xs x = refl

module _ (d : TableDraft) (h : is_draft d ≡ true) where
  columns-held : list_all (λ c. is_column_text c.text) d.columns ≡ true
  columns-held = first_holds (list_all (λ c. is_column_text c.text) d.columns) (list_all is_key_text d.keys) h

  keys-held : list_all is_key_text d.keys ≡ true
  keys-held = second_holds (list_all (λ c. is_column_text c.text) d.columns) (list_all is_key_text d.keys) h

  key-held : {before : ℕ} (key : KeyText) → is_key_text key ≡ true → draft_size d + key_size key ≤ before → From is_full draft_size before (pure (t.with_key d key))
  key-held key k le = given (t.with_key d key) (both (both columns-held (all-more is_key_text key_size d.keys key keys-held k)) (not_empty_behind (is_empty d.columns) d.keys key))
      (omega (arith, size-more is_key_text key_size d.keys key, le))

  column-held : {before : ℕ} (c : ColumnDraft) (called : List ℕ) (primary : Bool) → is_column_text c.text ≡ true → is_name called ≡ true → (draft_size d + column_size c.text) + one_where primary ≤ before
      → From is_full draft_size before (pure (t.with_column_key (t.with_column d c) (t.key_name called primary)))
  column-held c called false k n le = given (t.with_column d c) (both (both (all-more (λ c. is_column_text c.text) (λ c. column_size c.text) d.columns c columns-held k) keys-held) (not_empty d.columns c (is_empty d.keys)))
      (omega (arith, size-more (λ c. is_column_text c.text) (λ c. column_size c.text) d.columns c, le))
  column-held c called true k n le = given (t.with_key (t.with_column d c) (t.primary_of (called ∷ []) []))
      (both (both (all-more (λ c. is_column_text c.text) (λ c. column_size c.text) d.columns c columns-held k) (all-more is_key_text key_size d.keys (t.primary_of (called ∷ []) []) keys-held (both refl (both (both n refl) refl))))
      (not_empty d.columns c (is_empty (d.keys ++ t.primary_of (called ∷ []) [] ∷ []))))
      (omega (arith, size-more (λ c. is_column_text c.text) (λ c. column_size c.text) d.columns c, size-more is_key_text key_size d.keys (t.primary_of (called ∷ []) []), le))

  column-fits : From is_full draft_size (draft_size d) (t.column d)
  unfolding t.column
  column-fits = bind name-fits (λ called n. bind column_type-fits (λ kind k. bind attributes-fits (λ a b. checked _ _ (λ e.
      column-held (t.column_of called kind a) called a.primary (both n (both (kept_kind (t.or_ci a.collation) kind ∙ k) b)) n (omega arith)))))

  item-fits : From is_full draft_size (draft_size d) (t.item d)
  unfolding t.item
  item-fits = eaten _ (bind primary_key-fits (λ key k. key-held key k (omega arith)))
      (eaten _ (bind key_word-fits (λ b u. bind (named_key-fits true) (λ key k. key-held key k (omega arith))))
      (bind key_word-fits (λ b u. either b (bind (named_key-fits false) (λ key k. key-held key k (omega arith))) (wide (omega arith) column-fits))))

items_from-fits : (n : ℕ) (d : TableDraft) → is_draft d ≡ true → From is_full draft_size (draft_size d) (t.items_from n d)
unfolding t.items_from
items_from-fits zero d h = none
items_from-fits (suc n) d h = pass (item-fits d h) (omega arith) (λ longer e. eaten_sign _ (wide (omega arith) (items_from-fits n longer (first_holds (is_draft longer) (has_items longer) e))) (given longer e (omega arith)))

items-fits : From is_full draft_size 0 t.items
items-fits = record { good = λ ts h. (items_from-fits (length ts) t.no_items refl).good ts h }

-- ---- options

abbrev is_options : TableOptions → Bool
is_options o = where_given is_engine o.engine && where_given is_ascii_text o.comment

abbrev options_size : TableOptions → ℕ
options_size o = if_given name_size o.engine + if_given length o.comment

module _ (o : TableOptions) (h : is_options o ≡ true) where
  engine-held : where_given is_engine o.engine ≡ true
  engine-held = first_holds (where_given is_engine o.engine) (where_given is_ascii_text o.comment) h

  comment-held : where_given is_ascii_text o.comment ≡ true
  comment-held = second_holds (where_given is_engine o.engine) (where_given is_ascii_text o.comment) h

  engine-fits : From is_options options_size (options_size o) (t.with_engine o)
  unfolding t.with_engine
  engine-fits = checked _ _ (λ e. bind (maybe_sign-fits _) (λ b u. bind word-fits (λ w k. given (record o { engine = Some w }) (both k comment-held) (omega arith))))

  table_comment-fits : From is_options options_size (options_size o) (t.with_table_comment o)
  unfolding t.with_table_comment
  table_comment-fits = checked _ _ (λ e. bind (maybe_sign-fits _) (λ b u. bind text-fits (λ x k. given (record o { comment = Some x }) (both engine-held k) (omega arith))))

  table_charset-fits : From is_options options_size (options_size o) (t.with_table_charset o)
  unfolding t.with_table_charset
  table_charset-fits = checked _ _ (λ e. bind (maybe_sign-fits _) (λ b u. expected _ _ (given (record o { charset = true }) h (omega arith))))

  table_collation-fits : From is_options options_size (options_size o) (t.with_table_collation o)
  unfolding t.with_table_collation
  table_collation-fits = checked _ _ (λ e. bind (maybe_sign-fits _) (λ b u. bind collation-fits (λ c k. given (record o { collation = Some c }) h (omega arith))))

  abbrev OptionFits : Phrase (TableOptions × Bool) → Type 0
  OptionFits p = From (λ q. is_options q.0) (λ q. options_size q.0) (options_size o) p

  text_option-fits : OptionFits (t.text_option o)
  unfolding t.text_option
  text_option-fits = eaten _ (more-fits table_charset-fits (omega arith)) (eaten _ (expected _ _ (more-fits table_charset-fits (omega arith)))
      (eaten _ (more-fits table_collation-fits (omega arith)) (given (o, false) h (omega arith))))

  plain_option-fits : OptionFits (t.plain_option o)
  unfolding t.plain_option
  plain_option-fits = eaten _ (more-fits engine-fits (omega arith)) (eaten _ (more-fits table_comment-fits (omega arith))
      (eaten _ (pass text_option-fits (omega arith) (λ next e. demanded next e)) text_option-fits))

  option-fits : OptionFits (t.option o)
  unfolding t.option
  option-fits = eaten_sign _ (pass plain_option-fits (omega arith) (λ next e. demanded next e)) plain_option-fits

options_from-fits : (n : ℕ) (o : TableOptions) → is_options o ≡ true → From is_options options_size (options_size o) (t.options_from n o)
unfolding t.options_from
options_from-fits zero o h = given o h (omega arith)
options_from-fits (suc n) o h = pass (option-fits o h) (omega arith) (λ next e. either next.1 (options_from-fits n next.0 e) (given next.0 e (omega arith)))

options-fits : From is_options options_size 0 t.options
options-fits = record { good = λ ts h. (options_from-fits (length ts) t.no_options refl).good ts h }

-- ---- CREATE TABLE

if_not_exists-fits : From always nothing 0 t.if_not_exists
unfolding t.if_not_exists
if_not_exists-fits = eaten _ (bind (expected _ _ (wide (omega arith) (last_keyword _))) (λ u e. given true refl (omega arith))) (given false refl (omega arith))

closed-ok : (c : Collation) (x : ColumnText) (b : Bool) → is_column_text (if b then record x { kind = t.with_collation c x.kind } else x) ≡ is_column_text x
closed-ok c x true = ap (λ k. is_name x.name && (k && where_given is_literal x.default)) (kept_kind c x.kind)
closed-ok c x false = refl

closed-size : (c : Collation) (x : ColumnText) (b : Bool) → column_size (if b then record x { kind = t.with_collation c x.kind } else x) ≡ column_size x
closed-size c x true = refl
closed-size c x false = refl

columns-closed : (c : Collation) (xs : List ColumnDraft) → list_all is_column_text (map (t.closed c) xs) ≡ list_all (λ x. is_column_text x.text) xs
columns-closed c [] = refl
columns-closed c (x ∷ xs) = rw (closed-ok c x.text x.of_table, columns-closed c xs) refl

sizes-closed : (c : Collation) (xs : List ColumnDraft) → summed column_size (map (t.closed c) xs) ≡ summed (λ x. column_size x.text) xs
sizes-closed c [] = refl
sizes-closed c (x ∷ xs) = rw (closed-size c x.text x.of_table, sizes-closed c xs) refl

empty-closed : (c : Collation) (xs : List ColumnDraft) → is_empty (map (t.closed c) xs) ≡ is_empty xs
empty-closed c [] = refl
empty-closed c (x ∷ xs) = refl

comment-or-empty : (o : Option (List ℕ)) → where_given is_ascii_text o ≡ true → is_ascii_text (t.or_empty o) ≡ true
comment-or-empty None h = refl
comment-or-empty (Some x) h = h

size-or-empty : (o : Option (List ℕ)) → length (t.or_empty o) ≡ if_given length o
size-or-empty None = refl
size-or-empty (Some x) = refl

table-held : {before : ℕ} (called : List ℕ) (d : TableDraft) (o : TableOptions) (mild : Bool) → is_name called ≡ true → is_full d ≡ true → is_options o ≡ true
    → (length called + draft_size d) + options_size o ≤ before → From is_grammatical statement_size before (pure (statements.CreateTable (t.table_of called d o) mild o.engine))
table-held called d o mild n f p le =
    let c = t.or_ci o.collation in
    let h = first_holds (is_draft d) (has_items d) f in
    given (statements.CreateTable (t.table_of called d o) mild o.engine)
    (both (both n (both (columns-closed c d.columns ∙ columns-held d h) (both (keys-held d h)
    (both (ap (λ b. not (b && is_empty d.keys)) (empty-closed c d.columns) ∙ second_holds (is_draft d) (has_items d) f) (comment-or-empty o.comment (comment-held o p)))))) (engine-held o p))
    (omega (arith, sizes-closed c d.columns, size-or-empty o.comment, le))

pub create_table-fits : From is_grammatical statement_size 0 t.create_table
unfolding t.create_table
create_table-fits = bind if_not_exists-fits (λ mild u. bind name-fits (λ called n. bind (in_parentheses-fits _ _ items-fits) (λ draft f. bind options-fits (λ o p. table-held called draft o mild n f p (omega arith)))))
