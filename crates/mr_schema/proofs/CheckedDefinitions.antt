-- Definitions that the checks give have a form as bytes.
use Rattle.std.proofs.Common.{◌≡◌, ℕ, suc, ◌+◌, ◌<◌, ◌≤◌, List, [], ◌∷◌, ◌++◌, length, refl, ap, sym, ◌∙◌, arith, Bool, true, false, cond, ◌&&◌, nat_lt, nat_le, Option, Some, None, is_some, subst, Result, Ok, Err, IfOk, length-append}
use Rattle.std.specs.Prelude.{not, ⊤, ◌||◌, codes}
use Rattle.std.specs.List.{list_all, AllByRecursion}
use Rattle.std.specs.Option.{option_map_or}
use Rattle.std.proofs.lemmas.Bool.{ltb-false}
use Rattle.std.proofs.lemmas.Bool.Decides.{nat_tests}
use Rattle.mr_types.specs.declared.definition.ColumnDef.{ColumnDef}
use Rattle.mr_types.specs.declared.definition.IndexDef.{IndexDef}
use Rattle.mr_types.specs.declared.definition.Ttl.{Ttl}
use Rattle.mr_types.specs.declared.definition.TableDef.{TableDef}
use Rattle.mr_types.specs.declared.text.KeyText.{KeyText}
use Rattle.mr_types.specs.declared.text.TableText.{TableText}
use Rattle.mr_types.specs.Refusals.{◌>>=◌, ◌>>◌, refuse_where, some_or, in_turn}
use Rattle.mr_types.specs.Grammatical.{is_name as is_grammatical_name, is_ascii_text, is_column_text, is_key_text, is_key_name, is_table_text, is_secondary_text, some_all, is_empty}
use Rattle.mr_types.specs.Values.{same_name, same_bytes}
use Rattle.mr_spec.specs.ColumnChecks.{with_column, checked_columns}
use Rattle.mr_spec.specs.KeyChecks.{is_taken, has_repeat, width_of, places_of, checked_key, with_key, hidden_key, Keys}
use Rattle.mr_spec.specs.TtlOptions.{ttl_of}
use Rattle.mr_spec.specs.Checks.{check, check_key}
use Rattle.mr_spec.specs.Rows.{place_from}
use Rattle.mr_fields.specs.Fitting.{NameFits, TextFits}
use Rattle.mr_schema.specs.DefinitionForm.{ttl_said}
use Rattle.mr_schema.specs.DefinitionFitting.{ColumnFits, PlacesFit, PrimaryFits, KeyFits, DefinitionFits}
use Rattle.mr_schema.proofs.CheckedColumns.{then_if, after, both_true, name_fits, more_all, SoMany, in_turn_fits, columns_fit}

-- ---- places

here_or_later : (from count : ℕ) (same : Bool) (later : Option ℕ) → IfOk {E = ℕ} (some_or 1072 later) (λ place. place < (from + 1) + count) → IfOk {E = ℕ} (some_or 1072 (cond same (Some from) later)) (λ place. place < from + suc count)
here_or_later from count true later h = omega arith
here_or_later from count false None h = tt
here_or_later from count false (Some place) h = omega (arith, h)

-- a place that is found is one of a column
place_below : (name : List ℕ) (from : ℕ) (columns : List ColumnDef) → IfOk {E = ℕ} (some_or 1072 (place_from from name columns)) (λ place. place < from + length columns)
place_below name from [] = tt
place_below name from (c ∷ columns) = here_or_later from (length columns) (same_name c.name name) (place_from (from + 1) name columns) (place_below name (from + 1) columns)

pub record Places (limit count : ℕ) (places : List ℕ) : Type 0 where
  pub count_is : length places ≡ count
  pub each : AllByRecursion (λ place. place < limit) places

places_fit : (columns : List ColumnDef) (names : List (List ℕ)) → IfOk (places_of columns names) (Places (length columns) (length names))
places_fit columns [] = record { count_is = refl; each = tt }
places_fit columns (name ∷ names) =
    then_if (λ place. place < 0 + length columns) (Places (length columns) (suc (length names))) (some_or 1072 (place_from 0 name columns)) _ (place_below name 0 columns) (λ place below.
    then_if (Places (length columns) (length names)) (Places (length columns) (suc (length names))) (places_of columns names) (λ places. Ok (place ∷ places)) (places_fit columns names) (λ places are.
    record { count_is = ap suc are.count_is; each = (omega (arith, below), are.each) }))

-- ---- keys

either_false : (a b : Bool) → (a || b) ≡ false → (a ≡ false) × (b ≡ false)
either_false false b e = (refl, e)
either_false true b e = cc

-- what a key has that its text says
pub record Checked (limit : ℕ) (text : KeyText) (key : IndexDef) : Type 0 where
  pub name : key.name ≡ text.name
  pub unique : key.unique ≡ text.unique
  pub columns : PlacesFit limit key.columns
  pub comment : TextFits key.comment

text_fits : (comment : List ℕ) → is_ascii_text comment ≡ true → nat_lt 1024 (length comment) ≡ false → TextFits comment
text_fits comment low short = let most : length comment ≤ 1024 = ltb-false 1024 (length comment) short in record { short = omega (arith, most); is_text = low }

-- the checks of a key from one on, the last ones first
abbrev commented : KeyText → List ℕ → Result IndexDef ℕ
commented k places = refuse_where 1064 (nat_lt 1024 (length k.comment) || same_bytes k.comment (codes "__system__")) >> Ok (record { name = k.name; columns = places; unique = k.unique; comment = k.comment })

abbrev narrow : List ColumnDef → KeyText → List ℕ → Result IndexDef ℕ
narrow columns k places = refuse_where 1071 (nat_lt 767 (width_of columns places)) >> commented k places

abbrev once : List ColumnDef → KeyText → List ℕ → Result IndexDef ℕ
once columns k places = refuse_where 1060 (has_repeat places) >> narrow columns k places

abbrev placed : List ColumnDef → KeyText → Result IndexDef ℕ
placed columns k = places_of columns k.columns >>= once columns k

abbrev few : List ColumnDef → KeyText → Result IndexDef ℕ
few columns k = refuse_where 1070 (nat_lt 16 (length k.columns)) >> placed columns k

abbrev alone : List ColumnDef → Bool → KeyText → Result IndexDef ℕ
alone columns has_primary k = refuse_where 1068 (k.primary && has_primary) >> few columns k

abbrev free : List ColumnDef → Bool → List IndexDef → List (List ℕ) → KeyText → Result IndexDef ℕ
free columns has_primary secondary taken k = refuse_where 1061 (not k.primary && is_taken k.name taken secondary) >> alone columns has_primary k

key_checked : (columns : List ColumnDef) (has_primary : Bool) (secondary : List IndexDef) (taken : List (List ℕ)) (k : KeyText) → is_key_text k ≡ true → IfOk (checked_key columns has_primary secondary taken k) (λ d. Checked (length columns) k d × ((not k.primary && nat_le 16 (length secondary)) ≡ false))
key_checked columns has_primary secondary taken k e =
    let Q : IndexDef → Type 0 = λ d. Checked (length columns) k d × ((not k.primary && nat_le 16 (length secondary)) ≡ false) in
    let comment = (both_true (some_all is_grammatical_name k.columns) _ ((both_true (is_key_name k) _ e).1)).1 in
    after Q 1069 (not k.primary && nat_le 16 (length secondary)) (free columns has_primary secondary taken k) (λ room.
    after Q 1061 (not k.primary && is_taken k.name taken secondary) (alone columns has_primary k) (λ is_free.
    after Q 1068 (k.primary && has_primary) (few columns k) (λ is_alone.
    after Q 1070 (nat_lt 16 (length k.columns)) (placed columns k) (λ are_few.
    then_if (Places (length columns) (length k.columns)) Q (places_of columns k.columns) (once columns k) (places_fit columns k.columns) (λ places are.
    after Q 1060 (has_repeat places) (narrow columns k places) (λ is_once.
    after Q 1071 (nat_lt 767 (width_of columns places)) (commented k places) (λ is_narrow.
    after Q 1064 (nat_lt 1024 (length k.comment) || same_bytes k.comment (codes "__system__")) (Ok (record { name = k.name; columns = places; unique = k.unique; comment = k.comment })) (λ said.
    let at_most : length k.columns ≤ 16 = ltb-false 16 (length k.columns) are_few in (
      record {
        name = refl;
        unique = refl;
        columns = record { count = omega (arith, are.count_is, at_most); each = are.each };
        comment = text_fits k.comment comment ((either_false (nat_lt 1024 (length k.comment)) (same_bytes k.comment (codes "__system__")) said).0);
      },
      room,
    )))))))))

secondary_fits : (limit : ℕ) (k : KeyText) (d : IndexDef) → k.primary ≡ false → is_key_text k ≡ true → Checked limit k d → KeyFits limit d
secondary_fits limit k d primary e is =
    let named = (both_true (is_key_name k) _ e).0 in
    let name : is_grammatical_name k.name ≡ true = sym (ap (λ (b : Bool). cond b (is_empty k.name && k.unique) (is_grammatical_name k.name)) primary) ∙ named in
    record { name = subst NameFits (sym is.name) (name_fits k.name name); columns = is.columns; comment = is.comment }

empty_is : (xs : List ℕ) → is_empty xs ≡ true → xs ≡ []
empty_is [] e = refl
empty_is (x ∷ xs) e = cc

primary_fits : (limit : ℕ) (k : KeyText) (d : IndexDef) → k.primary ≡ true → is_key_text k ≡ true → Checked limit k d → PrimaryFits limit d
primary_fits limit k d primary e is =
    let named = (both_true (is_key_name k) _ e).0 in
    let parts = both_true (is_empty k.name) k.unique (sym (ap (λ (b : Bool). cond b (is_empty k.name && k.unique) (is_grammatical_name k.name)) primary) ∙ named) in
    record { no_name = is.name ∙ empty_is k.name parts.0; is_unique = is.unique ∙ parts.1; columns = is.columns; comment = is.comment }

abbrev PrimaryOr : ℕ → Option IndexDef → Type 0
PrimaryOr limit None = ⊤
PrimaryOr limit (Some d) = PrimaryFits limit d

-- the keys so far
pub record KeysFit (limit n : ℕ) (keys : Keys) : Type 0 where
  pub primary : PrimaryOr limit keys.primary
  pub count : length keys.secondary ≤ 16
  pub secondary : AllByRecursion (KeyFits limit) keys.secondary

below_16 : (n : ℕ) → nat_le 16 n ≡ false → n < 16
below_16 n e = grind (arith, nat_tests)

keys_fit : (columns : List ColumnDef) (texts : List KeyText) → list_all is_key_text texts ≡ true → IfOk (in_turn (with_key columns) (record { primary = None; secondary = [] }) texts) (KeysFit (length columns) (0 + length texts))
keys_fit columns texts e = in_turn_fits (KeysFit (length columns)) is_key_text (with_key columns) (λ n keys k are e.
    then_if (λ d. Checked (length columns) k d × ((not k.primary && nat_le 16 (length keys.secondary)) ≡ false)) (KeysFit (length columns) (suc n))
    (checked_key columns (is_some keys.primary) keys.secondary [] k) _ (key_checked columns (is_some keys.primary) keys.secondary [] k e) (λ d is.
    one_more n keys k d are e is.0 k.primary refl is.1)) 0 (record { primary = None; secondary = [] }) texts (record { primary = tt; count = omega arith; secondary = tt }) e
  where
    one_more : (n : ℕ) (keys : Keys) (k : KeyText) (d : IndexDef) → KeysFit (length columns) n keys → is_key_text k ≡ true → Checked (length columns) k d → (p : Bool) → k.primary ≡ p
        → (not k.primary && nat_le 16 (length keys.secondary)) ≡ false → KeysFit (length columns) (suc n) (cond k.primary (record keys { primary = Some d }) (record keys { secondary = keys.secondary ++ d ∷ [] }))
    one_more n keys k d are e is true p room = rw p (record { primary = primary_fits (length columns) k d p e is; count = are.count; secondary = are.secondary })
    one_more n keys k d are e is false p room =
        let free : nat_le 16 (length keys.secondary) ≡ false = sym (ap (λ (b : Bool). not b && nat_le 16 (length keys.secondary)) p) ∙ room in
        rw p (record {
          primary = are.primary;
          count = omega (arith, length-append keys.secondary (d ∷ []), below_16 (length keys.secondary) free);
          secondary = more_all (KeyFits (length columns)) keys.secondary d are.secondary (secondary_fits (length columns) k d p e is);
        })

primary_or_hidden : (limit : ℕ) (o : Option IndexDef) → PrimaryOr limit o → PrimaryFits limit (option_map_or (λ k. k) o hidden_key)
primary_or_hidden limit None h = record { no_name = refl; is_unique = refl; columns = record { count = omega arith; each = tt }; comment = record { short = omega arith; is_text = refl } }
primary_or_hidden limit (Some d) h = h

-- ---- definitions

-- the comment is short, and says this TTL
pub record Said (columns : List ColumnDef) (comment : List ℕ) (ttl : Option Ttl) : Type 0 where
  pub short : nat_lt 1024 (length comment) ≡ false
  pub says : ttl_said columns comment ≡ Ok ttl

ttl_fits : (columns : List ColumnDef) (comment : List ℕ) → IfOk (ttl_of columns comment) (Said columns comment)
ttl_fits columns comment = after (Said columns comment) 1064 (nat_lt 1024 (length comment)) _ (λ short. as_said short (ttl_said columns comment) refl)
  where
    as_said : nat_lt 1024 (length comment) ≡ false → (r : Result (Option Ttl) ℕ) → ttl_said columns comment ≡ r → IfOk r (Said columns comment)
    as_said short (Ok ttl) e = record { short = short; says = e }
    as_said short (Err code) e = tt

-- the columns of a text, at most 64
text_columns_fit : (text : TableText) → list_all is_column_text text.columns ≡ true → IfOk (checked_columns text) (λ columns. (length columns ≤ 64) × AllByRecursion ColumnFits columns)
text_columns_fit text e =
    after (λ columns. (length columns ≤ 64) × AllByRecursion ColumnFits columns) 1117 (nat_lt 64 (length text.columns)) _ (λ few.
    counted (in_turn (with_column text.keys) [] text.columns) (ltb-false 64 (length text.columns) few) (columns_fit text.keys text.columns e))
  where
    counted : (r : Result (List ColumnDef) ℕ) → length text.columns ≤ 64 → IfOk r (SoMany (0 + length text.columns)) → IfOk r (λ columns. (length columns ≤ 64) × AllByRecursion ColumnFits columns)
    counted (Ok columns) few are = (omega (arith, are.count, few), are.all)
    counted (Err code) few are = tt

definition_fits : (text : TableText) → is_table_text text ≡ true → IfOk (check text) DefinitionFits
definition_fits text e =
    let name = both_true (is_grammatical_name text.name) _ e in
    let columns_text = both_true (list_all is_column_text text.columns) _ name.1 in
    let keys_text = both_true (list_all is_key_text text.keys) _ columns_text.1 in
    let low = (both_true (not (is_empty text.columns && is_empty text.keys)) _ keys_text.1).1 in
    then_if (λ columns. (length columns ≤ 64) × AllByRecursion ColumnFits columns) DefinitionFits (checked_columns text) _ (text_columns_fit text columns_text.0) (λ columns columns_are.
    then_if (KeysFit (length columns) (0 + length text.keys)) DefinitionFits (in_turn (with_key columns) (record { primary = None; secondary = [] }) text.keys) _ (keys_fit columns text.keys keys_text.0) (λ keys keys_are.
    then_if (Said columns text.comment) DefinitionFits (ttl_of columns text.comment) _ (ttl_fits columns text.comment) (λ ttl said.
    record {
      name = name_fits text.name name.0;
      column_count = omega (arith, columns_are.0);
      columns = columns_are.1;
      primary = primary_or_hidden (length columns) keys.primary keys_are.primary;
      key_count = omega (arith, keys_are.count);
      secondary = keys_are.secondary;
      comment = text_fits text.comment low said.short;
      ttl = said.says;
    })))

of_answer : {A : Type 0} (P : A → Type 0) (r : Result A ℕ) (x : A) → IfOk r P → r ≡ Ok x → P x
of_answer P r x h e = subst (λ (y : Result _ ℕ). IfOk y P) e h

pub checked_fits : (text : TableText) (def : TableDef) → is_table_text text ≡ true → check text ≡ Ok def → DefinitionFits def
checked_fits text def e is = of_answer DefinitionFits (check text) def (definition_fits text e) is

pub checked_key_fits : (def : TableDef) (taken : List (List ℕ)) (text : KeyText) (key : IndexDef) → is_secondary_text text ≡ true → check_key def taken text ≡ Ok key → KeyFits (length def.columns) key
checked_key_fits def taken text key e is =
    let parts = both_true (not text.primary) (is_key_text text) e in
    secondary_fits (length def.columns) text key (is_false text.primary parts.0) parts.1 (of_answer _ (check_key def taken text) key (key_checked def.columns true def.secondary taken text parts.1) is).0
  where
    is_false : (b : Bool) → not b ≡ true → b ≡ false
    is_false true e = cc
    is_false false e = refl
