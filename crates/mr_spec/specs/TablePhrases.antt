--   create_table := CREATE TABLE [IF NOT EXISTS] name ( item {, item} ) {[,] option}
--   item    := name type {attribute}
--            | PRIMARY KEY ( names ) [COMMENT text]
--            | (KEY | INDEX | UNIQUE [KEY | INDEX]) name ( names ) [COMMENT text]
--   type    := (INT | INTEGER | BIGINT) [( number )] [UNSIGNED] | VARCHAR ( number ) | VARBINARY ( number )
--   attribute := NOT NULL | NULL | DEFAULT literal | CHARACTER SET ascii | COLLATE collation | PRIMARY KEY | COMMENT text
--   option  := ENGINE [=] word | [DEFAULT] (CHARSET | CHARACTER SET) [=] ascii
--            | [DEFAULT] COLLATE [=] collation | COMMENT [=] text
--   collation := ascii_bin | ascii_general_ci
-- Attributes and options stand in any order, each once. A display width is 1 to 255.
use Rattle.std.specs.Prelude.{ℕ, zero, suc, Bool, true, false, not, ◌&&◌, ◌||◌, if◌then◌else◌, List, [], ◌∷◌, ◌++◌, length, map, Option, Some, None, codes, is_none}
use Rattle.mr_pieces.specs.declared.collation.Collation.{Collation}
use Rattle.mr_pieces.specs.declared.collation.Collation.TheVariants.{Bin, Ci}
use Rattle.mr_types.specs.declared.kind.KindText.{KindText}
use Rattle.mr_types.specs.declared.kind.KindText.TheVariants as kinds
use Rattle.mr_types.specs.declared.text.ColumnText.{ColumnText}
use Rattle.mr_types.specs.declared.text.KeyText.{KeyText}
use Rattle.mr_types.specs.declared.text.TableText.{TableText}
use Rattle.mr_types.specs.declared.statement.Statement.{Statement}
use Rattle.mr_types.specs.declared.statement.Statement.TheVariants as statements
use Rattle.mr_spec.specs.declared.drafts.Attributes.{Attributes}
use Rattle.mr_spec.specs.declared.drafts.ColumnDraft.{ColumnDraft}
use Rattle.mr_spec.specs.declared.drafts.TableDraft.{TableDraft}
use Rattle.mr_spec.specs.declared.drafts.TableOptions.{TableOptions}
use Rattle.mr_spec.specs.Phrases.{Phrase, ◌>>=◌, ◌>>◌, ◌<$>◌, pure, refuse, check, sees_sign, eat, maybe_sign, expect, comma, name, names_in, word, text, number, in_parentheses}
use Rattle.mr_spec.specs.Literals.{literal, any_number}

unfoldable pub collation : Phrase Collation
collation = do
  is_bin ← eat (codes "ascii_bin")
  if is_bin then pure Bin else expect (codes "ascii_general_ci") >> pure Ci

-- CHARACTER SET ascii, behind CHARACTER
unfoldable pub set_ascii : Phrase (Unit {0})
set_ascii = expect (codes "set") >> expect (codes "ascii")

-- ---- keys

-- KEY | INDEX, if one of them comes next
unfoldable pub key_word : Phrase Bool
key_word = do
  is_key ← eat (codes "key")
  if is_key then pure true else eat (codes "index")

-- [COMMENT text]
unfoldable pub comment : Phrase (List ℕ)
comment = do
  found ← eat (codes "comment")
  if found then text else pure []

-- name ( names ) [COMMENT text]
unfoldable pub named_key : Bool → Phrase KeyText
named_key unique = do
  called ← name
  columns ← names_in
  about ← comment
  pure (record { name = called; primary = false; unique = unique; columns = columns; comment = about })

abbrev pub primary_of : List (List ℕ) → List ℕ → KeyText
primary_of columns about = record { name = []; primary = true; unique = true; columns = columns; comment = about }

-- KEY ( names ) [COMMENT text], behind PRIMARY
unfoldable pub primary_key : Phrase KeyText
primary_key = do
  expect (codes "key")
  columns ← names_in
  about ← comment
  pure (primary_of columns about)

-- ---- types

-- [( number )]
unfoldable pub display_width : Phrase (Unit {0})
display_width = λ ts. if sees_sign (codes "(") ts then (in_parentheses (number 1 255) >> pure tt) ts else pure tt ts

-- [( number )] [UNSIGNED], behind INT or BIGINT
unfoldable pub number_type : KindText → KindText → Phrase KindText
number_type signed unsigned = do
  display_width
  is_unsigned ← eat (codes "unsigned")
  if is_unsigned then pure unsigned else pure signed

-- a VARCHAR's collation is put in later
unfoldable pub column_type : Phrase KindText
column_type = do
  is_int ← eat (codes "int")
  if is_int then number_type kinds.Int kinds.IntUnsigned else (do
    is_integer ← eat (codes "integer")
    if is_integer then number_type kinds.Int kinds.IntUnsigned else (do
      is_big ← eat (codes "bigint")
      if is_big then number_type kinds.BigInt kinds.BigIntUnsigned else (do
        is_text ← eat (codes "varchar")
        if is_text then (λ n. kinds.VarChar n Ci) <$> in_parentheses any_number else (do
          expect (codes "varbinary")
          kinds.VarBinary <$> in_parentheses any_number))))

abbrev pub is_varchar : KindText → Bool
is_varchar (kinds.VarChar n c) = true
is_varchar _ = false

abbrev pub with_collation : Collation → KindText → KindText
with_collation c (kinds.VarChar n old) = kinds.VarChar n c
with_collation c kinds.Int = kinds.Int
with_collation c kinds.IntUnsigned = kinds.IntUnsigned
with_collation c kinds.BigInt = kinds.BigInt
with_collation c kinds.BigIntUnsigned = kinds.BigIntUnsigned
with_collation c (kinds.VarBinary n) = kinds.VarBinary n

-- ---- attributes

abbrev pub no_attributes : Attributes
no_attributes = record { nullable = None; default = None; charset = false; collation = None; primary = false; comment = false }

-- NULL or NOT NULL
unfoldable pub with_nullable : Attributes → Bool → Phrase Attributes
with_nullable a nullable = do
  check (is_none a.nullable)
  pure (record a { nullable = Some nullable })

unfoldable pub with_default : Attributes → Phrase Attributes
with_default a = do
  check (is_none a.default)
  value ← literal
  pure (record a { default = Some value })

unfoldable pub with_charset : Attributes → Phrase Attributes
with_charset a = do
  check (not a.charset)
  set_ascii
  pure (record a { charset = true })

unfoldable pub with_column_collation : Attributes → Phrase Attributes
with_column_collation a = do
  check (is_none a.collation)
  c ← collation
  pure (record a { collation = Some c })

unfoldable pub with_primary : Attributes → Phrase Attributes
with_primary a = do
  check (not a.primary)
  expect (codes "key")
  pure (record a { primary = true })

unfoldable pub with_column_comment : Attributes → Phrase Attributes
with_column_comment a = do
  check (not a.comment)
  about ← text
  pure (record a { comment = true })

abbrev pub with_more : {A : Type 0} → Phrase A → Phrase (A × Bool)
with_more p = (λ x. (x, true)) <$> p

abbrev pub no_more : {A : Type 0} → A → Phrase (A × Bool)
no_more x = pure (x, false)

-- the attributes with the next one, and whether one came next
unfoldable pub text_attribute : Attributes → Phrase (Attributes × Bool)
text_attribute a = do
  is_charset ← eat (codes "character")
  if is_charset then with_more (with_charset a) else (do
    is_collation ← eat (codes "collate")
    if is_collation then with_more (with_column_collation a) else (do
      is_comment ← eat (codes "comment")
      if is_comment then with_more (with_column_comment a) else no_more a))

unfoldable pub attribute : Attributes → Phrase (Attributes × Bool)
attribute a = do
  is_not ← eat (codes "not")
  if is_not then expect (codes "null") >> with_more (with_nullable a false) else (do
    is_null ← eat (codes "null")
    if is_null then with_more (with_nullable a true) else (do
      is_default ← eat (codes "default")
      if is_default then with_more (with_default a) else (do
        is_primary ← eat (codes "primary")
        if is_primary then with_more (with_primary a) else text_attribute a)))

-- The number bounds the turns. Each but the last takes a token, so the count of tokens is enough.
unfoldable pub attributes_from : ℕ → Attributes → Phrase Attributes
attributes_from zero a = pure a
attributes_from (suc n) a = do
  next ← attribute a
  if next.1 then attributes_from n next.0 else pure next.0

abbrev pub attributes : Phrase Attributes
attributes = λ ts. attributes_from (length ts) no_attributes ts

-- ---- columns

abbrev pub or_nullable : Option Bool → Bool
or_nullable None = true
or_nullable (Some nullable) = nullable

abbrev pub or_ci : Option Collation → Collation
or_ci None = Ci
or_ci (Some c) = c

-- A column with neither COLLATE nor CHARACTER SET has its table's collation.
abbrev pub column_of : List ℕ → KindText → Attributes → ColumnDraft
column_of called kind a = record {
  text = record { name = called; kind = with_collation (or_ci a.collation) kind; nullable = or_nullable a.nullable; default = a.default };
  of_table = is_none a.collation && not a.charset;
}

-- the columns and keys with one more; an attribute PRIMARY KEY is a key at its place
abbrev pub with_key : TableDraft → KeyText → TableDraft
with_key d key = record d { keys = d.keys ++ key ∷ [] }

abbrev pub with_column : TableDraft → ColumnDraft → TableDraft
with_column d column = record d { columns = d.columns ++ column ∷ [] }

abbrev pub key_name : List ℕ → Bool → Option (List ℕ)
key_name called primary = if primary then Some called else None

abbrev pub with_column_key : TableDraft → Option (List ℕ) → TableDraft
with_column_key d None = d
with_column_key d (Some called) = with_key d (primary_of (called ∷ []) [])

-- only a VARCHAR has a character set and a collation
unfoldable pub column : TableDraft → Phrase TableDraft
column d = do
  called ← name
  kind ← column_type
  a ← attributes
  check (is_varchar kind || (is_none a.collation && not a.charset))
  pure (with_column_key (with_column d (column_of called kind a)) (key_name called a.primary))

-- ---- items

unfoldable pub item : TableDraft → Phrase TableDraft
item d = do
  is_primary ← eat (codes "primary")
  if is_primary then with_key d <$> primary_key else (do
    is_unique ← eat (codes "unique")
    if is_unique then key_word >> with_key d <$> named_key true else (do
      is_key ← key_word
      if is_key then with_key d <$> named_key false else column d))

unfoldable pub items_from : ℕ → TableDraft → Phrase TableDraft
items_from zero d = refuse
items_from (suc n) d = do
  longer ← item d
  more ← comma
  if more then items_from n longer else pure longer

abbrev pub no_items : TableDraft
no_items = record { columns = []; keys = [] }

abbrev pub items : Phrase TableDraft
items = λ ts. items_from (length ts) no_items ts

-- ---- options

abbrev pub no_options : TableOptions
no_options = record { engine = None; charset = false; collation = None; comment = None }

unfoldable pub with_engine : TableOptions → Phrase TableOptions
with_engine o = do
  check (is_none o.engine)
  equal ← maybe_sign (codes "=")
  engine ← word
  pure (record o { engine = Some engine })

unfoldable pub with_table_comment : TableOptions → Phrase TableOptions
with_table_comment o = do
  check (is_none o.comment)
  equal ← maybe_sign (codes "=")
  about ← text
  pure (record o { comment = Some about })

-- [=] ascii, behind CHARSET or CHARACTER SET
unfoldable pub with_table_charset : TableOptions → Phrase TableOptions
with_table_charset o = do
  check (not o.charset)
  equal ← maybe_sign (codes "=")
  expect (codes "ascii")
  pure (record o { charset = true })

unfoldable pub with_table_collation : TableOptions → Phrase TableOptions
with_table_collation o = do
  check (is_none o.collation)
  equal ← maybe_sign (codes "=")
  c ← collation
  pure (record o { collation = Some c })

-- the options that DEFAULT may stand before, and whether one came next
unfoldable pub text_option : TableOptions → Phrase (TableOptions × Bool)
text_option o = do
  is_charset ← eat (codes "charset")
  if is_charset then with_more (with_table_charset o) else (do
    is_character ← eat (codes "character")
    if is_character then expect (codes "set") >> with_more (with_table_charset o) else (do
      is_collation ← eat (codes "collate")
      if is_collation then with_more (with_table_collation o) else no_more o))

-- that one came next
unfoldable pub demand : {A : Type 0} → A × Bool → Phrase (A × Bool)
demand next = λ ts. if next.1 then Some (next, ts) else None

unfoldable pub plain_option : TableOptions → Phrase (TableOptions × Bool)
plain_option o = do
  is_engine ← eat (codes "engine")
  if is_engine then with_more (with_engine o) else (do
    is_comment ← eat (codes "comment")
    if is_comment then with_more (with_table_comment o) else (do
      is_default ← eat (codes "default")
      if is_default then text_option o >>= demand else text_option o))

-- behind a comma an option has to come
unfoldable pub option : TableOptions → Phrase (TableOptions × Bool)
option o = do
  must ← comma
  if must then plain_option o >>= demand else plain_option o

unfoldable pub options_from : ℕ → TableOptions → Phrase TableOptions
options_from zero o = pure o
options_from (suc n) o = do
  next ← option o
  if next.1 then options_from n next.0 else pure next.0

abbrev pub options : Phrase TableOptions
options = λ ts. options_from (length ts) no_options ts

-- ---- CREATE TABLE, behind these two words

-- [IF NOT EXISTS]
unfoldable pub if_not_exists : Phrase Bool
if_not_exists = do
  found ← eat (codes "if")
  if found then expect (codes "not") >> expect (codes "exists") >> pure true else pure false

-- a column without one of its own takes the table's collation
abbrev pub closed : Collation → ColumnDraft → ColumnText
closed c column = if column.of_table then record column.text { kind = with_collation c column.text.kind } else column.text

abbrev pub or_empty : Option (List ℕ) → List ℕ
or_empty None = []
or_empty (Some x) = x

abbrev pub table_of : List ℕ → TableDraft → TableOptions → TableText
table_of called d o = record { name = called; columns = map (closed (or_ci o.collation)) d.columns; keys = d.keys; comment = or_empty o.comment }

unfoldable pub create_table : Phrase Statement
create_table = do
  mild ← if_not_exists
  called ← name
  draft ← in_parentheses items
  o ← options
  pure (statements.CreateTable (table_of called draft o) mild o.engine)
