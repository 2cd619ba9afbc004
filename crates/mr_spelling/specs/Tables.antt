-- How CREATE TABLE is spelled.
use Rattle.std.specs.Prelude.{ℕ, Bool, true, false, List, [], ◌∷◌, ◌++◌, map, Option, Some, None, codes}
use Rattle.mr_pieces.specs.declared.collation.Collation.{Collation}
use Rattle.mr_pieces.specs.declared.collation.Collation.TheVariants.{Bin, Ci}
use Rattle.mr_types.specs.declared.kind.KindText.{KindText}
use Rattle.mr_types.specs.declared.kind.KindText.TheVariants as kinds
use Rattle.mr_types.specs.declared.text.ColumnText.{ColumnText}
use Rattle.mr_types.specs.declared.text.KeyText.{KeyText}
use Rattle.mr_types.specs.declared.text.TableText.{TableText}
use Rattle.mr_types.specs.declared.value.Value.{Value}
use Rattle.mr_spelling.specs.Parts.{Part, Keyword, Mark, Name, Count, Plain}
use Rattle.mr_spelling.specs.Spelling.{spelled_list, spelled_names, spelled_literal}
use Rattle.mr_spelling.specs.Sessions.{spelled_comment}

-- ---- columns

abbrev pub spelled_kind : KindText → List Part → List Part
spelled_kind kinds.Int more = Keyword (codes "int") ∷ more
spelled_kind kinds.IntUnsigned more = Keyword (codes "int") ∷ Keyword (codes "unsigned") ∷ more
spelled_kind kinds.BigInt more = Keyword (codes "bigint") ∷ more
spelled_kind kinds.BigIntUnsigned more = Keyword (codes "bigint") ∷ Keyword (codes "unsigned") ∷ more
spelled_kind (kinds.VarChar n collation) more = Keyword (codes "varchar") ∷ Mark (codes "(") ∷ Count n ∷ Mark (codes ")") ∷ more
spelled_kind (kinds.VarBinary n) more = Keyword (codes "varbinary") ∷ Mark (codes "(") ∷ Count n ∷ Mark (codes ")") ∷ more

abbrev pub spelled_nullable : Bool → List Part → List Part
spelled_nullable true more = Keyword (codes "null") ∷ more
spelled_nullable false more = Keyword (codes "not") ∷ Keyword (codes "null") ∷ more

abbrev pub spelled_default : Option Value → List Part → List Part
spelled_default None more = more
spelled_default (Some v) more = Keyword (codes "default") ∷ spelled_literal v more

abbrev pub collation_word : Collation → List ℕ
collation_word Bin = codes "ascii_bin"
collation_word Ci = codes "ascii_general_ci"

abbrev pub collation_of : KindText → Option Collation
collation_of (kinds.VarChar n collation) = Some collation
collation_of _ = None

abbrev pub spelled_collation : Option Collation → List Part → List Part
spelled_collation None more = more
spelled_collation (Some collation) more = Keyword (codes "collate") ∷ Keyword (collation_word collation) ∷ more

abbrev pub spelled_column : ColumnText → List Part → List Part
spelled_column c more = Name c.name ∷ spelled_kind c.kind (spelled_nullable c.nullable (spelled_default c.default (spelled_collation (collation_of c.kind) more)))

-- ---- keys

-- what stands before the columns of a key
abbrev pub spelled_key_words : Bool → Bool → List ℕ → List Part → List Part
spelled_key_words true unique name more = Keyword (codes "primary") ∷ Keyword (codes "key") ∷ more
spelled_key_words false true name more = Keyword (codes "unique") ∷ Keyword (codes "key") ∷ Name name ∷ more
spelled_key_words false false name more = Keyword (codes "key") ∷ Name name ∷ more

abbrev pub spelled_key : KeyText → List Part → List Part
spelled_key k more = spelled_key_words k.primary k.unique k.name (spelled_names k.columns (spelled_comment k.comment more))

-- ---- tables

pub data TableItem : Type 0 where
  OfColumn : ColumnText → TableItem
  OfKey : KeyText → TableItem

abbrev pub spelled_table_item : TableItem → List Part → List Part
spelled_table_item (OfColumn c) more = spelled_column c more
spelled_table_item (OfKey k) more = spelled_key k more

-- the columns, and the keys behind them
abbrev pub items_of : TableText → List TableItem
items_of text = map OfColumn text.columns ++ map OfKey text.keys

abbrev pub spelled_engine : Option (List ℕ) → List Part → List Part
spelled_engine None more = more
spelled_engine (Some engine) more = Keyword (codes "engine") ∷ Plain engine ∷ more

abbrev pub spelled_if_not_exists : Bool → List Part → List Part
spelled_if_not_exists true more = Keyword (codes "if") ∷ Keyword (codes "not") ∷ Keyword (codes "exists") ∷ more
spelled_if_not_exists false more = more

-- behind CREATE TABLE
abbrev pub spelled_create_table : TableText → Bool → Option (List ℕ) → List Part
spelled_create_table text if_not_exists engine =
    spelled_if_not_exists if_not_exists (Name text.name ∷ Mark (codes "(") ∷ spelled_list spelled_table_item (items_of text) (Mark (codes ")") ∷ spelled_engine engine (spelled_comment text.comment [])))
