-- How statements on indexes, transactions, locks and sessions are spelled.
use Rattle.std.specs.Prelude.{ℕ, Bool, true, false, List, [], ◌∷◌, codes}
use Rattle.mr_types.specs.declared.statement.KeyName.{KeyName}
use Rattle.mr_types.specs.declared.text.KeyText.{KeyText}
use Rattle.mr_spelling.specs.Parts.{Part, Keyword, Name, Quoted}
use Rattle.mr_spelling.specs.Spelling.{spelled_names}

-- ---- keys

-- an empty comment is left out
abbrev pub spelled_comment : List ℕ → List Part → List Part
spelled_comment [] more = more
spelled_comment (c ∷ cs) more = Keyword (codes "comment") ∷ Quoted (c ∷ cs) ∷ more

-- INDEX name ON name
abbrev pub spelled_index_on : KeyName → List Part
spelled_index_on at = Keyword (codes "index") ∷ Name at.key ∷ Keyword (codes "on") ∷ Name at.table ∷ []

abbrev pub spelled_unique : Bool → List Part → List Part
spelled_unique true more = Keyword (codes "unique") ∷ more
spelled_unique false more = more

-- [UNIQUE] INDEX name ON name ( names ) [COMMENT text]
abbrev pub spelled_new_index : List ℕ → KeyText → List Part
spelled_new_index table key =
    spelled_unique key.unique (Keyword (codes "index") ∷ Name key.name ∷ Keyword (codes "on") ∷ Name table ∷ spelled_names key.columns (spelled_comment key.comment []))

-- ---- tables

abbrev pub spelled_if_exists : Bool → List Part → List Part
spelled_if_exists true more = Keyword (codes "if") ∷ Keyword (codes "exists") ∷ more
spelled_if_exists false more = more

-- ---- transactions

abbrev pub spelled_begin : Bool → List Part
spelled_begin false = Keyword (codes "begin") ∷ []
spelled_begin true = Keyword (codes "start") ∷ Keyword (codes "transaction") ∷ Keyword (codes "with") ∷ Keyword (codes "consistent") ∷ Keyword (codes "snapshot") ∷ []

-- ---- locks

abbrev pub spelled_lock : List ℕ → List Part → List Part
spelled_lock table more = Name table ∷ Keyword (codes "read") ∷ more
