-- How INSERT, REPLACE, and the assignments of UPDATE are spelled.
use Rattle.std.specs.Prelude.{ℕ, Bool, true, false, not, List, [], ◌∷◌, codes}
use Rattle.mr_types.specs.declared.statement.ItemValue.{ItemValue}
use Rattle.mr_types.specs.declared.statement.ItemValue.TheVariants as items
use Rattle.mr_types.specs.declared.statement.Factor.{Factor}
use Rattle.mr_types.specs.declared.statement.Factor.TheVariants as factors
use Rattle.mr_types.specs.declared.statement.Term.{Term}
use Rattle.mr_types.specs.declared.statement.SetTo.{SetTo}
use Rattle.mr_types.specs.declared.statement.SetTo.TheVariants as sets
use Rattle.mr_types.specs.declared.statement.SetItem.{SetItem}
use Rattle.mr_types.specs.declared.statement.Insert.{Insert}
use Rattle.mr_spelling.specs.Parts.{Part, Keyword, Mark, Name}
use Rattle.mr_spelling.specs.Spelling.{spelled_by, spelled_list, spelled_if, spelled_names, spelled_literal}

-- ---- INSERT and REPLACE

abbrev pub spelled_item : ItemValue → List Part → List Part
spelled_item items.Default more = Keyword (codes "default") ∷ more
spelled_item (items.Literal v) more = spelled_literal v more

abbrev pub spelled_tuple : List ItemValue → List Part → List Part
spelled_tuple tuple more = Mark (codes "(") ∷ spelled_list spelled_item tuple (Mark (codes ")") ∷ more)

-- behind INSERT or REPLACE
abbrev pub spelled_insert : Insert → List Part
spelled_insert insert =
    Keyword (codes "into") ∷ Name insert.table ∷ spelled_if spelled_names insert.columns (Keyword (codes "values") ∷ spelled_list spelled_tuple insert.rows [])

-- ---- UPDATE

abbrev pub spelled_factor : Factor → List Part → List Part
spelled_factor (factors.Column name) more = Name name ∷ more
spelled_factor (factors.Literal v) more = spelled_literal v more

abbrev pub spelled_product : List Factor → List Part → List Part
spelled_product product more = spelled_by (Mark (codes "*")) spelled_factor product more

abbrev pub sign_of : Bool → List ℕ
sign_of true = codes "-"
sign_of false = codes "+"

-- the sign of each term but the first stands in front of it
abbrev pub spelled_sum : List Term → List Part → List Part
spelled_sum [] more = more
spelled_sum (t ∷ []) more = spelled_product t.factors more
spelled_sum (t ∷ u ∷ us) more = spelled_product t.factors (Mark (sign_of u.minus) ∷ spelled_sum (u ∷ us) more)

abbrev pub spelled_to : SetTo → List Part → List Part
spelled_to sets.Default more = Keyword (codes "default") ∷ more
spelled_to (sets.Sum terms) more = spelled_sum terms more

abbrev pub spelled_set : SetItem → List Part → List Part
spelled_set set more = Name set.column ∷ Mark (codes "=") ∷ spelled_to set.to more

-- the first term of a sum isn't subtracted
abbrev pub is_plain_first : List Term → Bool
is_plain_first [] = true
is_plain_first (t ∷ ts) = not t.minus

abbrev pub is_plain_to : SetTo → Bool
is_plain_to sets.Default = true
is_plain_to (sets.Sum terms) = is_plain_first terms
