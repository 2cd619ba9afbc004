-- How SELECT is spelled.
use Rattle.std.specs.Prelude.{ℕ, ◌-◌, ◌^◌, Bool, true, false, ◌&&◌, ◌==◌, nat_le, List, [], ◌∷◌, Option, Some, None, codes}
use Rattle.mr_types.specs.declared.statement.Aggregate.{Aggregate}
use Rattle.mr_types.specs.declared.statement.Aggregate.TheVariants as aggregates
use Rattle.mr_types.specs.declared.statement.Columns.{Columns}
use Rattle.mr_types.specs.declared.statement.Columns.TheVariants as columns
use Rattle.mr_types.specs.declared.statement.OrderItem.{OrderItem}
use Rattle.mr_types.specs.declared.statement.IndexName.{IndexName}
use Rattle.mr_types.specs.declared.statement.IndexName.TheVariants as indexes
use Rattle.mr_types.specs.declared.statement.Select.{Select}
use Rattle.mr_spelling.specs.Parts.{Part, Keyword, Mark, Name, Count}
use Rattle.mr_spelling.specs.Spelling.{spelled_list, spelled_name}
use Rattle.mr_spelling.specs.Conditions.{spelled_where}

-- ( what stands in it )
abbrev pub spelled_aggregate : Aggregate → List Part → List Part
spelled_aggregate aggregates.Count more = Keyword (codes "count") ∷ Mark (codes "(") ∷ Mark (codes "*") ∷ Mark (codes ")") ∷ more
spelled_aggregate (aggregates.Min name) more = Keyword (codes "min") ∷ Mark (codes "(") ∷ Name name ∷ Mark (codes ")") ∷ more
spelled_aggregate (aggregates.Max name) more = Keyword (codes "max") ∷ Mark (codes "(") ∷ Name name ∷ Mark (codes ")") ∷ more

abbrev pub spelled_columns : Columns → List Part → List Part
spelled_columns columns.All more = Mark (codes "*") ∷ more
spelled_columns (columns.Names names) more = spelled_list spelled_name names more
spelled_columns (columns.Aggregates list) more = spelled_list spelled_aggregate list more

abbrev pub spelled_index : IndexName → List Part → List Part
spelled_index indexes.Primary more = Keyword (codes "primary") ∷ more
spelled_index (indexes.Name name) more = Name name ∷ more

abbrev pub spelled_forced : Option IndexName → List Part → List Part
spelled_forced None more = more
spelled_forced (Some index) more = Keyword (codes "force") ∷ Keyword (codes "index") ∷ Mark (codes "(") ∷ spelled_index index (Mark (codes ")") ∷ more)

abbrev pub direction : Bool → List ℕ
direction false = codes "asc"
direction true = codes "desc"

abbrev pub spelled_order_item : OrderItem → List Part → List Part
spelled_order_item o more = Name o.column ∷ Keyword (direction o.descending) ∷ more

abbrev pub spelled_order : List OrderItem → List Part → List Part
spelled_order [] more = more
spelled_order (o ∷ os) more = Keyword (codes "order") ∷ Keyword (codes "by") ∷ spelled_list spelled_order_item (o ∷ os) more

abbrev pub spelled_limit : ℕ → Option ℕ → List Part
spelled_limit skip None = []
spelled_limit skip (Some most) = Keyword (codes "limit") ∷ Count most ∷ Keyword (codes "offset") ∷ Count skip ∷ []

-- behind SELECT
abbrev pub spelled_select : Select → List Part
spelled_select s = spelled_columns s.columns (Keyword (codes "from") ∷ Name s.table ∷ spelled_forced s.forced (spelled_where s.condition (spelled_order s.order (spelled_limit s.skip s.most))))

-- no rows are left out without a LIMIT, and both numbers have 8 bytes at most
abbrev pub is_limited : ℕ → Option ℕ → Bool
is_limited skip None = skip == 0
is_limited skip (Some most) = nat_le skip (2 ^ 64 - 1) && nat_le most (2 ^ 64 - 1)
