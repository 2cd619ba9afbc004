--   select := SELECT list FROM name [FORCE INDEX ( index )] [WHERE cond]
--             [ORDER BY name [ASC|DESC] {, name [ASC|DESC]}]
--             [LIMIT number | LIMIT number OFFSET number | LIMIT number , number]
--   index  := name | PRIMARY
--   list   := * | names | aggregate {, aggregate}
--   aggregate := COUNT ( * ) | MIN ( name ) | MAX ( name )
-- An aggregate list has no ORDER BY and no LIMIT.
use Rattle.std.specs.Prelude.{ℕ, ◌-◌, ◌^◌, Bool, true, false, ◌&&◌, ◌||◌, if◌then◌else◌, List, [], Option, Some, None, codes, is_none}
use Rattle.mr_lex.specs.Reading.{Lexeme}
use Rattle.mr_types.specs.declared.statement.Aggregate.{Aggregate}
use Rattle.mr_types.specs.declared.statement.Aggregate.TheVariants as aggregates
use Rattle.mr_types.specs.declared.statement.Columns.{Columns}
use Rattle.mr_types.specs.declared.statement.Columns.TheVariants as columns
use Rattle.mr_types.specs.declared.statement.OrderItem.{OrderItem}
use Rattle.mr_types.specs.declared.statement.IndexName.{IndexName}
use Rattle.mr_types.specs.declared.statement.IndexName.TheVariants as indexes
use Rattle.mr_types.specs.declared.statement.Select.{Select}
use Rattle.mr_types.specs.Grammatical.{is_empty}
use Rattle.mr_spec.specs.declared.drafts.Limit.{Limit}
use Rattle.mr_spec.specs.Phrases.{Phrase, ◌>>=◌, ◌>>◌, ◌<$>◌, pure, check, sees, sees_sign, behind, eat, eat_sign, expect, expect_sign, name, names, listed, in_parentheses, number}
use Rattle.mr_spec.specs.ConditionPhrases.{condition}

-- ---- what is selected

-- COUNT, MIN and MAX are names too; an aggregate has a parenthesis
unfoldable pub begins_aggregate : List Lexeme → Bool
begins_aggregate ts = (sees (codes "count") ts || sees (codes "min") ts || sees (codes "max") ts) && sees_sign (codes "(") (behind ts)

unfoldable pub aggregate : Phrase Aggregate
aggregate = do
  is_count ← eat (codes "count")
  if is_count then in_parentheses (expect_sign (codes "*")) >> pure aggregates.Count else (do
    is_min ← eat (codes "min")
    if is_min then aggregates.Min <$> in_parentheses name else expect (codes "max") >> aggregates.Max <$> in_parentheses name)

unfoldable pub select_list : Phrase Columns
select_list = do
  is_all ← eat_sign (codes "*")
  if is_all then pure columns.All else (λ ts.
      if begins_aggregate ts then (columns.Aggregates <$> listed aggregate) ts else (columns.Names <$> names) ts)

-- ---- where from, and in which order

unfoldable pub index_name : Phrase IndexName
index_name = do
  is_primary ← eat (codes "primary")
  if is_primary then pure indexes.Primary else indexes.Name <$> name

-- [FORCE INDEX ( index )]
unfoldable pub forced_index : Phrase (Option IndexName)
forced_index = do
  found ← eat (codes "force")
  if found then expect (codes "index") >> Some <$> in_parentheses index_name else pure None

-- [ASC|DESC]
unfoldable pub descending : Phrase Bool
descending = do
  is_rising ← eat (codes "asc")
  if is_rising then pure false else eat (codes "desc")

unfoldable pub order_item : Phrase OrderItem
order_item = do
  column ← name
  falls ← descending
  pure (record { column = column; descending = falls })

unfoldable pub order : Phrase (List OrderItem)
order = do
  found ← eat (codes "order")
  if found then expect (codes "by") >> listed order_item else pure []

-- ---- how many

abbrev pub limited : ℕ → ℕ → Limit
limited skip most = record { skip = skip; most = Some most }

abbrev pub row_count : Phrase ℕ
row_count = number 0 (2 ^ 64 - 1)

-- behind LIMIT
unfoldable pub limit_numbers : Phrase Limit
limit_numbers = do
  first ← row_count
  has_offset ← eat (codes "offset")
  if has_offset then (λ skip. limited skip first) <$> row_count else (do
    is_pair ← eat_sign (codes ",")
    if is_pair then (λ most. limited first most) <$> row_count else pure (limited 0 first))

unfoldable pub limit : Phrase Limit
limit = do
  found ← eat (codes "limit")
  if found then limit_numbers else pure (record { skip = 0; most = None })

-- ---- SELECT, behind the keyword

abbrev pub may_be_ordered : Columns → Bool
may_be_ordered (columns.Aggregates _) = false
may_be_ordered (columns.Names _) = true
may_be_ordered columns.All = true

unfoldable pub select : Phrase Select
select = do
  list ← select_list
  expect (codes "from")
  table ← name
  forced ← forced_index
  where_ ← condition
  rows ← order
  count ← limit
  check (may_be_ordered list || (is_empty rows && is_none count.most))
  pure (record { columns = list; table = table; forced = forced; condition = where_; order = rows; skip = count.skip; most = count.most })
