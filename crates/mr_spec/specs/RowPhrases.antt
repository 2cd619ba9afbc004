--   insert  := INSERT [INTO] name [( names )] (VALUES | VALUE) tuple {, tuple}
--   replace := REPLACE [INTO] name [( names )] (VALUES | VALUE) tuple {, tuple}
--   tuple   := ( item_value {, item_value} )      item_value := literal | DEFAULT
--   update  := UPDATE name SET set {, set} [WHERE cond]
--   set     := name = (DEFAULT | sum)
--   sum     := product {(+ | -) product}          product := factor {* factor}
--   factor  := name | literal
--   delete  := DELETE FROM name [WHERE cond]
use Rattle.std.specs.Prelude.{ℕ, zero, suc, Bool, true, false, if◌then◌else◌, List, [], ◌∷◌, ◌++◌, length, Option, Some, None, codes}
use Rattle.mr_types.specs.declared.statement.ItemValue.{ItemValue}
use Rattle.mr_types.specs.declared.statement.ItemValue.TheVariants as items
use Rattle.mr_types.specs.declared.statement.Factor.{Factor}
use Rattle.mr_types.specs.declared.statement.Factor.TheVariants as factors
use Rattle.mr_types.specs.declared.statement.Term.{Term}
use Rattle.mr_types.specs.declared.statement.SetTo.{SetTo}
use Rattle.mr_types.specs.declared.statement.SetTo.TheVariants as sets
use Rattle.mr_types.specs.declared.statement.SetItem.{SetItem}
use Rattle.mr_types.specs.declared.statement.Insert.{Insert}
use Rattle.mr_types.specs.declared.statement.Statement.{Statement}
use Rattle.mr_types.specs.declared.statement.Statement.TheVariants as statements
use Rattle.mr_spec.specs.Phrases.{Phrase, ◌>>=◌, ◌>>◌, ◌<$>◌, pure, refuse, sees_sign, eat, eat_sign, maybe, expect, expect_sign, begins_name, name, names_in, separated, listed, in_parentheses, go_on}
use Rattle.mr_spec.specs.Literals.{literal}
use Rattle.mr_spec.specs.ConditionPhrases.{condition}

-- ---- INSERT and REPLACE, behind the keyword

unfoldable pub item_value : Phrase ItemValue
item_value = do
  is_default ← eat (codes "default")
  if is_default then pure items.Default else items.Literal <$> literal

abbrev pub tuple : Phrase (List ItemValue)
tuple = in_parentheses (listed item_value)

-- [( names )]
unfoldable pub column_names : Phrase (Option (List (List ℕ)))
column_names = λ ts. if sees_sign (codes "(") ts then (Some <$> names_in) ts else pure None ts

-- VALUES | VALUE
unfoldable pub values_word : Phrase (Unit {0})
values_word = do
  found ← eat (codes "values")
  if found then pure tt else expect (codes "value")

unfoldable pub insert : Phrase Insert
insert = do
  into ← maybe (codes "into")
  table ← name
  columns ← column_names
  values_word
  rows ← listed tuple
  pure (record { table = table; columns = columns; rows = rows })

-- ---- UPDATE and DELETE, behind the keyword

unfoldable pub factor : Phrase Factor
factor = λ ts. if begins_name ts then (factors.Column <$> name) ts else (factors.Literal <$> literal) ts

abbrev pub product : Phrase (List Factor)
product = separated (eat_sign (codes "*")) factor

abbrev pub term : Bool → List Factor → Term
term minus factors = record { minus = minus; factors = factors }

-- the sign that comes next, true for a minus, None where neither does
unfoldable pub plus_or_minus : Phrase (Option Bool)
plus_or_minus = do
  plus ← eat_sign (codes "+")
  if plus then pure (Some false) else (do
    minus ← eat_sign (codes "-")
    if minus then pure (Some true) else pure None)

-- the first of these products is subtracted where `minus`
unfoldable pub sum_from : ℕ → Bool → List Term → Phrase (List Term)
sum_from zero minus found = refuse
sum_from (suc n) minus found = do
  factors ← product
  sign ← plus_or_minus
  go_on sign (λ next. sum_from n next (found ++ term minus factors ∷ [])) (pure (found ++ term minus factors ∷ []))

abbrev pub sum : Phrase (List Term)
sum = λ ts. sum_from (length ts) false [] ts

unfoldable pub set_to : Phrase SetTo
set_to = do
  is_default ← eat (codes "default")
  if is_default then pure sets.Default else sets.Sum <$> sum

unfoldable pub set_item : Phrase SetItem
set_item = do
  column ← name
  expect_sign (codes "=")
  to ← set_to
  pure (record { column = column; to = to })

unfoldable pub update : Phrase Statement
update = do
  table ← name
  expect (codes "set")
  set ← listed set_item
  where_ ← condition
  pure (statements.Update table set where_)

unfoldable pub delete : Phrase Statement
delete = do
  expect (codes "from")
  table ← name
  where_ ← condition
  pure (statements.Delete table where_)
