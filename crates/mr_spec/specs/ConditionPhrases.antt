--   cond := conj {OR conj}      conj := neg {AND neg}
--   neg  := NOT neg | ( cond ) | test
--   test := name cmp literal | literal cmp name | name IS [NOT] NULL
--         | name [NOT] BETWEEN literal AND literal | name [NOT] IN ( literal {, literal} )
--   cmp  := = | <> | != | < | <= | > | >=
use Rattle.std.specs.Prelude.{ℕ, zero, suc, ◌||◌, if◌then◌else◌, List, [], ◌∷◌, Option, codes}
use Rattle.mr_types.specs.declared.expr.Cmp.{Cmp}
use Rattle.mr_types.specs.declared.expr.Cmp.TheVariants as cmp
use Rattle.mr_types.specs.declared.expr.Expr.{Expr}
use Rattle.mr_types.specs.declared.expr.Expr.TheVariants as e
use Rattle.mr_spec.specs.Phrases.{Phrase, ◌>>=◌, ◌>>◌, ◌<$>◌, pure, sees, eat, eat_sign, maybe, expect, expect_sign, begins_name, name, separated, listed, in_parentheses, clause}
use Rattle.mr_spec.specs.Literals.{literal}

unfoldable pub comparison : Phrase Cmp
comparison = do
  equal ← eat_sign (codes "=")
  if equal then pure cmp.Eq else (do
    differs ← eat_sign (codes "<>")
    if differs then pure cmp.Ne else (do
      unlike ← eat_sign (codes "!=")
      if unlike then pure cmp.Ne else (do
        below ← eat_sign (codes "<")
        if below then pure cmp.Lt else (do
          up_to ← eat_sign (codes "<=")
          if up_to then pure cmp.Le else (do
            above ← eat_sign (codes ">")
            if above then pure cmp.Gt else (do
              expect_sign (codes ">=")
              pure cmp.Ge))))))

-- the same comparison with its sides exchanged
abbrev pub turned : Cmp → Cmp
turned cmp.Eq = cmp.Eq
turned cmp.Ne = cmp.Ne
turned cmp.Lt = cmp.Gt
turned cmp.Le = cmp.Ge
turned cmp.Gt = cmp.Lt
turned cmp.Ge = cmp.Le

-- literal cmp name, as a comparison of the name
unfoldable pub turned_test : Phrase Expr
turned_test = do
  value ← literal
  how ← comparison
  column ← name
  pure (e.Compare column (turned how) value)

-- [NOT] NULL, behind IS
unfoldable pub null_test : List ℕ → Phrase Expr
null_test column = do
  negative ← maybe (codes "not")
  expect (codes "null")
  pure (if negative then e.Not (e.IsNull column) else e.IsNull column)

-- literal AND literal, behind BETWEEN
unfoldable pub between : List ℕ → Phrase Expr
between column = do
  low ← literal
  expect (codes "and")
  high ← literal
  pure (e.Between column low high)

-- ( literal {, literal} ), behind IN
unfoldable pub one_of : List ℕ → Phrase Expr
one_of column = (e.OneOf column) <$> in_parentheses (listed literal)

-- what NOT may stand before
unfoldable pub range_test : List ℕ → Phrase Expr
range_test column = do
  is_between ← eat (codes "between")
  if is_between then between column else expect (codes "in") >> one_of column

unfoldable pub comparison_test : List ℕ → Phrase Expr
comparison_test column = do
  how ← comparison
  value ← literal
  pure (e.Compare column how value)

unfoldable pub plain_test : List ℕ → Phrase Expr
plain_test column = λ ts. if sees (codes "between") ts || sees (codes "in") ts then range_test column ts else comparison_test column ts

-- a test whose column stands in front
unfoldable pub column_test : Phrase Expr
column_test = do
  column ← name
  is_null ← eat (codes "is")
  if is_null then null_test column else (do
    negative ← eat (codes "not")
    if negative then e.Not <$> range_test column else plain_test column)

unfoldable pub test : Phrase Expr
test = λ ts. if begins_name ts then column_test ts else turned_test ts

-- one part stands alone
abbrev pub all_of : List Expr → Expr
all_of [] = e.And []
all_of (only ∷ []) = only
all_of (first ∷ second ∷ more) = e.And (first ∷ second ∷ more)

abbrev pub any_of : List Expr → Expr
any_of [] = e.Or []
any_of (only ∷ []) = only
any_of (first ∷ second ∷ more) = e.Or (first ∷ second ∷ more)

-- with a phrase for neg
unfoldable pub conj_by : Phrase Expr → Phrase Expr
conj_by neg = all_of <$> separated (eat (codes "and")) neg

unfoldable pub cond_by : Phrase Expr → Phrase Expr
cond_by neg = any_of <$> separated (eat (codes "or")) (conj_by neg)

-- neg, with a phrase for what is nested in it
unfoldable pub nested : Phrase Expr → Phrase Expr
nested inner = do
  negative ← eat (codes "not")
  if negative then e.Not <$> inner else (do
    is_open ← eat_sign (codes "(")
    if is_open then (do found ← cond_by inner; expect_sign (codes ")"); pure found) else test)

-- so many NOTs and parentheses may be nested at most
unfoldable pub neg : ℕ → Phrase Expr
neg zero = test
neg (suc depth) = nested (neg depth)

abbrev pub cond : Phrase Expr
cond = cond_by (neg 64)

-- [WHERE cond]
abbrev pub condition : Phrase (Option Expr)
condition = clause (codes "where") cond
