-- How conditions are spelled, and how deep they nest.
use Rattle.std.specs.Prelude.{ℕ, suc, max, List, [], ◌∷◌, map, Option, Some, None, codes}
use Rattle.mr_types.specs.declared.value.Value.{Value}
use Rattle.mr_types.specs.declared.expr.Cmp.{Cmp}
use Rattle.mr_types.specs.declared.expr.Cmp.TheVariants as cmp
use Rattle.mr_types.specs.declared.expr.Expr.{Expr, fold-Expr}
use Rattle.mr_types.specs.declared.expr.Expr.TheOpen.{Expr-F, Compare, IsNull, Between, OneOf, Not, And, Or}
use Rattle.mr_spelling.specs.Parts.{Part, Keyword, Mark, Name}
use Rattle.mr_spelling.specs.Spelling.{spelled_by, spelled_list, spelled_literal}

abbrev pub comparison_sign : Cmp → List ℕ
comparison_sign cmp.Eq = codes "="
comparison_sign cmp.Ne = codes "<>"
comparison_sign cmp.Lt = codes "<"
comparison_sign cmp.Le = codes "<="
comparison_sign cmp.Gt = codes ">"
comparison_sign cmp.Ge = codes ">="

-- a way to spell a condition, and how many NOTs and parentheses are nested in it at most
pub record Way : Type 0 where
  pub parts : List Part → List Part
  pub nesting : ℕ

-- a condition under AND or NOT, under OR, and on its own; and how NOT of it is spelled
pub record Ways : Type 0 where
  pub in_and : Way
  pub in_or : Way
  pub alone : Way
  pub negated : Way

-- nothing is nested in it
abbrev pub flat : (List Part → List Part) → Way
flat parts = record { parts = parts; nesting = 0 }

abbrev pub under_not : Way → Way
under_not w = record { parts = λ more. Keyword (codes "not") ∷ w.parts more; nesting = suc w.nesting }

abbrev pub enclosed : Way → Way
enclosed w = record { parts = λ more. Mark (codes "(") ∷ w.parts (Mark (codes ")") ∷ more); nesting = suc w.nesting }

-- one way wherever it stands
abbrev pub anywhere : Way → Way → Ways
anywhere w negated = record { in_and = w; in_or = w; alone = w; negated = negated }

abbrev pub deepest : List Way → ℕ
deepest [] = 0
deepest (w ∷ ws) = max w.nesting (deepest ws)

abbrev pub joined : List ℕ → List Way → Way
joined word ws = record { parts = λ more. spelled_by (Keyword word) (λ w rest. w.parts rest) ws more; nesting = deepest ws }

-- BETWEEN and IN, behind the name, and a NOT where there is one
abbrev pub spelled_between : Value → Value → List Part → List Part
spelled_between a b more = Keyword (codes "between") ∷ spelled_literal a (Keyword (codes "and") ∷ spelled_literal b more)

abbrev pub spelled_in : List Value → List Part → List Part
spelled_in vs more = Keyword (codes "in") ∷ Mark (codes "(") ∷ spelled_list spelled_literal vs (Mark (codes ")") ∷ more)

abbrev pub compared : List ℕ → Cmp → Value → Way
compared n c v = flat (λ more. Name n ∷ Mark (comparison_sign c) ∷ spelled_literal v more)

abbrev pub all_joined : List Way → Ways
all_joined ws = record { in_and = enclosed (joined (codes "and") ws); in_or = joined (codes "and") ws; alone = joined (codes "and") ws; negated = under_not (enclosed (joined (codes "and") ws)) }

abbrev pub any_joined : List Way → Ways
any_joined ws = record { in_and = enclosed (joined (codes "or") ws); in_or = enclosed (joined (codes "or") ws); alone = joined (codes "or") ws; negated = under_not (enclosed (joined (codes "or") ws)) }

-- one layer, whose parts have their ways already
abbrev pub layer_ways : Expr-F Ways → Ways
layer_ways (Compare n c v) = anywhere (compared n c v) (under_not (compared n c v))
layer_ways (IsNull n) = anywhere (flat (λ more. Name n ∷ Keyword (codes "is") ∷ Keyword (codes "null") ∷ more)) (flat (λ more. Name n ∷ Keyword (codes "is") ∷ Keyword (codes "not") ∷ Keyword (codes "null") ∷ more))
layer_ways (Between n a b) = anywhere (flat (λ more. Name n ∷ spelled_between a b more)) (flat (λ more. Name n ∷ Keyword (codes "not") ∷ spelled_between a b more))
layer_ways (OneOf n vs) = anywhere (flat (λ more. Name n ∷ spelled_in vs more)) (flat (λ more. Name n ∷ Keyword (codes "not") ∷ spelled_in vs more))
layer_ways (Not w) = anywhere w.negated (under_not w.negated)
layer_ways (And ws) = all_joined (map (λ w. w.in_and) ws)
layer_ways (Or ws) = any_joined (map (λ w. w.in_or) ws)

abbrev pub ways : Expr → Ways
ways e = fold-Expr Ways layer_ways e

-- as it stands behind WHERE
abbrev pub spelled_condition : Expr → List Part → List Part
spelled_condition e more = (ways e).alone.parts more

-- the NOTs and parentheses that a spelling of the condition has to nest
abbrev pub nesting : Expr → ℕ
nesting e = (ways e).alone.nesting

-- [WHERE cond]
abbrev pub spelled_where : Option Expr → List Part → List Part
spelled_where None more = more
spelled_where (Some e) more = Keyword (codes "where") ∷ spelled_condition e more
