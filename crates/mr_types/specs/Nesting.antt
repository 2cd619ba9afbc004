-- How deep conditions nest: the NOTs and parentheses that a text of the condition has inside one another at least.
use Rattle.std.specs.Prelude.{ℕ, suc, max, Bool, true, nat_le, List, [], ◌∷◌, map, Option, Some, None}
use Rattle.mr_types.specs.declared.expr.Expr.{Expr, fold-Expr}
use Rattle.mr_types.specs.declared.expr.Expr.TheOpen.{Expr-F, Compare, IsNull, Between, OneOf, Not, And, Or}
use Rattle.mr_types.specs.declared.statement.Statement.{Statement}
use Rattle.mr_types.specs.declared.statement.Statement.TheVariants as statements

-- what a condition is outside: a test that has a NOT of its own, as IS NULL, BETWEEN and IN; another test, or a NOT; parts with AND; parts with OR
pub data Form : Type 0 where
  Ranged : Form
  Single : Form
  All : Form
  Any : Form

-- a condition that stands alone, and how deep it nests
pub record Nested : Type 0 where
  pub form : Form
  pub depth : ℕ

-- among parts with OR, those with OR stand in parentheses
abbrev pub depth_in_or : Form → ℕ → ℕ
depth_in_or Any depth = suc depth
depth_in_or _ depth = depth

abbrev pub in_or : Nested → ℕ
in_or n = depth_in_or n.form n.depth

-- among parts with AND, or behind NOT, those with AND or OR do
abbrev pub depth_in_and : Form → ℕ → ℕ
depth_in_and All depth = suc depth
depth_in_and Any depth = suc depth
depth_in_and _ depth = depth

abbrev pub in_and : Nested → ℕ
in_and n = depth_in_and n.form n.depth

-- with a NOT, which is none where the test has its own
abbrev pub depth_negated : Form → ℕ → ℕ
depth_negated Ranged depth = depth
depth_negated Single depth = suc depth
depth_negated _ depth = suc (suc depth)

abbrev pub negated : Nested → ℕ
negated n = depth_negated n.form n.depth

abbrev pub deepest : List ℕ → ℕ
deepest [] = 0
deepest (n ∷ ns) = max n (deepest ns)

-- one layer, whose parts are known already
abbrev pub layer_nesting : Expr-F Nested → Nested
layer_nesting (Compare name cmp v) = record { form = Single; depth = 0 }
layer_nesting (IsNull name) = record { form = Ranged; depth = 0 }
layer_nesting (Between name a b) = record { form = Ranged; depth = 0 }
layer_nesting (OneOf name vs) = record { form = Ranged; depth = 0 }
layer_nesting (Not part) = record { form = Single; depth = negated part }
layer_nesting (And parts) = record { form = All; depth = deepest (map in_and parts) }
layer_nesting (Or parts) = record { form = Any; depth = deepest (map in_or parts) }

abbrev pub nested : Expr → Nested
nested e = fold-Expr Nested layer_nesting e

abbrev pub nesting : Expr → ℕ
nesting e = (nested e).depth

-- 64 at most, also where there is no condition
abbrev pub is_shallow : Option Expr → Bool
is_shallow None = true
is_shallow (Some e) = nat_le (nesting e) 64

-- the statement's condition is
abbrev pub nests_little : Statement → Bool
nests_little (statements.Update table set condition) = is_shallow condition
nests_little (statements.Delete table condition) = is_shallow condition
nests_little (statements.Select select) = is_shallow select.condition
nests_little _ = true
