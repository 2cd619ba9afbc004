-- A function value that reads neg to a depth.
use Rattle.std.specs.Prelude.{ℕ, List, Result}
use Rattle.std.specs.declared.alloc.Global.{Global}
use denote.Ref.{MutBor}
use Rattle.mr_lex.specs.Reading.{Lexeme}
use Rattle.mr_types.specs.declared.expr.Expr.{Expr}
use Rattle.mr_spec.specs.ConditionPhrases.{neg}
use Rattle.mr_tokens.specs.declared.unread.Unread.{Unread}
use Rattle.mr_tokens.specs.Answers.{Reads}

pub record Nests (depth : ℕ) (pre : Global → MutBor (List Lexeme) → ℕ → Type 0)
    (post : Global → MutBor (List Lexeme) → ℕ → Result Expr Unread → MutBor (List Lexeme) → Type 0) : Type 0 where
  pub callable : (alloc : Global) (old : MutBor (List Lexeme)) → pre alloc old depth
  pub reads : (alloc : Global) (old new : MutBor (List Lexeme)) (r : Result Expr Unread) → post alloc old depth r new
      → Reads (neg depth old.now) r new.now
