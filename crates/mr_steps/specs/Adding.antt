-- The commits that one statement adds.
use Rattle.std.specs.Prelude.{◌≡◌, ℕ, max, if◌then◌else◌, List, [], ◌∷◌, ◌++◌, Option, None, ⊤}
use Rattle.mr_types.specs.declared.row.Change.{Change}
use Rattle.mr_types.specs.declared.row.Commit.{Commit}
use Rattle.mr_types.specs.declared.row.CommitBody.{CommitBody}
use Rattle.mr_types.specs.declared.row.CommitBody.TheVariants as body
use Rattle.mr_types.specs.declared.statement.Statement.{Statement}
use Rattle.mr_types.specs.declared.statement.Statement.TheVariants as statement
use Rattle.mr_spec.specs.declared.world.Txn.{Txn}
use Rattle.mr_spec.specs.Rows.{table_name}
use Rattle.mr_spec.specs.Database.{schema_table}
use Rattle.mr_spec.specs.Step.{commits_first}
use Rattle.mr_spec.specs.World.{World, changes_by}
use Rattle.mr_sound.specs.Sound.{IsIn}

-- a commit of these changes at this moment; of no change there is none
abbrev pub rows_commit : ℕ → List Change → List Commit
rows_commit moment [] = []
rows_commit moment (c ∷ cs) = record { moment = moment; body = body.Rows (c ∷ cs) } ∷ []

-- that of the open transaction, where the statement commits it first
abbrev pub first_commit : World → Statement → ℕ → List Commit
first_commit w s clock = if commits_first s then rows_commit (max w.moment clock) (changes_by w.here.txn) else []

-- a change of this table's definition
abbrev pub IsOfTable : List ℕ → CommitBody → Type 0
IsOfTable table (body.Rows changes) = ⊥
IsOfTable table (body.Schema change) = schema_table change ≡ table

-- each of these changes is of this table
abbrev pub AreOf : List ℕ → List Change → Type 0
AreOf table changes = (c : Change) → IsIn c changes → table_name c ≡ table

-- changes of this table's rows, outside a transaction
abbrev pub IsAlone : List ℕ → Option Txn → CommitBody → Type 0
IsAlone table txn (body.Rows changes) = (txn ≡ None) × AreOf table changes
IsAlone table txn (body.Schema change) = ⊥

-- what a statement may commit by itself, in a session with this transaction
abbrev pub MayCommit : Statement → Option Txn → CommitBody → Type 0
MayCommit (statement.CreateTable text if_not_exists engine) txn b = IsOfTable text.name b
MayCommit (statement.DropTable table if_exists) txn b = IsOfTable table b
MayCommit (statement.CreateIndex table key) txn b = IsOfTable table b
MayCommit (statement.DropIndex n) txn b = IsOfTable n.table b
MayCommit (statement.FinishIndex n) txn b = IsOfTable n.table b
MayCommit (statement.Insert s) txn b = IsAlone s.table txn b
MayCommit (statement.Replace s) txn b = IsAlone s.table txn b
MayCommit (statement.Update table set condition) txn b = IsAlone table txn b
MayCommit (statement.Delete table condition) txn b = IsAlone table txn b
MayCommit statement.Commit txn b = b ≡ body.Rows (changes_by txn)
MayCommit _ txn b = ⊥

-- none, or one with P
abbrev pub IsOneAtMost : (Commit → Type 0) → List Commit → Type 0
IsOneAtMost P [] = ⊤
IsOneAtMost P (c ∷ []) = P c
IsOneAtMost P (c ∷ d ∷ cs) = ⊥

-- at this moment, and what the statement may commit by itself
abbrev pub IsOwn : Statement → ℕ → Option Txn → Commit → Type 0
IsOwn s moment txn c = (c.moment ≡ moment) × MayCommit s txn c.body

-- these are the commits of the statement: first the open transaction's, then at most one of its own
pub record Adds (w : World) (s : Statement) (clock : ℕ) (added : List Commit) : Type 0 where
  pub own : List Commit
  pub is : added ≡ first_commit w s clock ++ own
  pub one : IsOneAtMost (IsOwn s (max w.moment clock) w.here.txn) own
