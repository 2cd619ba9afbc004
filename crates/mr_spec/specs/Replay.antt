-- The world of a fresh opening.
use Rattle.std.specs.Prelude.{ℕ, ◌+◌, max, List, [], ◌∷◌, None, codes}
use Rattle.std.specs.Option.{option_map_or}
use Rattle.mr_types.specs.declared.row.Change.{Change}
use Rattle.mr_types.specs.declared.row.Change.TheVariants as change
use Rattle.mr_types.specs.declared.row.Schema.{Schema}
use Rattle.mr_types.specs.declared.row.Schema.TheVariants as schema
use Rattle.mr_types.specs.declared.row.CommitBody.{CommitBody}
use Rattle.mr_types.specs.declared.row.CommitBody.TheVariants as body
use Rattle.mr_types.specs.declared.row.Commit.{Commit}
use Rattle.mr_spec.specs.World.{World, at_name, fresh}

-- the moment of the last commit
abbrev pub last_moment : ℕ → List Commit → ℕ
last_moment m [] = m
last_moment m (c ∷ cs) = last_moment c.moment cs

-- an inserted row's hidden number is used
abbrev pub numbers_by_change : (List ℕ → ℕ) → Change → List ℕ → ℕ
numbers_by_change f (change.Insert table new) = option_map_or (λ h. at_name table (max (f table) (h + 1)) f) new.hidden f
numbers_by_change f (change.Update table old new) = f
numbers_by_change f (change.Delete table old) = f

-- after these changes
abbrev pub numbers_by_changes : (List ℕ → ℕ) → List Change → List ℕ → ℕ
numbers_by_changes f [] = f
numbers_by_changes f (c ∷ cs) = numbers_by_changes (numbers_by_change f c) cs

-- a dropped table's numbers are forgotten
abbrev pub numbers_by_schema : (List ℕ → ℕ) → Schema → List ℕ → ℕ
numbers_by_schema f (schema.CreateTable def) = f
numbers_by_schema f (schema.DropTable name) = at_name name 1 f
numbers_by_schema f (schema.CreateIndex name key) = f
numbers_by_schema f (schema.DropIndex name key) = f

-- after what a commit has changed
abbrev pub numbers_by_body : (List ℕ → ℕ) → CommitBody → List ℕ → ℕ
numbers_by_body f (body.Rows changes) = numbers_by_changes f changes
numbers_by_body f (body.Schema s) = numbers_by_schema f s

-- one above the greatest hidden number of each table's inserts
abbrev pub numbers_after : (List ℕ → ℕ) → List Commit → List ℕ → ℕ
numbers_after f [] = f
numbers_after f (c ∷ cs) = numbers_after (numbers_by_body f c.body) cs

-- session `main` alone, outside a transaction, no building index, and the last commit's moment
abbrev pub reopened : List Commit → World
reopened commits = record {
  commits = commits;
  here = fresh (codes "main");
  others = [];
  building = λ name. None;
  numbers = numbers_after (λ name. 1) commits;
  moment = last_moment 0 commits;
}
