-- Definitions of at most 255 columns: their count has one byte in a definition's form, and the checks let fewer pass.
use Rattle.std.specs.Prelude.{ℕ, ◌≤◌, List, [], ◌∷◌, length, ⊤}
use Rattle.mr_types.specs.declared.row.Schema.{Schema}
use Rattle.mr_types.specs.declared.row.Schema.TheVariants.{CreateTable, DropTable, CreateIndex, DropIndex}
use Rattle.mr_types.specs.declared.row.CommitBody.{CommitBody}
use Rattle.mr_types.specs.declared.row.CommitBody.TheVariants as body
use Rattle.mr_types.specs.declared.row.Commit.{Commit}

-- a table that is made has few columns
abbrev pub FewInSchema : Schema → Type 0
FewInSchema (CreateTable def) = length def.columns ≤ 255
FewInSchema (DropTable name) = ⊤
FewInSchema (CreateIndex name key) = ⊤
FewInSchema (DropIndex name key) = ⊤

-- changes of rows make no table
abbrev pub FewInBody : CommitBody → Type 0
FewInBody (body.Rows changes) = ⊤
FewInBody (body.Schema s) = FewInSchema s

-- each table that these commits make has few columns
abbrev pub FewColumns : List Commit → Type 0
FewColumns [] = ⊤
FewColumns (c ∷ cs) = FewInBody c.body × FewColumns cs
