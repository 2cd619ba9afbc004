-- Commits of definitions with few columns make tables with few columns.
use Rattle.std.proofs.Common.{◌≡◌, ◌≤◌, ℕ, Bool, true, false, List, [], ◌∷◌, ◌++◌, length, filter, Option, Some, None, if◌then◌else◌, subst}
use Rattle.std.specs.Prelude.{⊤}
use Rattle.mr_types.specs.declared.row.Change.{Change}
use Rattle.mr_types.specs.declared.row.Schema.{Schema}
use Rattle.mr_types.specs.declared.row.Schema.TheVariants.{CreateTable, DropTable, CreateIndex, DropIndex}
use Rattle.mr_types.specs.declared.row.CommitBody.{CommitBody}
use Rattle.mr_types.specs.declared.row.CommitBody.TheVariants as body
use Rattle.mr_types.specs.declared.row.Commit.{Commit}
use Rattle.mr_spec.specs.declared.world.Table.{Table}
use Rattle.mr_spec.specs.Database.{is_table, table_of, at_table, changed, with_changes, with_schema, with_body, with_commits, replay}
use Rattle.mr_schema.specs.Few.{FewInSchema, FewInBody, FewColumns}

-- the table has few columns
abbrev pub Few : Table → Type 0
Few t = length t.def.columns ≤ 255

-- each of these has
abbrev pub AllFew : List Table → Type 0
AllFew [] = ⊤
AllFew (t ∷ ts) = Few t × AllFew ts

few-if : (b : Bool) (t u : Table) → Few t → Few u → Few (if b then t else u)
few-if true t u h g = h
few-if false t u h g = g

few-at_table : (name : List ℕ) (f : Table → Table) → ((t : Table) → Few t → Few (f t)) → (ts : List Table) → AllFew ts → AllFew (at_table name f ts)
few-at_table name f g [] h = tt
few-at_table name f g (t ∷ ts) h = (few-if (is_table name t) (f t) t (g t h.0) h.0, few-at_table name f g ts h.1)

few-append : (ts : List Table) (t : Table) → AllFew ts → Few t → AllFew (ts ++ t ∷ [])
few-append [] t h g = (g, tt)
few-append (u ∷ ts) t h g = (h.0, few-append ts t h.1 g)

few-kept : (b : Bool) (t : Table) (ts : List Table) → Few t → AllFew ts → AllFew (if b then t ∷ ts else ts)
few-kept true t ts h g = (h, g)
few-kept false t ts h g = g

few-filter : (p : Table → Bool) (ts : List Table) → AllFew ts → AllFew (filter p ts)
few-filter p [] h = tt
few-filter p (t ∷ ts) h = few-kept (p t) t (filter p ts) h.0 (few-filter p ts h.1)

few-changes : (ts : List Table) (cs : List Change) → AllFew ts → AllFew (with_changes ts cs)
few-changes ts [] h = h
few-changes ts (c ∷ cs) h = few-changes (changed ts c) cs (few-at_table _ _ (λ t g. g) ts h)

few-schema : (ts : List Table) (s : Schema) → AllFew ts → FewInSchema s → AllFew (with_schema ts s)
few-schema ts (CreateTable def) h g = few-append ts _ h g
few-schema ts (DropTable name) h g = few-filter _ ts h
few-schema ts (CreateIndex name key) h g = few-at_table name _ (λ t f. f) ts h
few-schema ts (DropIndex name key) h g = few-at_table name _ (λ t f. f) ts h

few-body : (ts : List Table) (b : CommitBody) → AllFew ts → FewInBody b → AllFew (with_body ts b)
few-body ts (body.Rows changes) h g = few-changes ts changes h
few-body ts (body.Schema s) h g = few-schema ts s h g

few-commits : (ts : List Table) (cs : List Commit) → AllFew ts → FewColumns cs → AllFew (with_commits ts cs)
few-commits ts [] h g = h
few-commits ts (c ∷ cs) h g = few-commits (with_body ts c.body) cs (few-body ts c.body h g.0) g.1

abbrev pub IfSomeFew : Option Table → Type 0
IfSomeFew None = ⊤
IfSomeFew (Some t) = Few t

few-either : (b : Bool) (t : Table) (o : Option Table) → Few t → IfSomeFew o → IfSomeFew (if b then Some t else o)
few-either true t o h g = h
few-either false t o h g = g

few-find : (name : List ℕ) (ts : List Table) → AllFew ts → IfSomeFew (table_of name ts)
few-find name [] h = tt
few-find name (t ∷ ts) h = few-either (is_table name t) t (table_of name ts) h.0 (few-find name ts h.1)

-- a table that is found has few columns
pub few_found : (commits : List Commit) (name : List ℕ) (t : Table) → FewColumns commits → table_of name (replay commits) ≡ Some t → length t.def.columns ≤ 255
few_found commits name t h e = subst IfSomeFew e (few-find name (replay commits) (few-commits [] commits tt h))
