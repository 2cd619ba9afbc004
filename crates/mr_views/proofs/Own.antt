-- A table behind a session's own changes.
use Rattle.std.proofs.Common.{◌≡◌, ℕ, true, false, cond, List, [], ◌∷◌, length, take, Option, Some, None, refl, ap, ap₂, ◌∙◌, nat_eq, arith}
use Rattle.std.specs.Prelude.{◌&&◌, if◌then◌else◌}
use Rattle.std.specs.Option.{option_map, option_map_or}
use Rattle.mr_types.specs.declared.row.Change.{Change}
use Rattle.mr_types.specs.declared.row.Commit.{Commit}
use Rattle.mr_types.specs.Values.{same_bytes}
use Rattle.mr_spec.specs.declared.world.Table.{Table}
use Rattle.mr_spec.specs.declared.world.Txn.{Txn}
use Rattle.mr_spec.specs.Database.{is_table, table_of, at_table, changed, with_changes, on_table, replay}
use Rattle.mr_spec.specs.Rows.{rows_after, table_name}
use Rattle.mr_spec.specs.World.{World, seen_by, changes_by}
use Rattle.mr_same_worlds.proofs.Absent.{found-name}
use Rattle.mr_views.specs.Views.{rows_behind, table_behind, table_seen, TableByChanges, RowsByChanges}

same-back : (a b : List ℕ) → same_bytes a b ≡ same_bytes b a
same-back [] [] = refl
same-back [] (y ∷ b) = refl
same-back (x ∷ a) [] = refl
same-back (x ∷ a) (y ∷ b) = ap₂ (λ p q. p && q) (number-back x y) (same-back a b)
  where
    number-back : (m n : ℕ) → nat_eq m n ≡ nat_eq n m
    number-back m n = grind arith

-- the table of a name among tables of which some are made anew
find-anew : (n name : List ℕ) (f : Table → Table) (ts : List Table) → ((t : Table) → (f t).def.name ≡ t.def.name) → table_of name (at_table n f ts) ≡ option_map (λ t. if is_table n t then f t else t) (table_of name ts)
find-anew n name f [] h = refl
find-anew n name f (t ∷ ts) h =
    ap (λ b. cond b (Some (if is_table n t then f t else t)) (table_of name (at_table n f ts))) (ap (λ x. same_bytes x name) same)
    ∙ (elim (is_table name t) as (λ b. cond b (Some (if is_table n t then f t else t)) (table_of name (at_table n f ts)) ≡ option_map (λ t. if is_table n t then f t else t) (cond b (Some t) (table_of name ts))) [
      | true ↦ refl
      | false ↦ find-anew n name f ts h
    ])
  where
    same : (if is_table n t then f t else t).def.name ≡ t.def.name
    same = elim (is_table n t) as (λ b. (if b then f t else t).def.name ≡ t.def.name) [ true ↦ h t | false ↦ refl ]

-- which change it sees
abbrev changed-by : List ℕ → Change → Table → Table
changed-by name c t = if same_bytes (table_name c) name then record t { rows = rows_after t.def t.rows c } else t

by-name : (name n : List ℕ) (f : Table → Table) (o : Option Table) → ((t : Table) → o ≡ Some t → t.def.name ≡ name) → option_map (λ t. if is_table n t then f t else t) o ≡ option_map (λ t. if same_bytes n name then f t else t) o
by-name name n f None h = refl
by-name name n f (Some t) h = ap (λ b. Some (if b then f t else t)) (ap (λ x. same_bytes x n) (h t refl) ∙ same-back name n)

one-change : (name : List ℕ) (c : Change) (ts : List Table) → table_of name (changed ts c) ≡ option_map (changed-by name c) (table_of name ts)
one-change name c ts =
    find-anew (table_name c) name (λ t. record t { rows = rows_after t.def t.rows c }) ts (λ t. refl)
    ∙ by-name name (table_name c) (λ t. record t { rows = rows_after t.def t.rows c }) (table_of name ts) (λ t e. found-name name ts t e)

folded : (name : List ℕ) (c : Change) (cs : List Change) (o : Option Table) → option_map (table_behind (on_table name cs)) (option_map (changed-by name c) o) ≡ option_map (table_behind (on_table name (c ∷ cs))) o
folded name c cs None = refl
folded name c cs (Some t) = elim (same_bytes (table_name c) name) as (λ b. Some (table_behind (on_table name cs) (if b then record t { rows = rows_after t.def t.rows c } else t)) ≡ Some (table_behind (cond b (c ∷ on_table name cs) (on_table name cs)) t)) [ true ↦ refl | false ↦ refl ]

unchanged : (o : Option Table) → o ≡ option_map (table_behind []) o
unchanged None = refl
unchanged (Some t) = refl

all-changes : (name : List ℕ) (cs : List Change) (ts : List Table) → table_of name (with_changes ts cs) ≡ option_map (table_behind (on_table name cs)) (table_of name ts)
all-changes name [] ts = unchanged (table_of name ts)
all-changes name (c ∷ cs) ts = all-changes name cs (changed ts c) ∙ ap (option_map (table_behind (on_table name cs))) (one-change name c ts) ∙ folded name c cs (table_of name ts)

pub table-by-changes : (name : List ℕ) (commits : List Commit) (txn : Option Txn) → TableByChanges name commits txn
table-by-changes name commits txn = all-changes name (changes_by txn) (replay (take (seen_by txn (length commits)) commits))

rows-of : (cs : List Change) (o : Option Table) → option_map_or (λ t. t.rows) (option_map (table_behind cs) o) [] ≡ option_map_or (λ t. rows_behind t.def t.rows cs) o []
rows-of cs None = refl
rows-of cs (Some t) = refl

pub rows-by-changes : (name : List ℕ) (w : World) → RowsByChanges name w
rows-by-changes name w = ap (λ o. option_map_or (λ (t : Table). t.rows) o []) (table-by-changes name w.commits w.here.txn) ∙ rows-of (on_table name (changes_by w.here.txn)) (table_seen name w.commits w.here.txn)
