-- What a refused statement leaves, by its kind, its table and its code.
use Rattle.std.specs.Prelude.{◌≡◌, ◌≢◌, ◌≤◌, ℕ, List, Option, Some, None, ⊤}
use Rattle.mr_types.specs.declared.definition.IndexDef.{IndexDef}
use Rattle.mr_types.specs.declared.statement.KeyName.{KeyName}
use Rattle.mr_types.specs.declared.statement.Select.{Select}
use Rattle.mr_types.specs.declared.text.KeyText.{KeyText}
use Rattle.mr_types.specs.declared.statement.Statement.{Statement}
use Rattle.mr_types.specs.declared.statement.Statement.TheVariants as statement
use Rattle.mr_spec.specs.World.{World, entered, with_number, with_building, rolled_back}

-- the table whose rows a statement changes
abbrev pub written_table : Statement → Option (List ℕ)
written_table (statement.Insert s) = Some s.table
written_table (statement.Replace s) = Some s.table
written_table (statement.Update table set condition) = Some table
written_table (statement.Delete table condition) = Some table
written_table _ = None

-- or reads
abbrev pub rows_table : Statement → Option (List ℕ)
rows_table (statement.Select s) = Some s.table
rows_table s = written_table s

-- FINISH INDEX was not refused with 1062
abbrev pub IsNoLostIndex : Statement → ℕ → Type 0
IsNoLostIndex (statement.FinishIndex n) code = code ≢ 1062
IsNoLostIndex _ code = ⊤

-- What is left of the world w in which a statement was judged. A statement that isn't on rows leaves w, but that 1062 ends the
-- index that FINISH INDEX or CREATE INDEX was about. One on rows leaves w where the table isn't there (1146); else the table
-- is used and the snapshot fixed, and that is all behind 1412 or a refused SELECT; hidden numbers may have been drawn, never
-- back; and the transaction is rolled back behind 1213, and behind no other code.
pub data LeftBy (w : World) (s : Statement) (code : ℕ) : World → Type 0 where
  as_it_was : rows_table s ≡ None → IsNoLostIndex s code → LeftBy w s code w
  not_there : code ≡ 1146 → LeftBy w s code w
  stale : (name : List ℕ) → rows_table s ≡ Some name → code ≡ 1412 → LeftBy w s code (entered name w)
  not_selected : (x : Select) → s ≡ statement.Select x → LeftBy w s code (entered x.table w)
  not_written : (name : List ℕ) (n : ℕ) → written_table s ≡ Some name → code ≢ 1213 → w.numbers name ≤ n → LeftBy w s code (with_number name n (entered name w))
  ended : (name : List ℕ) (n : ℕ) → written_table s ≡ Some name → code ≡ 1213 → w.numbers name ≤ n → LeftBy w s code (rolled_back (with_number name n (entered name w)))
  unbuilt : (n : KeyName) → s ≡ statement.FinishIndex n → code ≡ 1062 → LeftBy w s code (with_building n.table None w)
  built_in_vain : (table : List ℕ) (text : KeyText) (key : IndexDef) → s ≡ statement.CreateIndex table text → code ≡ 1062 → LeftBy w s code (with_building table None (with_building table (Some key) w))
