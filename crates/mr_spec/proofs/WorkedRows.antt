-- Worked rows, by computation.
use Rattle.std.proofs.Common.{◌≡◌, ℕ, true, false, [], ◌∷◌, ◌++◌, List, slice_index_or, None, Ok, refl, codes}
use Rattle.std.specs.Fmt.{digits}
use Rattle.mr_types.specs.declared.value.Value.TheVariants.{Null, Text}
use Rattle.mr_types.specs.declared.kind.KindText.TheVariants as written
use Rattle.mr_pieces.specs.declared.collation.Collation.TheVariants.{Ci}
use Rattle.mr_types.specs.declared.statement.Statement.{Statement}
use Rattle.mr_types.specs.declared.statement.Statement.TheVariants as statement
use Rattle.mr_spec.specs.Replay.{reopened}
use Rattle.mr_spec.specs.ScriptRun.{trace, output_of, world_behind}
use Rattle.mr_spec.specs.Truth.{Where}
use Rattle.mr_spec.specs.Changes.{update_changes}
use Rattle.mr_spec.specs.World.{World}
use Rattle.mr_spec.specs.Outcome.{Outcome}
use Rattle.mr_spec.specs.RowSteps.{on_rows, write_outcome, select_outcome}
use Rattle.mr_spec.specs.Step.{timed}
use Rattle.std.proofs.Common.{ap}
use Rattle.mr_types.specs.declared.expr.Cmp.TheVariants.{Eq}
use Rattle.mr_types.specs.declared.statement.SetItem.{SetItem}
use Rattle.mr_spec.proofs.Conditions.{truth-compare, truth-not, named-compare, named-not, where-compare}
use Rattle.mr_spec.proofs.Traces.{output-around}
use Rattle.mr_spec.proofs.Written.{num, column, primary_key, key, unique_key, create, insert, replace, select_all, select, select_count, select_by, set_to, set_more, update, key_of, all_ok, equals, not_equals, session, begin, begin_index, begin_unique, select_where, select_forced, select_forced_data}

-- the output of statements on an empty folder
abbrev pub output : List Statement → (ℕ → ℕ) → List ℕ
output ss now = output_of (trace (reopened []) (all_ok ss) now)

abbrev pub seven : ℕ → ℕ
seven k = 7

-- CREATE TABLE t (id BIGINT NOT NULL, v BIGINT, PRIMARY KEY (id))
abbrev pub create_t : Statement
create_t = create (codes "t") (column (codes "id") written.BigInt false ∷ column (codes "v") written.BigInt true ∷ []) (primary_key (codes "id" ∷ []) ∷ []) []

-- an UPDATE that moves a row onto another is refused whole
pub duplicates_in_an_update : output (create_t ∷ insert (codes "t") ((num 1 ∷ num 1 ∷ []) ∷ (num 2 ∷ num 2 ∷ []) ∷ []) ∷ update (codes "t") (set_more (codes "id") 1 ∷ []) None ∷ select_all (codes "t") ∷ []) seven
    ≡ codes "OK 0\nOK 2\nERROR 1062\nROWS 2\n1\t1\n2\t2\n"
unfolding digits
duplicates_in_an_update = refl

-- CREATE TABLE v (id BIGINT NOT NULL, n VARCHAR(9) COLLATE ascii_general_ci, PRIMARY KEY (id), UNIQUE KEY w (n))
abbrev pub create_v : Statement
create_v = create (codes "v") (column (codes "id") written.BigInt false ∷ column (codes "n") (written.VarChar 9 Ci) true ∷ []) (primary_key (codes "id" ∷ []) ∷ unique_key (codes "w") (codes "n" ∷ []) ∷ []) []

-- the clock gives these values, the last one again and again
abbrev pub values : List ℕ → ℕ → ℕ
values [] k = 0
values (v ∷ vs) k = slice_index_or (v ∷ vs) k v

-- a transaction reads its snapshot
abbrev before_update : List Statement
before_update =
    create_t
    ∷ insert (codes "t") ((num 1 ∷ num 10 ∷ []) ∷ [])
    ∷ session (codes "a")
    ∷ begin
    ∷ select (codes "v" ∷ []) (codes "t")
    ∷ session (codes "b") ∷ []

abbrev behind_update : List Statement
behind_update =
    statement.Work 50
    ∷ session (codes "a")
    ∷ select (codes "v" ∷ []) (codes "t")
    ∷ statement.Commit
    ∷ select (codes "v" ∷ []) (codes "t") ∷ []

abbrev v_to_20 : List SetItem
v_to_20 = set_to (codes "v") (num 20) ∷ []

-- an UPDATE with any condition
abbrev updating : World → Where → Outcome
updating w c = on_rows (codes "t") (write_outcome (λ a g. update_changes a v_to_20 c g)) (timed w 7)

pub a_snapshot_stays : output_of (trace (reopened []) (all_ok before_update ++ Ok (update (codes "t") v_to_20 (equals (codes "id") (num 1))) ∷ all_ok behind_update) seven)
    ≡ codes "OK 0\nOK 1\nOK 0\nOK 0\nROWS 1\n10\nOK 0\nOK 1\nOK 0\nOK 0\nROWS 1\n10\nOK 0\nROWS 1\n20\n"
unfolding digits
a_snapshot_stays =
    let w : World = world_behind (reopened []) (all_ok before_update) seven in
    output-around (reopened []) (all_ok before_update) (all_ok behind_update) (Ok (update (codes "t") v_to_20 (equals (codes "id") (num 1)))) seven _
    (ap (updating w) (where-compare (codes "id") Eq (num 1)))

-- a held claim is 1205, a changed one 1213, which ends the transaction
pub claims_and_changed_claims : output (
    create_t
    ∷ session (codes "c")
    ∷ begin
    ∷ select_count (codes "t")
    ∷ session (codes "a")
    ∷ begin
    ∷ insert (codes "t") ((num 5 ∷ num 1 ∷ []) ∷ [])
    ∷ session (codes "b")
    ∷ insert (codes "t") ((num 5 ∷ num 2 ∷ []) ∷ [])
    ∷ session (codes "a")
    ∷ statement.Commit
    ∷ session (codes "c")
    ∷ insert (codes "t") ((num 5 ∷ num 3 ∷ []) ∷ [])
    ∷ insert (codes "t") ((num 6 ∷ num 3 ∷ []) ∷ [])
    ∷ statement.Rollback
    ∷ select (codes "id" ∷ []) (codes "t") ∷ []) seven
    ≡ codes "OK 0\nOK 0\nOK 0\nROWS 1\n0\nOK 0\nOK 0\nOK 1\nOK 0\nERROR 1205\nOK 0\nOK 0\nOK 0\nERROR 1213\nOK 1\nOK 0\nROWS 2\n5\n6\n"
unfolding digits
claims_and_changed_claims = refl

-- a row is hidden from its stamp and TTL on, and may be inserted again
pub expired_rows_are_hidden : output (
    create (codes "e") (column (codes "id") written.BigInt false ∷ []) (primary_key (codes "id" ∷ []) ∷ []) (codes "ttl_duration=10;")
    ∷ insert (codes "e") ((num 1 ∷ []) ∷ [])
    ∷ select_count (codes "e")
    ∷ select_count (codes "e")
    ∷ insert (codes "e") ((num 1 ∷ []) ∷ []) ∷ []) (values (100 ∷ 100 ∷ 109 ∷ 110 ∷ 110 ∷ []))
    ≡ codes "OK 0\nOK 1\nROWS 1\n1\nROWS 1\n0\nOK 1\n"
unfolding digits
expired_rows_are_hidden = refl

-- the stamp is the TTL column
pub a_stamp_column : output (
    create (codes "x") (column (codes "id") written.BigInt false ∷ column (codes "d") written.BigIntUnsigned false ∷ []) (primary_key (codes "id" ∷ []) ∷ []) (codes "ttl_duration=10;ttl_col=d;")
    ∷ insert (codes "x") ((num 1 ∷ num 1000 ∷ []) ∷ [])
    ∷ statement.Work 50
    ∷ update (codes "x") (set_to (codes "d") (num 1) ∷ []) None
    ∷ create (codes "y") (column (codes "a") written.Int true ∷ []) [] []
    ∷ statement.Work 50
    ∷ select (codes "id" ∷ []) (codes "x") ∷ []) (values (5 ∷ 5 ∷ 5 ∷ 5 ∷ 20 ∷ 20 ∷ 20 ∷ []))
    ≡ codes "OK 0\nOK 1\nOK 0\nOK 1\nOK 0\nOK 0\nROWS 0\n"
unfolding digits
a_stamp_column = refl

-- a finished index may be forced
abbrev before_select : List Statement
before_select =
    create_t
    ∷ insert (codes "t") ((num 1 ∷ num 7 ∷ []) ∷ [])
    ∷ begin_index (codes "k") (codes "t") (codes "v")
    ∷ statement.Work 1
    ∷ session (codes "a")
    ∷ insert (codes "t") ((num 2 ∷ num 7 ∷ []) ∷ [])
    ∷ statement.FinishIndex (key_of (codes "t") (codes "k")) ∷ []

pub a_finished_index : output_of (trace (reopened []) (all_ok before_select ++ Ok (select_forced (codes "id" ∷ []) (codes "t") (codes "k") (equals (codes "v") (num 7))) ∷ []) seven)
    ≡ codes "OK 0\nOK 1\nOK 0\nOK 0\nOK 0\nOK 1\nOK 0\nROWS 2\n1\n2\n"
unfolding digits
a_finished_index =
    let w : World = world_behind (reopened []) (all_ok before_select) seven in
    output-around (reopened []) (all_ok before_select) [] (Ok (select_forced (codes "id" ∷ []) (codes "t") (codes "k") (equals (codes "v") (num 7)))) seven _
    (ap (λ (c : Where). on_rows (codes "t") (select_outcome (select_forced_data (codes "id" ∷ []) (codes "t") (codes "k") (equals (codes "v") (num 7))) c) (timed w 7)) (where-compare (codes "v") Eq (num 7)))

-- a building index may not be forced
pub a_building_index_is_no_key : output (
    create_t
    ∷ insert (codes "t") ((num 1 ∷ num 7 ∷ []) ∷ [])
    ∷ begin_index (codes "k") (codes "t") (codes "v")
    ∷ select_forced (codes "id" ∷ []) (codes "t") (codes "k") None
    ∷ select (codes "id" ∷ []) (codes "t") ∷ []) seven
    ≡ codes "OK 0\nOK 1\nOK 0\nERROR 1176\nROWS 1\n1\n"
unfolding digits
a_building_index_is_no_key = refl

-- FINISH INDEX judges the visible rows
pub a_unique_index_with_duplicates : output (
    create (codes "z") (column (codes "id") written.BigInt false ∷ column (codes "v") written.BigInt true ∷ []) (primary_key (codes "id" ∷ []) ∷ []) (codes "ttl_duration=10;")
    ∷ insert (codes "z") ((num 1 ∷ num 7 ∷ []) ∷ [])
    ∷ insert (codes "z") ((num 2 ∷ num 7 ∷ []) ∷ [])
    ∷ begin_unique (codes "w") (codes "z") (codes "v")
    ∷ statement.FinishIndex (key_of (codes "z") (codes "w"))
    ∷ begin_unique (codes "w") (codes "z") (codes "v")
    ∷ statement.FinishIndex (key_of (codes "z") (codes "w")) ∷ []) (values (100 ∷ 100 ∷ 105 ∷ 105 ∷ 105 ∷ 110 ∷ 110 ∷ []))
    ≡ codes "OK 0\nOK 1\nOK 1\nOK 0\nERROR 1062\nOK 0\nOK 0\n"
unfolding digits
a_unique_index_with_duplicates = refl

-- NULL comes first, clashes with nothing and is unknown
pub null_comes_first : output (
    create (codes "s") (column (codes "id") written.BigInt false ∷ column (codes "n") (written.VarChar 5 Ci) true ∷ []) (primary_key (codes "id" ∷ []) ∷ unique_key (codes "w") (codes "n" ∷ []) ∷ []) []
    ∷ insert (codes "s") ((num 1 ∷ Text (codes "") ∷ []) ∷ (num 2 ∷ Null ∷ []) ∷ (num 3 ∷ Null ∷ []) ∷ [])
    ∷ select_by (codes "id" ∷ codes "n" ∷ []) (codes "s") (codes "n")
    ∷ select_where (codes "id" ∷ []) (codes "s") (not_equals (codes "n") (Text (codes "x"))) ∷ []) seven
    ≡ codes "OK 0\nOK 3\nROWS 3\n2\tNULL\n3\tNULL\n1\t\nROWS 1\n1\n"
unfolding digits
null_comes_first = simp (truth-compare, truth-not, named-compare, named-not) refl

-- a used table is not dropped, and a later definition is 1412
pub used_tables_and_stale_definitions : output (
    create_t
    ∷ session (codes "a")
    ∷ begin
    ∷ select (codes "id" ∷ []) (codes "t")
    ∷ session (codes "b")
    ∷ statement.DropTable (codes "t") false
    ∷ create (codes "w") (column (codes "a") written.Int true ∷ []) [] []
    ∷ session (codes "a")
    ∷ select (codes "a" ∷ []) (codes "w") ∷ []) seven
    ≡ codes "OK 0\nOK 0\nOK 0\nROWS 0\nOK 0\nERROR 1205\nOK 0\nOK 0\nERROR 1412\n"
unfolding digits
used_tables_and_stale_definitions = refl

-- REPLACE deletes by each key
pub replace_deletes_two : output (
    create_v
    ∷ insert (codes "v") ((num 1 ∷ Text (codes "a") ∷ []) ∷ (num 2 ∷ Text (codes "b") ∷ []) ∷ [])
    ∷ replace (codes "v") ((num 1 ∷ Text (codes "B") ∷ []) ∷ [])
    ∷ select_all (codes "v") ∷ []) seven
    ≡ codes "OK 0\nOK 2\nOK 3\nROWS 1\n1\tB\n"
unfolding digits
replace_deletes_two = refl

-- a table without a primary key keeps the order of its inserts
pub hidden_keys_keep_the_order : output (
    create (codes "g") (column (codes "a") written.Int true ∷ []) [] []
    ∷ insert (codes "g") ((num 3 ∷ []) ∷ (num 1 ∷ []) ∷ (num 1 ∷ []) ∷ [])
    ∷ select_all (codes "g") ∷ []) seven
    ≡ codes "OK 0\nOK 3\nROWS 3\n3\n1\n1\n"
unfolding digits
hidden_keys_keep_the_order = refl

-- ROLLBACK TO drops later changes and their claims
pub savepoints_drop_claims : output (
    create_t
    ∷ begin
    ∷ insert (codes "t") ((num 1 ∷ num 1 ∷ []) ∷ [])
    ∷ statement.Savepoint (codes "p")
    ∷ insert (codes "t") ((num 2 ∷ num 2 ∷ []) ∷ [])
    ∷ statement.RollbackTo (codes "p")
    ∷ session (codes "a")
    ∷ insert (codes "t") ((num 2 ∷ num 9 ∷ []) ∷ [])
    ∷ session (codes "main")
    ∷ statement.Commit
    ∷ select_all (codes "t") ∷ []) seven
    ≡ codes "OK 0\nOK 0\nOK 1\nOK 0\nOK 1\nOK 0\nOK 0\nOK 1\nOK 0\nOK 0\nROWS 2\n1\t1\n2\t9\n"
unfolding digits
savepoints_drop_claims = refl

-- an UPDATE keeps the stamp
pub an_update_keeps_the_stamp : output (
    create (codes "h") (column (codes "id") written.BigInt false ∷ column (codes "v") written.BigInt true ∷ []) (primary_key (codes "id" ∷ []) ∷ []) (codes "ttl_duration=10;")
    ∷ insert (codes "h") ((num 1 ∷ num 1 ∷ []) ∷ [])
    ∷ update (codes "h") (set_to (codes "v") (num 2) ∷ []) None
    ∷ select_count (codes "h") ∷ []) (values (100 ∷ 100 ∷ 105 ∷ 110 ∷ []))
    ≡ codes "OK 0\nOK 1\nOK 1\nROWS 1\n0\n"
unfolding digits
an_update_keeps_the_stamp = refl

-- a table has one building index
pub one_building_index : output (
    create_t
    ∷ begin_index (codes "k") (codes "t") (codes "v")
    ∷ begin_index (codes "j") (codes "t") (codes "v")
    ∷ begin_index (codes "k") (codes "t") (codes "v")
    ∷ statement.DropTable (codes "t") false
    ∷ statement.FinishIndex (key_of (codes "t") (codes "j"))
    ∷ statement.CancelIndex (key_of (codes "t") (codes "k"))
    ∷ statement.CancelIndex (key_of (codes "t") (codes "k"))
    ∷ statement.CreateIndex (codes "t") (key (codes "j") (codes "v" ∷ []))
    ∷ statement.DropIndex (key_of (codes "t") (codes "j")) ∷ []) seven
    ≡ codes "OK 0\nOK 0\nERROR 1205\nERROR 1061\nERROR 1205\nERROR 1176\nOK 0\nERROR 1176\nOK 0\nOK 0\n"
unfolding digits
one_building_index = refl

-- a 65th session is 1040
pub sixty_four_sessions : output (
    session (codes "s1")
    ∷ session (codes "s2")
    ∷ session (codes "s3")
    ∷ session (codes "s4")
    ∷ session (codes "s5")
    ∷ session (codes "s6")
    ∷ session (codes "s7")
    ∷ session (codes "s8")
    ∷ session (codes "s9")
    ∷ session (codes "s10")
    ∷ session (codes "s11")
    ∷ session (codes "s12")
    ∷ session (codes "s13")
    ∷ session (codes "s14")
    ∷ session (codes "s15")
    ∷ session (codes "s16")
    ∷ session (codes "s17")
    ∷ session (codes "s18")
    ∷ session (codes "s19")
    ∷ session (codes "s20")
    ∷ session (codes "s21")
    ∷ session (codes "s22")
    ∷ session (codes "s23")
    ∷ session (codes "s24")
    ∷ session (codes "s25")
    ∷ session (codes "s26")
    ∷ session (codes "s27")
    ∷ session (codes "s28")
    ∷ session (codes "s29")
    ∷ session (codes "s30")
    ∷ session (codes "s31")
    ∷ session (codes "s32")
    ∷ session (codes "s33")
    ∷ session (codes "s34")
    ∷ session (codes "s35")
    ∷ session (codes "s36")
    ∷ session (codes "s37")
    ∷ session (codes "s38")
    ∷ session (codes "s39")
    ∷ session (codes "s40")
    ∷ session (codes "s41")
    ∷ session (codes "s42")
    ∷ session (codes "s43")
    ∷ session (codes "s44")
    ∷ session (codes "s45")
    ∷ session (codes "s46")
    ∷ session (codes "s47")
    ∷ session (codes "s48")
    ∷ session (codes "s49")
    ∷ session (codes "s50")
    ∷ session (codes "s51")
    ∷ session (codes "s52")
    ∷ session (codes "s53")
    ∷ session (codes "s54")
    ∷ session (codes "s55")
    ∷ session (codes "s56")
    ∷ session (codes "s57")
    ∷ session (codes "s58")
    ∷ session (codes "s59")
    ∷ session (codes "s60")
    ∷ session (codes "s61")
    ∷ session (codes "s62")
    ∷ session (codes "s63")
    ∷ session (codes "s64") ∷ []) seven
    ≡ codes "OK 0\nOK 0\nOK 0\nOK 0\nOK 0\nOK 0\nOK 0\nOK 0\nOK 0\nOK 0\nOK 0\nOK 0\nOK 0\nOK 0\nOK 0\nOK 0\nOK 0\nOK 0\nOK 0\nOK 0\nOK 0\nOK 0\nOK 0\nOK 0\nOK 0\nOK 0\nOK 0\nOK 0\nOK 0\nOK 0\nOK 0\nOK 0\nOK 0\nOK 0\nOK 0\nOK 0\nOK 0\nOK 0\nOK 0\nOK 0\nOK 0\nOK 0\nOK 0\nOK 0\nOK 0\nOK 0\nOK 0\nOK 0\nOK 0\nOK 0\nOK 0\nOK 0\nOK 0\nOK 0\nOK 0\nOK 0\nOK 0\nOK 0\nOK 0\nOK 0\nOK 0\nOK 0\nOK 0\nERROR 1040\n"
unfolding digits
sixty_four_sessions = refl
