-- Further worked rows, by computation.
use Rattle.std.proofs.Common.{◌≡◌, ℕ, negsuc, true, false, [], ◌∷◌, List, None, Some, refl, codes}
use Rattle.std.specs.Fmt.{digits}
use Rattle.mr_types.specs.declared.value.Value.TheVariants.{Null, Number, Text}
use Rattle.mr_types.specs.declared.kind.KindText.TheVariants as written
use Rattle.mr_pieces.specs.declared.collation.Collation.TheVariants.{Ci}
use Rattle.mr_types.specs.declared.statement.Statement.{Statement}
use Rattle.mr_types.specs.declared.statement.Statement.TheVariants as statement
use Rattle.mr_types.specs.declared.statement.SetTo.TheVariants as to
use Rattle.mr_types.specs.declared.statement.Factor.TheVariants as factor
use Rattle.mr_spec.specs.Replay.{reopened}
use Rattle.mr_spec.specs.ScriptRun.{trace, output_of, world_behind}
use Rattle.mr_spec.proofs.WorkedRows.{output, seven, values, create_t, create_v}
use Rattle.mr_spec.proofs.Written.{num, column, primary_key, key, create, insert, insert_data, select_all, select, select_count, select_by, select_forced, update, key_of, all_ok, session, begin_index}

-- the output of statements on what other statements left, reopened
abbrev opened_again : List Statement → (ℕ → ℕ) → List Statement → (ℕ → ℕ) → List ℕ
opened_again first now second later = output_of (trace (reopened (world_behind (reopened []) (all_ok first) now).commits) (all_ok second) later)

-- one refusal a statement
pub refusals : output (
    create_t
    ∷ insert (codes "t") ((num 1 ∷ num 3 ∷ []) ∷ [])
    ∷ insert (codes "t") ((num 1 ∷ []) ∷ [])
    ∷ statement.Insert (record (insert_data (codes "t") ((num 1 ∷ []) ∷ [])) { columns = Some (codes "v" ∷ []) })
    ∷ insert (codes "t") ((Null ∷ num 1 ∷ []) ∷ [])
    ∷ insert (codes "t") ((Text (codes "x") ∷ num 1 ∷ []) ∷ [])
    ∷ statement.Insert (record (insert_data (codes "t") ((num 1 ∷ num 1 ∷ []) ∷ [])) { columns = Some (codes "id" ∷ codes "id" ∷ []) })
    ∷ select (codes "q" ∷ []) (codes "t")
    ∷ select (codes "id" ∷ []) (codes "r")
    ∷ statement.DropTable (codes "r") false
    ∷ update (codes "t") (record { column = codes "v"; to = to.Sum (record { minus = false; factors = factor.Column (codes "v") ∷ factor.Literal (num 9223372036854775807) ∷ [] } ∷ []) } ∷ []) None
    ∷ statement.DropIndex (key_of (codes "t") (codes "k"))
    ∷ statement.RollbackTo (codes "p")
    ∷ create (codes "t") (column (codes "id") written.Int true ∷ []) [] []
    ∷ create (codes "h") (column (codes "a") written.Int true ∷ column (codes "A") written.Int true ∷ []) [] []
    ∷ create (codes "h") (record (column (codes "a") written.Int true) { default = Some (Text (codes "q")) } ∷ []) [] []
    ∷ create (codes "h") (column (codes "a") (written.VarChar 768 Ci) false ∷ []) (primary_key (codes "a" ∷ []) ∷ []) []
    ∷ create (codes "h") (column (codes "a") written.Int true ∷ []) (key (codes "j") (codes "c" ∷ []) ∷ []) []
    ∷ statement.CreateTable (record { name = codes "h"; columns = column (codes "a") written.Int true ∷ []; keys = []; comment = [] }) false (Some (codes "InnoDB"))
    ∷ create_v
    ∷ insert (codes "v") ((num 1 ∷ Text (codes "abcdefghij") ∷ []) ∷ []) ∷ []) seven
    ≡ codes "OK 0\nOK 1\nERROR 1136\nERROR 1364\nERROR 1048\nERROR 1366\nERROR 1110\nERROR 1054\nERROR 1146\nERROR 1051\nERROR 1690\nERROR 1091\nERROR 1305\nERROR 1050\nERROR 1060\nERROR 1067\nERROR 1071\nERROR 1072\nERROR 1286\nOK 0\nERROR 1406\n"
unfolding digits
refusals = refl

-- BIGINT keys sort with their sign
pub big_numbers : output (
    create_t
    ∷ statement.Insert (record (insert_data (codes "t") ((num 0 ∷ []) ∷ (num 9223372036854775807 ∷ []) ∷ (Number (negsuc 0) ∷ []) ∷ (Number (negsuc 9223372036854775807) ∷ []) ∷ [])) { columns = Some (codes "id" ∷ []) })
    ∷ select (codes "id" ∷ []) (codes "t")
    ∷ insert (codes "t") ((num 9223372036854775808 ∷ num 1 ∷ []) ∷ []) ∷ []) seven
    ≡ codes "OK 0\nOK 4\nROWS 4\n-9223372036854775808\n-1\n0\n9223372036854775807\nERROR 1264\n"
unfolding digits
big_numbers = refl

-- texts sort padded with spaces
pub texts_sort_padded : output (
    create_v
    ∷ insert (codes "v") ((num 1 ∷ Text (codes "a") ∷ []) ∷ (num 2 ∷ Text (codes "a\t") ∷ []) ∷ [])
    ∷ select_by (codes "n" ∷ []) (codes "v") (codes "n") ∷ []) seven
    ≡ codes "OK 0\nOK 2\nROWS 2\na\\t\na\n"
unfolding digits
texts_sort_padded = refl

-- an unfinished index is gone behind a reopening
pub an_index_that_is_not_finished_is_gone : opened_again (
    create_t
    ∷ insert (codes "t") ((num 1 ∷ num 7 ∷ []) ∷ [])
    ∷ begin_index (codes "k") (codes "t") (codes "v")
    ∷ statement.Work 1
    ∷ session (codes "a")
    ∷ insert (codes "t") ((num 2 ∷ num 7 ∷ []) ∷ []) ∷ []) seven (
    select_forced (codes "id" ∷ []) (codes "t") (codes "k") None
    ∷ select (codes "id" ∷ []) (codes "t") ∷ []) seven
    ≡ codes "ERROR 1176\nROWS 2\n1\n2\n"
unfolding digits
an_index_that_is_not_finished_is_gone = refl

-- the moment behind a reopening is that of the last commit
pub the_moment_never_falls : opened_again (
    create (codes "e") (column (codes "id") written.Int false ∷ []) (primary_key (codes "id" ∷ []) ∷ []) (codes "ttl_duration=10;")
    ∷ insert (codes "e") ((num 1 ∷ []) ∷ []) ∷ []) (values (50 ∷ 40 ∷ [])) (
    select_count (codes "e")
    ∷ select_count (codes "e") ∷ []) (values (59 ∷ 60 ∷ []))
    ≡ codes "ROWS 1\n1\nROWS 1\n0\n"
unfolding digits
the_moment_never_falls = refl

-- a number of a refused insert is drawn once, until the folder is reopened
pub hidden_numbers_behind_a_reopening : opened_again (
    create (codes "g") (column (codes "a") written.Int false ∷ []) [] []
    ∷ insert (codes "g") ((num 3 ∷ []) ∷ (Null ∷ []) ∷ [])
    ∷ insert (codes "g") ((num 4 ∷ []) ∷ []) ∷ []) seven (
    insert (codes "g") ((num 5 ∷ []) ∷ [])
    ∷ select_all (codes "g") ∷ []) seven
    ≡ codes "OK 1\nROWS 2\n4\n5\n"
unfolding digits
hidden_numbers_behind_a_reopening = refl

-- fifty rows, and fifty statements
pub fifty_rows : output (
    create_t
    ∷ insert (codes "t") ((num 50 ∷ num 0 ∷ []) ∷ (num 49 ∷ num 1 ∷ []) ∷ (num 48 ∷ num 2 ∷ []) ∷ (num 47 ∷ num 3 ∷ []) ∷ (num 46 ∷ num 4 ∷ []) ∷ (num 45 ∷ num 5 ∷ []) ∷ (num 44 ∷ num 6 ∷ []) ∷ (num 43 ∷ num 7 ∷ []) ∷ (num 42 ∷ num 8 ∷ []) ∷ (num 41 ∷ num 9 ∷ []) ∷ (num 40 ∷ num 10 ∷ []) ∷ (num 39 ∷ num 11 ∷ []) ∷ (num 38 ∷ num 12 ∷ []) ∷ (num 37 ∷ num 13 ∷ []) ∷ (num 36 ∷ num 14 ∷ []) ∷ (num 35 ∷ num 15 ∷ []) ∷ (num 34 ∷ num 16 ∷ []) ∷ (num 33 ∷ num 17 ∷ []) ∷ (num 32 ∷ num 18 ∷ []) ∷ (num 31 ∷ num 19 ∷ []) ∷ (num 30 ∷ num 20 ∷ []) ∷ (num 29 ∷ num 21 ∷ []) ∷ (num 28 ∷ num 22 ∷ []) ∷ (num 27 ∷ num 23 ∷ []) ∷ (num 26 ∷ num 24 ∷ []) ∷ (num 25 ∷ num 25 ∷ []) ∷ (num 24 ∷ num 26 ∷ []) ∷ (num 23 ∷ num 27 ∷ []) ∷ (num 22 ∷ num 28 ∷ []) ∷ (num 21 ∷ num 29 ∷ []) ∷ (num 20 ∷ num 30 ∷ []) ∷ (num 19 ∷ num 31 ∷ []) ∷ (num 18 ∷ num 32 ∷ []) ∷ (num 17 ∷ num 33 ∷ []) ∷ (num 16 ∷ num 34 ∷ []) ∷ (num 15 ∷ num 35 ∷ []) ∷ (num 14 ∷ num 36 ∷ []) ∷ (num 13 ∷ num 37 ∷ []) ∷ (num 12 ∷ num 38 ∷ []) ∷ (num 11 ∷ num 39 ∷ []) ∷ (num 10 ∷ num 40 ∷ []) ∷ (num 9 ∷ num 41 ∷ []) ∷ (num 8 ∷ num 42 ∷ []) ∷ (num 7 ∷ num 43 ∷ []) ∷ (num 6 ∷ num 44 ∷ []) ∷ (num 5 ∷ num 45 ∷ []) ∷ (num 4 ∷ num 46 ∷ []) ∷ (num 3 ∷ num 47 ∷ []) ∷ (num 2 ∷ num 48 ∷ []) ∷ (num 1 ∷ num 49 ∷ []) ∷ [])
    ∷ insert (codes "t") ((num 100 ∷ num 0 ∷ []) ∷ [])
    ∷ insert (codes "t") ((num 101 ∷ num 1 ∷ []) ∷ [])
    ∷ insert (codes "t") ((num 102 ∷ num 2 ∷ []) ∷ [])
    ∷ insert (codes "t") ((num 103 ∷ num 3 ∷ []) ∷ [])
    ∷ insert (codes "t") ((num 104 ∷ num 4 ∷ []) ∷ [])
    ∷ insert (codes "t") ((num 105 ∷ num 5 ∷ []) ∷ [])
    ∷ insert (codes "t") ((num 106 ∷ num 6 ∷ []) ∷ [])
    ∷ insert (codes "t") ((num 107 ∷ num 7 ∷ []) ∷ [])
    ∷ insert (codes "t") ((num 108 ∷ num 8 ∷ []) ∷ [])
    ∷ insert (codes "t") ((num 109 ∷ num 9 ∷ []) ∷ [])
    ∷ insert (codes "t") ((num 110 ∷ num 10 ∷ []) ∷ [])
    ∷ insert (codes "t") ((num 111 ∷ num 11 ∷ []) ∷ [])
    ∷ insert (codes "t") ((num 112 ∷ num 12 ∷ []) ∷ [])
    ∷ insert (codes "t") ((num 113 ∷ num 13 ∷ []) ∷ [])
    ∷ insert (codes "t") ((num 114 ∷ num 14 ∷ []) ∷ [])
    ∷ insert (codes "t") ((num 115 ∷ num 15 ∷ []) ∷ [])
    ∷ insert (codes "t") ((num 116 ∷ num 16 ∷ []) ∷ [])
    ∷ insert (codes "t") ((num 117 ∷ num 17 ∷ []) ∷ [])
    ∷ insert (codes "t") ((num 118 ∷ num 18 ∷ []) ∷ [])
    ∷ insert (codes "t") ((num 119 ∷ num 19 ∷ []) ∷ [])
    ∷ insert (codes "t") ((num 120 ∷ num 20 ∷ []) ∷ [])
    ∷ insert (codes "t") ((num 121 ∷ num 21 ∷ []) ∷ [])
    ∷ insert (codes "t") ((num 122 ∷ num 22 ∷ []) ∷ [])
    ∷ insert (codes "t") ((num 123 ∷ num 23 ∷ []) ∷ [])
    ∷ insert (codes "t") ((num 124 ∷ num 24 ∷ []) ∷ [])
    ∷ insert (codes "t") ((num 125 ∷ num 25 ∷ []) ∷ [])
    ∷ insert (codes "t") ((num 126 ∷ num 26 ∷ []) ∷ [])
    ∷ insert (codes "t") ((num 127 ∷ num 27 ∷ []) ∷ [])
    ∷ insert (codes "t") ((num 128 ∷ num 28 ∷ []) ∷ [])
    ∷ insert (codes "t") ((num 129 ∷ num 29 ∷ []) ∷ [])
    ∷ insert (codes "t") ((num 130 ∷ num 30 ∷ []) ∷ [])
    ∷ insert (codes "t") ((num 131 ∷ num 31 ∷ []) ∷ [])
    ∷ insert (codes "t") ((num 132 ∷ num 32 ∷ []) ∷ [])
    ∷ insert (codes "t") ((num 133 ∷ num 33 ∷ []) ∷ [])
    ∷ insert (codes "t") ((num 134 ∷ num 34 ∷ []) ∷ [])
    ∷ insert (codes "t") ((num 135 ∷ num 35 ∷ []) ∷ [])
    ∷ insert (codes "t") ((num 136 ∷ num 36 ∷ []) ∷ [])
    ∷ insert (codes "t") ((num 137 ∷ num 37 ∷ []) ∷ [])
    ∷ insert (codes "t") ((num 138 ∷ num 38 ∷ []) ∷ [])
    ∷ insert (codes "t") ((num 139 ∷ num 39 ∷ []) ∷ [])
    ∷ insert (codes "t") ((num 140 ∷ num 40 ∷ []) ∷ [])
    ∷ insert (codes "t") ((num 141 ∷ num 41 ∷ []) ∷ [])
    ∷ insert (codes "t") ((num 142 ∷ num 42 ∷ []) ∷ [])
    ∷ insert (codes "t") ((num 143 ∷ num 43 ∷ []) ∷ [])
    ∷ insert (codes "t") ((num 144 ∷ num 44 ∷ []) ∷ [])
    ∷ insert (codes "t") ((num 145 ∷ num 45 ∷ []) ∷ [])
    ∷ insert (codes "t") ((num 146 ∷ num 46 ∷ []) ∷ [])
    ∷ insert (codes "t") ((num 147 ∷ num 47 ∷ []) ∷ [])
    ∷ insert (codes "t") ((num 148 ∷ num 48 ∷ []) ∷ [])
    ∷ insert (codes "t") ((num 149 ∷ num 49 ∷ []) ∷ [])
    ∷ select_count (codes "t") ∷ []) seven
    ≡ codes "OK 0\nOK 50\nOK 1\nOK 1\nOK 1\nOK 1\nOK 1\nOK 1\nOK 1\nOK 1\nOK 1\nOK 1\nOK 1\nOK 1\nOK 1\nOK 1\nOK 1\nOK 1\nOK 1\nOK 1\nOK 1\nOK 1\nOK 1\nOK 1\nOK 1\nOK 1\nOK 1\nOK 1\nOK 1\nOK 1\nOK 1\nOK 1\nOK 1\nOK 1\nOK 1\nOK 1\nOK 1\nOK 1\nOK 1\nOK 1\nOK 1\nOK 1\nOK 1\nOK 1\nOK 1\nOK 1\nOK 1\nOK 1\nOK 1\nOK 1\nOK 1\nOK 1\nROWS 1\n100\n"
unfolding digits
fifty_rows = refl
