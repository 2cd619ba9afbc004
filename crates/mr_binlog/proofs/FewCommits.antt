-- A commit that was read makes no table of many columns.
use Rattle.std.proofs.Common.{◌≡◌, ◌≤◌, ℕ, Bool, true, false, ◌==◌, List, [], ◌∷◌, length, if◌then◌else◌, Result, Ok, Err, IfOk, subst}
use Rattle.mr_types.specs.declared.row.CommitBody.{CommitBody}
use Rattle.mr_types.specs.declared.row.Commit.{Commit}
use Rattle.mr_types.specs.Refusals.{◌>>=◌}
use Rattle.mr_fields.specs.Fields.{number_in, name_in, listed_in, ended, placed, whole_in}
use Rattle.mr_schema.specs.DefinitionForm.{key_in, definition_in}
use Rattle.mr_schema.specs.Few.{FewInBody}
use Rattle.mr_schema.proofs.FewRead.{definition_few}
use Rattle.mr_spec.proofs.Results.{bound, after, either}
use Rattle.mr_binlog.specs.CommitForm.{change_in, count_in, rows_in, create_table_in, drop_table_in, create_index_in, drop_index_in, body_in, commit_in, reads_commit}

abbrev Few : CommitBody × List ℕ → Type 0
Few r = FewInBody r.0

abbrev FewOk : Result (CommitBody × List ℕ) ℕ → Type 0
FewOk r = IfOk r Few

rows_few : (bytes : List ℕ) → FewOk (rows_in bytes)
rows_few bytes = bound Few (count_in bytes) _ (λ count. bound Few (listed_in change_in count.0 count.1) _ (λ changes. tt))

create_table_few : (bytes : List ℕ) → FewOk (create_table_in bytes)
create_table_few bytes = after (λ r. length r.0.columns ≤ 255) Few (definition_in bytes) _ (definition_few bytes) (λ def l. l)

drop_table_few : (bytes : List ℕ) → FewOk (drop_table_in bytes)
drop_table_few bytes = bound Few (name_in bytes) _ (λ table. tt)

create_index_few : (bytes : List ℕ) → FewOk (create_index_in bytes)
create_index_few bytes = bound Few (name_in bytes) _ (λ table. bound Few (key_in 256 table.1) _ (λ key. tt))

drop_index_few : (bytes : List ℕ) → FewOk (drop_index_in bytes)
drop_index_few bytes = bound Few (name_in bytes) _ (λ table. bound Few (name_in table.1) _ (λ key. tt))

body_few : (bytes : List ℕ) → FewOk (body_in bytes)
body_few [] = tt
body_few (kind ∷ bytes) =
    either FewOk (kind == 0) _ _ (rows_few bytes)
    (either FewOk (kind == 1) _ _ (create_table_few bytes)
    (either FewOk (kind == 2) _ _ (drop_table_few bytes)
    (either FewOk (kind == 3) _ _ (create_index_few bytes)
    (either FewOk (kind == 4) _ _ (drop_index_few bytes) tt))))

commit_few : (bytes : List ℕ) → IfOk (commit_in bytes) (λ r. FewInBody r.0.body)
commit_few bytes = bound (λ r. FewInBody r.0.body) (number_in 8 bytes) _ (λ moment.
    after Few (λ r. FewInBody r.0.body) (body_in moment.1) _ (body_few moment.1) (λ body few. few))

ended_few : (r : Commit × List ℕ) → FewInBody r.0.body → IfOk (ended r) (λ c. FewInBody c.body)
ended_few (c, []) few = few
ended_few (c, b ∷ bytes) few = tt

placed_few : (bytes : List ℕ) (r : Result Commit ℕ) → IfOk r (λ c. FewInBody c.body) → IfOk (placed bytes r) (λ c. FewInBody c.body)
placed_few bytes (Ok c) few = few
placed_few bytes (Err left) few = tt

all_few : (bytes : List ℕ) → IfOk (reads_commit bytes) (λ c. FewInBody c.body)
all_few bytes = placed_few bytes (whole_in commit_in bytes) (after (λ r. FewInBody r.0.body) (λ c. FewInBody c.body) (commit_in bytes) ended (commit_few bytes) ended_few)

pub read_few : (bytes : List ℕ) (c : Commit) → reads_commit bytes ≡ Ok c → FewInBody c.body
read_few bytes c e = subst (λ r. IfOk r (λ c. FewInBody c.body)) e (all_few bytes)
