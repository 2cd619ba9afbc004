-- Commits are read from their bytes, and from nothing else.
use Rattle.std.proofs.Common.{◌≡◌, ℕ, ◌^◌, ◌<◌, List, [], ◌∷◌, ◌++◌, length, refl, ap, sym, ◌∙◌, arith, Bool, true, nat_eq, cond, subst, Ok, Err, IfOk}
use Rattle.std.specs.List.{list_all}
use Rattle.std.proofs.lemmas.Bool.{ne_eqb}
use Rattle.byteorder.specs.Endian.{big_bytes}
use Rattle.mr_types.specs.declared.row.Change.{Change}
use Rattle.mr_types.specs.declared.row.Change.TheVariants.{Insert, Update, Delete}
use Rattle.mr_types.specs.declared.row.Schema.TheVariants.{CreateTable, DropTable, CreateIndex, DropIndex}
use Rattle.mr_types.specs.declared.row.CommitBody.{CommitBody}
use Rattle.mr_types.specs.declared.row.CommitBody.TheVariants.{Rows, Schema}
use Rattle.mr_types.specs.declared.row.Commit.{Commit}
use Rattle.mr_spec.specs.RowForm.{row_bytes}
use Rattle.mr_fields.specs.Fields.{Read, is_byte, number_in, name_bytes, name_in, listed_bytes, listed_in}
use Rattle.mr_fields.specs.Rows.{row_in}
use Rattle.mr_fields.proofs.Reading.{IsRead, Front, both, then_read, where_false, by_mark, mid, last}
use Rattle.mr_fields.proofs.FieldLaws.{and_true, Number as IsNumber, number_only, number_back, name_only, name_back, Listed, listed_only, listed_back, whole_back}
use Rattle.mr_fields.proofs.RowLaws.{row_only, row_back}
use Rattle.mr_schema.specs.DefinitionForm.{key_bytes, key_in, definition_bytes, definition_in}
use Rattle.mr_schema.proofs.DefinitionLaws.{key_only, key_back, definition_only, definition_back}
use Rattle.mr_binlog.specs.CommitForm.{change_bytes, body_bytes, commit_bytes, insert_in, update_in, delete_in, change_in, count_in, rows_in, create_table_in, drop_table_in, create_index_in, drop_index_in, body_in, commit_in, reads_commit}
use Rattle.mr_binlog.specs.CommitFitting.{ChangeFits, BodyFits, CommitFits}
use Rattle.mr_binlog.specs.CommitPromises.{NoFront}

-- behind a mark
abbrev Behind : {X : Type 0} → (X → List ℕ) → ℕ → List ℕ → X × List ℕ → Type 0
Behind write mark s p = IsRead (mark ∷ s) (write p.0) p.1

marked : (mark : ℕ) (s front rest : List ℕ) → IsRead s front rest → IsRead (mark ∷ s) (mark ∷ front) rest
marked mark s front rest is = record { whole = ap (λ (x : List ℕ). mark ∷ x) is.whole; rest_bytes = is.rest_bytes }

at_mark : {X : Type 0} (write : X → List ℕ) (k mark : ℕ) (s : List ℕ) (r : Read X) → IfOk r (Behind write k s) → mark ≡ k → IfOk r (Front write (mark ∷ s))
at_mark write k mark s r is e = subst (λ (m : ℕ). IfOk r (Front write (m ∷ s))) (sym e) is

-- ---- changes

insert_only : (s : List ℕ) → list_all is_byte s ≡ true → IfOk (insert_in s) (Behind change_bytes 1 s)
insert_only s e =
    then_read (Front name_bytes s) (Behind change_bytes 1 s) (name_in s) _ (name_only s e) (λ table table_is.
    then_read (Front row_bytes table.1) (Behind change_bytes 1 s) (row_in table.1) _ (row_only table.1 table_is.rest_bytes) (λ new new_is.
    marked 1 s (name_bytes table.0 ++ row_bytes new.0) new.1 (both s (name_bytes table.0) table.1 (row_bytes new.0) new.1 table_is new_is)))

update_only : (s : List ℕ) → list_all is_byte s ≡ true → IfOk (update_in s) (Behind change_bytes 2 s)
update_only s e =
    then_read (Front name_bytes s) (Behind change_bytes 2 s) (name_in s) _ (name_only s e) (λ table table_is.
    then_read (Front row_bytes table.1) (Behind change_bytes 2 s) (row_in table.1) _ (row_only table.1 table_is.rest_bytes) (λ old old_is.
    then_read (Front row_bytes old.1) (Behind change_bytes 2 s) (row_in old.1) _ (row_only old.1 old_is.rest_bytes) (λ new new_is.
    marked 2 s (name_bytes table.0 ++ (row_bytes old.0 ++ row_bytes new.0)) new.1 (
    both s (name_bytes table.0) table.1 (row_bytes old.0 ++ row_bytes new.0) new.1 table_is (both table.1 (row_bytes old.0) old.1 (row_bytes new.0) new.1 old_is new_is)))))

delete_only : (s : List ℕ) → list_all is_byte s ≡ true → IfOk (delete_in s) (Behind change_bytes 3 s)
delete_only s e =
    then_read (Front name_bytes s) (Behind change_bytes 3 s) (name_in s) _ (name_only s e) (λ table table_is.
    then_read (Front row_bytes table.1) (Behind change_bytes 3 s) (row_in table.1) _ (row_only table.1 table_is.rest_bytes) (λ old old_is.
    marked 3 s (name_bytes table.0 ++ row_bytes old.0) old.1 (both s (name_bytes table.0) table.1 (row_bytes old.0) old.1 table_is old_is)))

change_only : (s : List ℕ) → list_all is_byte s ≡ true → IfOk (change_in s) (Front change_bytes s)
change_only [] e = tt
change_only (mark ∷ s) e =
    let bytes = (and_true (is_byte mark) (list_all is_byte s) e).1 in
    let Q : Change × List ℕ → Type 0 = Front change_bytes (mark ∷ s) in
    by_mark Q mark 1 _ _ (at_mark change_bytes 1 mark s (insert_in s) (insert_only s bytes)) (
    by_mark Q mark 2 _ _ (at_mark change_bytes 2 mark s (update_in s) (update_only s bytes)) (
    by_mark Q mark 3 _ (Err (length (mark ∷ s))) (at_mark change_bytes 3 mark s (delete_in s) (delete_only s bytes)) tt))

change_back : (c : Change) (rest : List ℕ) → ChangeFits c → change_in (change_bytes c ++ rest) ≡ Ok (c, rest)
change_back (Insert table new) rest fits =
    mid name_in (name_bytes table) (row_bytes new) rest table _ _ (λ t. name_back table t fits.0) (
    last row_in (row_bytes new) rest new _ _ (λ t. row_back new t fits.1) refl)
change_back (Update table old new) rest fits =
    mid name_in (name_bytes table) (row_bytes old ++ row_bytes new) rest table _ _ (λ t. name_back table t fits.0) (
    mid row_in (row_bytes old) (row_bytes new) rest old _ _ (λ t. row_back old t fits.1) (
    last row_in (row_bytes new) rest new _ _ (λ t. row_back new t fits.2) refl))
change_back (Delete table old) rest fits =
    mid name_in (name_bytes table) (row_bytes old) rest table _ _ (λ t. name_back table t fits.0) (
    last row_in (row_bytes old) rest old _ _ (λ t. row_back old t fits.1) refl)

-- ---- bodies

count_only : (s : List ℕ) → list_all is_byte s ≡ true → IfOk (count_in s) (IsNumber 4 s)
count_only s e = then_read (IsNumber 4 s) (IsNumber 4 s) (number_in 4 s) _ (number_only 4 s e) (λ count is.
    where_false (IsNumber 4 s) (nat_eq count.0 0) count (length s) (λ some. is))

rows_only : (s : List ℕ) → list_all is_byte s ≡ true → IfOk (rows_in s) (Behind body_bytes 0 s)
rows_only s e =
    then_read (IsNumber 4 s) (Behind body_bytes 0 s) (count_in s) _ (count_only s e) (λ count count_is.
    then_read (Listed change_bytes count.0 count.1) (Behind body_bytes 0 s) (listed_in change_in count.0 count.1) _ (listed_only change_bytes change_in change_only count.0 count.1 count_is.0.rest_bytes) (λ changes are.
    marked 0 s (big_bytes 4 (length changes.0) ++ listed_bytes change_bytes changes.0) changes.1 (
    both s (big_bytes 4 (length changes.0)) count.1 (listed_bytes change_bytes changes.0) changes.1
    (subst (λ (n : ℕ). IsRead s (big_bytes 4 n) count.1) (sym are.1) count_is.0) are.0)))

create_table_only : (s : List ℕ) → list_all is_byte s ≡ true → IfOk (create_table_in s) (Behind body_bytes 1 s)
create_table_only s e = then_read (Front definition_bytes s) (Behind body_bytes 1 s) (definition_in s) _ (definition_only s e) (λ def is. marked 1 s (definition_bytes def.0) def.1 is)

drop_table_only : (s : List ℕ) → list_all is_byte s ≡ true → IfOk (drop_table_in s) (Behind body_bytes 2 s)
drop_table_only s e = then_read (Front name_bytes s) (Behind body_bytes 2 s) (name_in s) _ (name_only s e) (λ table is. marked 2 s (name_bytes table.0) table.1 is)

create_index_only : (s : List ℕ) → list_all is_byte s ≡ true → IfOk (create_index_in s) (Behind body_bytes 3 s)
create_index_only s e =
    then_read (Front name_bytes s) (Behind body_bytes 3 s) (name_in s) _ (name_only s e) (λ table table_is.
    then_read (Front key_bytes table.1) (Behind body_bytes 3 s) (key_in 256 table.1) _ (key_only 256 table.1 table_is.rest_bytes) (λ key key_is.
    marked 3 s (name_bytes table.0 ++ key_bytes key.0) key.1 (both s (name_bytes table.0) table.1 (key_bytes key.0) key.1 table_is key_is)))

drop_index_only : (s : List ℕ) → list_all is_byte s ≡ true → IfOk (drop_index_in s) (Behind body_bytes 4 s)
drop_index_only s e =
    then_read (Front name_bytes s) (Behind body_bytes 4 s) (name_in s) _ (name_only s e) (λ table table_is.
    then_read (Front name_bytes table.1) (Behind body_bytes 4 s) (name_in table.1) _ (name_only table.1 table_is.rest_bytes) (λ key key_is.
    marked 4 s (name_bytes table.0 ++ name_bytes key.0) key.1 (both s (name_bytes table.0) table.1 (name_bytes key.0) key.1 table_is key_is)))

body_only : (s : List ℕ) → list_all is_byte s ≡ true → IfOk (body_in s) (Front body_bytes s)
body_only [] e = tt
body_only (kind ∷ s) e =
    let bytes = (and_true (is_byte kind) (list_all is_byte s) e).1 in
    let Q : CommitBody × List ℕ → Type 0 = Front body_bytes (kind ∷ s) in
    by_mark Q kind 0 _ _ (at_mark body_bytes 0 kind s (rows_in s) (rows_only s bytes)) (
    by_mark Q kind 1 _ _ (at_mark body_bytes 1 kind s (create_table_in s) (create_table_only s bytes)) (
    by_mark Q kind 2 _ _ (at_mark body_bytes 2 kind s (drop_table_in s) (drop_table_only s bytes)) (
    by_mark Q kind 3 _ _ (at_mark body_bytes 3 kind s (create_index_in s) (create_index_only s bytes)) (
    by_mark Q kind 4 _ (Err (length (kind ∷ s))) (at_mark body_bytes 4 kind s (drop_index_in s) (drop_index_only s bytes)) tt))))

count_back : (n : ℕ) (rest : List ℕ) → 0 < n → n < 2 ^ 32 → count_in (big_bytes 4 n ++ rest) ≡ Ok (n, rest)
count_back n rest some few =
    last (number_in 4) (big_bytes 4 n) rest n (λ count. cond (nat_eq count.0 0) (Err (length (big_bytes 4 n ++ rest))) (Ok count)) (Ok (n, rest)) (λ t. number_back 4 n t (omega (arith, few))) (
    ap (λ (b : Bool). cond b (Err (length (big_bytes 4 n ++ rest))) (Ok (n, rest))) (ne_eqb n 0 (λ none. omega (arith, none, some))))

body_back : (b : CommitBody) (rest : List ℕ) → BodyFits b → body_in (body_bytes b ++ rest) ≡ Ok (b, rest)
body_back (Rows changes) rest fits =
    mid count_in (big_bytes 4 (length changes)) (listed_bytes change_bytes changes) rest (length changes) _ _ (λ t. count_back (length changes) t fits.0 fits.1) (
    last (listed_in change_in (length changes)) (listed_bytes change_bytes changes) rest changes _ _ (λ t. listed_back change_bytes change_in ChangeFits change_back changes t fits.2) refl)
body_back (Schema (CreateTable def)) rest fits = last definition_in (definition_bytes def) rest def _ _ (λ t. definition_back def t fits) refl
body_back (Schema (DropTable table)) rest fits = last name_in (name_bytes table) rest table (λ table. Ok (Schema (DropTable table.0), table.1)) _ (λ t. name_back table t fits) refl
body_back (Schema (CreateIndex table key)) rest fits =
    mid name_in (name_bytes table) (key_bytes key) rest table _ _ (λ t. name_back table t fits.0) (
    last (key_in 256) (key_bytes key) rest key _ _ (λ t. key_back 256 key t fits.1) refl)
body_back (Schema (DropIndex table key)) rest fits =
    mid name_in (name_bytes table) (name_bytes key) rest table _ _ (λ t. name_back table t fits.0) (
    last name_in (name_bytes key) rest key (λ key. Ok (Schema (DropIndex table key.0), key.1)) _ (λ t. name_back key t fits.1) refl)

-- ---- commits

pub commit_only : (s : List ℕ) → list_all is_byte s ≡ true → IfOk (commit_in s) (Front commit_bytes s)
commit_only s e =
    then_read (IsNumber 8 s) (Front commit_bytes s) (number_in 8 s) _ (number_only 8 s e) (λ moment moment_is.
    then_read (Front body_bytes moment.1) (Front commit_bytes s) (body_in moment.1) _ (body_only moment.1 moment_is.0.rest_bytes) (λ body body_is.
    both s (big_bytes 8 moment.0) moment.1 (body_bytes body.0) body.1 moment_is.0 body_is))

commit_back : (c : Commit) (rest : List ℕ) → CommitFits c → commit_in (commit_bytes c ++ rest) ≡ Ok (c, rest)
commit_back c rest fits =
    mid (number_in 8) (big_bytes 8 c.moment) (body_bytes c.body) rest c.moment _ _ (λ t. number_back 8 c.moment t (omega (arith, fits.moment))) (
    last body_in (body_bytes c.body) rest c.body _ _ (λ t. body_back c.body t fits.body) refl)

pub commit_written : (c : Commit) → CommitFits c → reads_commit (commit_bytes c) ≡ Ok c
commit_written c fits = whole_back commit_bytes commit_in c (λ rest. commit_back c rest fits)

no_end : (xs : List ℕ) → xs ++ [] ≡ xs
no_end [] = refl
no_end (x ∷ xs) = ap (λ ys. x ∷ ys) (no_end xs)

abbrev is_read : Commit → List ℕ → Read Commit
is_read c rest = Ok (c, rest)

same_reading : (c d : Commit) (r s : List ℕ) → is_read c r ≡ is_read d s → (c ≡ d) × (r ≡ s)
same_reading c d r s e = let same : (c, r) ≡ (d, s) = cc in (ap (λ (p : Commit × List ℕ). p.0) same, ap (λ (p : Commit × List ℕ). p.1) same)

pub no_front : (c d : Commit) (rest : List ℕ) → NoFront c d rest
no_front c d rest = λ c_fits d_fits same.
    same_reading c d rest [] (sym (commit_back c rest c_fits) ∙ ap commit_in (same ∙ sym (no_end (commit_bytes d))) ∙ commit_back d [] d_fits)
