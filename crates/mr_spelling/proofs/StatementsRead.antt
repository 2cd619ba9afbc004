-- Each statement is read from its spelling.
use Rattle.std.proofs.Common.{◌≡◌, ℕ, ◌≤◌, List, [], ◌∷◌, Bool, true, false, true≢false, not, ◌&&◌, nat_le, Option, Some, None, codes, arith, refl, ap, sym, ◌∙◌}
use Rattle.std.specs.List.{list_all}
use Rattle.std.proofs.lemmas.Bool.{leb-true}
use Rattle.mr_lex.specs.Reading.{Lexeme}
use Rattle.mr_types.specs.Grammatical.{is_name, is_ascii_text, is_empty, is_key_name, is_key_text, is_secondary_text, is_table_text, is_insert, is_set, is_condition, is_list, is_index_name, is_ordered_well, is_select, is_statement, some_all, where_given}
use Rattle.mr_types.specs.declared.expr.Expr.{Expr}
use Rattle.mr_types.specs.declared.text.KeyText.{KeyText}
use Rattle.mr_types.specs.declared.text.TableText.{TableText}
use Rattle.mr_types.specs.declared.statement.Insert.{Insert}
use Rattle.mr_types.specs.declared.statement.KeyName.{KeyName}
use Rattle.mr_types.specs.declared.statement.SetItem.{SetItem}
use Rattle.mr_types.specs.declared.statement.Select.{Select}
use Rattle.mr_types.specs.declared.statement.Statement.{Statement}
use Rattle.mr_types.specs.declared.statement.Statement.TheVariants as statements
use Rattle.mr_spec.specs.Phrases.{Outcome, sees, behind, begins_name, name, ended}
use Rattle.mr_spec.specs.RowPhrases.{update, delete}
use Rattle.mr_spec.specs.SessionPhrases.{index_words, drop, begin, start, with_snapshot, savepoint_name, rollback, release, lock, work}
use Rattle.mr_spec.specs.Grammar.{create, row_statement, schema_statement, transaction, session_statement, transaction_or_session, other_statement, statement, whole_statement}
use Rattle.mr_spelling.specs.Parts.{Part, Keyword, Name, Spell}
use Rattle.mr_spelling.specs.Spelling.{spelled_list}
use Rattle.mr_spelling.specs.Sessions.{spelled_unique}
use Rattle.mr_spelling.specs.Rows.{spelled_set, is_plain_to}
use Rattle.mr_spelling.specs.Conditions.{nesting, spelled_where}
use Rattle.mr_spelling.specs.Statements.{spelled_statement, is_nested, is_bounded, IsSpellable}
use Rattle.mr_spelling.proofs.Reading.{IsRead, Reads, go, done, done_as, lacks, lacks_sign, yes, no, want, want_last, named, named_last, maybe_no, looks_past, nameless-begins}
use Rattle.mr_spelling.proofs.Lists.{both-true, first_of_both, second_of_both}
use Rattle.mr_spelling.proofs.Literals.{number-reads}
use Rattle.mr_spelling.proofs.SessionsRead.{key_of, index_on-reads, new_index-reads, index_words-read, if_exists-reads, locks-read}
use Rattle.mr_spelling.proofs.RowsRead.{insert-reads, is_set_spelled, ends_set, sets-read}
use Rattle.mr_spelling.proofs.ConditionsRead.{is_where, condition-reads}
use Rattle.mr_spelling.proofs.SelectsRead.{IsSelected, select-reads}
use Rattle.mr_spelling.proofs.TablesRead.{create_table-reads}

-- ---- where a kind of statement stands

no-row : (w : List ℕ) (all : List Part) → lacks (codes "insert") (Keyword w ∷ all) ≡ true → lacks (codes "select") (Keyword w ∷ all) ≡ true → lacks (codes "update") (Keyword w ∷ all) ≡ true
    → lacks (codes "delete") (Keyword w ∷ all) ≡ true → lacks (codes "replace") (Keyword w ∷ all) ≡ true → Reads row_statement (Keyword w ∷ all) None (Keyword w ∷ all)
unfolding row_statement
no-row w all a b c d f = no _ _ a (no _ _ b (no _ _ c (no _ _ d (no _ _ f done))))

no-schema : (w : List ℕ) (all : List Part) → lacks (codes "create") (Keyword w ∷ all) ≡ true → lacks (codes "drop") (Keyword w ∷ all) ≡ true → lacks (codes "finish") (Keyword w ∷ all) ≡ true
    → lacks (codes "cancel") (Keyword w ∷ all) ≡ true → Reads schema_statement (Keyword w ∷ all) None (Keyword w ∷ all)
unfolding schema_statement
no-schema w all a b c d = no _ _ a (no _ _ b (no _ _ c (no _ _ d done)))

no-transaction : (w : List ℕ) (all : List Part) → lacks (codes "begin") (Keyword w ∷ all) ≡ true → lacks (codes "start") (Keyword w ∷ all) ≡ true → lacks (codes "commit") (Keyword w ∷ all) ≡ true
    → lacks (codes "rollback") (Keyword w ∷ all) ≡ true → lacks (codes "savepoint") (Keyword w ∷ all) ≡ true → lacks (codes "release") (Keyword w ∷ all) ≡ true → Reads transaction (Keyword w ∷ all) None (Keyword w ∷ all)
unfolding transaction
no-transaction w all a b c d f g = no _ _ a (no _ _ b (no _ _ c (no _ _ d (no _ _ f (no _ _ g done)))))

on-rows : (all : List Part) (s : Statement) → Reads row_statement all (Some s) [] → Reads statement all s []
unfolding statement
on-rows all s r = go _ r done

on-schema : (all : List Part) (s : Statement) → Reads row_statement all None all → Reads schema_statement all (Some s) [] → Reads statement all s []
unfolding statement other_statement
on-schema all s n r = go _ n (go _ r done)

on-transaction : (all : List Part) (s : Statement) → Reads row_statement all None all → Reads schema_statement all None all → Reads transaction all (Some s) [] → Reads statement all s []
unfolding statement other_statement transaction_or_session
on-transaction all s n m r = go _ n (go _ m (go _ r done))

on-session : (all : List Part) (s : Statement) → Reads row_statement all None all → Reads schema_statement all None all → Reads transaction all None all → Reads session_statement all s [] → Reads statement all s []
unfolding statement other_statement transaction_or_session
on-session all s n m k r = go _ n (go _ m (go _ k r))

-- ---- keys

no-table : (b : Bool) (more : List Part) → lacks (codes "table") (spelled_unique b (Keyword (codes "index") ∷ more)) ≡ true
no-table true more = refl
no-table false more = refl

not-primary : (b : Bool) → not b ≡ true → false ≡ b
not-primary true e = e
not-primary false e = refl

key-same : (key : KeyText) → not key.primary ≡ true → (key_of [] key).key ≡ key
key-same key h = ap (λ b. record { name = key.name; primary = b; unique = key.unique; columns = key.columns; comment = key.comment }) (not-primary key.primary h)

pub record IsKey (key : KeyText) : Type 0 where
  pub secondary : not key.primary ≡ true
  pub columns : some_all is_name key.columns ≡ true
  pub comment : is_ascii_text key.comment ≡ true

key-parts : (key : KeyText) → is_secondary_text key ≡ true → IsKey key
key-parts key h =
    let k : is_key_text key ≡ true = second_of_both (not key.primary) (is_key_text key) h in
    let l : (some_all is_name key.columns && is_ascii_text key.comment) ≡ true = second_of_both (is_key_name key) _ k in
    record { secondary = first_of_both (not key.primary) (is_key_text key) h; columns = first_of_both (some_all is_name key.columns) _ l; comment = second_of_both (some_all is_name key.columns) _ l }

-- ---- rows

sets-spelled : (xs : List SetItem) → list_all is_set xs ≡ true → list_all (λ s. is_plain_to s.to) xs ≡ true → list_all is_set_spelled xs ≡ true
sets-spelled [] h k = refl
sets-spelled (x ∷ xs) h k = both-true (is_set_spelled x) (list_all is_set_spelled xs)
    (both-true (is_set x) (is_plain_to x.to) (first_of_both (is_set x) (list_all is_set xs) h) (first_of_both (is_plain_to x.to) (list_all (λ s. is_plain_to s.to) xs) k))
    (sets-spelled xs (second_of_both (is_set x) (list_all is_set xs) h) (second_of_both (is_plain_to x.to) (list_all (λ s. is_plain_to s.to) xs) k))

some-sets : (xs : List SetItem) → some_all is_set xs ≡ true → list_all (λ s. is_plain_to s.to) xs ≡ true → some_all is_set_spelled xs ≡ true
some-sets [] h k = absurd (true≢false (sym h))
some-sets (x ∷ xs) h k = sets-spelled (x ∷ xs) h k

where-of : (o : Option Expr) → where_given is_condition o ≡ true → is_nested o ≡ true → is_where o ≡ true
where-of None h k = refl
where-of (Some x) h k = both-true (is_condition x) (nat_le (nesting x) 64) h k

where-no_comma : (o : Option Expr) → lacks_sign (codes ",") (spelled_where o []) ≡ true
where-no_comma None = refl
where-no_comma (Some x) = refl

where-ends_set : (o : Option Expr) → ends_set (spelled_where o []) ≡ true
where-ends_set None = refl
where-ends_set (Some x) = refl

update-reads : (table : List ℕ) (set : List SetItem) (o : Option Expr) → some_all is_set_spelled set ≡ true → is_where o ≡ true
    → Reads update (Name table ∷ Keyword (codes "set") ∷ spelled_list spelled_set set (spelled_where o [])) (statements.Update table set o) []
unfolding update
update-reads table set o h k = named _ (want _ (go _ (sets-read set (spelled_where o []) h (where-no_comma o) (where-ends_set o)) (go _ (condition-reads o [] k refl refl) done)))

delete-reads : (table : List ℕ) (o : Option Expr) → is_where o ≡ true → Reads delete (Keyword (codes "from") ∷ Name table ∷ spelled_where o []) (statements.Delete table o) []
unfolding delete
delete-reads table o k = want _ (named _ (go _ (condition-reads o [] k refl refl) done))

select-parts : (s : Select) → is_select s ≡ true → is_bounded (statements.Select s) ≡ true → IsSelected s
select-parts s h b =
    let h1 : (is_name s.table && (where_given is_index_name s.forced && (where_given is_condition s.condition && is_ordered_well s.columns s))) ≡ true = second_of_both (is_list s.columns) _ h in
    let h2 : (where_given is_index_name s.forced && (where_given is_condition s.condition && is_ordered_well s.columns s)) ≡ true = second_of_both (is_name s.table) _ h1 in
    let h3 : (where_given is_condition s.condition && is_ordered_well s.columns s) ≡ true = second_of_both (where_given is_index_name s.forced) _ h2 in
    record {
      list = first_of_both (is_list s.columns) _ h;
      test = where-of s.condition (first_of_both (where_given is_condition s.condition) _ h3) (first_of_both (is_nested s.condition) _ b);
      ordered = second_of_both (where_given is_condition s.condition) _ h3;
      limited = second_of_both (is_nested s.condition) _ b;
    }

-- ---- transactions

no-savepoint : (a b : Bool) → b ≡ false → (a && b) ≡ false
no-savepoint true b h = h
no-savepoint false b h = refl

nothing-behind : (n : List ℕ) (ts : List Lexeme) → Spell ts (Name n ∷ []) → begins_name (behind ts) ≡ false
unfolding behind
nothing-behind n [] s = absurd s
nothing-behind n (t ∷ ts) s = nameless-begins [] ts s.1 refl

savepoint-reads : (n : List ℕ) → Reads savepoint_name (Name n ∷ []) n []
unfolding savepoint_name
savepoint-reads n = looks_past (λ ts. name (behind ts)) (λ ts. sees (codes "savepoint") ts && begins_name (behind ts))
    (λ ts s. no-savepoint (sees (codes "savepoint") ts) (begins_name (behind ts)) (nothing-behind n ts s)) named_last

snapshot-reads : Reads with_snapshot (Keyword (codes "with") ∷ Keyword (codes "consistent") ∷ Keyword (codes "snapshot") ∷ []) true []
unfolding with_snapshot
snapshot-reads = yes _ (go _ (want _ want_last) done)

-- ---- each kind

abbrev IsReadBack : Statement → Type 0
IsReadBack s = Reads statement (spelled_statement s) s []

insert-statement : (i : Insert) → is_insert i ≡ true → IsReadBack (statements.Insert i)
unfolding row_statement
insert-statement i h = on-rows _ _ (yes _ (go _ (insert-reads i h) done))

replace-statement : (i : Insert) → is_insert i ≡ true → IsReadBack (statements.Replace i)
unfolding row_statement
replace-statement i h = on-rows _ _ (no _ _ refl (no _ _ refl (no _ _ refl (no _ _ refl (yes _ (go _ (insert-reads i h) done))))))

update-statement : (table : List ℕ) (set : List SetItem) (o : Option Expr) → some_all is_set_spelled set ≡ true → is_where o ≡ true → IsReadBack (statements.Update table set o)
unfolding row_statement
update-statement table set o h k = on-rows _ _ (no _ _ refl (no _ _ refl (yes _ (go _ (update-reads table set o h k) done))))

delete-statement : (table : List ℕ) (o : Option Expr) → is_where o ≡ true → IsReadBack (statements.Delete table o)
unfolding row_statement
delete-statement table o k = on-rows _ _ (no _ _ refl (no _ _ refl (no _ _ refl (yes _ (go _ (delete-reads table o k) done)))))

select-statement : (s : Select) → IsSelected s → IsReadBack (statements.Select s)
unfolding row_statement
select-statement s h = on-rows _ _ (no _ _ refl (yes _ (go _ (select-reads s h) done)))

create_table-statement : (text : TableText) (mild : Bool) (engine : Option (List ℕ)) → is_table_text text ≡ true → where_given (λ word. not (is_empty word) && is_ascii_text word) engine ≡ true → IsReadBack (statements.CreateTable text mild engine)
unfolding schema_statement create
create_table-statement text mild engine h w = on-schema _ _ (no-row (codes "create") _ refl refl refl refl refl) (yes _ (go _ (yes _ (create_table-reads text mild engine h w)) done))

create_index-statement : (table : List ℕ) (key : KeyText) → IsKey key → IsReadBack (statements.CreateIndex table key)
unfolding schema_statement create
create_index-statement table key k = on-schema _ _ (no-row (codes "create") _ refl refl refl refl refl)
    (yes _ (go _ (no _ _ (no-table key.unique _) (go _ (index_words-read key.unique _) (go _ (new_index-reads table key k.columns k.comment) (done_as (ap (statements.CreateIndex table) (key-same key k.secondary)))))) done))

drop_table-statement : (table : List ℕ) (mild : Bool) → IsReadBack (statements.DropTable table mild)
unfolding schema_statement drop
drop_table-statement table mild = on-schema _ _ (no-row (codes "drop") _ refl refl refl refl refl) (no _ _ refl (yes _ (go _ (yes _ (go _ (if_exists-reads mild table []) (named _ done))) done)))

drop_index-statement : (at : KeyName) → IsReadBack (statements.DropIndex at)
unfolding schema_statement drop
drop_index-statement at = on-schema _ _ (no-row (codes "drop") _ refl refl refl refl refl) (no _ _ refl (yes _ (go _ (no _ _ refl (go _ (index_on-reads at) done)) done)))

finish-statement : (at : KeyName) → IsReadBack (statements.FinishIndex at)
unfolding schema_statement
finish-statement at = on-schema _ _ (no-row (codes "finish") _ refl refl refl refl refl) (no _ _ refl (no _ _ refl (yes _ (go _ (index_on-reads at) done))))

cancel-statement : (at : KeyName) → IsReadBack (statements.CancelIndex at)
unfolding schema_statement
cancel-statement at = on-schema _ _ (no-row (codes "cancel") _ refl refl refl refl refl) (no _ _ refl (no _ _ refl (no _ _ refl (yes _ (go _ (index_on-reads at) done)))))

begin_index-statement : (table : List ℕ) (key : KeyText) → IsKey key → IsReadBack (statements.BeginIndex table key)
unfolding transaction begin
begin_index-statement table key k = on-transaction _ _ (no-row (codes "begin") _ refl refl refl refl refl) (no-schema (codes "begin") _ refl refl refl refl)
    (yes _ (go _ (go _ (index_words-read key.unique _) (go _ (new_index-reads table key k.columns k.comment) (done_as (ap (statements.BeginIndex table) (key-same key k.secondary))))) done))

no-index_words : Reads index_words [] None []
unfolding index_words
no-index_words = no _ _ refl (no _ _ refl done)

begin-statement : (snapshot : Bool) → IsReadBack (statements.Begin snapshot)
unfolding transaction begin start
begin-statement false = on-transaction _ _ (no-row (codes "begin") _ refl refl refl refl refl) (no-schema (codes "begin") _ refl refl refl refl)
    (yes _ (go _ (go _ no-index_words (go _ (maybe_no _ refl) done)) done))
begin-statement true = on-transaction _ _ (no-row (codes "start") _ refl refl refl refl refl) (no-schema (codes "start") _ refl refl refl refl)
    (no _ _ refl (yes _ (go _ (want _ (go _ snapshot-reads done)) done)))

commit-statement : IsReadBack statements.Commit
unfolding transaction
commit-statement = on-transaction _ _ (no-row (codes "commit") _ refl refl refl refl refl) (no-schema (codes "commit") _ refl refl refl refl)
    (no _ _ refl (no _ _ refl (yes _ (go _ (maybe_no _ refl) done))))

rollback-statement : IsReadBack statements.Rollback
unfolding transaction rollback
rollback-statement = on-transaction _ _ (no-row (codes "rollback") _ refl refl refl refl refl) (no-schema (codes "rollback") _ refl refl refl refl)
    (no _ _ refl (no _ _ refl (no _ _ refl (yes _ (go _ (go _ (maybe_no _ refl) (no _ _ refl done)) done)))))

rollback_to-statement : (n : List ℕ) → IsReadBack (statements.RollbackTo n)
unfolding transaction rollback
rollback_to-statement n = on-transaction _ _ (no-row (codes "rollback") _ refl refl refl refl refl) (no-schema (codes "rollback") _ refl refl refl refl)
    (no _ _ refl (no _ _ refl (no _ _ refl (yes _ (go _ (go _ (maybe_no _ refl) (yes _ (go _ (savepoint-reads n) done))) done)))))

savepoint-statement : (n : List ℕ) → IsReadBack (statements.Savepoint n)
unfolding transaction
savepoint-statement n = on-transaction _ _ (no-row (codes "savepoint") _ refl refl refl refl refl) (no-schema (codes "savepoint") _ refl refl refl refl)
    (no _ _ refl (no _ _ refl (no _ _ refl (no _ _ refl (yes _ (named _ done))))))

release-statement : (n : List ℕ) → IsReadBack (statements.Release n)
unfolding transaction release
release-statement n = on-transaction _ _ (no-row (codes "release") _ refl refl refl refl refl) (no-schema (codes "release") _ refl refl refl refl)
    (no _ _ refl (no _ _ refl (no _ _ refl (no _ _ refl (no _ _ refl (yes _ (go _ (want _ (named _ done)) done)))))))

lock-statement : (ns : List (List ℕ)) → some_all is_name ns ≡ true → IsReadBack (statements.Lock ns)
unfolding session_statement lock
lock-statement ns h = on-session _ _ (no-row (codes "lock") _ refl refl refl refl refl) (no-schema (codes "lock") _ refl refl refl refl) (no-transaction (codes "lock") _ refl refl refl refl refl refl)
    (yes _ (want _ (go _ (locks-read ns h) done)))

unlock-statement : IsReadBack statements.Unlock
unfolding session_statement
unlock-statement = on-session _ _ (no-row (codes "unlock") _ refl refl refl refl refl) (no-schema (codes "unlock") _ refl refl refl refl) (no-transaction (codes "unlock") _ refl refl refl refl refl refl)
    (no _ _ refl (yes _ (want _ done)))

session-statement : (n : List ℕ) → IsReadBack (statements.Session n)
unfolding session_statement
session-statement n = on-session _ _ (no-row (codes "session") _ refl refl refl refl refl) (no-schema (codes "session") _ refl refl refl refl) (no-transaction (codes "session") _ refl refl refl refl refl refl)
    (no _ _ refl (no _ _ refl (yes _ (named _ done))))

disconnect-statement : IsReadBack statements.Disconnect
unfolding session_statement
disconnect-statement = on-session _ _ (no-row (codes "disconnect") _ refl refl refl refl refl) (no-schema (codes "disconnect") _ refl refl refl refl) (no-transaction (codes "disconnect") _ refl refl refl refl refl refl)
    (no _ _ refl (no _ _ refl (no _ _ refl (yes _ done))))

work-statement : (units : ℕ) → units ≤ 1000000 → IsReadBack (statements.Work units)
unfolding session_statement work
work-statement units le = on-session _ _ (no-row (codes "work") _ refl refl refl refl refl) (no-schema (codes "work") _ refl refl refl refl) (no-transaction (codes "work") _ refl refl refl refl refl refl)
    (no _ _ refl (no _ _ refl (no _ _ refl (no _ _ refl (want _ (go _ (number-reads 0 1000000 units (omega arith) le) done))))))

reads-back : (s : Statement) → is_statement s ≡ true → is_bounded s ≡ true → IsReadBack s
reads-back (statements.CreateTable text mild engine) h b = create_table-statement text mild engine (first_of_both (is_table_text text) _ h) (second_of_both (is_table_text text) _ h)
reads-back (statements.DropTable table mild) h b = drop_table-statement table mild
reads-back (statements.CreateIndex table key) h b = create_index-statement table key (key-parts key (second_of_both (is_name table) (is_secondary_text key) h))
reads-back (statements.DropIndex at) h b = drop_index-statement at
reads-back (statements.BeginIndex table key) h b = begin_index-statement table key (key-parts key (second_of_both (is_name table) (is_secondary_text key) h))
reads-back (statements.FinishIndex at) h b = finish-statement at
reads-back (statements.CancelIndex at) h b = cancel-statement at
reads-back (statements.Insert i) h b = insert-statement i h
reads-back (statements.Replace i) h b = replace-statement i h
reads-back (statements.Update table set o) h b =
    let k : (some_all is_set set && where_given is_condition o) ≡ true = second_of_both (is_name table) _ h in
    update-statement table set o (some-sets set (first_of_both (some_all is_set set) _ k) (first_of_both (list_all (λ s. is_plain_to s.to) set) _ b)) (where-of o (second_of_both (some_all is_set set) _ k) (second_of_both (list_all (λ s. is_plain_to s.to) set) _ b))
reads-back (statements.Delete table o) h b = delete-statement table o (where-of o (second_of_both (is_name table) (where_given is_condition o) h) b)
reads-back (statements.Select s) h b = select-statement s (select-parts s h b)
reads-back (statements.Begin snapshot) h b = begin-statement snapshot
reads-back statements.Commit h b = commit-statement
reads-back statements.Rollback h b = rollback-statement
reads-back (statements.RollbackTo n) h b = rollback_to-statement n
reads-back (statements.Savepoint n) h b = savepoint-statement n
reads-back (statements.Release n) h b = release-statement n
reads-back (statements.Lock ns) h b = lock-statement ns h
reads-back statements.Unlock h b = unlock-statement
reads-back (statements.Session n) h b = session-statement n
reads-back statements.Disconnect h b = disconnect-statement
reads-back (statements.Work units) h b = work-statement units (leb-true units 1000000 h)

-- ---- the whole

ended-all : (ts : List Lexeme) → Spell ts [] → IsRead tt [] (ended ts)
unfolding ended
ended-all [] s = (refl, tt)
ended-all (t ∷ ts) s = absurd s

ended-reads : Reads ended [] tt []
ended-reads = record { reads = ended-all }

whole-reads : (all : List Part) (s : Statement) → Reads statement all s [] → Reads whole_statement all s []
unfolding whole_statement
whole-reads all s r = go _ r (go _ ended-reads done)

none-left : (ts : List Lexeme) → Spell ts [] → ts ≡ []
none-left [] s = refl
none-left (t ∷ ts) s = absurd s

read-whole : (o : Outcome Statement) (s : Statement) → IsRead s [] o → o ≡ Some (s, [])
read-whole None s r = absurd r
read-whole (Some p) s r = ap Some (ap (λ (x : Statement). (x, p.1)) r.0 ∙ ap (λ (ts : List Lexeme). (s, ts)) (none-left p.1 r.1))

-- whatever tokens spell the statement, it is read from them, and none is left
pub spelling-read : (s : Statement) (ts : List Lexeme) → IsSpellable s → Spell ts (spelled_statement s) → whole_statement ts ≡ Some (s, [])
spelling-read s ts h spell = read-whole (whole_statement ts) s ((whole-reads (spelled_statement s) s (reads-back s h.in_order h.bounded)).reads ts spell)
