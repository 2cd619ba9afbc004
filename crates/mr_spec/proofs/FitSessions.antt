-- Indexes, transactions, locks and sessions fit.
use Rattle.std.proofs.Common.{ℕ, ◌+◌, true, false, Bool, ◌&&◌, length, codes, arith, refl, Option, Some, None, nat_le}
use Rattle.mr_types.specs.declared.statement.Statement.TheVariants as statements
use Rattle.mr_types.specs.Grammatical.{is_name, is_key_of_table, is_secondary_text, is_grammatical}
use Rattle.mr_types.specs.Sizes.{name_size, key_size, key_name_size, statement_size}
use Rattle.mr_spec.specs.declared.drafts.TableKey.{TableKey}
use Rattle.mr_spec.specs.Phrases.{sees, behind, begins_name}
use Rattle.mr_spec.specs.SessionPhrases as s
use Rattle.mr_spec.proofs.Fitting.{From, bind, given, eaten, expected, listed-fits, maybe-fits, wide, both, first_holds, second_holds, always, nothing, last_keyword, skipping}
use Rattle.mr_spec.proofs.FitTokens.{name-fits, number-fits}
use Rattle.mr_spec.proofs.FitRows.{names_in-fits}
use Rattle.mr_spec.proofs.FitTables.{comment-fits}

key_on-fits : From is_key_of_table key_name_size 0 s.key_on
unfolding s.key_on
key_on-fits = bind name-fits (λ key a. expected _ _ (bind name-fits (λ table b. given (record { table = table; key = key }) (both b a) (omega arith))))

pub index_on-fits : From is_key_of_table key_name_size 0 s.index_on
unfolding s.index_on
index_on-fits = expected _ _ (wide (omega arith) key_on-fits)

abbrev pub is_table_key : TableKey → Bool
is_table_key k = is_name k.table && is_secondary_text k.key

abbrev pub table_key_size : TableKey → ℕ
table_key_size k = length k.table + key_size k.key

pub new_index-fits : (unique : Bool) → From is_table_key table_key_size 0 (s.new_index unique)
unfolding s.new_index
new_index-fits unique = bind key_on-fits (λ at a. bind names_in-fits (λ columns b. bind comment-fits (λ about c.
    given (record { table = at.table; key = record { name = at.key; primary = false; unique = unique; columns = columns; comment = about } })
    (both (first_holds (is_name at.table) (is_name at.key) a) (both refl (both (second_holds (is_name at.table) (is_name at.key) a) (both b c)))) (omega arith))))

-- a word that BEGIN or CREATE has before it counts for one byte
pub index_words-fits : From always nothing 0 s.index_words
unfolding s.index_words
index_words-fits = eaten _ (expected _ _ (given (Some true) refl (omega arith))) (eaten _ (given (Some false) refl (omega arith)) (given None refl (omega arith)))

if_exists-fits : From always nothing 0 s.if_exists
unfolding s.if_exists
if_exists-fits = eaten _ (expected _ _ (given true refl (omega arith))) (given false refl (omega arith))

pub drop-fits : From is_grammatical statement_size 0 s.drop
unfolding s.drop
drop-fits = eaten _ (bind if_exists-fits (λ mild u. bind name-fits (λ n a. given (statements.DropTable n mild) a (omega arith)))) (bind index_on-fits (λ k a. given (statements.DropIndex k) a (omega arith)))

begun-fits : (o : Option Bool) → From is_grammatical statement_size 1 (s.begun o)
begun-fits (Some unique) = bind (new_index-fits unique) (λ at a. given (statements.BeginIndex at.table at.key) a (omega arith))
begun-fits None = bind (maybe-fits _) (λ b u. given (statements.Begin false) refl (omega arith))

-- behind BEGIN
pub begin-fits : From is_grammatical statement_size 1 s.begin
unfolding s.begin
begin-fits = bind index_words-fits (λ o u. begun-fits o)

with_snapshot-fits : From always nothing 0 s.with_snapshot
unfolding s.with_snapshot
with_snapshot-fits = eaten _ (bind (expected _ _ (wide (omega arith) (last_keyword _))) (λ u e. given true refl (omega arith))) (given false refl (omega arith))

pub start-fits : From is_grammatical statement_size 0 s.start
unfolding s.start
start-fits = expected _ _ (bind with_snapshot-fits (λ b u. given (statements.Begin b) refl (omega arith)))

savepoint_name-fits : From is_name name_size 0 s.savepoint_name
unfolding s.savepoint_name
savepoint_name-fits = skipping (λ ts. sees (codes "savepoint") ts && begins_name (behind ts)) name-fits

-- behind ROLLBACK
pub rollback-fits : From is_grammatical statement_size 1 s.rollback
unfolding s.rollback
rollback-fits = bind (maybe-fits _) (λ b u. eaten _ (bind savepoint_name-fits (λ n a. given (statements.RollbackTo n) a (omega arith))) (given statements.Rollback refl (omega arith)))

pub release-fits : From is_grammatical statement_size 0 s.release
unfolding s.release
release-fits = expected _ _ (bind name-fits (λ n a. given (statements.Release n) a (omega arith)))

lock_mode-fits : From always nothing 0 s.lock_mode
unfolding s.lock_mode
lock_mode-fits = eaten _ (given tt refl (omega arith)) (last_keyword _)

locked_table-fits : From is_name name_size 0 s.locked_table
unfolding s.locked_table
locked_table-fits = bind name-fits (λ n a. bind lock_mode-fits (λ u t. given n a (omega arith)))

pub lock-fits : From is_grammatical statement_size 0 s.lock
unfolding s.lock
lock-fits = expected _ _ (bind (listed-fits _ _ locked_table-fits) (λ ns a. given (statements.Lock ns) a (omega arith)))

pub work-fits : From is_grammatical statement_size 0 s.work
unfolding s.work
work-fits = bind (number-fits 0 1000000) (λ n e. given (statements.Work n) (second_holds (nat_le 0 n) (nat_le n 1000000) e) (omega arith))
