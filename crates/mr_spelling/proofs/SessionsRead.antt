-- Statements on indexes, transactions, locks and sessions are read.
use Rattle.std.proofs.Common.{◌≡◌, ℕ, List, [], ◌∷◌, Bool, true, false, Some, codes, arith, refl}
use Rattle.mr_types.specs.Grammatical.{is_name, is_ascii_text, some_all}
use Rattle.mr_types.specs.declared.statement.KeyName.{KeyName}
use Rattle.mr_types.specs.declared.text.KeyText.{KeyText}
use Rattle.mr_spec.specs.declared.drafts.TableKey.{TableKey}
use Rattle.mr_spec.specs.Phrases.{listed}
use Rattle.mr_spec.specs.TablePhrases.{comment}
use Rattle.mr_spec.specs.SessionPhrases.{key_on, index_on, new_index, index_words, if_exists, lock_mode, locked_table}
use Rattle.mr_spelling.specs.Parts.{Part, Keyword, Name}
use Rattle.mr_spelling.specs.Spelling.{spelled_list, spelled_names}
use Rattle.mr_spelling.specs.Sessions.{spelled_comment, spelled_index_on, spelled_unique, spelled_if_exists, spelled_lock}
use Rattle.mr_spelling.proofs.Reading.{Reads, go, done, lacks, yes, no, want, named}
use Rattle.mr_spelling.proofs.Lists.{IsItem, any_rest, some_each-of, listed-reads, names_in-reads}
use Rattle.mr_spelling.proofs.Literals.{text-reads}

pub comment-reads : (about : List ℕ) (more : List Part) → is_ascii_text about ≡ true → lacks (codes "comment") more ≡ true → Reads comment (spelled_comment about more) about more
unfolding comment
comment-reads [] more h l = no _ _ l done
comment-reads (c ∷ cs) more h l = yes _ (text-reads h)

pub key_on-reads : (at : KeyName) (more : List Part) → Reads key_on (Name at.key ∷ Keyword (codes "on") ∷ Name at.table ∷ more) at more
unfolding key_on
key_on-reads at more = named _ (want _ (named _ done))

pub index_on-reads : (at : KeyName) → Reads index_on (spelled_index_on at) at []
unfolding index_on
index_on-reads at = want _ (key_on-reads at [])

abbrev pub key_of : List ℕ → KeyText → TableKey
key_of table key = record { table = table; key = record { name = key.name; primary = false; unique = key.unique; columns = key.columns; comment = key.comment } }

pub new_index-reads : (table : List ℕ) (key : KeyText) → some_all is_name key.columns ≡ true → is_ascii_text key.comment ≡ true
    → Reads (new_index key.unique) (Name key.name ∷ Keyword (codes "on") ∷ Name table ∷ spelled_names key.columns (spelled_comment key.comment [])) (key_of table key) []
unfolding new_index
new_index-reads table key h k = go _ (key_on-reads (record { table = table; key = key.name }) _) (go _ (names_in-reads is_name key.columns _ h) (go _ (comment-reads key.comment [] k refl) done))

pub index_words-read : (unique : Bool) (more : List Part) → Reads index_words (spelled_unique unique (Keyword (codes "index") ∷ more)) (Some unique) more
unfolding index_words
index_words-read true more = yes _ (want _ done)
index_words-read false more = no _ _ refl (yes _ done)

pub if_exists-reads : (mild : Bool) (n : List ℕ) (more : List Part) → Reads if_exists (spelled_if_exists mild (Name n ∷ more)) mild (Name n ∷ more)
unfolding if_exists
if_exists-reads true n more = yes _ (want _ done)
if_exists-reads false n more = no _ _ refl done

locked-item : (n : List ℕ) → IsItem locked_table spelled_lock any_rest n
unfolding locked_table lock_mode
locked-item n = record { grows = λ more. omega arith; reads = λ more c. named _ (go _ (yes _ done) done) }

pub locks-read : (ns : List (List ℕ)) → some_all is_name ns ≡ true → Reads (listed locked_table) (spelled_list spelled_lock ns []) ns []
locks-read ns h = listed-reads locked_table spelled_lock any_rest ns [] (λ all. refl) (some_each-of (IsItem locked_table spelled_lock any_rest) is_name (λ n e. locked-item n) ns h) refl refl
