-- What a text of at most 1,048,576 bytes spells is in order, and says no more than the text.
use Rattle.std.proofs.Common.{◌≡◌, ℕ, zero, suc, ◌+◌, ◌-◌, ◌≤◌, List, [], ◌∷◌, true, Bool, length, take, drop, slice_range, arith, refl, ap, ◌∙◌, subst, Option, Some, None, nat_lt}
use Rattle.std.specs.List.{list_all}
use Rattle.std.specs.Option.{option_map}
use Rattle.std.proofs.lemmas.Grind.{common_steps}
use Rattle.std.proofs.lemmas.Option.{none-some}
use Rattle.mr_lex.proofs.Reading.{spans_from}
use Rattle.mr_lex.specs.Reading.{Lexeme, AreSpans, tokens_of}
use Rattle.mr_types.specs.declared.statement.Statement.{Statement}
use Rattle.mr_types.specs.declared.statement.Statement.TheVariants as statements
use Rattle.mr_types.specs.Grammatical.{is_statement, is_grammatical, where_given, IsGrammatical}
use Rattle.mr_types.specs.Nesting.{nests_little}
use Rattle.mr_types.specs.Sizes.{statement_size, if_given}
use Rattle.mr_spec.specs.Phrases.{Outcome, Phrase, ◌<$>◌, ended}
use Rattle.mr_spec.specs.Grammar as g
use Rattle.mr_spec.proofs.Fitting.{From, Good, AreTokens, weight, bind, pass, given, none, eaten, expected, maybe-fits, wide, both, first_holds, second_holds, always, nothing}
use Rattle.mr_spec.proofs.FitTokens.{name-fits}
use Rattle.mr_spec.proofs.FitRows.{insert-fits, update-fits, delete-fits}
use Rattle.mr_spec.proofs.FitSelect.{select-fits}
use Rattle.mr_spec.proofs.FitTables.{create_table-fits}
use Rattle.mr_spec.proofs.FitSessions as s

made_index-fits : (o : Option Bool) → From is_grammatical statement_size 0 (g.made_index o)
made_index-fits (Some unique) = bind (s.new_index-fits unique) (λ at a. given (statements.CreateIndex at.table at.key) a (omega arith))
made_index-fits None = none

create-fits : From is_grammatical statement_size 0 g.create
unfolding g.create
create-fits = eaten _ (wide (omega arith) create_table-fits) (bind s.index_words-fits (λ o u. wide (omega arith) (made_index-fits o)))

abbrev is_some_statement : Option Statement → Bool
is_some_statement o = where_given is_grammatical o

abbrev some_size : Option Statement → ℕ
some_size o = if_given statement_size o

some-fits : {m before : ℕ} {p : Phrase Statement} → From is_grammatical statement_size m p → m ≤ before → From is_some_statement some_size before (Some <$> p)
some-fits f le = pass f le (λ x e. given (Some x) e (omega arith))

row_statement-fits : From is_some_statement some_size 0 g.row_statement
unfolding g.row_statement
row_statement-fits = eaten _ (bind insert-fits (λ i e. given (Some (statements.Insert i)) e (omega arith)))
    (eaten _ (bind select-fits (λ i e. given (Some (statements.Select i)) e (omega arith)))
    (eaten _ (some-fits update-fits (omega arith)) (eaten _ (some-fits delete-fits (omega arith))
    (eaten _ (bind insert-fits (λ i e. given (Some (statements.Replace i)) e (omega arith))) (given None refl (omega arith))))))

schema_statement-fits : From is_some_statement some_size 0 g.schema_statement
unfolding g.schema_statement
schema_statement-fits = eaten _ (some-fits create-fits (omega arith)) (eaten _ (some-fits s.drop-fits (omega arith))
    (eaten _ (bind s.index_on-fits (λ k e. given (Some (statements.FinishIndex k)) e (omega arith)))
    (eaten _ (bind s.index_on-fits (λ k e. given (Some (statements.CancelIndex k)) e (omega arith))) (given None refl (omega arith)))))

transaction-fits : From is_some_statement some_size 0 g.transaction
unfolding g.transaction
transaction-fits = eaten _ (some-fits s.begin-fits (omega arith)) (eaten _ (some-fits s.start-fits (omega arith))
    (eaten _ (bind (maybe-fits _) (λ b u. given (Some statements.Commit) refl (omega arith)))
    (eaten _ (some-fits s.rollback-fits (omega arith)) (eaten _ (bind name-fits (λ n e. given (Some (statements.Savepoint n)) e (omega arith)))
    (eaten _ (some-fits s.release-fits (omega arith)) (given None refl (omega arith)))))))

session_statement-fits : From is_grammatical statement_size 0 g.session_statement
unfolding g.session_statement
session_statement-fits = eaten _ (wide (omega arith) s.lock-fits) (eaten _ (expected _ _ (given statements.Unlock refl (omega arith)))
    (eaten _ (bind name-fits (λ n e. given (statements.Session n) e (omega arith))) (eaten _ (given statements.Disconnect refl (omega arith)) (expected _ _ (wide (omega arith) s.work-fits)))))

or_else-fits : {before : ℕ} {other : Phrase Statement} (o : Option Statement) → is_some_statement o ≡ true → some_size o ≤ before → From is_grammatical statement_size 0 other → From is_grammatical statement_size before (g.or_else o other)
or_else-fits (Some x) e le f = given x e le
or_else-fits None e le f = wide (omega arith) f

transaction_or_session-fits : From is_grammatical statement_size 0 g.transaction_or_session
unfolding g.transaction_or_session
transaction_or_session-fits = bind transaction-fits (λ o e. or_else-fits o e (omega arith) session_statement-fits)

other_statement-fits : From is_grammatical statement_size 0 g.other_statement
unfolding g.other_statement
other_statement-fits = bind schema_statement-fits (λ o e. or_else-fits o e (omega arith) transaction_or_session-fits)

statement-fits : From is_grammatical statement_size 0 g.statement
unfolding g.statement
statement-fits = bind row_statement-fits (λ o e. or_else-fits o e (omega arith) other_statement-fits)

ended-good : (ts : List Lexeme) → AreTokens ts → Good (always {A = Unit {0}}) nothing (0 + weight ts) (ended ts)
unfolding ended
ended-good [] h = (refl, omega arith, tt)
ended-good (t ∷ ts) h = tt

ended-fits : From always nothing 0 ended
ended-fits = record { good = ended-good }

whole_statement-fits : From is_grammatical statement_size 0 g.whole_statement
unfolding g.whole_statement
whole_statement-fits = bind statement-fits (λ x e. bind ended-fits (λ u t. given x e (omega arith)))

-- ---- tokens of a text

-- ---- the tokens of a text

abbrev is_byte : ℕ → Bool
is_byte b = nat_lt b 256

all-taken : (n : ℕ) (x : List ℕ) → list_all is_byte x ≡ true → list_all is_byte (take n x) ≡ true
all-taken zero x h = refl
all-taken (suc n) [] h = refl
all-taken (suc n) (b ∷ x) h = both (first_holds (is_byte b) (list_all is_byte x) h) (all-taken n x (second_holds (is_byte b) (list_all is_byte x) h))

all-behind : (n : ℕ) (x : List ℕ) → list_all is_byte x ≡ true → list_all is_byte (drop n x) ≡ true
all-behind zero x h = h
all-behind (suc n) [] h = refl
all-behind (suc n) (b ∷ x) h = all-behind n x (second_holds (is_byte b) (list_all is_byte x) h)

range-length : (x : List ℕ) (from to : ℕ) → to ≤ length x → length (slice_range x from to) ≡ to - from
range-length x from to le = grind (arith, common_steps)

range-bytes : (x : List ℕ) (from to : ℕ) → list_all is_byte x ≡ true → list_all is_byte (slice_range x from to) ≡ true
range-bytes x from to h = all-taken (to - from) (drop from x) (all-behind from x h)

-- spans in order have tokens that are no heavier than the text
are_tokens : (text : List ℕ) (from : ℕ) (ts : List Lexeme) → list_all is_byte text ≡ true → AreSpans text from ts → AreTokens ts
are_tokens text from [] h spans = tt
are_tokens text from (t ∷ ts) h spans = (
  omega (arith, ap length spans.3, range-length text t.start t.end spans.2, spans.1),
  ap (list_all is_byte) spans.3 ∙ range-bytes text t.start t.end h,
  are_tokens text t.end ts h spans.4,
)

light : (text : List ℕ) (from : ℕ) (ts : List Lexeme) → from ≤ length text → AreSpans text from ts → from + weight ts ≤ length text
light text from [] le spans = omega (arith, le)
light text from (t ∷ ts) le spans = omega (arith, ap length spans.3, range-length text t.start t.end spans.2, spans.0, spans.1, light text t.end ts spans.2 spans.4)

abbrev found_or : Statement → Option Statement → Statement
found_or x None = x
found_or x (Some y) = y

in_order : (o : Outcome Statement) (n : ℕ) (s : Statement) → n ≤ g.longest_text → Good is_grammatical statement_size n o → option_map (λ p. p.0) o ≡ Some s → IsGrammatical s
in_order None n s le h e = absurd (none-some s e)
in_order (Some p) n s le h e = subst IsGrammatical (ap (found_or s) e) (record { in_order = second_holds (nests_little p.0) (is_statement p.0) h.0; not_deep = first_holds (nests_little p.0) (is_statement p.0) h.0; not_long = omega (arith, h.1, le) })

spelled_by-grammatical : (text : List ℕ) (found : List Lexeme) (bad : Option ℕ) (s : Statement) → list_all is_byte text ≡ true → length text ≤ g.longest_text → AreSpans text 0 found
    → g.spelled_by found bad ≡ Some s → IsGrammatical s
spelled_by-grammatical text found None s h le spans e =
    in_order (g.whole_statement found) (0 + weight found) s (omega (arith, light text 0 found (omega arith) spans, le)) (whole_statement-fits.good found (are_tokens text 0 found h spans)) e
spelled_by-grammatical text found (Some bad) s h le spans e = absurd (none-some s e)

-- the statement that a text spells is one on whose form and size the engine may rely
pub spelled-grammatical : (text : List ℕ) (s : Statement) → list_all is_byte text ≡ true → length text ≤ g.longest_text → g.statement_of text ≡ Some s → IsGrammatical s
unfolding g.statement_of
spelled-grammatical text s h le e = spelled_by-grammatical text (tokens_of text).found (tokens_of text).bad s h le (spans_from text 0 0 0 text refl (omega arith)) e
