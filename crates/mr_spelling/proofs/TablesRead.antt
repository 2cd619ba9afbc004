-- CREATE TABLE is read.
use Rattle.std.proofs.Common.{◌≡◌, ℕ, zero, suc, ◌+◌, ◌^◌, ◌≤◌, List, [], ◌∷◌, ◌++◌, length, map, Bool, true, false, true≢false, not, ◌&&◌, ◌||◌, nat_lt, Option, Some, None, codes, arith, refl, ap, sym, ◌∙◌, append_assoc, append-nil, is_none}
use Rattle.std.specs.List.{list_all}
use Rattle.std.proofs.lemmas.Bool.{ltb-true}
use Rattle.mr_pieces.specs.declared.collation.Collation.{Collation}
use Rattle.mr_pieces.specs.declared.collation.Collation.TheVariants.{Bin, Ci}
use Rattle.mr_types.specs.Grammatical.{is_name, is_ascii_text, is_literal, is_kind_text, is_column_text, is_key_name, is_key_text, is_table_text, is_empty, some_all, where_given}
use Rattle.mr_types.specs.declared.kind.KindText.{KindText}
use Rattle.mr_types.specs.declared.kind.KindText.TheVariants as kinds
use Rattle.mr_types.specs.declared.text.ColumnText.{ColumnText}
use Rattle.mr_types.specs.declared.text.KeyText.{KeyText}
use Rattle.mr_types.specs.declared.text.TableText.{TableText}
use Rattle.mr_types.specs.declared.value.Value.{Value}
use Rattle.mr_types.specs.declared.statement.Statement.TheVariants as statements
use Rattle.mr_spec.specs.declared.drafts.Attributes.{Attributes}
use Rattle.mr_spec.specs.declared.drafts.ColumnDraft.{ColumnDraft}
use Rattle.mr_spec.specs.declared.drafts.TableDraft.{TableDraft}
use Rattle.mr_spec.specs.declared.drafts.TableOptions.{TableOptions}
use Rattle.mr_spec.specs.Literals.{greatest}
use Rattle.mr_spec.specs.TablePhrases.{collation, key_word, named_key, primary_of, primary_key, display_width, number_type, column_type, is_varchar, no_attributes, with_nullable, with_default, with_column_collation, text_attribute, attribute, attributes_from, attributes, column_of, with_key, with_column, column, item, items_from, no_items, items, no_options, with_engine, with_table_comment, text_option, plain_option, option, options_from, options, if_not_exists, closed, or_empty, table_of, create_table}
use Rattle.mr_spelling.specs.Parts.{Part, Keyword, Mark, Name, Quoted, Plain}
use Rattle.mr_spelling.specs.Spelling.{spelled_list, spelled_name, spelled_names, spelled_literal}
use Rattle.mr_spelling.specs.Sessions.{spelled_comment}
use Rattle.mr_spelling.specs.Tables.{spelled_kind, spelled_nullable, spelled_default, collation_word, collation_of, spelled_collation, spelled_column, spelled_key_words, spelled_key, TableItem, OfColumn, OfKey, spelled_table_item, items_of, spelled_engine, spelled_if_not_exists, spelled_create_table}
use Rattle.mr_spelling.proofs.Reading.{Reads, go, done, done_as, checked, lacks, lacks_sign, yes, no, yes_sign, no_sign, want, want_last, named, looks_past, unseen-sign, maybe_no_sign, no_last, with_turns}
use Rattle.mr_spelling.proofs.Lists.{both-true, first_of_both, second_of_both, in_parentheses-reads, names_in-reads}
use Rattle.mr_spelling.proofs.Literals.{number-reads, text-reads, word-reads, literal-reads, literal-grows}
use Rattle.mr_spelling.proofs.SessionsRead.{comment-reads}

-- ---- types

-- a VARCHAR as its type alone says it
abbrev base : KindText → KindText
base (kinds.VarChar n c) = kinds.VarChar n Ci
base kinds.Int = kinds.Int
base kinds.IntUnsigned = kinds.IntUnsigned
base kinds.BigInt = kinds.BigInt
base kinds.BigIntUnsigned = kinds.BigIntUnsigned
base (kinds.VarBinary n) = kinds.VarBinary n

no-width : (more : List Part) → lacks_sign (codes "(") more ≡ true → Reads display_width more tt more
unfolding display_width
no-width more l = looks_past _ _ (λ ts s. unseen-sign (codes "(") ts more s l) done

below : (n : ℕ) → nat_lt n (2 ^ 127) ≡ true → n ≤ greatest
below n h = omega (arith, ltb-true n (2 ^ 127) h)

kind-reads : (k : KindText) (more : List Part) → is_kind_text k ≡ true → lacks (codes "unsigned") more ≡ true → lacks_sign (codes "(") more ≡ true → Reads column_type (spelled_kind k more) (base k) more
unfolding column_type number_type
kind-reads kinds.Int more h l c = yes _ (go _ (no-width more c) (no _ _ l done))
kind-reads kinds.IntUnsigned more h l c = yes _ (go _ (no-width (Keyword (codes "unsigned") ∷ more) refl) (yes _ done))
kind-reads kinds.BigInt more h l c = no _ _ refl (no _ _ refl (yes _ (go _ (no-width more c) (no _ _ l done))))
kind-reads kinds.BigIntUnsigned more h l c = no _ _ refl (no _ _ refl (yes _ (go _ (no-width (Keyword (codes "unsigned") ∷ more) refl) (yes _ done))))
kind-reads (kinds.VarChar n collation) more h l c = no _ _ refl (no _ _ refl (no _ _ refl (yes _ (go _ (in_parentheses-reads (number-reads 0 greatest n (omega arith) (below n h))) done))))
kind-reads (kinds.VarBinary n) more h l c = no _ _ refl (no _ _ refl (no _ _ refl (no _ _ refl (want _ (go _ (in_parentheses-reads (number-reads 0 greatest n (omega arith) (below n h))) done)))))

-- ---- attributes

abbrev with_these : Bool → Option Value → Option Collation → Attributes
with_these nullable default collation = record { nullable = Some nullable; default = default; charset = false; collation = collation; primary = false; comment = false }

nullable-reads : (b : Bool) (more : List Part) → Reads (attribute no_attributes) (spelled_nullable b more) (with_these b None None, true) more
unfolding attribute with_nullable
nullable-reads true more = no _ _ refl (yes _ (go _ (checked _ refl done) done))
nullable-reads false more = yes _ (want _ (go _ (checked _ refl done) done))

default-reads : (b : Bool) (v : Value) (more : List Part) → is_literal v ≡ true → Reads (attribute (with_these b None None)) (Keyword (codes "default") ∷ spelled_literal v more) (with_these b (Some v) None, true) more
unfolding attribute with_default
default-reads b v more h = no _ _ refl (no _ _ refl (yes _ (go _ (checked _ refl (go _ (literal-reads v more h) done)) done)))

word-of-collation : (c : Collation) (more : List Part) → Reads collation (Keyword (collation_word c) ∷ more) c more
unfolding collation
word-of-collation Bin more = yes _ done
word-of-collation Ci more = no _ _ refl (want _ done)

collation-reads : (b : Bool) (d : Option Value) (c : Collation) (more : List Part) → Reads (attribute (with_these b d None)) (Keyword (codes "collate") ∷ Keyword (collation_word c) ∷ more) (with_these b d (Some c), true) more
unfolding attribute text_attribute with_column_collation
collation-reads b d c more = no _ _ refl (no _ _ refl (no _ _ refl (no _ _ refl (no _ _ refl (yes _ (go _ (checked _ refl (go _ (word-of-collation c more) done)) done))))))

no-attribute : (a : Attributes) (s : List ℕ) (more : List Part) → Reads (attribute a) (Mark s ∷ more) (a, false) (Mark s ∷ more)
unfolding attribute text_attribute
no-attribute a s more = no _ _ refl (no _ _ refl (no _ _ refl (no _ _ refl (no _ _ refl (no _ _ refl (no _ _ refl done))))))

one-more : (n : ℕ) (a b : Attributes) (all mid : List Part) (c : Attributes) (rest : List Part) → Reads (attribute a) all (b, true) mid → Reads (attributes_from n b) mid c rest → Reads (attributes_from (suc n) a) all c rest
unfolding attributes_from
one-more n a b all mid c rest r g = go _ r g

no-more : (n : ℕ) (a : Attributes) (all : List Part) → Reads (attribute a) all (a, false) all → Reads (attributes_from (suc n) a) all a all
unfolding attributes_from
no-more n a all r = go _ r done

last-attributes : (n : ℕ) (b : Bool) (d : Option Value) (o : Option Collation) (s : List ℕ) (more : List Part) → length (spelled_collation o (Mark s ∷ more)) ≤ n
    → Reads (attributes_from n (with_these b d None)) (spelled_collation o (Mark s ∷ more)) (with_these b d o) (Mark s ∷ more)
last-attributes zero b d None s more le = absurd (omega arith)
last-attributes zero b d (Some c) s more le = absurd (omega arith)
last-attributes (suc n) b d None s more le = no-more n (with_these b d None) (Mark s ∷ more) (no-attribute (with_these b d None) s more)
last-attributes (suc zero) b d (Some c) s more le = absurd (omega arith)
last-attributes (suc (suc n)) b d (Some c) s more le = one-more (suc n) (with_these b d None) (with_these b d (Some c)) _ (Mark s ∷ more) (with_these b d (Some c)) (Mark s ∷ more)
    (collation-reads b d c (Mark s ∷ more)) (no-more n (with_these b d (Some c)) (Mark s ∷ more) (no-attribute (with_these b d (Some c)) s more))

middle-attributes : (n : ℕ) (b : Bool) (d : Option Value) (o : Option Collation) (s : List ℕ) (more : List Part) → where_given is_literal d ≡ true → length (spelled_default d (spelled_collation o (Mark s ∷ more))) ≤ n
    → Reads (attributes_from n (with_these b None None)) (spelled_default d (spelled_collation o (Mark s ∷ more))) (with_these b d o) (Mark s ∷ more)
middle-attributes n b None o s more h le = last-attributes n b None o s more le
middle-attributes zero b (Some v) o s more h le = absurd (omega arith)
middle-attributes (suc n) b (Some v) o s more h le = one-more n (with_these b None None) (with_these b (Some v) None) _ (spelled_collation o (Mark s ∷ more)) (with_these b (Some v) o) (Mark s ∷ more)
    (default-reads b v (spelled_collation o (Mark s ∷ more)) h) (last-attributes n b (Some v) o s more (omega (arith, le, literal-grows v (spelled_collation o (Mark s ∷ more)))))

nullable-grows : (b : Bool) (more : List Part) → suc (length more) ≤ length (spelled_nullable b more)
nullable-grows true more = omega arith
nullable-grows false more = omega arith

first-attributes : (n : ℕ) (b : Bool) (d : Option Value) (o : Option Collation) (s : List ℕ) (more : List Part) → where_given is_literal d ≡ true → length (spelled_nullable b (spelled_default d (spelled_collation o (Mark s ∷ more)))) ≤ n
    → Reads (attributes_from n no_attributes) (spelled_nullable b (spelled_default d (spelled_collation o (Mark s ∷ more)))) (with_these b d o) (Mark s ∷ more)
first-attributes zero b d o s more h le = absurd (omega (arith, nullable-grows b (spelled_default d (spelled_collation o (Mark s ∷ more))), le))
first-attributes (suc n) b d o s more h le = one-more n no_attributes (with_these b None None) _ (spelled_default d (spelled_collation o (Mark s ∷ more))) (with_these b d o) (Mark s ∷ more)
    (nullable-reads b (spelled_default d (spelled_collation o (Mark s ∷ more)))) (middle-attributes n b d o s more h (omega (arith, le, nullable-grows b (spelled_default d (spelled_collation o (Mark s ∷ more))))))

attributes-read : (b : Bool) (d : Option Value) (o : Option Collation) (s : List ℕ) (more : List Part) → where_given is_literal d ≡ true
    → Reads attributes (spelled_nullable b (spelled_default d (spelled_collation o (Mark s ∷ more)))) (with_these b d o) (Mark s ∷ more)
attributes-read b d o s more h = with_turns (λ n. attributes_from n no_attributes) (λ n le. first-attributes n b d o s more h le)

-- ---- columns

abbrev draft_of : ColumnText → ColumnDraft
draft_of c = column_of c.name (base c.kind) (with_these c.nullable c.default (collation_of c.kind))

may-have : (k : KindText) → (is_varchar (base k) || (is_none (collation_of k) && true)) ≡ true
may-have kinds.Int = refl
may-have kinds.IntUnsigned = refl
may-have kinds.BigInt = refl
may-have kinds.BigIntUnsigned = refl
may-have (kinds.VarChar n c) = refl
may-have (kinds.VarBinary n) = refl

nullable-lacks : (b : Bool) (more : List Part) → lacks (codes "unsigned") (spelled_nullable b more) ≡ true
nullable-lacks true more = refl
nullable-lacks false more = refl

nullable-opens : (b : Bool) (more : List Part) → lacks_sign (codes "(") (spelled_nullable b more) ≡ true
nullable-opens true more = refl
nullable-opens false more = refl

column-reads : (d : TableDraft) (c : ColumnText) (s : List ℕ) (more : List Part) → is_column_text c ≡ true → Reads (column d) (spelled_column c (Mark s ∷ more)) (with_column d (draft_of c)) (Mark s ∷ more)
unfolding column
column-reads d c s more h =
    let k = second_of_both (is_name c.name) (is_kind_text c.kind && where_given is_literal c.default) h in
    named _ (go _ (kind-reads c.kind _ (first_of_both (is_kind_text c.kind) (where_given is_literal c.default) k) (nullable-lacks c.nullable _) (nullable-opens c.nullable _))
    (go _ (attributes-read c.nullable c.default (collation_of c.kind) s more (second_of_both (is_kind_text c.kind) (where_given is_literal c.default) k)) (checked _ (may-have c.kind) done)))

-- the table's collation changes nothing
closed-kind : (of_table : Collation) (n : List ℕ) (k : KindText) (b : Bool) (d : Option Value) → closed of_table (column_of n (base k) (with_these b d (collation_of k))) ≡ record { name = n; kind = k; nullable = b; default = d }
closed-kind of_table n kinds.Int b d = refl
closed-kind of_table n kinds.IntUnsigned b d = refl
closed-kind of_table n kinds.BigInt b d = refl
closed-kind of_table n kinds.BigIntUnsigned b d = refl
closed-kind of_table n (kinds.VarChar m c) b d = refl
closed-kind of_table n (kinds.VarBinary m) b d = refl

closed-columns : (of_table : Collation) (cs : List ColumnText) → map (closed of_table) (map draft_of cs) ≡ cs
closed-columns of_table [] = refl
closed-columns of_table (c ∷ cs) = ap (λ x. x ∷ map (closed of_table) (map draft_of cs)) (closed-kind of_table c.name c.kind c.nullable c.default) ∙ ap (λ xs. c ∷ xs) (closed-columns of_table cs)

-- ---- keys

key_word-reads : (more : List Part) → Reads key_word (Keyword (codes "key") ∷ more) true more
unfolding key_word
key_word-reads more = yes _ done

no-key_word : (n : List ℕ) (more : List Part) → Reads key_word (Name n ∷ more) false (Name n ∷ more)
unfolding key_word
no-key_word n more = no _ _ refl (no_last _ refl)

abbrev key_with : List ℕ → Bool → Bool → List (List ℕ) → List ℕ → KeyText
key_with name primary unique columns about = record { name = name; primary = primary; unique = unique; columns = columns; comment = about }

named_key-reads : (n : List ℕ) (unique : Bool) (columns : List (List ℕ)) (about : List ℕ) (s : List ℕ) (more : List Part) → some_all is_name columns ≡ true → is_ascii_text about ≡ true
    → Reads (named_key unique) (Name n ∷ spelled_names columns (spelled_comment about (Mark s ∷ more))) (key_with n false unique columns about) (Mark s ∷ more)
unfolding named_key
named_key-reads n unique columns about s more h k = named _ (go _ (names_in-reads is_name columns _ h) (go _ (comment-reads about (Mark s ∷ more) k refl) done))

primary_key-reads : (columns : List (List ℕ)) (about : List ℕ) (s : List ℕ) (more : List Part) → some_all is_name columns ≡ true → is_ascii_text about ≡ true
    → Reads primary_key (Keyword (codes "key") ∷ spelled_names columns (spelled_comment about (Mark s ∷ more))) (primary_of columns about) (Mark s ∷ more)
unfolding primary_key
primary_key-reads columns about s more h k = want _ (go _ (names_in-reads is_name columns _ h) (go _ (comment-reads about (Mark s ∷ more) k refl) done))

key-reads : (d : TableDraft) (n : List ℕ) (primary unique : Bool) (columns : List (List ℕ)) (about : List ℕ) (s : List ℕ) (more : List Part)
    → is_key_name (key_with n primary unique columns about) ≡ true → some_all is_name columns ≡ true → is_ascii_text about ≡ true
    → Reads (item d) (spelled_key_words primary unique n (spelled_names columns (spelled_comment about (Mark s ∷ more)))) (with_key d (key_with n primary unique columns about)) (Mark s ∷ more)
unfolding item
key-reads d [] true true columns about s more m h k = yes _ (go _ (primary_key-reads columns about s more h k) done)
key-reads d (b ∷ bs) true unique columns about s more m h k = absurd (true≢false (sym m))
key-reads d [] true false columns about s more m h k = absurd (true≢false (sym m))
key-reads d n false true columns about s more m h k = no _ _ refl (yes _ (go _ (key_word-reads _) (go _ (named_key-reads n true columns about s more h k) done)))
key-reads d n false false columns about s more m h k = no _ _ refl (no _ _ refl (go _ (key_word-reads _) (go _ (named_key-reads n false columns about s more h k) done)))

-- ---- items

abbrev is_table_item : TableItem → Bool
is_table_item (OfColumn c) = is_column_text c
is_table_item (OfKey k) = is_key_text k

abbrev drafted : TableDraft → TableItem → TableDraft
drafted d (OfColumn c) = with_column d (draft_of c)
drafted d (OfKey k) = with_key d k

column-item : (d : TableDraft) (c : ColumnText) (s : List ℕ) (more : List Part) → is_column_text c ≡ true → Reads (item d) (spelled_column c (Mark s ∷ more)) (with_column d (draft_of c)) (Mark s ∷ more)
unfolding item
column-item d c s more h = no _ _ refl (no _ _ refl (go _ (no-key_word c.name _) (column-reads d c s more h)))

item-reads : (d : TableDraft) (x : TableItem) (s : List ℕ) (more : List Part) → is_table_item x ≡ true → Reads (item d) (spelled_table_item x (Mark s ∷ more)) (drafted d x) (Mark s ∷ more)
item-reads d (OfColumn c) s more h = column-item d c s more h
item-reads d (OfKey k) s more h =
    let l = second_of_both (is_key_name k) (some_all is_name k.columns && is_ascii_text k.comment) h in
    key-reads d k.name k.primary k.unique k.columns k.comment s more (first_of_both (is_key_name k) (some_all is_name k.columns && is_ascii_text k.comment) h)
    (first_of_both (some_all is_name k.columns) (is_ascii_text k.comment) l) (second_of_both (some_all is_name k.columns) (is_ascii_text k.comment) l)

abbrev drafted_all : TableDraft → List TableItem → TableDraft
drafted_all d [] = d
drafted_all d (x ∷ xs) = drafted_all (drafted d x) xs

items-from : (n : ℕ) (d : TableDraft) (x : TableItem) (xs : List TableItem) (more : List Part) → length (x ∷ xs) ≤ n → list_all is_table_item (x ∷ xs) ≡ true
    → Reads (items_from n d) (spelled_list spelled_table_item (x ∷ xs) (Mark (codes ")") ∷ more)) (drafted_all d (x ∷ xs)) (Mark (codes ")") ∷ more)
unfolding items_from
items-from zero d x xs more le h = absurd (omega arith)
items-from (suc n) d x [] more le h = go _ (item-reads d x (codes ")") more (first_of_both (is_table_item x) true h)) (no_sign _ _ refl done)
items-from (suc n) d x (y ∷ ys) more le h = go _ (item-reads d x (codes ",") _ (first_of_both (is_table_item x) (list_all is_table_item (y ∷ ys)) h))
    (yes_sign _ (items-from n (drafted d x) y ys more (omega (arith, le)) (second_of_both (is_table_item x) (list_all is_table_item (y ∷ ys)) h)))

kind-grows : (k : KindText) (more : List Part) → suc (length more) ≤ length (spelled_kind k more)
kind-grows kinds.Int more = omega arith
kind-grows kinds.IntUnsigned more = omega arith
kind-grows kinds.BigInt more = omega arith
kind-grows kinds.BigIntUnsigned more = omega arith
kind-grows (kinds.VarChar n c) more = omega arith
kind-grows (kinds.VarBinary n) more = omega arith

default-grows : (d : Option Value) (more : List Part) → length more ≤ length (spelled_default d more)
default-grows None more = omega arith
default-grows (Some v) more = omega (arith, literal-grows v more)

collation-grows : (o : Option Collation) (more : List Part) → length more ≤ length (spelled_collation o more)
collation-grows None more = omega arith
collation-grows (Some c) more = omega arith

column-grows : (c : ColumnText) (more : List Part) → suc (length more) ≤ length (spelled_column c more)
column-grows c more =
    let last = spelled_collation (collation_of c.kind) more in
    omega (arith, kind-grows c.kind (spelled_nullable c.nullable (spelled_default c.default last)), nullable-grows c.nullable (spelled_default c.default last), default-grows c.default last, collation-grows (collation_of c.kind) more)

names-grow : (ns : List (List ℕ)) (more : List Part) → length more ≤ length (spelled_list spelled_name ns more)
names-grow [] more = omega arith
names-grow (n ∷ []) more = omega arith
names-grow (n ∷ m ∷ ns) more = omega (arith, names-grow (m ∷ ns) more)

comment-grows : (about : List ℕ) (more : List Part) → length more ≤ length (spelled_comment about more)
comment-grows [] more = omega arith
comment-grows (c ∷ cs) more = omega arith

words-grow : (primary unique : Bool) (n : List ℕ) (more : List Part) → length more ≤ length (spelled_key_words primary unique n more)
words-grow true unique n more = omega arith
words-grow false true n more = omega arith
words-grow false false n more = omega arith

key-grows : (k : KeyText) (more : List Part) → suc (length more) ≤ length (spelled_key k more)
key-grows k more = omega (arith, words-grow k.primary k.unique k.name (spelled_names k.columns (spelled_comment k.comment more)), names-grow k.columns (Mark (codes ")") ∷ spelled_comment k.comment more), comment-grows k.comment more)

item-grows : (x : TableItem) (more : List Part) → suc (length more) ≤ length (spelled_table_item x more)
item-grows (OfColumn c) more = column-grows c more
item-grows (OfKey k) more = key-grows k more

items-grow : (xs : List TableItem) (more : List Part) → length xs + length more ≤ length (spelled_list spelled_table_item xs more)
items-grow [] more = omega arith
items-grow (x ∷ []) more = omega (arith, item-grows x more)
items-grow (x ∷ y ∷ ys) more = omega (arith, item-grows x (Mark (codes ",") ∷ spelled_list spelled_table_item (y ∷ ys) more), items-grow (y ∷ ys) more)

items-read : (xs : List TableItem) (more : List Part) → not (is_empty xs) ≡ true → list_all is_table_item xs ≡ true → Reads items (spelled_list spelled_table_item xs (Mark (codes ")") ∷ more)) (drafted_all no_items xs) (Mark (codes ")") ∷ more)
items-read [] more e h = absurd (true≢false (sym e))
items-read (x ∷ xs) more e h = with_turns (λ n. items_from n no_items) (λ n le. items-from n no_items x xs more (omega (arith, le, items-grow (x ∷ xs) (Mark (codes ")") ∷ more))) h)

-- the columns and keys that were read are those of the table
drafted-keys : (d : TableDraft) (ks : List KeyText) → drafted_all d (map OfKey ks) ≡ record { columns = d.columns; keys = d.keys ++ ks }
drafted-keys d [] = ap (λ (keys : List KeyText). record { columns = d.columns; keys = keys }) (sym (append-nil d.keys))
drafted-keys d (k ∷ ks) = drafted-keys (with_key d k) ks ∙ ap (λ (keys : List KeyText). record { columns = d.columns; keys = keys }) (append_assoc d.keys (k ∷ []) ks)

drafted-columns : (d : TableDraft) (cs : List ColumnText) (ks : List KeyText) → drafted_all d (map OfColumn cs ++ map OfKey ks) ≡ record { columns = d.columns ++ map draft_of cs; keys = d.keys ++ ks }
drafted-columns d [] ks = drafted-keys d ks ∙ ap (λ (columns : List ColumnDraft). record { columns = columns; keys = d.keys ++ ks }) (sym (append-nil d.columns))
drafted-columns d (c ∷ cs) ks = drafted-columns (with_column d (draft_of c)) cs ks ∙ ap (λ (columns : List ColumnDraft). record { columns = columns; keys = d.keys ++ ks }) (append_assoc d.columns (draft_of c ∷ []) (map draft_of cs))

all-columns : (cs : List ColumnText) (xs : List TableItem) → list_all is_column_text cs ≡ true → list_all is_table_item xs ≡ true → list_all is_table_item (map OfColumn cs ++ xs) ≡ true
all-columns [] xs h k = k
all-columns (c ∷ cs) xs h k = both-true (is_column_text c) (list_all is_table_item (map OfColumn cs ++ xs)) (first_of_both (is_column_text c) (list_all is_column_text cs) h) (all-columns cs xs (second_of_both (is_column_text c) (list_all is_column_text cs) h) k)

all-keys : (ks : List KeyText) → list_all is_key_text ks ≡ true → list_all is_table_item (map OfKey ks) ≡ true
all-keys [] h = refl
all-keys (k ∷ ks) h = both-true (is_key_text k) (list_all is_table_item (map OfKey ks)) (first_of_both (is_key_text k) (list_all is_key_text ks) h) (all-keys ks (second_of_both (is_key_text k) (list_all is_key_text ks) h))

some-items : (cs : List ColumnText) (ks : List KeyText) → not (is_empty cs && is_empty ks) ≡ true → not (is_empty (map OfColumn cs ++ map OfKey ks)) ≡ true
some-items [] [] h = h
some-items [] (k ∷ ks) h = refl
some-items (c ∷ cs) ks h = refl

-- ---- options

abbrev given : List ℕ → Option (List ℕ)
given [] = None
given (c ∷ cs) = Some (c ∷ cs)

abbrev options_with : Option (List ℕ) → Option (List ℕ) → TableOptions
options_with engine about = record { engine = engine; charset = false; collation = None; comment = about }

engine-reads : (w : List ℕ) (more : List Part) → is_ascii_text w ≡ true → Reads (option no_options) (Keyword (codes "engine") ∷ Plain w ∷ more) (options_with (Some w) None, true) more
unfolding option plain_option with_engine
engine-reads w more h = no_sign _ _ refl (yes _ (go _ (checked _ refl (go _ (maybe_no_sign _ refl) (go _ (word-reads h) done))) done))

about-reads : (engine : Option (List ℕ)) (about : List ℕ) (more : List Part) → is_ascii_text about ≡ true → Reads (option (options_with engine None)) (Keyword (codes "comment") ∷ Quoted about ∷ more) (options_with engine (Some about), true) more
unfolding option plain_option with_table_comment
about-reads engine about more h = no_sign _ _ refl (no _ _ refl (yes _ (go _ (checked _ refl (go _ (maybe_no_sign _ refl) (go _ (text-reads h) done))) done)))

no-option : (o : TableOptions) → Reads (option o) [] (o, false) []
unfolding option plain_option text_option
no-option o = no_sign _ _ refl (no _ _ refl (no _ _ refl (no _ _ refl (no _ _ refl (no _ _ refl (no _ _ refl done))))))

one-option : (n : ℕ) (a b : TableOptions) (all mid : List Part) (c : TableOptions) (rest : List Part) → Reads (option a) all (b, true) mid → Reads (options_from n b) mid c rest → Reads (options_from (suc n) a) all c rest
unfolding options_from
one-option n a b all mid c rest r g = go _ r g

end-options : (n : ℕ) (o : TableOptions) → Reads (options_from n o) [] o []
unfolding options_from
end-options zero o = done
end-options (suc n) o = go _ (no-option o) done

last-options : (n : ℕ) (engine : Option (List ℕ)) (about : List ℕ) → is_ascii_text about ≡ true → length (spelled_comment about []) ≤ n → Reads (options_from n (options_with engine None)) (spelled_comment about []) (options_with engine (given about)) []
last-options n engine [] h le = end-options n (options_with engine None)
last-options zero engine (c ∷ cs) h le = absurd (omega arith)
last-options (suc n) engine (c ∷ cs) h le = one-option n (options_with engine None) (options_with engine (Some (c ∷ cs))) _ [] (options_with engine (Some (c ∷ cs))) [] (about-reads engine (c ∷ cs) [] h) (end-options n (options_with engine (Some (c ∷ cs))))

abbrev pub is_engine : List ℕ → Bool
is_engine w = not (is_empty w) && is_ascii_text w

all-options : (n : ℕ) (engine : Option (List ℕ)) (about : List ℕ) → where_given is_engine engine ≡ true → is_ascii_text about ≡ true → length (spelled_engine engine (spelled_comment about [])) ≤ n
    → Reads (options_from n no_options) (spelled_engine engine (spelled_comment about [])) (options_with engine (given about)) []
all-options n None about w h le = last-options n None about h le
all-options zero (Some engine) about w h le = absurd (omega arith)
all-options (suc n) (Some engine) about w h le = one-option n no_options (options_with (Some engine) None) _ (spelled_comment about []) (options_with (Some engine) (given about)) []
    (engine-reads engine (spelled_comment about []) (second_of_both (not (is_empty engine)) (is_ascii_text engine) w)) (last-options n (Some engine) about h (omega (arith, le)))

options-read : (engine : Option (List ℕ)) (about : List ℕ) → where_given is_engine engine ≡ true → is_ascii_text about ≡ true → Reads options (spelled_engine engine (spelled_comment about [])) (options_with engine (given about)) []
options-read engine about w h = with_turns (λ n. options_from n no_options) (λ n le. all-options n engine about w h le)

-- ---- CREATE TABLE

mild-reads : (mild : Bool) (n : List ℕ) (more : List Part) → Reads if_not_exists (spelled_if_not_exists mild (Name n ∷ more)) mild (Name n ∷ more)
unfolding if_not_exists
mild-reads true n more = yes _ (go _ (want _ want_last) done)
mild-reads false n more = no _ _ refl done

comment-same : (about : List ℕ) → or_empty (given about) ≡ about
comment-same [] = refl
comment-same (c ∷ cs) = refl

table-same : (text : TableText) (engine : Option (List ℕ)) → table_of text.name (drafted_all no_items (items_of text)) (options_with engine (given text.comment)) ≡ text
table-same text engine =
    ap (λ d. table_of text.name d (options_with engine (given text.comment))) (drafted-columns no_items text.columns text.keys)
    ∙ ap (λ (columns : List ColumnText). record { name = text.name; columns = columns; keys = text.keys; comment = or_empty (given text.comment) }) (closed-columns Ci text.columns)
    ∙ ap (λ (about : List ℕ). record { name = text.name; columns = text.columns; keys = text.keys; comment = about }) (comment-same text.comment)

pub create_table-reads : (text : TableText) (mild : Bool) (engine : Option (List ℕ)) → is_table_text text ≡ true → where_given is_engine engine ≡ true
    → Reads create_table (spelled_create_table text mild engine) (statements.CreateTable text mild engine) []
unfolding create_table
create_table-reads text mild engine h w =
    let columns = list_all is_column_text text.columns in
    let keys = list_all is_key_text text.keys in
    let h1 : (columns && (keys && (not (is_empty text.columns && is_empty text.keys) && is_ascii_text text.comment))) ≡ true = second_of_both (is_name text.name) _ h in
    let h2 : (keys && (not (is_empty text.columns && is_empty text.keys) && is_ascii_text text.comment)) ≡ true = second_of_both columns _ h1 in
    let h3 : (not (is_empty text.columns && is_empty text.keys) && is_ascii_text text.comment) ≡ true = second_of_both keys _ h2 in
    go _ (mild-reads mild text.name _) (named _
    (go _ (in_parentheses-reads (items-read (items_of text) _ (some-items text.columns text.keys (first_of_both (not (is_empty text.columns && is_empty text.keys)) _ h3))
    (all-columns text.columns (map OfKey text.keys) (first_of_both columns _ h1) (all-keys text.keys (first_of_both keys _ h2)))))
    (go _ (options-read engine text.comment w (second_of_both (not (is_empty text.columns && is_empty text.keys)) _ h3))
    (done_as (ap (λ t. statements.CreateTable t mild engine) (table-same text engine))))))
