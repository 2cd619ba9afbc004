-- SELECT is read.
use Rattle.std.proofs.Common.{◌≡◌, ℕ, suc, ◌-◌, ◌^◌, ◌≤◌, List, [], ◌∷◌, length, Bool, true, false, true≢false, not, ◌&&◌, ◌||◌, ◌==◌, nat_le, Option, Some, None, codes, arith, refl, ap, sym, subst, is_none}
use Rattle.std.specs.List.{list_all}
use Rattle.std.specs.Cmp.Lexicographic.{pointwise}
use Rattle.std.specs.Prelude.{nat_eq}
use Rattle.std.proofs.lemmas.Bool.{leb-true}
use Rattle.mr_lex.specs.Reading.{Lexeme}
use Rattle.mr_types.specs.Grammatical.{is_name, is_aggregate, is_list, is_ordered_well, is_empty, some_all}
use Rattle.mr_types.specs.declared.expr.Expr.{Expr}
use Rattle.mr_types.specs.declared.statement.Aggregate.{Aggregate}
use Rattle.mr_types.specs.declared.statement.Aggregate.TheVariants as aggregates
use Rattle.mr_types.specs.declared.statement.Columns.{Columns}
use Rattle.mr_types.specs.declared.statement.Columns.TheVariants as columns
use Rattle.mr_types.specs.declared.statement.OrderItem.{OrderItem}
use Rattle.mr_types.specs.declared.statement.IndexName.{IndexName}
use Rattle.mr_types.specs.declared.statement.IndexName.TheVariants as indexes
use Rattle.mr_types.specs.declared.statement.Select.{Select}
use Rattle.mr_spec.specs.declared.drafts.Limit.{Limit}
use Rattle.mr_spec.specs.Phrases.{pure, sees, sees_sign, behind}
use Rattle.mr_spec.specs.SelectPhrase.{begins_aggregate, aggregate, select_list, index_name, forced_index, descending, order_item, order, limit_numbers, limit, may_be_ordered, select}
use Rattle.mr_spelling.specs.Parts.{Part, Keyword, Mark, Name, Spell}
use Rattle.mr_spelling.specs.Spelling.{spelled_list, spelled_name}
use Rattle.mr_spelling.specs.Conditions.{spelled_where}
use Rattle.mr_spelling.specs.Selects.{spelled_aggregate, spelled_columns, spelled_index, spelled_forced, direction, spelled_order_item, spelled_order, spelled_limit, spelled_select, is_limited}
use Rattle.mr_spelling.proofs.Reading.{Reads, go, done, checked, lacks, lacks_sign, yes, no, yes_sign, no_sign, want, named, looks, looks_past, seen, seen-sign, unseen-sign, yes_last, named_last, want_sign_last}
use Rattle.mr_spelling.proofs.Lists.{IsItem, any_rest, some_each-of, both-true, first_of_both, second_of_both, listed-reads, names-read, in_parentheses-reads}
use Rattle.mr_spelling.proofs.Literals.{number-reads}
use Rattle.mr_spelling.proofs.ConditionsRead.{is_where, condition-reads}

-- ---- what is selected

aggregate-reads : (a : Aggregate) (more : List Part) → Reads aggregate (spelled_aggregate a more) a more
unfolding aggregate
aggregate-reads aggregates.Count more = yes _ (go _ (in_parentheses-reads want_sign_last) done)
aggregate-reads (aggregates.Min n) more = no _ _ refl (yes _ (go _ (in_parentheses-reads named_last) done))
aggregate-reads (aggregates.Max n) more = no _ _ refl (no _ _ refl (want _ (go _ (in_parentheses-reads named_last) done)))

aggregate-grows : (a : Aggregate) (more : List Part) → suc (length more) ≤ length (spelled_aggregate a more)
aggregate-grows aggregates.Count more = omega arith
aggregate-grows (aggregates.Min n) more = omega arith
aggregate-grows (aggregates.Max n) more = omega arith

aggregate-item : (a : Aggregate) → is_aggregate a ≡ true → IsItem aggregate spelled_aggregate any_rest a
aggregate-item a h = record { grows = aggregate-grows a; reads = λ more c. aggregate-reads a more }

-- a keyword, and a parenthesis behind it
opens-aggregate : (w : List ℕ) (all : List Part) (ts : List Lexeme) → Spell ts (Keyword w ∷ Mark (codes "(") ∷ all) → (sees w ts ≡ true) × (sees_sign (codes "(") (behind ts) ≡ true)
unfolding behind
opens-aggregate w all [] s = absurd s
opens-aggregate w all (t ∷ []) s = absurd s.1
opens-aggregate w all (t ∷ u ∷ ts) s = (seen w t (u ∷ ts) s.0, seen-sign (codes "(") u ts s.1.0)

one-of-three : (a b c d : Bool) → d ≡ true → (a || b || c) ≡ true → ((a || b || c) && d) ≡ true
one-of-three a b c d h k = rw (k, h) refl

first-of-three : (a b c : Bool) → a ≡ true → (a || b || c) ≡ true
first-of-three true b c h = refl
first-of-three false b c h = absurd (true≢false (sym h))

second-of-three : (a b c : Bool) → b ≡ true → (a || b || c) ≡ true
second-of-three true b c h = refl
second-of-three false true c h = refl
second-of-three false false c h = absurd (true≢false (sym h))

third-of-three : (a b c : Bool) → c ≡ true → (a || b || c) ≡ true
third-of-three true b c h = refl
third-of-three false true c h = refl
third-of-three false false c h = h

sees-aggregate : (a : Aggregate) (more : List Part) (ts : List Lexeme) → Spell ts (spelled_aggregate a more) → begins_aggregate ts ≡ true
unfolding begins_aggregate
sees-aggregate aggregates.Count more ts s =
    let o = opens-aggregate (codes "count") (Mark (codes "*") ∷ Mark (codes ")") ∷ more) ts s in
    one-of-three (sees (codes "count") ts) (sees (codes "min") ts) (sees (codes "max") ts) (sees_sign (codes "(") (behind ts)) o.1 (first-of-three (sees (codes "count") ts) (sees (codes "min") ts) (sees (codes "max") ts) o.0)
sees-aggregate (aggregates.Min n) more ts s =
    let o = opens-aggregate (codes "min") (Name n ∷ Mark (codes ")") ∷ more) ts s in
    one-of-three (sees (codes "count") ts) (sees (codes "min") ts) (sees (codes "max") ts) (sees_sign (codes "(") (behind ts)) o.1 (second-of-three (sees (codes "count") ts) (sees (codes "min") ts) (sees (codes "max") ts) o.0)
sees-aggregate (aggregates.Max n) more ts s =
    let o = opens-aggregate (codes "max") (Name n ∷ Mark (codes ")") ∷ more) ts s in
    one-of-three (sees (codes "count") ts) (sees (codes "min") ts) (sees (codes "max") ts) (sees_sign (codes "(") (behind ts)) o.1 (third-of-three (sees (codes "count") ts) (sees (codes "min") ts) (sees (codes "max") ts) o.0)

sees-aggregates : (list : List Aggregate) (more : List Part) (ts : List Lexeme) → some_all is_aggregate list ≡ true → Spell ts (spelled_list spelled_aggregate list more) → begins_aggregate ts ≡ true
sees-aggregates [] more ts h s = absurd (true≢false (sym h))
sees-aggregates (a ∷ []) more ts h s = sees-aggregate a more ts s
sees-aggregates (a ∷ b ∷ bs) more ts h s = sees-aggregate a (Mark (codes ",") ∷ spelled_list spelled_aggregate (b ∷ bs) more) ts s

no-second : (a b : Bool) → b ≡ false → (a && b) ≡ false
no-second true b h = h
no-second false b h = refl

no-parenthesis : (n : List ℕ) (all : List Part) (ts : List Lexeme) → lacks_sign (codes "(") all ≡ true → Spell ts (Name n ∷ all) → sees_sign (codes "(") (behind ts) ≡ false
unfolding behind
no-parenthesis n all [] l s = absurd s
no-parenthesis n all (t ∷ ts) l s = unseen-sign (codes "(") ts all s.1 l

sees-names : (ns : List (List ℕ)) (more : List Part) (ts : List Lexeme) → some_all is_name ns ≡ true → lacks_sign (codes "(") more ≡ true → Spell ts (spelled_list spelled_name ns more) → begins_aggregate ts ≡ false
unfolding begins_aggregate
sees-names [] more ts h l s = absurd (true≢false (sym h))
sees-names (n ∷ []) more ts h l s = no-second (sees (codes "count") ts || sees (codes "min") ts || sees (codes "max") ts) (sees_sign (codes "(") (behind ts)) (no-parenthesis n more ts l s)
sees-names (n ∷ m ∷ ns) more ts h l s = no-second (sees (codes "count") ts || sees (codes "min") ts || sees (codes "max") ts) (sees_sign (codes "(") (behind ts))
    (no-parenthesis n (Mark (codes ",") ∷ spelled_list spelled_name (m ∷ ns) more) ts refl s)

no-star-names : (ns : List (List ℕ)) (more : List Part) → some_all is_name ns ≡ true → lacks_sign (codes "*") (spelled_list spelled_name ns more) ≡ true
no-star-names [] more h = absurd (true≢false (sym h))
no-star-names (n ∷ []) more h = refl
no-star-names (n ∷ m ∷ ns) more h = refl

no-star-aggregate : (a : Aggregate) (more : List Part) → lacks_sign (codes "*") (spelled_aggregate a more) ≡ true
no-star-aggregate aggregates.Count more = refl
no-star-aggregate (aggregates.Min n) more = refl
no-star-aggregate (aggregates.Max n) more = refl

no-star-aggregates : (list : List Aggregate) (more : List Part) → some_all is_aggregate list ≡ true → lacks_sign (codes "*") (spelled_list spelled_aggregate list more) ≡ true
no-star-aggregates [] more h = absurd (true≢false (sym h))
no-star-aggregates (a ∷ []) more h = no-star-aggregate a more
no-star-aggregates (a ∷ b ∷ bs) more h = no-star-aggregate a (Mark (codes ",") ∷ spelled_list spelled_aggregate (b ∷ bs) more)

columns-read : (c : Columns) (more : List Part) → is_list c ≡ true → Reads select_list (spelled_columns c (Keyword (codes "from") ∷ more)) c (Keyword (codes "from") ∷ more)
unfolding select_list
columns-read columns.All more h = yes_sign _ done
columns-read (columns.Names ns) more h = no_sign _ _ (no-star-names ns _ h) (looks_past _ begins_aggregate (λ ts s. sees-names ns _ ts h refl s) (go _ (names-read is_name ns _ h refl) done))
columns-read (columns.Aggregates list) more h = no_sign _ _ (no-star-aggregates list _ h) (looks _ begins_aggregate (λ ts s. sees-aggregates list _ ts h s)
    (go _ (listed-reads aggregate spelled_aggregate any_rest list _ (λ all. refl) (some_each-of (IsItem aggregate spelled_aggregate any_rest) is_aggregate aggregate-item list h) refl refl) done))

-- ---- where from, and in which order

index-reads : (i : IndexName) (more : List Part) → Reads index_name (spelled_index i more) i more
unfolding index_name
index-reads indexes.Primary more = yes _ done
index-reads (indexes.Name n) more = no _ _ refl (named _ done)

forced-reads : (o : Option IndexName) (more : List Part) → lacks (codes "force") more ≡ true → Reads forced_index (spelled_forced o more) o more
unfolding forced_index
forced-reads None more l = no _ _ l done
forced-reads (Some i) more l = yes _ (want _ (go _ (in_parentheses-reads (index-reads i _)) done))

descending-reads : (b : Bool) (more : List Part) → Reads descending (Keyword (direction b) ∷ more) b more
unfolding descending
descending-reads false more = yes _ done
descending-reads true more = no _ _ refl yes_last

abbrev is_order : OrderItem → Bool
is_order o = is_name o.column

order-item : (o : OrderItem) → is_order o ≡ true → IsItem order_item spelled_order_item any_rest o
unfolding order_item
order-item o h = record { grows = λ more. omega arith; reads = λ more c. named _ (go _ (descending-reads o.descending more) done) }

order-reads : (os : List OrderItem) (more : List Part) → list_all is_order os ≡ true → lacks (codes "order") more ≡ true → lacks_sign (codes ",") more ≡ true → Reads order (spelled_order os more) os more
unfolding order
order-reads [] more h l c = no _ _ l done
order-reads (o ∷ os) more h l c = yes _ (want _ (listed-reads order_item spelled_order_item any_rest (o ∷ os) more (λ all. refl) (some_each-of (IsItem order_item spelled_order_item any_rest) is_order order-item (o ∷ os) h) c refl))

-- ---- how many

abbrev limit_of : ℕ → Option ℕ → Limit
limit_of skip most = record { skip = skip; most = most }

zero-of : (n : ℕ) → (n == 0) ≡ true → n ≡ 0
zero-of n h = grind arith

limit-reads : (skip : ℕ) (most : Option ℕ) → is_limited skip most ≡ true → Reads limit (spelled_limit skip most) (limit_of skip most) []
unfolding limit limit_numbers
limit-reads skip None h = no _ _ refl (subst (λ z. Reads (pure (limit_of 0 None)) [] (limit_of z None) []) (sym (zero-of skip h)) done)
limit-reads skip (Some most) h = yes _ (go _ (number-reads 0 (2 ^ 64 - 1) most (omega arith) (leb-true most (2 ^ 64 - 1) (second_of_both (nat_le skip (2 ^ 64 - 1)) (nat_le most (2 ^ 64 - 1)) h)))
    (yes _ (go _ (number-reads 0 (2 ^ 64 - 1) skip (omega arith) (leb-true skip (2 ^ 64 - 1) (first_of_both (nat_le skip (2 ^ 64 - 1)) (nat_le most (2 ^ 64 - 1)) h))) done)))

-- ---- what doesn't come next

limit-lacks : (word : List ℕ) (skip : ℕ) (most : Option ℕ) → pointwise nat_eq word (codes "limit") ≡ false → lacks word (spelled_limit skip most) ≡ true
limit-lacks word skip None h = refl
limit-lacks word skip (Some most) h = ap not h

order-lacks : (word : List ℕ) (os : List OrderItem) (more : List Part) → pointwise nat_eq word (codes "order") ≡ false → lacks word more ≡ true → lacks word (spelled_order os more) ≡ true
order-lacks word [] more h l = l
order-lacks word (o ∷ os) more h l = ap not h

where-lacks : (word : List ℕ) (c : Option Expr) (more : List Part) → pointwise nat_eq word (codes "where") ≡ false → lacks word more ≡ true → lacks word (spelled_where c more) ≡ true
where-lacks word None more h l = l
where-lacks word (Some c) more h l = ap not h

limit-no_comma : (skip : ℕ) (most : Option ℕ) → lacks_sign (codes ",") (spelled_limit skip most) ≡ true
limit-no_comma skip None = refl
limit-no_comma skip (Some most) = refl

-- ---- SELECT

ordered-list : (c : Columns) (s : Select) → is_ordered_well c s ≡ true → list_all is_order s.order ≡ true
ordered-list columns.All s h = h
ordered-list (columns.Names ns) s h = h
ordered-list (columns.Aggregates list) s h = none-ordered s.order (first_of_both (is_empty s.order) (is_none s.most && (s.skip == 0)) h)
  where
    none-ordered : (os : List OrderItem) → is_empty os ≡ true → list_all is_order os ≡ true
    none-ordered [] h = refl
    none-ordered (o ∷ os) h = absurd (true≢false (sym h))

ordered-well : (c : Columns) (s : Select) → is_ordered_well c s ≡ true → (may_be_ordered c || (is_empty s.order && is_none s.most)) ≡ true
ordered-well columns.All s h = refl
ordered-well (columns.Names ns) s h = refl
ordered-well (columns.Aggregates list) s h =
    both-true (is_empty s.order) (is_none s.most) (first_of_both (is_empty s.order) (is_none s.most && (s.skip == 0)) h)
    (first_of_both (is_none s.most) (s.skip == 0) (second_of_both (is_empty s.order) (is_none s.most && (s.skip == 0)) h))

pub record IsSelected (s : Select) : Type 0 where
  pub list : is_list s.columns ≡ true
  pub test : is_where s.condition ≡ true
  pub ordered : is_ordered_well s.columns s ≡ true
  pub limited : is_limited s.skip s.most ≡ true

pub select-reads : (s : Select) → IsSelected s → Reads select (spelled_select s) s []
unfolding select
select-reads s h =
    let last = spelled_limit s.skip s.most in
    let rows = spelled_order s.order (spelled_limit s.skip s.most) in
    go _ (columns-read s.columns _ h.list) (want _ (named _
    (go _ (forced-reads s.forced _ (where-lacks (codes "force") s.condition rows refl (order-lacks (codes "force") s.order last refl (limit-lacks (codes "force") s.skip s.most refl))))
    (go _ (condition-reads s.condition rows h.test (order-lacks (codes "where") s.order last refl (limit-lacks (codes "where") s.skip s.most refl))
    (both-true (lacks (codes "and") rows) (lacks (codes "or") rows) (order-lacks (codes "and") s.order last refl (limit-lacks (codes "and") s.skip s.most refl)) (order-lacks (codes "or") s.order last refl (limit-lacks (codes "or") s.skip s.most refl))))
    (go _ (order-reads s.order last (ordered-list s.columns s h.ordered) (limit-lacks (codes "order") s.skip s.most refl) (limit-no_comma s.skip s.most))
    (go _ (limit-reads s.skip s.most h.limited)
    (checked _ (ordered-well s.columns s h.ordered) done)))))))
