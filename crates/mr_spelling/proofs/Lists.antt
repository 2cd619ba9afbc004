-- Lists, what stands in parentheses, and what may be left out.
use Rattle.std.proofs.Common.{◌≡◌, ℕ, zero, suc, ◌+◌, ◌≤◌, List, [], ◌∷◌, ◌++◌, length, Bool, true, false, true≢false, ◌&&◌, Some, None, codes, arith, refl, sym, subst, append_assoc}
use Rattle.std.specs.List.{list_all}
use Rattle.mr_spec.specs.Phrases.{Phrase, ◌<$>◌, pure, name, separated, separated_from, comma, listed, in_parentheses, names, names_in, clause}
use Rattle.mr_types.specs.Grammatical.{some_all}
use Rattle.mr_spelling.specs.Parts.{Part, Keyword, Mark}
use Rattle.mr_spelling.specs.Spelling.{spelled_by, spelled_list, spelled_name, spelled_names}
use Rattle.mr_spelling.proofs.Reading.{Reads, go, done, lacks, lacks_sign, no, yes, want_sign, yes_sign_last, no_sign_last, named_last, with_turns}

-- the phrase reads this value from what it is spelled with, where nothing stands behind that it would read too
pub record IsItem {A : Type 0} (item : Phrase A) (spelled : A → List Part → List Part) (calm : List Part → Bool) (x : A) : Type 0 where
  pub grows : (more : List Part) → suc (length more) ≤ length (spelled x more)
  pub reads : (more : List Part) → calm more ≡ true → Reads item (spelled x more) x more

-- each of these
abbrev pub Each : {A : Type 0} → (A → Type 0) → List A → Type 0
Each P [] = Unit {0}
Each P (x ∷ xs) = P x × Each P xs

pub first_of_both : (a b : Bool) → (a && b) ≡ true → a ≡ true
first_of_both true b e = refl
first_of_both false b e = e

pub second_of_both : (a b : Bool) → (a && b) ≡ true → b ≡ true
second_of_both true b e = e
second_of_both false b e = absurd (true≢false (sym e))

pub both-true : (a b : Bool) → a ≡ true → b ≡ true → (a && b) ≡ true
both-true a b h k = rw (h, k) refl

pub each-of : {A : Type 0} (P : A → Type 0) (ok : A → Bool) → ((x : A) → ok x ≡ true → P x) → (xs : List A) → list_all ok xs ≡ true → Each P xs
each-of P ok f [] h = tt
each-of P ok f (x ∷ xs) h = (f x (first_of_both (ok x) (list_all ok xs) h), each-of P ok f xs (second_of_both (ok x) (list_all ok xs) h))

-- one or more
abbrev pub Some_each : {A : Type 0} → (A → Type 0) → List A → Type 0
Some_each P [] = ⊥
Some_each P (x ∷ xs) = P x × Each P xs

pub some_each-of : {A : Type 0} (P : A → Type 0) (ok : A → Bool) → ((x : A) → ok x ≡ true → P x) → (xs : List A) → some_all ok xs ≡ true → Some_each P xs
some_each-of P ok f [] h = absurd (true≢false (sym h))
some_each-of P ok f (x ∷ xs) h = each-of P ok f (x ∷ xs) h

module _ {A : Type 0} (between : Part) (mark : Phrase Bool) (item : Phrase A) (spelled : A → List Part → List Part) (calm : List Part → Bool) where
  pub list-grows : (xs : List A) (more : List Part) → Each (IsItem item spelled calm) xs → length xs + length more ≤ length (spelled_by between spelled xs more)
  list-grows [] more i = omega arith
  list-grows (x ∷ []) more i = omega (arith, i.0.grows more)
  list-grows (x ∷ y ∷ ys) more i = omega (arith, i.0.grows (between ∷ spelled_by between spelled (y ∷ ys) more), list-grows (y ∷ ys) more i.1)

  module _ (goes_on : (all : List Part) → Reads mark (between ∷ all) true all) (calms : (all : List Part) → calm (between ∷ all) ≡ true) where
    separated-from : (n : ℕ) (found xs : List A) (more : List Part) → length xs ≤ n → Some_each (IsItem item spelled calm) xs → Reads mark more false more → calm more ≡ true
        → Reads (separated_from mark item n found) (spelled_by between spelled xs more) (found ++ xs) more
    unfolding separated_from
    separated-from n found [] more le i ends c = absurd i
    separated-from zero found (x ∷ xs) more le i ends c = absurd (omega arith)
    separated-from (suc n) found (x ∷ []) more le i ends c = go _ (i.0.reads more c) (go _ ends done)
    separated-from (suc n) found (x ∷ y ∷ ys) more le i ends c =
        go _ (i.0.reads (between ∷ spelled_by between spelled (y ∷ ys) more) (calms (spelled_by between spelled (y ∷ ys) more)))
        (go _ (goes_on (spelled_by between spelled (y ∷ ys) more))
        (subst (λ (zs : List A). Reads (separated_from mark item n (found ++ x ∷ [])) (spelled_by between spelled (y ∷ ys) more) zs more) (append_assoc found (x ∷ []) (y ∷ ys))
        (separated-from n (found ++ x ∷ []) (y ∷ ys) more (omega (arith, le)) i.1 ends c)))

    some-length : (xs : List A) (more : List Part) → Some_each (IsItem item spelled calm) xs → length xs ≤ length (spelled_by between spelled xs more)
    some-length [] more i = absurd i
    some-length (x ∷ xs) more i = omega (arith, list-grows (x ∷ xs) more i)

    pub separated-reads : (xs : List A) (more : List Part) → Some_each (IsItem item spelled calm) xs → Reads mark more false more → calm more ≡ true
        → Reads (separated mark item) (spelled_by between spelled xs more) xs more
    separated-reads xs more i ends c = with_turns (λ n. separated_from mark item n []) (λ n le. separated-from n [] xs more (omega (arith, le, some-length xs more i)) i ends c)

-- with commas between, where no comma stands behind
pub listed-reads : {A : Type 0} (item : Phrase A) (spelled : A → List Part → List Part) (calm : List Part → Bool) (xs : List A) (more : List Part)
    → ((all : List Part) → calm (Mark (codes ",") ∷ all) ≡ true) → Some_each (IsItem item spelled calm) xs → lacks_sign (codes ",") more ≡ true → calm more ≡ true
    → Reads (listed item) (spelled_list spelled xs more) xs more
listed-reads {A} item spelled calm xs more calms i ends c =
    separated-reads (Mark (codes ",")) comma item spelled calm (λ all. yes_sign_last) calms xs more i (no_sign_last (codes ",") ends) c

-- what may have anything behind it
abbrev pub any_rest : List Part → Bool
any_rest more = true

pub name-item : (n : List ℕ) → IsItem name spelled_name any_rest n
name-item n = record { grows = λ more. omega arith; reads = λ more c. named_last }

pub all-names : (ok : List ℕ → Bool) (ns : List (List ℕ)) → some_all ok ns ≡ true → Some_each (IsItem name spelled_name any_rest) ns
all-names ok ns h = some_each-of (IsItem name spelled_name any_rest) ok (λ n e. name-item n) ns h

pub names-read : (ok : List ℕ → Bool) (ns : List (List ℕ)) (more : List Part) → some_all ok ns ≡ true → lacks_sign (codes ",") more ≡ true → Reads names (spelled_list spelled_name ns more) ns more
names-read ok ns more h ends = listed-reads name spelled_name any_rest ns more (λ all. refl) (all-names ok ns h) ends refl

pub in_parentheses-reads : {A : Type 0} {item : Phrase A} {all more : List Part} {x : A} → Reads item all x (Mark (codes ")") ∷ more) → Reads (in_parentheses item) (Mark (codes "(") ∷ all) x more
unfolding in_parentheses
in_parentheses-reads r = want_sign _ (go _ r (want_sign _ done))

pub names_in-reads : (ok : List ℕ → Bool) (ns : List (List ℕ)) (more : List Part) → some_all ok ns ≡ true → Reads names_in (spelled_names ns more) ns more
names_in-reads ok ns more h = in_parentheses-reads (names-read ok ns (Mark (codes ")") ∷ more) h refl)

-- ---- what a keyword introduces

pub clause-absent : {A : Type 0} (item : Phrase A) (word : List ℕ) (more : List Part) → lacks word more ≡ true → Reads (clause word item) more None more
clause-absent item word more l = no word (Some <$> item) l done

pub clause-reads : {A : Type 0} {item : Phrase A} {word : List ℕ} {all more : List Part} {x : A} → Reads item all x more → Reads (clause word item) (Keyword word ∷ all) (Some x) more
clause-reads {A} {item} {word} {all} {more} {x} r = yes (pure None) (go (λ y. pure (Some y)) r done)
