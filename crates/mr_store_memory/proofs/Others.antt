-- Numbers that become known, of families that stay as they are.
use Rattle.std.proofs.Common.{◌≡◌, ◌==◌, ℕ, ◌+◌, ◌<◌, ◌≤◌, Bool, true, false, if◌then◌else◌, List, [], ◌∷◌, ◌++◌, length, get_or, take, Result, Ok, Err, OnOk, OnErr, refl, sym, ◌∙◌, ap, subst, inl, inr, arith}
use Rattle.std.proofs.lemmas.Bool.{cases_Bool}
use Rattle.std.proofs.lemmas.Bool.Decides.{nat_tests}
use Rattle.std.proofs.lemmas.List.{take_all}
use Rattle.mr_base.specs.declared.stop.Direction.TheVariants.{Forward}
use Rattle.mr_iter.specs.Order.{each-append}
use Rattle.mr_wal.specs.declared.operation.Operation.{Operation}
use Rattle.mr_families.specs.declared.numbered.Numbered.{Numbered}
use Rattle.mr_families.specs.Known.{family_at, empty_family, is_known}
use Rattle.mr_families.specs.Changed.{learnt, Learnt}
use Rattle.mr_families.specs.Batches.{AreKnown}
use Rattle.mr_store_memory.specs.Knows.{Knows}
use Rattle.mr_store_memory.proofs.Named.{same_of, front_more}

-- a family that isn't known is a forward one, empty
unknown_is_empty : (ns : List Numbered) (n : ℕ) → is_known ns n ≡ false → family_at ns n ≡ empty_family Forward
unknown_is_empty [] n not_so = refl
unknown_is_empty (m ∷ ns) n not_so = elim (cases_Bool (m.number == n)) [
  | inl is ↦ absurd (Rattle.std.proofs.Common.true≢false (sym (ap (λ (b : Bool). if b then true else is_known ns n) is) ∙ not_so))
  | inr other ↦ ap (λ (b : Bool). if b then m.family else family_at ns n) other ∙ unknown_is_empty ns n (sym (ap (λ (b : Bool). if b then true else is_known ns n) other) ∙ not_so)
]

module _ (n : ℕ) (a b : List Numbered) where
  -- a number that is learnt forward where it wasn't known leaves each family as it was
  learnt_same : is_known a n ≡ false → Learnt n Forward a b → (f : ℕ) → family_at b f ≡ family_at a f
  learnt_same unknown made f = elim (cases_Bool (n == f)) [
    | inl is ↦ subst (λ (k : ℕ). family_at b k ≡ family_at a k) (same_of n f is) (made.own ∙ ap (learnt Forward) before ∙ sym before)
    | inr other ↦ made.others f other
  ]
    where
      before : family_at a n ≡ empty_family Forward
      before = unknown_is_empty a n unknown

  learnt_knows : Learnt n Forward a b → Knows n a b
  learnt_knows made = record {
    own = made.known n ∙ ap (λ (t : Bool). if t then true else is_known a n) (itself n);
    others = λ f known. made.known f ∙ ap (λ (t : Bool). if n == f then true else t) known ∙ either (n == f);
  }
    where
      itself : (m : ℕ) → (m == m) ≡ true
      itself m = grind (arith, nat_tests)

      either : (t : Bool) → (if t then true else true) ≡ true
      either true = refl
      either false = refl

  pub number_same : {A E : Type 0} (r : Result A E) → is_known a n ≡ false → OnOk r (Learnt n Forward a b) → OnErr r (b ≡ a) → (f : ℕ) → family_at b f ≡ family_at a f
  number_same (Ok u) unknown made same = learnt_same unknown made
  number_same (Err e) unknown made same = λ f. ap (λ (ns : List Numbered). family_at ns f) same

  pub number_known : {A E : Type 0} (r : Result A E) → OnOk r (Learnt n Forward a b) → OnOk r (Knows n a b)
  number_known (Ok u) made = learnt_knows made
  number_known (Err e) made = tt

pub knows_already : (n : ℕ) (a : List Numbered) → is_known a n ≡ true → Knows n a a
knows_already n a known = record { own = known; others = λ f known. known }

-- ---- a batch, front by front

known_stay : (n : ℕ) (a b : List Numbered) (os : List Operation) → Knows n a b → AreKnown a os → AreKnown b os
known_stay n a b [] more all = tt
known_stay n a b (o ∷ os) more all = (more.others o.family all.0, known_stay n a b os more all.1)

pub known_more : (os : List Operation) (i : ℕ) (o : Operation) (a b : List Numbered) → i < length os → o ≡ get_or os i o → AreKnown a (take i os) → Knows o.family a b → AreKnown b (take (i + 1) os)
known_more os i o a b lt is all more =
    subst (AreKnown b) (sym (front_more os i o lt is)) (each-append (λ (p : Operation). is_known b p.family ≡ true) (take i os) (o ∷ []) (known_stay o.family a b (take i os) more all) (more.own, tt))

pub known_all : (os : List Operation) (i : ℕ) (a : List Numbered) → length os ≤ i → AreKnown a (take i os) → AreKnown a os
known_all os i a le all = subst (AreKnown a) (take_all i os le) all
