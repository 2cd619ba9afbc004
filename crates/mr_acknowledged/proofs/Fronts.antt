-- The longest front, by recursion on the events.
use Rattle.std.proofs.Common.{◌≡◌, ℕ, ◌+◌, ◌≤◌, true, false, cond, List, [], ◌∷◌, ◌++◌, length, Option, Some, None, refl, ap, ap₂, sym, ◌∙◌, append_assoc, length-append, arith}
use Rattle.std.specs.Prelude.{◌==◌}
use Rattle.std.specs.Option.{option_map_or}
use Rattle.mr_spec.specs.ReplyText.{text_of}
use Rattle.mr_spec.specs.ScriptRun.{Event, output_of, added_by, acknowledged, acknowledged_or_next}
use Rattle.mr_spec.specs.TtlOptions.{behind}
use Rattle.mr_acknowledged.specs.Longest.{BeginsWith, IsLongest, next_count, Counts, HasLongest}

-- ---- what stands behind a front

first-is : (a b : ℕ) (s t : List ℕ) → a ∷ s ≡ b ∷ t → (a ≡ b) × (s ≡ t)
first-is a b s t e = (ap (head a) e, ap tail e)
  where
    head : ℕ → List ℕ → ℕ
    head d [] = d
    head d (x ∷ xs) = x

    tail : List ℕ → List ℕ
    tail [] = []
    tail (x ∷ xs) = xs

number-is : (m n : ℕ) → (m == n) ≡ true → m ≡ n
number-is m n e = grind arith

is-number : (m : ℕ) → (m == m) ≡ true
is-number m = grind arith

behind-is : (front text rest : List ℕ) → behind front text ≡ Some rest → text ≡ front ++ rest
behind-is [] text rest e = cc
behind-is (a ∷ front) [] rest e = absurd cc
behind-is (a ∷ front) (b ∷ text) rest e = (elim (a == b) as (λ c. (a == b) ≡ c → cond c (behind front text) None ≡ Some rest → b ∷ text ≡ a ∷ (front ++ rest)) [
  | true ↦ λ f g. ap₂ (λ x xs. x ∷ xs) (sym (number-is a b f)) (behind-is front text rest g)
  | false ↦ λ f g. absurd cc
]) refl e

is-behind : (front rest : List ℕ) → behind front (front ++ rest) ≡ Some rest
is-behind [] rest = refl
is-behind (a ∷ front) rest = rw (is-number a) (is-behind front rest)

-- the same front leaves the same
same-behind : (front s t : List ℕ) → front ++ s ≡ front ++ t → s ≡ t
same-behind front s t e = some-is (sym (is-behind front s) ∙ ap (behind front) e ∙ is-behind front t)
  where
    some-is : ◌≡◌ {A = Option (List ℕ)} (Some s) (Some t) → s ≡ t
    some-is f = cc

-- ---- events

event-is : (a b : Event) (s t : List Event) → a ∷ s ≡ b ∷ t → (a ≡ b) × (s ≡ t)
event-is a b s t e = (ap (head a) e, ap tail e)
  where
    head : Event → List Event → Event
    head d [] = d
    head d (x ∷ xs) = x

    tail : List Event → List Event
    tail [] = []
    tail (x ∷ xs) = xs

nothing-more : {A : Type 0} (a : Event) (s : List Event) → ◌≡◌ {A = List Event} [] (a ∷ s) → A
nothing-more a s e = absurd cc

pub record Found (events : List Event) (output : List ℕ) : Type 0 where
  pub first : List Event
  pub rest : List Event
  pub is : IsLongest events output first rest
  pub counts : Counts events output first rest

no-events : (output : List ℕ) → Found [] output
no-events output = record {
  first = [];
  rest = [];
  is = record { whole = refl; begins = (output, refl); longest = none-longer };
  counts = record { acknowledged_ones = refl; or_next = refl };
}
  where
    none-longer : (longer others : List Event) → ◌≡◌ {A = List Event} [] (longer ++ others) → BeginsWith output longer → length longer ≤ 0
    none-longer [] others e b = omega arith
    none-longer (a ∷ longer) others e b = nothing-more a (longer ++ others) e

-- the first reply isn't there as a whole
stops : (e : Event) (es : List Event) (output : List ℕ) → behind (text_of e.reply) output ≡ None → Found (e ∷ es) output
stops e es output h = record {
  first = [];
  rest = e ∷ es;
  is = record { whole = refl; begins = (output, refl); longest = none-longer };
  counts = record {
    acknowledged_ones = ap (λ o. option_map_or (λ rest. length e.added + acknowledged es rest) o 0) h;
    or_next = ap (λ o. option_map_or (λ rest. length e.added + acknowledged_or_next es rest) o (length e.added)) h ∙ nothing-before (length e.added);
  };
}
  where
    nothing-before : (n : ℕ) → n ≡ 0 + n
    nothing-before n = omega arith

    no-front : (rest : List ℕ) → behind (text_of e.reply) output ≡ Some rest → ⊥
    no-front rest g = absurd (different (sym h ∙ g))
      where
        different : ◌≡◌ {A = Option (List ℕ)} None (Some rest) → ⊥
        different f = cc

    none-longer : (longer others : List Event) → e ∷ es ≡ longer ++ others → BeginsWith output longer → length longer ≤ 0
    none-longer [] others g b = omega arith
    none-longer (a ∷ longer) others g b =
        let same : e ≡ a = (event-is e a es (longer ++ others) g).0 in
        let text : output ≡ text_of e.reply ++ (output_of longer ++ b.0) = b.1 ∙ append_assoc (text_of a.reply) (output_of longer) b.0 ∙ ap (λ (x : Event). text_of x.reply ++ (output_of longer ++ b.0)) (sym same) in
        absurd (no-front (output_of longer ++ b.0) (ap (behind (text_of e.reply)) text ∙ is-behind (text_of e.reply) (output_of longer ++ b.0)))

-- the first reply is there, and what stands behind it goes on
goes-on : (e : Event) (es : List Event) (output rest : List ℕ) → behind (text_of e.reply) output ≡ Some rest → Found es rest → Found (e ∷ es) output
goes-on e es output rest h f = record {
  first = e ∷ f.first;
  rest = f.rest;
  is = record { whole = ap (λ xs. e ∷ xs) f.is.whole; begins = (f.is.begins.0, text ∙ ap (λ s. text_of e.reply ++ s) f.is.begins.1 ∙ sym (append_assoc (text_of e.reply) (output_of f.first) f.is.begins.0)); longest = none-longer };
  counts = record {
    acknowledged_ones = ap (λ o. option_map_or (λ rest. length e.added + acknowledged es rest) o 0) h ∙ ap (λ n. length e.added + n) f.counts.acknowledged_ones ∙ sym (length-append e.added (added_by f.first));
    or_next = ap (λ o. option_map_or (λ rest. length e.added + acknowledged_or_next es rest) o (length e.added)) h ∙ ap (λ n. length e.added + n) f.counts.or_next ∙ summed;
  };
}
  where
    text : output ≡ text_of e.reply ++ rest
    text = behind-is (text_of e.reply) output rest h

    summed : length e.added + (length (added_by f.first) + next_count f.rest) ≡ length (e.added ++ added_by f.first) + next_count f.rest
    summed = let both : length (e.added ++ added_by f.first) ≡ length e.added + length (added_by f.first) = length-append e.added (added_by f.first) in omega arith

    none-longer : (longer others : List Event) → e ∷ es ≡ longer ++ others → BeginsWith output longer → length longer ≤ length (e ∷ f.first)
    none-longer [] others g b = omega arith
    none-longer (a ∷ longer) others g b =
        let p = event-is e a es (longer ++ others) g in
        let begins : output ≡ text_of e.reply ++ (output_of longer ++ b.0) = b.1 ∙ append_assoc (text_of a.reply) (output_of longer) b.0 ∙ ap (λ (x : Event). text_of x.reply ++ (output_of longer ++ b.0)) (sym p.0) in
        let more : rest ≡ output_of longer ++ b.0 = same-behind (text_of e.reply) rest (output_of longer ++ b.0) (sym text ∙ begins) in
        let le : length longer ≤ length f.first = f.is.longest longer others p.1 (b.0, more) in
        omega arith

pub found : (events : List Event) (output : List ℕ) → Found events output
found [] output = no-events output
found (e ∷ es) output = (elim (behind (text_of e.reply) output) as (λ o. behind (text_of e.reply) output ≡ o → Found (e ∷ es) output) [
  | None ↦ λ h. stops e es output h
  | Some rest ↦ λ h. goes-on e es output rest h (found es rest)
]) refl

pub has-longest : (events : List Event) (output : List ℕ) → HasLongest events output
has-longest events output = let f : Found events output = found events output in record { first = f.first; rest = f.rest; is = f.is }

-- ---- there is one such list

same-front : (xs ys us vs : List Event) → xs ++ us ≡ ys ++ vs → length xs ≡ length ys → (xs ≡ ys) × (us ≡ vs)
same-front [] [] us vs e n = (refl, e)
same-front [] (y ∷ ys) us vs e n = absurd (omega arith)
same-front (x ∷ xs) [] us vs e n = absurd (omega arith)
same-front (x ∷ xs) (y ∷ ys) us vs e n =
    let p = event-is x y (xs ++ us) (ys ++ vs) e in
    let m : length xs ≡ length ys = omega arith in
    let q = same-front xs ys us vs p.1 m in
    (ap₂ (λ a b. a ∷ b) p.0 q.0, q.1)

pub each-counts : (events : List Event) (output : List ℕ) (first rest : List Event) → IsLongest events output first rest → Counts events output first rest
each-counts events output first rest h =
    let f : Found events output = found events output in
    let there : length first ≤ length f.first = f.is.longest first rest h.whole h.begins in
    let back : length f.first ≤ length first = h.longest f.first f.rest f.is.whole f.is.begins in
    let same : length f.first ≡ length first = omega arith in
    let p = same-front f.first first f.rest rest (sym f.is.whole ∙ h.whole) same in
    record {
      acknowledged_ones = f.counts.acknowledged_ones ∙ ap (λ xs. length (added_by xs)) p.0;
      or_next = f.counts.or_next ∙ ap₂ (λ xs ys. length (added_by xs) + next_count ys) p.0 p.1;
    }
