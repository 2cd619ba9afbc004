-- Steps of the loop over the columns of an index.
use Rattle.std.proofs.Common.{◌≡◌, ℕ, zero, suc, ◌+◌, ◌<◌, Bool, true, false, List, [], ◌∷◌, Option, Some, None, refl, sym, ap, subst, ◌∙◌, length, drop, arith, get_or, add-one}
use Rattle.std.specs.Prelude.{◌&&◌, nat_lt, if◌then◌else◌}
use Rattle.mr_types.specs.declared.definition.IndexDef.{IndexDef}
use Rattle.mr_plan.specs.Choice.{score, best_from}
use Rattle.std.specs.Option.{option_map_or}
use Rattle.std.proofs.Math.Seq.{drop-cons}
use Rattle.mr_types.specs.declared.definition.TableDef.{TableDef}
use Rattle.mr_spec.specs.declared.bound.Bound.{Bound}
use Rattle.mr_ranges.specs.declared.range.Range.{Range}
use Rattle.mr_ranges.specs.Ranges.{precedes, in_some, AreApart}
use Rattle.mr_ranges.proofs.Order.{none_first, turned_back}
use Rattle.mr_ranges.proofs.Common.{in_between}
use Rattle.mr_plan.specs.Tests.{whole}
use Rattle.mr_plan.specs.Keys.{place_says, next_front, index_says}
use Rattle.mr_plan.proofs.Apart.{whole-apart}

-- each key goes on from no bytes
pub in-whole : (key : List ℕ) → in_some key (whole []) ≡ true
in-whole key = in_between [] None key ∙ ap (λ (b : Bool). b && true) (turned_back (precedes key []) (none_first key))

and-more : (a b c : Bool) → ((a && b) && c) ≡ (a && (b && c))
and-more true b c = refl
and-more false b c = refl

and-all : (b : Bool) → (b && true) ≡ b
and-all true = refl
and-all false = refl

module _ (def : TableDef) (e : Option Bound) (places : List ℕ) where
  pub start-apart : (ranges : List Range) → ranges ≡ whole [] → AreApart ranges
  start-apart ranges is = subst AreApart (sym is) (whole-apart [])

  pub start-said : (key front : List ℕ) (ranges : List Range) → ranges ≡ whole [] → front ≡ [] → (in_some key ranges && index_says def e front places key) ≡ index_says def e [] places key
  start-said key front ranges is none =
      ap (λ (l : List Range). in_some key l && index_says def e front places key) is
      ∙ ap (λ (b : Bool). b && index_says def e front places key) (in-whole key)
      ∙ ap (λ (f : List ℕ). index_says def e f places key) none

  next : (i : ℕ) → i < length places → drop i places ≡ get_or places i 0 ∷ drop (i + 1) places
  next i h = rw add-one (drop-cons places i 0 h)

  pub said-more : (key front slice more : List ℕ) (ranges left : List Range) (i : ℕ) → slice ≡ front → i < length places
      → in_some key left ≡ (in_some key ranges && place_says def e slice (get_or places i 0) key) → next_front def e slice (get_or places i 0) ≡ Some more
      → (in_some key ranges && index_says def e front (drop i places) key) ≡ index_says def e [] places key
      → (in_some key left && index_says def e more (drop (i + 1) places) key) ≡ index_says def e [] places key
  said-more key front slice more ranges left i is h met go same =
      let p : ℕ = get_or places i 0 in
      ap (λ (b : Bool). b && index_says def e more (drop (i + 1) places) key) (met ∙ ap (λ (f : List ℕ). in_some key ranges && place_says def e f p key) is)
      ∙ and-more (in_some key ranges) (place_says def e front p key) (index_says def e more (drop (i + 1) places) key)
      ∙ ap (λ (o : Option (List ℕ)). in_some key ranges && (place_says def e front p key && option_map_or (λ (more : List ℕ). index_says def e more (drop (i + 1) places) key) o true)) (sym go ∙ ap (λ (f : List ℕ). next_front def e f p) is)
      ∙ ap (λ (l : List ℕ). in_some key ranges && index_says def e front l key) (sym (next i h))
      ∙ same

  pub said-last : (key front slice : List ℕ) (ranges left : List Range) (i : ℕ) → slice ≡ front → i < length places
      → in_some key left ≡ (in_some key ranges && place_says def e slice (get_or places i 0) key) → next_front def e slice (get_or places i 0) ≡ None
      → (in_some key ranges && index_says def e front (drop i places) key) ≡ index_says def e [] places key
      → in_some key left ≡ index_says def e [] places key
  said-last key front slice ranges left i is h met go same =
      let p : ℕ = get_or places i 0 in
      met
      ∙ ap (λ (f : List ℕ). in_some key ranges && place_says def e f p key) is
      ∙ ap (λ (b : Bool). in_some key ranges && b) (sym (and-all (place_says def e front p key)))
      ∙ ap (λ (o : Option (List ℕ)). in_some key ranges && (place_says def e front p key && option_map_or (λ (more : List ℕ). index_says def e more (drop (i + 1) places) key) o true)) (sym go ∙ ap (λ (f : List ℕ). next_front def e f p) is)
      ∙ ap (λ (l : List ℕ). in_some key ranges && index_says def e front l key) (sym (next i h))
      ∙ same

some-key : (i : ℕ) (keys : List IndexDef) → i < length keys → (key : IndexDef) × (drop i keys ≡ key ∷ drop (suc i) keys)
some-key i [] h = absurd (omega arith)
some-key zero (key ∷ keys) h = (key, refl)
some-key (suc i) (key ∷ keys) h = some-key i keys (omega arith)

-- one index more is looked at
pub best-step : (def : TableDef) (e : Option Bound) (needed : ℕ) (keys : List IndexDef) (i best new most next all : ℕ) → i < length keys → new ≡ (if nat_lt most next then i + 1 else best) → most ≡ score def e needed best → next ≡ score def e needed (i + 1)
    → best_from def e needed (i + 1) (drop i keys) best ≡ all → best_from def e needed (i + 1 + 1) (drop (i + 1) keys) new ≡ all
best-step def e needed keys i best new most next all h is m n same =
    let found = some-key i keys h in
    let better : new ≡ (if nat_lt (score def e needed best) (score def e needed (i + 1)) then i + 1 else best) = is ∙ ap (λ (x : ℕ). if nat_lt x next then i + 1 else best) m ∙ ap (λ (x : ℕ). if nat_lt (score def e needed best) x then i + 1 else best) n in
    ap (λ (x : ℕ). best_from def e needed x (drop (i + 1) keys) new) (let s : i + 1 + 1 ≡ suc (i + 1) = omega arith in s)
    ∙ ap (λ (x : ℕ). best_from def e needed (suc (i + 1)) (drop x keys) new) (let s : i + 1 ≡ suc i = omega arith in s)
    ∙ ap (λ (x : ℕ). best_from def e needed (suc (i + 1)) (drop (suc i) keys) x) better
    ∙ ap (λ (l : List IndexDef). best_from def e needed (i + 1) l best) (sym found.1)
    ∙ same
