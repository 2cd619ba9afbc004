-- A run depends on no more of a clock than one value for each statement.
use Rattle.std.proofs.Common.{◌≡◌, ℕ, suc, ◌+◌, ◌-◌, ◌<◌, List, [], ◌∷◌, ◌++◌, length, Result, refl, ap, ◌∙◌, arith, cond, lt-ltb, le-ltb, ⊎_elim, length-append, sym}
use Rattle.std.proofs.lemmas.Bool.{cases_lt}
use Rattle.mr_spec.specs.ScriptRun.{event_at, world_after, trace, world_behind}
use Rattle.mr_spec.specs.World.{World}
use Rattle.mr_spec.proofs.Traces.{later}
use Rattle.mr_run.specs.Clocks.{joined}
use Rattle.mr_types.specs.declared.statement.Statement.{Statement}
use Rattle.mr_serve.proofs.Events.{trace_on, world_on}

-- clocks that agree on as many values as there are statements give one run
pub trace_same : (w : World) (ss : List (Result Statement ℕ)) (f g : ℕ → ℕ) → ((k : ℕ) → k < length ss → f k ≡ g k) → trace w ss f ≡ trace w ss g
trace_same w [] f g same = refl
trace_same w (s ∷ ss) f g same =
    ap (λ t. event_at w s t ∷ trace (world_after w s t) ss (λ k. f (suc k))) (same 0 (omega arith))
    ∙ ap (λ es. event_at w s (g 0) ∷ es) (trace_same (world_after w s (g 0)) ss (λ k. f (suc k)) (λ k. g (suc k)) (λ k less. same (suc k) (omega arith)))

-- and one world behind it
pub world_same : (w : World) (ss : List (Result Statement ℕ)) (f g : ℕ → ℕ) → ((k : ℕ) → k < length ss → f k ≡ g k) → world_behind w ss f ≡ world_behind w ss g
world_same w [] f g same = refl
world_same w (s ∷ ss) f g same =
    ap (λ t. world_behind (world_after w s t) ss (λ k. f (suc k))) (same 0 (omega arith))
    ∙ world_same (world_after w s (g 0)) ss (λ k. f (suc k)) (λ k. g (suc k)) (λ k less. same (suc k) (omega arith))

-- a clock's values behind statements
pub later_at : {A : Type 0} (ss : List A) (f : ℕ → ℕ) (k : ℕ) → later ss f k ≡ f (length ss + k)
later_at [] f k = ap f (let e : k ≡ 0 + k = omega arith in e)
later_at (s ∷ ss) f k = later_at ss (λ i. f (suc i)) k ∙ ap f (let e : suc (length ss + k) ≡ suc (length ss) + k = omega arith in e)

pub joined_first : (n : ℕ) (f g : ℕ → ℕ) (k : ℕ) → k < n → joined n f g k ≡ f k
joined_first n f g k less = ap (λ t. cond t (f k) (g (k - n))) (lt-ltb k n less)

pub joined_then : (n : ℕ) (f g : ℕ → ℕ) (k : ℕ) → joined n f g (n + k) ≡ g k
joined_then n f g k = ap (λ t. cond t (f (n + k)) (g (n + k - n))) (le-ltb (n + k) n (omega arith)) ∙ ap g (let e : n + k - n ≡ k = omega arith in e)

-- a run by one clock and then by another is a run by the clock that joins them
pub trace_joined : (w : World) (ss more : List (Result Statement ℕ)) (f g : ℕ → ℕ) → trace w (ss ++ more) (joined (length ss) f g) ≡ trace w ss f ++ trace (world_behind w ss f) more g
trace_joined w ss more f g =
    trace_on w ss more (joined (length ss) f g)
    ∙ ap (λ es. es ++ trace (world_behind w ss (joined (length ss) f g)) more (later ss (joined (length ss) f g))) (trace_same w ss (joined (length ss) f g) f (joined_first (length ss) f g))
    ∙ ap (λ v. trace w ss f ++ trace v more (later ss (joined (length ss) f g))) (world_same w ss (joined (length ss) f g) f (joined_first (length ss) f g))
    ∙ ap (λ es. trace w ss f ++ es) (trace_same (world_behind w ss f) more (later ss (joined (length ss) f g)) g (λ k less. later_at ss (joined (length ss) f g) k ∙ joined_then (length ss) f g k))

pub world_joined : (w : World) (ss more : List (Result Statement ℕ)) (f g : ℕ → ℕ) → world_behind w (ss ++ more) (joined (length ss) f g) ≡ world_behind (world_behind w ss f) more g
world_joined w ss more f g =
    world_on w ss more (joined (length ss) f g)
    ∙ ap (λ v. world_behind v more (later ss (joined (length ss) f g))) (world_same w ss (joined (length ss) f g) f (joined_first (length ss) f g))
    ∙ world_same (world_behind w ss f) more (later ss (joined (length ss) f g)) g (λ k less. later_at ss (joined (length ss) f g) k ∙ joined_then (length ss) f g k)

-- where the second clock's values are those of a third behind the first n, the two joined have the third's
pub joined_told : (n : ℕ) (f g all : ℕ → ℕ) → ((k : ℕ) → k < n → f k ≡ all k) → ((k : ℕ) → g k ≡ all (n + k)) → (k : ℕ) → joined n f g k ≡ all k
joined_told n f g all first second k = ⊎_elim
    (λ below. joined_first n f g k below ∙ first k below)
    (λ above. let e : n + (k - n) ≡ k = omega arith in ap (joined n f g) (sym e) ∙ joined_then n f g (k - n) ∙ second (k - n) ∙ ap all e)
    (cases_lt k n)

-- the values of a clock behind two lists of statements
pub told_on : (a b : List (Result Statement ℕ)) (all middle last : ℕ → ℕ) → ((k : ℕ) → middle k ≡ all (length a + k)) → ((k : ℕ) → last k ≡ middle (length b + k)) → (k : ℕ) → last k ≡ all (length (a ++ b) + k)
told_on a b all middle last first second k =
    second k ∙ first (length b + k) ∙ ap all (let e : length a + (length b + k) ≡ length (a ++ b) + k = omega (arith, length-append a b) in e)
