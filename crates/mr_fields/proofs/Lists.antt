-- Lists read and written one element after the other.
use Rattle.std.proofs.Common.{◌≡◌, ℕ, zero, suc, ◌+◌, ◌-◌, ◌<◌, List, [], ◌∷◌, ◌++◌, length, take, get_or, refl, sym, subst, ◌∙◌, ap, arith, add-one, append_assoc, Ok, Err}
use Rattle.std.specs.List.{AllByRecursion}
use Rattle.mr_types.specs.Refusals.{◌>>=◌}
use Rattle.mr_fields.specs.declared.stop.ReadStop.{ReadStop}
use Rattle.mr_fields.specs.declared.stop.ReadStop.TheVariants as stop
use Rattle.mr_fields.specs.Fields.{Read, listed_in}
use Rattle.mr_fields.specs.Given.{Stops, with_front}

one_left : (n i : ℕ) → i < n → n - i ≡ suc (n - (i + 1))
one_left n i lt = omega arith

in_front : {X : Type 0} (xs : List X) (x : X) (r : Read (List X)) → with_front xs (r >>= (λ more. Ok (x ∷ more.0, more.1))) ≡ with_front (xs ++ x ∷ []) r
in_front xs x (Ok r) = ap (λ (ys : List _). Ok (ys, r.1)) (sym (append_assoc xs (x ∷ []) r.0))
in_front xs x (Err left) = refl

module _ {X : Type 0} (read : List ℕ → Read X) (whole : Read (List X)) (xs : List X) (n i : ℕ) (rest : List ℕ) (lt : i < n) (so_far : whole ≡ with_front xs (listed_in read (n - i) rest)) where
  begun : (r : Read X) → read rest ≡ r → whole ≡ with_front xs (r >>= (λ one. listed_in read (n - (i + 1)) one.1 >>= (λ more. Ok (one.0 ∷ more.0, more.1))))
  begun r is =
      so_far
      ∙ ap (λ (m : ℕ). with_front xs (listed_in read m rest)) (one_left n i lt)
      ∙ ap (λ (r : Read X). with_front xs (r >>= (λ one. listed_in read (n - (i + 1)) one.1 >>= (λ more. Ok (one.0 ∷ more.0, more.1))))) is

  -- one more was read
  pub goes_on : (ys : List X) (x : X) (behind : List ℕ) → read rest ≡ Ok (x, behind) → ys ≡ xs ++ x ∷ [] → whole ≡ with_front ys (listed_in read (n - (i + 1)) behind)
  goes_on ys x behind is more =
      begun (Ok (x, behind)) is
      ∙ in_front xs x (listed_in read (n - (i + 1)) behind)
      ∙ ap (λ (zs : List X). with_front zs (listed_in read (n - (i + 1)) behind)) (sym more)

  -- an element stops the whole
  pub stops : (s : ReadStop) → Stops s (read rest) → Stops s whole
  stops stop.Memory h = h
  stops (stop.Left left) h = begun (Err left) h

no_end : (xs : List ℕ) → xs ++ [] ≡ xs
no_end [] = refl
no_end (x ∷ xs) = ap (λ ys. x ∷ ys) (no_end xs)

module _ {X : Type 0} (write : X → List ℕ) (all : List X → List ℕ) (none : all [] ≡ []) (cons : (x : X) (xs : List X) → all (x ∷ xs) ≡ write x ++ all xs) where
  written_to : (xs : List X) (i : ℕ) (x : X) → i < length xs → x ≡ get_or xs i x → all (take (suc i) xs) ≡ all (take i xs) ++ write x
  written_to [] i x lt is = absurd (omega arith)
  written_to (y ∷ xs) zero x lt is =
      cons y [] ∙ ap (λ (ys : List ℕ). write y ++ ys) none ∙ no_end (write y) ∙ ap write (sym is) ∙ ap (λ (ys : List ℕ). ys ++ write x) (sym none)
  written_to (y ∷ xs) (suc i) x lt is =
      cons y (take (suc i) xs) ∙ ap (λ (ys : List ℕ). write y ++ ys) (written_to xs i x (omega arith) is)
      ∙ sym (append_assoc (write y) (all (take i xs)) (write x)) ∙ ap (λ (ys : List ℕ). ys ++ write x) (sym (cons y (take i xs)))

  -- one more was written
  pub wrote : (xs : List X) (i : ℕ) (x : X) (old out new : List ℕ) → i < length xs → x ≡ get_or xs i x → out ≡ old ++ all (take i xs) → new ≡ out ++ write x → new ≡ old ++ all (take (i + 1) xs)
  wrote xs i x old out new lt is so_far now =
      now
      ∙ ap (λ (ys : List ℕ). ys ++ write x) so_far
      ∙ append_assoc old (all (take i xs)) (write x)
      ∙ ap (λ (ys : List ℕ). old ++ ys) (sym (ap (λ (m : ℕ). all (take m xs)) (add-one i) ∙ written_to xs i x lt is))

-- one more has the property, of those up to a place
next_has : {X : Type 0} (P : X → Type 0) (xs : List X) (i : ℕ) (x : X) → i < length xs → x ≡ get_or xs i x → AllByRecursion P (take i xs) → P x → AllByRecursion P (take (suc i) xs)
next_has P [] i x lt is all holds = absurd (omega arith)
next_has P (y ∷ xs) zero x lt is all holds = (subst P is holds, tt)
next_has P (y ∷ xs) (suc i) x lt is all holds = (all.0, next_has P xs i x (omega arith) is all.1 holds)

pub one_more_has : {X : Type 0} (P : X → Type 0) (xs : List X) (i : ℕ) (x : X) → i < length xs → x ≡ get_or xs i x → AllByRecursion P (take i xs) → P x → AllByRecursion P (take (i + 1) xs)
one_more_has P xs i x lt is all holds = subst (λ (n : ℕ). AllByRecursion P (take n xs)) (sym (add-one i)) (next_has P xs i x lt is all holds)
