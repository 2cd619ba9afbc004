-- The hidden numbers that a statement draws, tuple by tuple.
use Rattle.std.proofs.Common.{◌≡◌, ℕ, ◌+◌, Bool, true, false, true≢false, List, [], ◌∷◌, length, Result, Ok, Err, IfOk, refl, ap, sym, ◌∙◌, arith}
use Rattle.std.specs.Prelude.{if◌then◌else◌}
use Rattle.std.specs.List.{position_or_len}
use Rattle.std.specs.Result.{is_err}
use Rattle.mr_types.specs.declared.definition.TableDef.{TableDef}
use Rattle.mr_types.specs.declared.row.Row.{Row}
use Rattle.mr_types.specs.declared.value.Value.{Value}
use Rattle.mr_types.specs.declared.statement.Insert.{Insert}
use Rattle.mr_types.specs.declared.statement.ItemValue.{ItemValue}
use Rattle.mr_types.specs.declared.statement.SetItem.{SetItem}
use Rattle.mr_types.specs.Refusals.{◌>>=◌, ◌>>◌, in_turn}
use Rattle.mr_spec.specs.Truth.{Where, known_columns, right_literals}
use Rattle.mr_spec.specs.Setting.{with_item, same_fields, updated_row, update_tests}
use Rattle.mr_spec.specs.declared.progress.Progress.{Progress}
use Rattle.mr_spec.specs.declared.progress.Refusal.{Refusal}
use Rattle.mr_spec.specs.Progress.{Scene, told}
use Rattle.mr_spec.specs.NewRows.{drawn, new_row, fields_of, insert_tests, has_hidden_key}
use Rattle.mr_spec.specs.Changes.{chosen, insert_made, replace_made, deleted, moved, updated, update_changes, delete_changes}
use Rattle.mr_sound.specs.Draws.{next_of, RisesBy, assigned_tuples, draws_in, draws_done, DrawsFew}

-- ---- answers that leave the next number

still-told : {A : Type 0} (next : ℕ) (m : Result A ℕ) (f : A → Result Progress Refusal) → ((x : A) → next_of (f x) ≡ next) → next_of (told next m >>= f) ≡ next
still-told next (Ok x) f h = h x
still-told next (Err code) f h = refl

pub still-behind : {A : Type 0} (next : ℕ) (m : Result A ℕ) (r : Result Progress Refusal) → next_of r ≡ next → next_of (told next m >> r) ≡ next
still-behind next (Ok x) r h = h
still-behind next (Err code) r h = refl

still-either : (next : ℕ) (b : Bool) (r s : Result Progress Refusal) → next_of r ≡ next → next_of s ≡ next → next_of (if b then r else s) ≡ next
still-either next true r s h k = h
still-either next false r s h k = k

still-then : (next : ℕ) (r : Result Progress Refusal) (f : Progress → Result Progress Refusal) → next_of r ≡ next → ((h : Progress) → h.next ≡ next → next_of (f h) ≡ next) → next_of (r >>= f) ≡ next
still-then next (Ok g) f h k = k g h
still-then next (Err e) f h k = h

still-turn : {A : Type 0} (f : Progress → A → Result Progress Refusal) (xs : List A) (g : Progress) → ((h : Progress) (x : A) → next_of (f h x) ≡ h.next) → next_of (in_turn f g xs) ≡ g.next
still-turn f [] g k = refl
still-turn f (x ∷ xs) g k = still-then g.next (f g x) (λ h. in_turn f h xs) (k g x) (λ h e. still-turn f xs h k ∙ e)

still-inserted : (a : Scene) (new : Row) (h : Progress) → next_of (insert_made a new h) ≡ h.next
still-inserted a new h = search (still-behind)

still-replaced : (a : Scene) (new : Row) (h : Progress) → next_of (replace_made a new h) ≡ h.next
still-replaced a new h = search (still-behind)

still-deleted : (a : Scene) (g : Progress) (old : Row) → next_of (deleted a g old) ≡ g.next
still-deleted a g old = search (still-behind)

still-moved : (a : Scene) (g : Progress) (old new : Row) → next_of (moved a g old new) ≡ g.next
still-moved a g old new = search (still-behind)

still-updated : (a : Scene) (set : List SetItem) (g : Progress) (old : Row) → next_of (updated a set g old) ≡ g.next
still-updated a set g old = still-told g.next (in_turn (with_item a.def) old.fields set) _ (λ fields. still-either g.next (same_fields old.fields fields) (Ok g) (moved a g old (updated_row a.def old fields)) refl (still-moved a g old (updated_row a.def old fields)))

-- ---- answers that draw

-- a refusal behind which the next number is n
abbrev RefusedAt : ℕ → Result Progress Refusal → Type 0
RefusedAt n (Ok g) = ⊥
RefusedAt n (Err e) = e.next ≡ n

rises-none : (n m k : ℕ) → m ≡ n → RisesBy k n m
rises-none n m k e = (omega (arith, e), omega (arith, e))

refused-then : (n k : ℕ) (r : Result Progress Refusal) (f : Progress → Result Progress Refusal) → RefusedAt n r → RisesBy k n (next_of (r >>= f))
refused-then n k (Ok g) f h = absurd h
refused-then n k (Err e) f h = rises-none n e.next k h

drawn-then : (n k : ℕ) (r : Result Progress Refusal) (f : Progress → Result Progress Refusal) → next_of r ≡ n + 1 → ((h : Progress) → RisesBy k h.next (next_of (f h))) → RisesBy (1 + k) n (next_of (r >>= f))
drawn-then n k (Ok g) f e h = let p = h g in let from = p.0 in let most = p.1 in (omega (arith, e, from), omega (arith, e, most))
drawn-then n k (Err e) f same h = (omega (arith, same), omega (arith, same))

-- one number for each element in front of the first that passes the test, which is refused
few-turn : {A : Type 0} (p : A → Bool) (f : Progress → A → Result Progress Refusal) → ((h : Progress) (x : A) → p x ≡ false → next_of (f h x) ≡ h.next + 1) → ((h : Progress) (x : A) → p x ≡ true → RefusedAt h.next (f h x))
    → (xs : List A) (g : Progress) → RisesBy (position_or_len p xs) g.next (next_of (in_turn f g xs))
few-turn p f some none [] g = rises-none g.next g.next 0 refl
few-turn p f some none (x ∷ xs) g = by_test (few-turn p f some none xs) (p x) refl
  where
    by_test : ((h : Progress) → RisesBy (position_or_len p xs) h.next (next_of (in_turn f h xs))) → (b : Bool) → p x ≡ b → RisesBy (position_or_len p (x ∷ xs)) g.next (next_of (f g x >>= λ h. in_turn f h xs))
    by_test rest true e = refused-then g.next (position_or_len p (x ∷ xs)) (f g x) (λ h. in_turn f h xs) (none g x e)
    by_test rest false e = rw e (drawn-then g.next (position_or_len p xs) (f g x) (λ h. in_turn f h xs) (some g x e) rest)

all-then : (n k m : ℕ) (r : Result Progress Refusal) (f : Progress → Result Progress Refusal) → m ≡ 1 + k → IfOk r (λ h. h.next ≡ n + 1) → ((h : Progress) → IfOk (f h) (λ l. l.next ≡ h.next + k)) → IfOk (r >>= f) (λ l. l.next ≡ n + m)
all-then n k m (Ok h) f is e more = weaker (f h) (more h)
  where
    weaker : (r : Result Progress Refusal) → IfOk r (λ l. l.next ≡ h.next + k) → IfOk r (λ l. l.next ≡ n + m)
    weaker (Ok l) same = omega (arith, is, e, same)
    weaker (Err code) same = tt
all-then n k m (Err code) f is e more = tt

all-turn : {A : Type 0} (f : Progress → A → Result Progress Refusal) → ((h : Progress) (x : A) → IfOk (f h x) (λ l. l.next ≡ h.next + 1)) → (xs : List A) (g : Progress) → IfOk (in_turn f g xs) (λ l. l.next ≡ g.next + length xs)
all-turn f one [] g = omega arith
all-turn f one (x ∷ xs) g = all-then g.next (length xs) (length (x ∷ xs)) (f g x) (λ h. in_turn f h xs) (omega arith) (one g x) (all-turn f one xs)

if-still : (n : ℕ) (r : Result Progress Refusal) → next_of r ≡ n → IfOk r (λ l. l.next ≡ n + 0)
if-still n (Ok l) e = omega (arith, e)
if-still n (Err code) e = tt

if-next : (n : ℕ) (r : Result Progress Refusal) → next_of r ≡ n → IfOk r (λ l. l.next ≡ n)
if-next n (Ok l) e = e
if-next n (Err code) e = tt

-- ---- the tuples of INSERT and REPLACE

-- a tuple: its assignments, its number, and then the row that is made of them
abbrev tuple_by : (Row → Progress → Result Progress Refusal) → Scene → List ℕ → Progress → List ItemValue → Result Progress Refusal
tuple_by made a at h items = told h.next (fields_of a.def at items) >>= λ fields. made (new_row a h.next fields) (drawn a.def h)

-- what is put in keeps the next number
abbrev KeepsNext : (Row → Progress → Result Progress Refusal) → Type 0
KeepsNext made = (new : Row) (h : Progress) → next_of (made new h) ≡ h.next

drawn-next : (def : TableDef) (h : Progress) (b : Bool) → has_hidden_key def ≡ b → (drawn def h).next ≡ (if b then h.next + 1 else h.next)
drawn-next def h b e = ap (λ x. if x then h.next + 1 else h.next) e

refused-told : {A : Type 0} (n : ℕ) (m : Result A ℕ) (f : A → Result Progress Refusal) → is_err m ≡ true → RefusedAt n (told n m >>= f)
refused-told n (Ok x) f e = absurd (true≢false (sym e))
refused-told n (Err code) f e = refl

next-told : {A : Type 0} (n k : ℕ) (m : Result A ℕ) (f : A → Result Progress Refusal) → is_err m ≡ false → ((x : A) → next_of (f x) ≡ k) → next_of (told n m >>= f) ≡ k
next-told n k (Ok x) f e h = h x
next-told n k (Err code) f e h = absurd (true≢false e)

ok-told : {A : Type 0} (n k : ℕ) (m : Result A ℕ) (f : A → Result Progress Refusal) → ((x : A) → next_of (f x) ≡ k) → IfOk (told n m >>= f) (λ l. l.next ≡ k)
ok-told n k (Ok x) f h = if-next k (f x) (h x)
ok-told n k (Err code) f h = tt

module _ (made : Row → Progress → Result Progress Refusal) (keeps : KeepsNext made) (a : Scene) (at : List ℕ) where
  one-drawn : has_hidden_key a.def ≡ true → (h : Progress) (items : List ItemValue) (fields : List Value) → next_of (made (new_row a h.next fields) (drawn a.def h)) ≡ h.next + 1
  one-drawn e h items fields = keeps (new_row a h.next fields) (drawn a.def h) ∙ drawn-next a.def h true e

  none-drawn : has_hidden_key a.def ≡ false → (h : Progress) (items : List ItemValue) (fields : List Value) → next_of (made (new_row a h.next fields) (drawn a.def h)) ≡ h.next
  none-drawn e h items fields = keeps (new_row a h.next fields) (drawn a.def h) ∙ drawn-next a.def h false e

  tuples-draw : (b : Bool) → has_hidden_key a.def ≡ b → (rows : List (List ItemValue)) (g : Progress) → RisesBy (if b then position_or_len (λ tuple. is_err (fields_of a.def at tuple)) rows else 0) g.next (next_of (in_turn (tuple_by made a at) g rows))
  tuples-draw true e rows g = few-turn (λ tuple. is_err (fields_of a.def at tuple)) (tuple_by made a at)
      (λ h items f. next-told h.next (h.next + 1) (fields_of a.def at items) (λ fields. made (new_row a h.next fields) (drawn a.def h)) f (one-drawn e h items))
      (λ h items f. refused-told h.next (fields_of a.def at items) (λ fields. made (new_row a h.next fields) (drawn a.def h)) f) rows g
  tuples-draw false e rows g = rises-none g.next _ 0 (still-turn (tuple_by made a at) rows g (λ h items. still-told h.next (fields_of a.def at items) (λ fields. made (new_row a h.next fields) (drawn a.def h)) (none-drawn e h items)))

  tuples-done : (b : Bool) → has_hidden_key a.def ≡ b → (rows : List (List ItemValue)) (g : Progress) → IfOk (in_turn (tuple_by made a at) g rows) (λ l. l.next ≡ g.next + (if b then length rows else 0))
  tuples-done true e rows g = all-turn (tuple_by made a at) (λ h items. ok-told h.next (h.next + 1) (fields_of a.def at items) (λ fields. made (new_row a h.next fields) (drawn a.def h)) (one-drawn e h items)) rows g
  tuples-done false e rows g = if-still g.next _ (still-turn (tuple_by made a at) rows g (λ h items. still-told h.next (fields_of a.def at items) (λ fields. made (new_row a h.next fields) (drawn a.def h)) (none-drawn e h items)))

module _ (made : Row → Progress → Result Progress Refusal) (keeps : KeepsNext made) (a : Scene) (s : Insert) (g : Progress) where
  statement-draws : RisesBy (draws_in a.def s) g.next (next_of (told g.next (insert_tests a.def s) >>= λ at. in_turn (tuple_by made a at) g s.rows))
  statement-draws = by_tests (insert_tests a.def s)
    where
      by_tests : (r : Result (List ℕ) ℕ) → RisesBy (if has_hidden_key a.def then assigned_tuples a.def s.rows r else 0) g.next (next_of (told g.next r >>= λ at. in_turn (tuple_by made a at) g s.rows))
      by_tests (Ok at) = tuples-draw made keeps a at (has_hidden_key a.def) refl s.rows g
      by_tests (Err code) = rises-none g.next g.next _ refl

  statement-done : IfOk (told g.next (insert_tests a.def s) >>= λ at. in_turn (tuple_by made a at) g s.rows) (λ l. l.next ≡ g.next + draws_done a.def s)
  statement-done = by_tests (insert_tests a.def s)
    where
      by_tests : (r : Result (List ℕ) ℕ) → IfOk (told g.next r >>= λ at. in_turn (tuple_by made a at) g s.rows) (λ l. l.next ≡ g.next + draws_done a.def s)
      by_tests (Ok at) = tuples-done made keeps a at (has_hidden_key a.def) refl s.rows g
      by_tests (Err code) = tt

-- ---- the statements

still-update : (a : Scene) (g : Progress) (set : List SetItem) (c : Where) → next_of (update_changes a set c g) ≡ g.next
still-update a g set c = still-behind g.next (update_tests a.def set c) (in_turn (updated a set) g (chosen a c g)) (still-turn (updated a set) (chosen a c g) g (still-updated a set))

still-delete : (a : Scene) (g : Progress) (c : Where) → next_of (delete_changes a c g) ≡ g.next
still-delete a g c = still-behind g.next (known_columns a.def c) (told g.next (right_literals a.def c) >> in_turn (deleted a) g (chosen a c g)) (still-behind g.next (right_literals a.def c) (in_turn (deleted a) g (chosen a c g)) (still-turn (deleted a) (chosen a c g) g (still-deleted a)))

pub draws-few : (a : Scene) (g : Progress) → DrawsFew a g
draws-few a g = record {
  insert = λ s. statement-draws (insert_made a) (still-inserted a) a s g;
  inserted = λ s. statement-done (insert_made a) (still-inserted a) a s g;
  replace = λ s. statement-draws (replace_made a) (still-replaced a) a s g;
  replaced = λ s. statement-done (replace_made a) (still-replaced a) a s g;
  update = still-update a g;
  delete = still-delete a g;
}
