-- Items that move out of a list and back, one after the other.
use Rattle.std.proofs.Common.{◌≡◌, ◌≤◌, ◌<◌, ℕ, ◌+◌, not-suc-le-zero, add-one, le_of_suc-le-suc, le_trans, le_of_eq, le-add_right, Bool, false, true, not, zero, suc, List, [], ◌∷◌, ◌++◌, if◌then◌else◌, length, take, drop, filter, map, min, reverse, remove, slice_index_or, length-append, append_assoc, le_antisymm, sym, ap, subst, ◌∙◌}
use Rattle.mr_spec.specs.declared.world.Table.{Table}
use Rattle.mr_spec.specs.Database.{is_table}
use Rattle.mr_model_rows.specs.Keyed.{tables_without}
use Rattle.std.proofs.Math.Nat.{le-min}
use Rattle.std.proofs.Math.Seq.{take-append_seam, drop-append_seam}
use Rattle.std.proofs.lemmas.List.{take_min, drop_min, map-append, reverse-append, reverse-reverse}

-- an item that doesn't pass is taken out
skipped : {X : Type 0} (p : X → Bool) (n : ℕ) (xs : List X) (x : X) → n < length xs → x ≡ slice_index_or xs n x → p x ≡ false → take n (remove xs n) ++ filter p (drop n (remove xs n)) ≡ take n xs ++ filter p (drop n xs)
skipped p n [] x h i e = absurd (not-suc-le-zero h)
skipped p zero (y ∷ ys) x h i e = sym (ap (λ b. if b then y ∷ filter p ys else filter p ys) (ap p (sym i) ∙ e))
skipped p (suc n) (y ∷ ys) x h i e = ap (λ l. y ∷ l) (skipped p n ys x (le_of_suc-le-suc h) i e)

-- one that does stays
passed : {X : Type 0} (p : X → Bool) (n : ℕ) (xs : List X) (x : X) → n < length xs → x ≡ slice_index_or xs n x → p x ≡ true → take (suc n) xs ++ filter p (drop (suc n) xs) ≡ take n xs ++ filter p (drop n xs)
passed p n [] x h i e = absurd (not-suc-le-zero h)
passed p zero (y ∷ ys) x h i e = sym (ap (λ b. if b then y ∷ filter p ys else filter p ys) (ap p (sym i) ∙ e))
passed p (suc n) (y ∷ ys) x h i e = ap (λ l. y ∷ l) (passed p n ys x (le_of_suc-le-suc h) i e)

-- the same for tables of a name, and others
pub skipped_table : (name : List ℕ) (n : ℕ) (tables : List Table) (table : Table) → n < length tables → table ≡ slice_index_or tables n table → true ≡ is_table name table → take n (remove tables n) ++ tables_without name (drop n (remove tables n)) ≡ take n tables ++ tables_without name (drop n tables)
skipped_table name n tables table h i e = skipped (λ t. not (is_table name t)) n tables table h i (sym (ap not e))

pub passed_table : (name : List ℕ) (n : ℕ) (tables : List Table) (table : Table) → n < length tables → table ≡ slice_index_or tables n table → false ≡ is_table name table → take (n + 1) tables ++ tables_without name (drop (n + 1) tables) ≡ take n tables ++ tables_without name (drop n tables)
passed_table name n tables table h i e = subst (λ m. take m tables ++ tables_without name (drop m tables) ≡ take n tables ++ tables_without name (drop n tables)) (sym (add-one n)) (passed (λ t. not (is_table name t)) n tables table h i (sym (ap not e)))

-- ---- from the end

-- the last item of one list goes behind the other, which is read from its end
pub carried : {X Y : Type 0} (f : X → Y) (xs before : List X) (after : List Y) (x : X) → xs ≡ before ++ x ∷ [] → map f before ++ reverse (after ++ f x ∷ []) ≡ map f xs ++ reverse after
carried f xs before after x e =
    ap (λ l. map f before ++ l) (reverse-append after (f x ∷ []))
    ∙ sym (append_assoc (map f before) (f x ∷ []) (reverse after))
    ∙ ap (λ l. l ++ reverse after) (sym (map-append f before (x ∷ [])) ∙ ap (map f) (sym e))

-- and as it is
pub popped : {X : Type 0} (xs before after : List X) (x : X) → xs ≡ before ++ x ∷ [] → before ++ reverse (after ++ x ∷ []) ≡ xs ++ reverse after
popped xs before after x e =
    ap (λ l. before ++ l) (reverse-append after (x ∷ []))
    ∙ sym (append_assoc before (x ∷ []) (reverse after))
    ∙ ap (λ l. l ++ reverse after) (sym e)

-- when as many are left as stand in front of the place
exact : {X : Type 0} (xs off whole : List X) (at : ℕ) → xs ++ reverse off ≡ whole → length xs ≤ at → min at (length whole) ≤ length xs → min at (length whole) ≡ length xs
exact xs off whole at e low enough = le_antisymm enough (le-min low (le_trans (le-add_right (length xs) (length (reverse off))) (le_of_eq (sym (length-append xs (reverse off)) ∙ ap length e))))

pub rest_of : {X : Type 0} (xs off whole : List X) (at : ℕ) → xs ++ reverse off ≡ whole → length xs ≤ at → min at (length whole) ≤ length xs → xs ≡ take at whole
rest_of xs off whole at e low enough =
    sym (take-append_seam xs (reverse off))
    ∙ ap (take (length xs)) e
    ∙ ap (λ n. take n whole) (sym (exact xs off whole at e low enough))
    ∙ take_min at whole

pub taken : {X : Type 0} (xs off whole : List X) (at : ℕ) → xs ++ reverse off ≡ whole → length xs ≤ at → min at (length whole) ≤ length xs → off ≡ reverse (drop at whole)
taken xs off whole at e low enough =
    sym (reverse-reverse off)
    ∙ ap reverse (sym (drop-append_seam xs (reverse off))
    ∙ ap (drop (length xs)) e
    ∙ ap (λ n. drop n whole) (sym (exact xs off whole at e low enough))
    ∙ drop_min at whole)
