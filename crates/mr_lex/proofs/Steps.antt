-- The readers, one step on.
use Rattle.std.proofs.Common.{◌≡◌, ℕ, suc, ◌+◌, ◌<◌, ◌≤◌, List, [], ◌∷◌, length, drop, get_or, Option, Some, None, refl, ap, sym, ◌∙◌, arith, Bool, true, false, ◌==◌, ◌&&◌, if◌then◌else◌, ◌⊎◌, inl, inr, nat_lt}
use Rattle.std.specs.Option.{option_map}
use Rattle.std.proofs.lemmas.Bool.Decides.{nat_tests}
use Rattle.std.proofs.lemmas.List.{drop_more, drop_all}
use Rattle.mr_lex.specs.Bytes.{is_hex_digit, is_within}
use Rattle.mr_lex.specs.Blank.{block_length}
use Rattle.mr_lex.specs.Quoted.{name_count}
use Rattle.mr_lex.specs.Fronts.{quoted_end, pairs_end}
use Rattle.mr_lex.proofs.Lists.{not_same, same, no_both, drop_two, drop_last, tells}

pub pairs-two : (s : List ℕ) (i : ℕ) → i + 1 < length s → (get_or s i 0 ≡ 39 → ⊥) → is_hex_digit (get_or s i 0) ≡ true → is_hex_digit (get_or s (i + 1) 0) ≡ true
    → pairs_end i (drop i s) ≡ pairs_end (i + 2) (drop (i + 2) s)
pairs-two s i h n a b = ap (pairs_end i) (drop_two s i h) ∙ one i (get_or s i 0) (get_or s (i + 1) 0) (drop (i + 2) s) (not_same _ _ n) a b
  where
    one : (i a b : ℕ) (bs : List ℕ) → (a == 39) ≡ false → is_hex_digit a ≡ true → is_hex_digit b ≡ true → pairs_end i (a ∷ b ∷ bs) ≡ pairs_end (i + 2) bs
    one i a b bs n x y = rw (n, x, y) refl

pub pairs-no : (s : List ℕ) (i : ℕ) → i + 1 < length s → (get_or s i 0 ≡ 39 → ⊥) → (is_hex_digit (get_or s i 0) && is_hex_digit (get_or s (i + 1) 0)) ≡ false
    → None ≡ pairs_end i (drop i s)
pairs-no s i h n a = sym (ap (pairs_end i) (drop_two s i h) ∙ one i (get_or s i 0) (get_or s (i + 1) 0) (drop (i + 2) s) (not_same _ _ n) a)
  where
    one : (i a b : ℕ) (bs : List ℕ) → (a == 39) ≡ false → (is_hex_digit a && is_hex_digit b) ≡ false → pairs_end i (a ∷ b ∷ bs) ≡ None
    one i a b bs n x = rw (n, x) refl

pub pairs-last : (s : List ℕ) (i : ℕ) → i < length s → length s ≤ i + 1 → (get_or s i 0 ≡ 39 → ⊥) → None ≡ pairs_end i (drop i s)
pairs-last s i h l n = sym (ap (pairs_end i) (drop_last s i h l) ∙ ap (λ t. if t then Some (i + 1) else None) (not_same _ _ n))

module _ (quote : ℕ) (escapes : Bool) (least most : ℕ) (s : List ℕ) (i : ℕ) where
  pub quoted-double : i + 1 < length s → get_or s i 0 ≡ quote → get_or s (i + 1) 0 ≡ quote
      → quoted_end quote escapes least most i (drop i s) ≡ quoted_end quote escapes least most (i + 2) (drop (i + 2) s)
  quoted-double h a b = ap (quoted_end quote escapes least most i) (drop_two s i h) ∙ rw (same _ _ a, same _ _ b) refl

  pub quoted-escape : i + 1 < length s → (get_or s i 0 ≡ quote → ⊥) → (escapes && get_or s i 0 == 92) ≡ true → is_within least most (get_or s (i + 1) 0) ≡ true
      → quoted_end quote escapes least most i (drop i s) ≡ quoted_end quote escapes least most (i + 2) (drop (i + 2) s)
  quoted-escape h n e b = ap (quoted_end quote escapes least most i) (drop_two s i h) ∙ rw (not_same _ _ n, e, b) refl

  pub quoted-no_escape : i + 1 < length s → (get_or s i 0 ≡ quote → ⊥) → (escapes && get_or s i 0 == 92) ≡ true → is_within least most (get_or s (i + 1) 0) ≡ false
      → None ≡ quoted_end quote escapes least most i (drop i s)
  quoted-no_escape h n e b = sym (ap (quoted_end quote escapes least most i) (drop_two s i h) ∙ rw (not_same _ _ n, e, b) refl)

  pub quoted-byte : i < length s → (get_or s i 0 ≡ quote → ⊥) → (escapes && get_or s i 0 == 92) ≡ false → is_within least most (get_or s i 0) ≡ true
      → quoted_end quote escapes least most i (drop i s) ≡ quoted_end quote escapes least most (i + 1) (drop (i + 1) s)
  quoted-byte h n e b = by_length (tells (nat_lt (i + 1) (length s)))
    where
      by_length : ((nat_lt (i + 1) (length s)) ≡ true) ⊎ ((nat_lt (i + 1) (length s)) ≡ false) → quoted_end quote escapes least most i (drop i s) ≡ quoted_end quote escapes least most (i + 1) (drop (i + 1) s)
      by_length (inl y) =
          let l : i + 1 < length s = grind (arith, nat_tests) in
          let e2 : drop (i + 1) s ≡ get_or s (i + 1) 0 ∷ drop (i + 2) s = drop_more s (i + 1) 0 l ∙ ap (λ n. get_or s (i + 1) 0 ∷ drop n s) (let e : i + 1 + 1 ≡ i + 2 = omega arith in e) in
          ap (quoted_end quote escapes least most i) (drop_two s i l) ∙ rw (not_same _ _ n, e, b) (sym (ap (quoted_end quote escapes least most (i + 1)) e2))
      by_length (inr y) =
          let l : length s ≤ i + 1 = grind (arith, nat_tests) in
          ap (quoted_end quote escapes least most i) (drop_last s i h l) ∙ ap (λ t. if t then Some (i + 1) else None) (not_same _ _ n) ∙ sym (ap (quoted_end quote escapes least most (i + 1)) (drop_all (i + 1) s l))

  pub quoted-no_byte : i < length s → (get_or s i 0 ≡ quote → ⊥) → (escapes && get_or s i 0 == 92) ≡ false → is_within least most (get_or s i 0) ≡ false
      → None ≡ quoted_end quote escapes least most i (drop i s)
  quoted-no_byte h n e b = by_length (tells (nat_lt (i + 1) (length s)))
    where
      by_length : ((nat_lt (i + 1) (length s)) ≡ true) ⊎ ((nat_lt (i + 1) (length s)) ≡ false) → None ≡ quoted_end quote escapes least most i (drop i s)
      by_length (inl y) =
          let l : i + 1 < length s = grind (arith, nat_tests) in
          sym (ap (quoted_end quote escapes least most i) (drop_two s i l) ∙ rw (not_same _ _ n, e, b) refl)
      by_length (inr y) =
          let l : length s ≤ i + 1 = grind (arith, nat_tests) in
          sym (ap (quoted_end quote escapes least most i) (drop_last s i h l) ∙ ap (λ t. if t then Some (i + 1) else None) (not_same _ _ n))

  pub quoted-no_last : i < length s → length s ≤ i + 1 → (get_or s i 0 ≡ quote → ⊥) → None ≡ quoted_end quote escapes least most i (drop i s)
  quoted-no_last h l n = sym (ap (quoted_end quote escapes least most i) (drop_last s i h l) ∙ ap (λ t. if t then Some (i + 1) else None) (not_same _ _ n))

pub name_count-pair : (s : List ℕ) (i : ℕ) → i + 1 < length s → get_or s i 0 ≡ 96 → name_count (drop i s) ≡ suc (name_count (drop (i + 2) s))
name_count-pair s i h a = ap name_count (drop_two s i h) ∙ rw (same _ _ a) refl

pub name_count-one : (s : List ℕ) (i : ℕ) → i + 1 < length s → (get_or s i 0 ≡ 96 → ⊥) → name_count (drop i s) ≡ suc (name_count (drop (i + 1) s))
name_count-one s i h n =
    let e2 : drop (i + 1) s ≡ get_or s (i + 1) 0 ∷ drop (i + 2) s = drop_more s (i + 1) 0 h ∙ ap (λ n. get_or s (i + 1) 0 ∷ drop n s) (let e : i + 1 + 1 ≡ i + 2 = omega arith in e) in
    ap name_count (drop_two s i h) ∙ rw (not_same _ _ n) (ap suc (sym (ap name_count e2)))

pub name_count-end : (s : List ℕ) (i : ℕ) → length s ≤ i + 1 → name_count (drop i s) ≡ 0
name_count-end s i l = by_length (tells (nat_lt i (length s)))
  where
    by_length : ((nat_lt i (length s)) ≡ true) ⊎ ((nat_lt i (length s)) ≡ false) → name_count (drop i s) ≡ 0
    by_length (inl y) = let h : i < length s = grind (arith, nat_tests) in ap name_count (drop_last s i h l)
    by_length (inr y) = let h : length s ≤ i = grind (arith, nat_tests) in ap name_count (drop_all i s h)

pub block-next : (s : List ℕ) (i : ℕ) → i + 1 < length s → (get_or s i 0 ≡ 42 → ⊥) ⊎ (get_or s (i + 1) 0 ≡ 47 → ⊥)
    → option_map (λ n. (i + 1) + n) (block_length (drop (i + 1) s)) ≡ option_map (λ n. i + n) (block_length (drop i s))
block-next s i h which =
    let n : (get_or s i 0 == 42 && get_or s (i + 1) 0 == 47) ≡ false = no_both _ _ _ _ which in
    let e2 : drop (i + 1) s ≡ get_or s (i + 1) 0 ∷ drop (i + 2) s = drop_more s (i + 1) 0 h ∙ ap (λ n. get_or s (i + 1) 0 ∷ drop n s) (let e : i + 1 + 1 ≡ i + 2 = omega arith in e) in
    one (block_length (drop (i + 1) s)) ∙ sym (ap (λ t. option_map (λ n. i + n) (block_length t)) (drop_two s i h) ∙ rw n (ap (λ t. option_map (λ n. i + n) (option_map suc (block_length t))) (sym e2)))
  where
    one : (o : Option ℕ) → option_map (λ n. (i + 1) + n) o ≡ option_map (λ n. i + n) (option_map suc o)
    one None = refl
    one (Some x) = ap Some (let e : i + 1 + x ≡ i + suc x = omega arith in e)

alone : (b : ℕ) → block_length (b ∷ []) ≡ None
alone b = none (tells (b == 42))
  where
    none : ((b == 42) ≡ true) ⊎ ((b == 42) ≡ false) → block_length (b ∷ []) ≡ None
    none (inl y) = rw y refl
    none (inr n) = rw n refl

pub block-end : (s : List ℕ) (i : ℕ) → length s ≤ i + 1 → block_length (drop i s) ≡ None
block-end s i l = by_length (tells (nat_lt i (length s)))
  where
    by_length : ((nat_lt i (length s)) ≡ true) ⊎ ((nat_lt i (length s)) ≡ false) → block_length (drop i s) ≡ None
    by_length (inl y) = let h : i < length s = grind (arith, nat_tests) in ap block_length (drop_last s i h l) ∙ alone (get_or s i 0)
    by_length (inr y) = let h : length s ≤ i = grind (arith, nat_tests) in ap block_length (drop_all i s h)
