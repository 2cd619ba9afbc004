-- What completes a word to a token of bytes ends at one place.
use Rattle.std.proofs.Common.{◌≡◌, ℕ, zero, suc, ◌+◌, ◌-◌, ◌≤◌, List, [], ◌∷◌, length, take, drop, Some, None, Option, refl, ap, sym, ◌∙◌, Bool, true, false, not, arith, inl, inr, ◌⊎◌, ◌==◌, ◌&&◌, ◌||◌, if◌then◌else◌, length-drop, codes, nat_le}
use Rattle.std.proofs.lemmas.Bool.Decides.{nat_tests}
use Rattle.std.proofs.lemmas.List.{drop-take, drop-drop, drop_all}
use Rattle.std.specs.List.{prefix_len}
use Rattle.mr_lex.proofs.Lists.{length-take-le}
use Rattle.std.proofs.lemmas.List.Sums.{prefix_len-le-length}
use Rattle.std.specs.Option.{option_map}
use Rattle.mr_lex.specs.Bytes.{is_space, starts}
use Rattle.mr_lex.specs.Quoted.{closes}
use Rattle.mr_lex.specs.Fronts.{quoted_end, pairs_end, text_front, pairs_front, completed}
use Rattle.mr_lex.specs.Tokens.{is_whole_text, is_pairs, completes, without_spaces, is_same_word}
use Rattle.mr_lex.proofs.Lists.{tells}
use Rattle.mr_lex.proofs.Munch.{prefix_taken, prefix_within}
use Rattle.mr_lex.proofs.Quotes.{is_at, IsBetween, between_more, not_at, quoted_between, quoted_at, pairs_between, pairs_at}

and_both : (a b : Bool) → a ≡ true → (a && b) ≡ b
and_both a b e = ap (λ t. t && b) e

and_none : (a b c : Bool) → a ≡ false → ((a && b) && c) ≡ false
and_none a b c e = ap (λ t. (t && b) && c) e

and_true : (a b c : Bool) → a ≡ true → ((a && b) && c) ≡ (b && c)
and_true a b c e = ap (λ t. (t && b) && c) e

pub text_between : (most : ℕ) (s : List ℕ) → IsBetween 0 (length s) (text_front most s)
text_between most [] = tt
text_between most (q ∷ bs) = elim (tells (q == 39 || q == 34)) [
  | inl y ↦ rw y (between_more 1 (1 + length bs) 0 (length (q ∷ bs)) (quoted_end q true 0 most 1 bs) (omega arith) (omega arith) (quoted_between q true 0 most 1 bs))
  | inr n ↦ rw n tt
]

pub text_at : (most k : ℕ) (s : List ℕ) → k ≤ length s → is_whole_text most (take k s) (drop k s) ≡ is_at k (text_front most s)
text_at most zero s l = sym (not_at 0 0 (length s) (text_front most s) (omega arith) (text_between most s))
text_at most (suc k) [] l = absurd (omega (arith, l))
text_at most (suc k) (q ∷ bs) l = elim (tells (q == 39 || q == 34)) [
  | inl y ↦ and_true (q == 39 || q == 34) (closes q true 0 most (take k bs)) (not (starts (λ b. b == q) (drop k bs))) y
      ∙ quoted_at q true 0 most 1 k bs (omega (arith, l))
      ∙ ap (λ n. is_at n (quoted_end q true 0 most 1 bs)) (let e : 1 + k ≡ suc k = omega arith in e)
      ∙ sym (ap (λ t. is_at (suc k) (if t then quoted_end q true 0 most 1 bs else None)) y)
  | inr n ↦ and_none (q == 39 || q == 34) (closes q true 0 most (take k bs)) (not (starts (λ b. b == q) (drop k bs))) n
      ∙ sym (ap (λ t. is_at (suc k) (if t then quoted_end q true 0 most 1 bs else None)) n)
]

pub pairs_front_between : (s : List ℕ) → IsBetween 0 (length s) (pairs_front s)
pairs_front_between [] = tt
pairs_front_between (a ∷ bs) = elim (tells (a == 39)) [
  | inl y ↦ rw y (between_more 1 (1 + length bs) 0 (length (a ∷ bs)) (pairs_end 1 bs) (omega arith) (omega arith) (pairs_between 1 bs))
  | inr n ↦ rw n tt
]

pub pairs_front_at : (k : ℕ) (s : List ℕ) → k ≤ length s → is_pairs (take k s) ≡ is_at k (pairs_front s)
pairs_front_at zero s l = sym (not_at 0 0 (length s) (pairs_front s) (omega arith) (pairs_front_between s))
pairs_front_at (suc k) [] l = absurd (omega (arith, l))
pairs_front_at (suc k) (a ∷ bs) l = elim (tells (a == 39)) [
  | inl y ↦ rw y (pairs_at 1 k bs (omega (arith, l)) ∙ ap (λ n. is_at n (pairs_end 1 bs)) (let e : 1 + k ≡ suc k = omega arith in e))
  | inr n ↦ rw n refl
]

moved_between : (n a b : ℕ) (o : Option ℕ) → IsBetween a b o → IsBetween (n + a) (n + b) (option_map (λ x. n + x) o)
moved_between n a b None h = tt
moved_between n a b (Some x) h = (omega (arith, h.0), omega (arith, h.1))

moved_at : (n k : ℕ) (o : Option ℕ) → is_at k o ≡ is_at (n + k) (option_map (λ x. n + x) o)
moved_at n k None = refl
moved_at n k (Some x) = both (tells (k == x))
  where
    both : ((k == x) ≡ true) ⊎ ((k == x) ≡ false) → (k == x) ≡ (n + k == n + x)
    both (inl y) = grind (arith, nat_tests)
    both (inr y) = grind (arith, nat_tests)

-- a text behind white space
pub spaced_at : (most k : ℕ) (s : List ℕ) → k ≤ length s
    → is_whole_text most (without_spaces (take k s)) (drop k s) ≡ is_at k (option_map (λ n. prefix_len is_space s + n) (text_front most (without_spaces s)))
spaced_at most k s l = by_length (tells (nat_le k (prefix_len is_space s)))
  where
    by_length : (nat_le k (prefix_len is_space s) ≡ true) ⊎ (nat_le k (prefix_len is_space s) ≡ false)
        → is_whole_text most (without_spaces (take k s)) (drop k s) ≡ is_at k (option_map (λ n. prefix_len is_space s + n) (text_front most (without_spaces s)))
    by_length (inl y) =
        let few : k ≤ prefix_len is_space s = grind (arith, nat_tests) in
        let all : prefix_len is_space (take k s) ≡ k = prefix_within is_space s k few in
        let none : without_spaces (take k s) ≡ [] = ap (λ n. drop n (take k s)) all ∙ drop_all k (take k s) (length-take-le k s) in
        ap (λ t. is_whole_text most t (drop k s)) none
        ∙ sym (not_at k (prefix_len is_space s + 0) (prefix_len is_space s + length (without_spaces s)) (option_map (λ n. prefix_len is_space s + n) (text_front most (without_spaces s))) (omega (arith, few)) (moved_between (prefix_len is_space s) 0 (length (without_spaces s)) (text_front most (without_spaces s)) (text_between most (without_spaces s))))
    by_length (inr y) =
        let many : prefix_len is_space s ≤ k = grind (arith, nat_tests) in
        let w = prefix_len is_space s in
        let sum : w + (k - w) ≡ k = omega (arith, many) in
        let front : without_spaces (take k s) ≡ take (k - w) (drop w s) = ap (λ n. drop n (take k s)) (prefix_taken is_space s k many) ∙ ap (λ n. drop w (take n s)) (sym sum) ∙ drop-take w (k - w) s in
        let behind : drop k s ≡ drop (k - w) (drop w s) = sym (drop-drop (k - w) w s ∙ ap (λ n. drop n s) sum) in
        let room : k - w ≤ length (drop w s) = rw length-drop (omega (arith, l, many)) in
        ap (λ t. is_whole_text most t (drop k s)) front ∙ ap (λ t. is_whole_text most (take (k - w) (drop w s)) t) behind
        ∙ text_at most (k - w) (drop w s) room
        ∙ moved_at w (k - w) (text_front most (drop w s))
        ∙ ap (λ n. is_at n (option_map (λ x. w + x) (text_front most (drop w s)))) sum

pub completed_between : (word s : List ℕ) → IsBetween 0 (length s) (completed word s)
completed_between word s = elim (tells (is_same_word (codes "x") word)) [
  | inl y ↦ rw y (pairs_front_between s)
  | inr n ↦ elim (tells (is_same_word (codes "_binary") word)) [
    | inl b ↦ rw (n, b) (between_more (prefix_len is_space s + 0) (prefix_len is_space s + length (without_spaces s)) 0 (length s) (option_map (λ x. prefix_len is_space s + x) (text_front 255 (without_spaces s))) (omega arith) (let h = prefix_len-le-length is_space s in simp length-drop (omega (arith, h))) (moved_between (prefix_len is_space s) 0 (length (without_spaces s)) (text_front 255 (without_spaces s)) (text_between 255 (without_spaces s))))
    | inr b ↦ rw (n, b) tt
  ]
]

pub completes_at : (word s : List ℕ) (k : ℕ) → k ≤ length s → completes word (take k s) (drop k s) ≡ is_at k (completed word s)
completes_at word s k l = elim (tells (is_same_word (codes "x") word)) [
  | inl y ↦ rw y (pairs_front_at k s l)
  | inr n ↦ elim (tells (is_same_word (codes "_binary") word)) [
    | inl b ↦ rw (n, b) (spaced_at 255 k s l)
    | inr b ↦ rw (n, b) refl
  ]
]
