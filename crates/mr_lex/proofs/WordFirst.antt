-- The token in front, where a letter begins it.
use Rattle.std.proofs.Common.{◌≡◌, ℕ, zero, suc, ◌+◌, ◌-◌, ◌<◌, ◌≤◌, List, [], ◌∷◌, length, take, drop, Some, None, Option, refl, ap, sym, ◌∙◌, true, false, arith, ◌==◌, if◌then◌else◌, length-drop, length-take}
use Rattle.std.proofs.lemmas.Bool.Decides.{nat_tests}
use Rattle.std.proofs.lemmas.List.{drop-take, drop-drop, drop_all, take-take}
use Rattle.std.specs.List.{prefix_len}
use Rattle.std.proofs.lemmas.List.Sums.{prefix_len-le-length}
use Rattle.mr_lex.specs.Bytes.{is_word_byte, is_letter, is_empty}
use Rattle.mr_lex.specs.Fronts.{completed, word_or, word_front}
use Rattle.mr_lex.specs.Tokens.{kind_at, first_token, word_kind, word_of, behind_word, where_holds, completes}
use Rattle.mr_lex.specs.declared.token.TokenKind.TheVariants.{Word, Bytes}
use Rattle.mr_lex.proofs.Lists.{same, length-take-le}
use Rattle.mr_lex.proofs.Munch.{prefix_taken, prefix_within, is_first}
use Rattle.mr_lex.proofs.Quotes.{is_at, IsBetween}
use Rattle.mr_lex.proofs.Completed.{completes_at, completed_between}

-- fronts of the word
word_short : (t rest : List ℕ) (m : ℕ) → m ≤ prefix_len is_word_byte t → word_kind (take m t) rest ≡ Some Word
word_short t rest m l =
    let none : behind_word (take m t) ≡ [] = ap (λ n. drop n (take m t)) (prefix_within is_word_byte t m l) ∙ drop_all m (take m t) (length-take-le m t) in
    ap (λ b. if is_empty b then Some Word else where_holds (completes (word_of (take m t)) (behind_word (take m t)) rest) Bytes) none

not_empty : (s : List ℕ) → 0 < length s → is_empty s ≡ false
not_empty [] l = absurd (omega (arith, l))
not_empty (b ∷ bs) l = refl

-- longer fronts
word_long : (t : List ℕ) (m : ℕ) → prefix_len is_word_byte t < m → m ≤ length t
    → word_kind (take m t) (drop m t) ≡ where_holds (is_at (m - prefix_len is_word_byte t) (completed (word_of t) (behind_word t))) Bytes
word_long t m l room =
    let n = prefix_len is_word_byte t in
    let sum : n + (m - n) ≡ m = omega (arith, l) in
    let run : prefix_len is_word_byte (take m t) ≡ n = prefix_taken is_word_byte t m (omega (arith, l)) in
    let front : behind_word (take m t) ≡ take (m - n) (drop n t) = ap (λ k. drop k (take m t)) run ∙ ap (λ k. drop n (take k t)) (sym sum) ∙ drop-take n (m - n) t in
    let word : word_of (take m t) ≡ take n t = ap (λ k. take k (take m t)) run ∙ take-take n m t (omega (arith, l)) in
    let behind : drop m t ≡ drop (m - n) (drop n t) = sym (drop-drop (m - n) n t ∙ ap (λ k. drop k t) sum) in
    let room2 : m - n ≤ length (drop n t) = rw length-drop (omega (arith, l, room)) in
    let some : is_empty (take (m - n) (drop n t)) ≡ false = not_empty (take (m - n) (drop n t)) (long (m - n) (drop n t) (omega (arith, l)) room2) in
    ap (λ b. if is_empty b then Some Word else where_holds (completes (word_of (take m t)) b (drop m t)) Bytes) front
    ∙ ap (λ b. if b then Some Word else where_holds (completes (word_of (take m t)) (take (m - n) (drop n t)) (drop m t)) Bytes) some
    ∙ ap (λ w. where_holds (completes w (take (m - n) (drop n t)) (drop m t)) Bytes) word
    ∙ ap (λ r. where_holds (completes (take n t) (take (m - n) (drop n t)) r) Bytes) behind
    ∙ ap (λ b. where_holds b Bytes) (completes_at (take n t) (drop n t) (m - n) room2)
  where
    long : (k : ℕ) (s : List ℕ) → 0 < k → k ≤ length s → 0 < length (take k s)
    long k s p l = simp length-take (omega (arith, p, l))

module _ (b : ℕ) (bs : List ℕ) (y : is_letter b ≡ true) where
  at_word : (m : ℕ) → 0 < m → kind_at m (b ∷ bs) ≡ word_kind (take m (b ∷ bs)) (drop m (b ∷ bs))
  at_word zero l = absurd (omega (arith, l))
  at_word (suc m) l = rw y refl

  some_run : 0 < prefix_len is_word_byte (b ∷ bs)
  some_run = rw y (omega arith)

  word_result : (o : Option ℕ) → completed (word_of (b ∷ bs)) (behind_word (b ∷ bs)) ≡ o → IsBetween 0 (length (behind_word (b ∷ bs))) o
      → first_token (b ∷ bs) ≡ Some (word_or (prefix_len is_word_byte (b ∷ bs)) o)
  word_result None e h =
      let n = prefix_len is_word_byte (b ∷ bs) in
      is_first (b ∷ bs) n Word (prefix_len-le-length is_word_byte (b ∷ bs)) (at_word n some_run ∙ word_short (b ∷ bs) (drop n (b ∷ bs)) n (let r : n ≤ n = omega arith in r))
      (λ m a l. at_word m (omega (arith, a)) ∙ word_long (b ∷ bs) m a l ∙ ap (λ o. where_holds (is_at (m - n) o) Bytes) e)
  word_result (Some j) e h =
      let n = prefix_len is_word_byte (b ∷ bs) in
      let len : length (drop n (b ∷ bs)) ≡ length (b ∷ bs) - n = length-drop n (b ∷ bs) in
      let low : 0 < j = h.0 in
      let high : j ≤ length (drop n (b ∷ bs)) = h.1 in
      let run = some_run in
      let room : n + j ≤ length (b ∷ bs) = omega (arith, len, high, prefix_len-le-length is_word_byte (b ∷ bs), low) in
      is_first (b ∷ bs) (n + j) Bytes room
      (at_word (n + j) (omega (arith, low)) ∙ word_long (b ∷ bs) (n + j) (omega (arith, low)) room ∙ ap (λ o. where_holds (is_at (n + j - n) o) Bytes) e ∙ ap (λ t. where_holds t Bytes) (same (n + j - n) j (omega arith)))
      (λ m a l. at_word m (omega (arith, a)) ∙ word_long (b ∷ bs) m (omega (arith, a, low)) l ∙ ap (λ o. where_holds (is_at (m - n) o) Bytes) e ∙ ap (λ t. where_holds t Bytes) (apart_over (m - n) j (omega (arith, a, low))))
    where
      apart_over : (m n : ℕ) → n < m → (m == n) ≡ false
      apart_over m n l = grind (arith, nat_tests)

  pub word_first : first_token (b ∷ bs) ≡ word_front (b ∷ bs)
  word_first = word_result (completed (word_of (b ∷ bs)) (behind_word (b ∷ bs))) refl (completed_between (word_of (b ∷ bs)) (behind_word (b ∷ bs)))
