-- Tokens, one piece on.
use Rattle.std.proofs.Common.{◌≡◌, ℕ, zero, suc, pred, ◌+◌, ◌-◌, ◌<◌, ◌≤◌, List, [], ◌∷◌, length, take, drop, Some, None, Option, refl, ap, sym, ◌∙◌, true, arith}
use Rattle.std.specs.Option.{option_map}
use Rattle.std.proofs.lemmas.List.{drop-drop, take_all}
use Rattle.std.proofs.Common.{length-drop}
use Rattle.mr_lex.proofs.Munch.{first_past}
use Rattle.mr_lex.specs.Blank.{blank_front}
use Rattle.mr_lex.specs.Tokens.{first_token}
use Rattle.mr_lex.specs.Reading.{Lexeme, Piece, Blank, Lexed, Neither, lexed, bad_at, with_first, with_piece, piece_by, piece_of, piece_length, tokens_from, token_front, lexeme_at, AreSpans}
use Rattle.mr_lex.specs.declared.token.TokenKind.{TokenKind}

pub skipped : (at k : ℕ) (s : List ℕ) → tokens_from at k s ≡ tokens_from (at + k) 0 (drop k s)
skipped at zero s = ap (λ n. tokens_from n 0 s) (let e : at ≡ at + 0 = omega arith in e)
skipped at (suc k) [] = refl
skipped at (suc k) (b ∷ bs) = skipped (at + 1) k bs ∙ ap (λ n. tokens_from n 0 (drop k bs)) (let e : at + 1 + k ≡ at + suc k = omega arith in e)

pub by_piece : (at : ℕ) (b : ℕ) (bs : List ℕ) (piece : Piece) → piece_of (b ∷ bs) ≡ piece → tokens_from at 0 (b ∷ bs) ≡ with_piece piece at (b ∷ bs) (tokens_from (at + 1) (pred (piece_length piece)) bs)
by_piece at b bs piece e = ap (λ p. with_piece p at (b ∷ bs) (tokens_from (at + 1) (pred (piece_length p)) bs)) e

pub blank_step : (at n : ℕ) (s : List ℕ) → n ≡ blank_front true s → 0 < n → tokens_from at 0 s ≡ tokens_from (at + n) 0 (drop n s)
blank_step at zero s e l = absurd (omega (arith, l))
blank_step at (suc n) [] e l = refl
blank_step at (suc n) (b ∷ bs) e l = by_piece at b bs (Blank (suc n)) (sym (ap (λ k. piece_by k (b ∷ bs)) e)) ∙ skipped (at + 1) n bs ∙ ap (λ k. tokens_from k 0 (drop n bs)) (let e2 : at + 1 + n ≡ at + suc n = omega arith in e2)

pub bad_step : (at : ℕ) (s : List ℕ) → blank_front true s ≡ 0 → 0 < length s → token_front at s ≡ None → tokens_from at 0 s ≡ bad_at at
bad_step at [] z l e = absurd (omega (arith, l))
bad_step at (b ∷ bs) z l e = by_piece at b bs Neither (ap (λ k. piece_by k (b ∷ bs)) z ∙ ap lexed (none (first_token (b ∷ bs)) e))
  where
    none : (o : Option (TokenKind × ℕ)) → option_map (lexeme_at at (b ∷ bs)) o ≡ None → o ≡ None
    none None e = refl
    none (Some x) e = cc

front_step : (at : ℕ) (b : ℕ) (bs : List ℕ) (kind : TokenKind) (n : ℕ) → blank_front true (b ∷ bs) ≡ 0 → 0 < n → first_token (b ∷ bs) ≡ Some (kind, n)
    → tokens_from at 0 (b ∷ bs) ≡ with_first (lexeme_at at (b ∷ bs) (kind, n)) (tokens_from (at + n) 0 (drop (at + n - at) (b ∷ bs)))
front_step at b bs kind zero z l e = absurd (omega (arith, l))
front_step at b bs kind (suc n) z l e =
    let len : at + suc n - at ≡ suc n = omega arith in
    by_piece at b bs (Lexed kind (suc n)) (ap (λ k. piece_by k (b ∷ bs)) z ∙ ap lexed e)
    ∙ ap (with_first (lexeme_at at (b ∷ bs) (kind, suc n)))
    (skipped (at + 1) n bs ∙ ap (λ k. tokens_from k 0 (drop n bs)) (let e2 : at + 1 + n ≡ at + suc n = omega arith in e2) ∙ ap (λ k. tokens_from (at + suc n) 0 (drop k (b ∷ bs))) (sym len))

pub token_step : (at : ℕ) (s : List ℕ) (t : Lexeme) → blank_front true s ≡ 0 → at < t.end → token_front at s ≡ Some t → tokens_from at 0 s ≡ with_first t (tokens_from t.end 0 (drop (t.end - at) s))
token_step at [] t z l e = none (first_token_of_nothing ∙ e)
  where
    first_token_of_nothing : None ≡ token_front at []
    first_token_of_nothing = refl

    none : None ≡ Some t → tokens_from at 0 [] ≡ with_first t (tokens_from t.end 0 (drop (t.end - at) []))
    none e = cc
token_step at (b ∷ bs) t z l e = by (first_token (b ∷ bs)) refl e
  where
    by : (o : Option (TokenKind × ℕ)) → first_token (b ∷ bs) ≡ o → option_map (lexeme_at at (b ∷ bs)) o ≡ Some t
        → tokens_from at 0 (b ∷ bs) ≡ with_first t (tokens_from t.end 0 (drop (t.end - at) (b ∷ bs)))
    by None f e = cc
    by (Some x) f e =
        let is : lexeme_at at (b ∷ bs) x ≡ t = cc in
        let end : at + x.1 ≡ t.end = ap (λ (t : Lexeme). t.end) is in
        front_step at b bs x.0 x.1 z (omega (arith, l, end)) f
        ∙ ap (λ (t : Lexeme). with_first t (tokens_from t.end 0 (drop (t.end - at) (b ∷ bs)))) is

drop_next : (text : List ℕ) (at b : ℕ) (bs : List ℕ) → b ∷ bs ≡ drop at text → bs ≡ drop (at + 1) text
drop_next text at b bs e = ap (λ s. drop 1 s) e ∙ drop-drop 1 at text

room : (text : List ℕ) (at b : ℕ) (bs : List ℕ) → b ∷ bs ≡ drop at text → at + length (b ∷ bs) ≡ length text
room text at b bs e = let l : length (b ∷ bs) ≡ length text - at = ap length e ∙ length-drop at text in omega (arith, l)

-- each token is what its span has, and the spans are in order
pub spans_from : (text : List ℕ) (at skip from : ℕ) (s : List ℕ) → s ≡ drop at text → from ≤ at + skip → AreSpans text from (tokens_from at skip s).found
spans_from text at skip from [] e l = tt
spans_from text at (suc k) from (b ∷ bs) e l = spans_from text (at + 1) k from bs (drop_next text at b bs e) (omega (arith, l))
spans_from text at zero from (b ∷ bs) e l = by (λ k m r. spans_from text (at + 1) k m bs (drop_next text at b bs e) r) (piece_of (b ∷ bs)) refl
  where
    lexed_is : (o : Option (TokenKind × ℕ)) (kind : TokenKind) (n : ℕ) → lexed o ≡ Lexed kind n → o ≡ Some (kind, n)
    lexed_is None kind n e = cc
    lexed_is (Some x) kind n e = let k : x.0 ≡ kind = cc in let m : x.1 ≡ n = cc in ap Some (ap (λ (y : TokenKind). (y, x.1)) k ∙ ap (λ (y : ℕ). (kind, y)) m)

    first_is : (z : ℕ) (kind : TokenKind) (n : ℕ) → piece_by z (b ∷ bs) ≡ Lexed kind n → first_token (b ∷ bs) ≡ Some (kind, n)
    first_is zero kind n e = lexed_is (first_token (b ∷ bs)) kind n e
    first_is (suc z) kind n e = cc

    by : ((k m : ℕ) → m ≤ at + 1 + k → AreSpans text m (tokens_from (at + 1) k bs).found) → (piece : Piece) → piece_of (b ∷ bs) ≡ piece → AreSpans text from (with_piece piece at (b ∷ bs) (tokens_from (at + 1) (pred (piece_length piece)) bs)).found
    by more (Blank n) p = more (pred n) from (omega (arith, l))
    by more (Lexed kind n) p =
        let some = first_past (b ∷ bs) (kind, n) (first_is (blank_front true (b ∷ bs)) kind n p) in
        let low : 0 < n = some.0 in
        let high : n ≤ length (b ∷ bs) = some.1 in
        let all = room text at b bs e in
        let len : n ≡ at + n - at = omega arith in
        (omega (arith, l), omega (arith, low), omega (arith, high, all), ap (take n) e ∙ ap (λ k. take k (drop at text)) len, more (pred n) (at + n) (behind n low))
      where
        behind : (n : ℕ) → 0 < n → at + n ≤ at + 1 + pred n
        behind zero l = absurd (omega (arith, l))
        behind (suc n) l = omega arith
    by more Neither p = tt

pub tail : (s : List ℕ) (n : ℕ) → take (length s - n) (drop n s) ≡ drop n s
tail s n = take_all (length s - n) (drop n s) (let l = length-drop n s in omega (arith, l))
