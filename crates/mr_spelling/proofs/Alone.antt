-- Each part's bytes are one token, and spell it.
use Rattle.std.proofs.Common.{◌≡◌, ℕ, suc, ◌+◌, ◌-◌, ◌*◌, ◌/◌, ◌%◌, ◌^◌, ◌≤◌, ◌<◌, List, [], ◌∷◌, ◌++◌, length, take, drop, map, Bool, true, false, true≢false, not, ◌&&◌, ◌||◌, ◌==◌, nat_eq, nat_lt, nat_le, if◌then◌else◌, Option, Some, None, codes, arith, refl, ap, sym, subst, ◌∙◌, inl, inr, ◌⊎◌, lit<}
use Rattle.std.specs.List.{list_all, prefix_len}
use Rattle.std.specs.Option.{option_map}
use Rattle.std.specs.Cmp.Lexicographic.{pointwise}
use Rattle.std.specs.Int.Digits.{number_from_digits_after}
use Rattle.std.specs.Fmt.{decimal}
use Rattle.std.proofs.lemmas.Bool.{eqb-true, leb-true, le-leb, ltb-true}
use Rattle.std.proofs.lemmas.Bool.Decides.{nat_tests}
use Rattle.std.proofs.lemmas.Fmt.{decimal_by_steps_wide}
use Rattle.mr_lanes.specs.Kernels.{is_low}
use Rattle.mr_lex.specs.Bytes.{is_space, is_letter, is_digit, is_word_byte, is_hex_digit, is_within, starts}
use Rattle.mr_lex.specs.Blank.{is_space_or_end, blank_front}
use Rattle.mr_lex.specs.Quoted.{closes, closes_pairs, name_count}
use Rattle.mr_lex.specs.Tokens.{is_same_word, number_of, is_lone_sign, is_double_sign}
use Rattle.mr_lex.specs.Fronts.{quoted_end, pairs_end, pairs_front, completed, word_or, word_front, digits_front, begins_hex, if_so, name_if, sign_front, front_of}
use Rattle.mr_lex.specs.Reading.{Lexed, lexed, piece_by, piece_of}
use Rattle.mr_lex.specs.declared.token.TokenKind.{TokenKind}
use Rattle.mr_lex.specs.declared.token.TokenKind.TheVariants as kinds
use Rattle.mr_lex.proofs.Lists.{tells}
use Rattle.mr_lex.proofs.Quotes.{is_at, quoted_at, pairs_at}
use Rattle.mr_lex.proofs.First.{front_first}
use Rattle.mr_types.specs.Grammatical.{is_name, is_ascii_text}
use Rattle.mr_types.specs.Values.{number_from}
use Rattle.mr_spec.specs.Words.{undoubled, escaped, escaped_byte, unescaped, text_bytes, hex_value, pairs_bytes, binary_bytes, only_name, name_in}
use Rattle.mr_spec.specs.Literals.{greatest}
use Rattle.mr_spelling.specs.Parts.{Part, Keyword, Mark, Name, Count, Quoted, Octets, Plain, IsToken}
use Rattle.mr_spelling.specs.Texts.{IsAlone}
use Rattle.mr_spelling.specs.Canonical.{doubled, escaping, hex_digit, hex_digits, bytes_of, kind_of, is_plain_word}
use Rattle.mr_spelling.proofs.Reading.{is_listed, equal-where-same}
use Rattle.mr_spelling.proofs.Lists.{Each, first_of_both, second_of_both, both-true}

-- ---- fronts of a text

taken : (a b : List ℕ) → take (length a) (a ++ b) ≡ a
taken [] b = refl
taken (x ∷ a) b = ap (λ z. x ∷ z) (taken a b)

dropped : (a b : List ℕ) → drop (length a) (a ++ b) ≡ b
dropped [] b = refl
dropped (x ∷ a) b = dropped a b

joined-length : (a b : List ℕ) → length a ≤ length (a ++ b)
joined-length [] b = omega arith
joined-length (x ∷ a) b = omega (arith, joined-length a b)

-- a byte that no white space is doesn't begin what follows
no-start : (test : ℕ → Bool) (rest : List ℕ) → ((b : ℕ) → is_space b ≡ true → test b ≡ false) → is_space_or_end true rest ≡ true → starts test rest ≡ false
no-start test [] f h = refl
no-start test (b ∷ bs) f h = f b h

space-same : (x b : ℕ) → is_space x ≡ false → is_space b ≡ true → (b == x) ≡ false
space-same x b h k = by (tells (b == x))
  where
    by : ((b == x) ≡ true) ⊎ ((b == x) ≡ false) → (b == x) ≡ false
    by (inl y) = absurd (true≢false (sym k ∙ ap is_space (eqb-true b x y) ∙ h))
    by (inr n) = n

space-word : (b : ℕ) → is_space b ≡ true → is_word_byte b ≡ false
space-word b h = grind (arith, nat_tests)

space-digit : (b : ℕ) → is_space b ≡ true → is_digit b ≡ false
space-digit b h = grind (arith, nat_tests)

run-ends : (p : ℕ → Bool) (w rest : List ℕ) → list_all p w ≡ true → starts p rest ≡ false → prefix_len p (w ++ rest) ≡ length w
run-ends p [] [] h k = refl
run-ends p [] (b ∷ rest) h k = rw k refl
run-ends p (b ∷ w) rest h k = rw (first_of_both (p b) (list_all p w) h) (let e = run-ends p w rest (second_of_both (p b) (list_all p w) h) k in omega (arith, e))

-- no blank in front
not-blank : (b : ℕ) (bs : List ℕ) → is_space b ≡ false → (b == 35) ≡ false → (b == 45) ≡ false → (b == 47) ≡ false → blank_front true (b ∷ bs) ≡ 0
not-blank b bs s h d l = rw (s, h, d, l) refl

piece-is : (text : List ℕ) (kind : TokenKind) (n : ℕ) → blank_front true text ≡ 0 → front_of text ≡ Some (kind, n) → piece_of text ≡ Lexed kind n
piece-is text kind n z f = ap (λ k. piece_by k text) z ∙ ap lexed (front_first text ∙ f)

at-is : (n : ℕ) (o : Option ℕ) → is_at n o ≡ true → o ≡ Some n
at-is n None e = absurd (true≢false (sym e))
at-is n (Some x) e = ap Some (sym (eqb-true n x e))

quote-ends : (quote : ℕ) (escapes : Bool) (least most : ℕ) (body rest : List ℕ) → closes quote escapes least most body ≡ true → starts (λ b. b == quote) rest ≡ false
    → quoted_end quote escapes least most 1 (body ++ rest) ≡ Some (1 + length body)
quote-ends quote escapes least most body rest h k = at-is (1 + length body) (quoted_end quote escapes least most 1 (body ++ rest))
    (sym (quoted_at quote escapes least most 1 (length body) (body ++ rest) (joined-length body rest))
    ∙ both-true (closes quote escapes least most (take (length body) (body ++ rest))) (not (starts (λ b. b == quote) (drop (length body) (body ++ rest))))
    (ap (closes quote escapes least most) (taken body rest) ∙ h) (ap (λ t. not (starts (λ b. b == quote) t)) (dropped body rest) ∙ ap not k))

-- ---- names

abbrev is_name_byte : ℕ → Bool
is_name_byte b = nat_lt 0 b && is_low b

name-byte-within : (b : ℕ) → is_name_byte b ≡ true → is_within 1 127 b ≡ true
name-byte-within b h = grind (arith, nat_tests)

closes-byte : (q : ℕ) (least most b : ℕ) (t : List ℕ) → 1 ≤ length t → (b == q) ≡ false → is_within least most b ≡ true → closes q false least most t ≡ true → closes q false least most (b ∷ t) ≡ true
closes-byte q least most b [] l n w h = absurd (omega (arith, l))
closes-byte q least most b (c ∷ cs) l n w h = rw n (both-true (is_within least most b) (closes q false least most (c ∷ cs)) w h)

some-doubled : (bs : List ℕ) → 1 ≤ length (doubled bs)
some-doubled [] = omega arith
some-doubled (b ∷ bs) = by (tells (b == 96))
  where
    by : ((b == 96) ≡ true) ⊎ ((b == 96) ≡ false) → 1 ≤ length (doubled (b ∷ bs))
    by (inl y) = rw y (omega arith)
    by (inr n) = rw n (omega arith)

doubled-closes : (bs : List ℕ) → list_all is_name_byte bs ≡ true → closes 96 false 1 127 (doubled bs) ≡ true
doubled-closes [] h = refl
doubled-closes (b ∷ bs) h = by (tells (b == 96)) (doubled-closes bs (second_of_both (is_name_byte b) (list_all is_name_byte bs) h))
  where
    by : ((b == 96) ≡ true) ⊎ ((b == 96) ≡ false) → closes 96 false 1 127 (doubled bs) ≡ true → closes 96 false 1 127 (doubled (b ∷ bs)) ≡ true
    by (inl y) more = rw y more
    by (inr n) more = ap (λ t. closes 96 false 1 127 (if t then 96 ∷ 96 ∷ doubled bs else b ∷ doubled bs)) n ∙ closes-byte 96 1 127 b (doubled bs) (some-doubled bs) n (name-byte-within b (first_of_both (is_name_byte b) (list_all is_name_byte bs) h)) more

count-byte : (b : ℕ) (t : List ℕ) → 1 ≤ length t → (b == 96) ≡ false → name_count (b ∷ t) ≡ suc (name_count t)
count-byte b [] l n = absurd (omega (arith, l))
count-byte b (c ∷ cs) l n = rw n refl

undoubled-byte : (b : ℕ) (t : List ℕ) → 1 ≤ length t → (b == 96) ≡ false → undoubled 96 (b ∷ t) ≡ b ∷ undoubled 96 t
undoubled-byte b [] l n = absurd (omega (arith, l))
undoubled-byte b (c ∷ cs) l n = rw n refl

doubled-counts : (bs : List ℕ) → name_count (doubled bs) ≡ length bs
doubled-counts [] = refl
doubled-counts (b ∷ bs) = by (tells (b == 96)) (doubled-counts bs)
  where
    by : ((b == 96) ≡ true) ⊎ ((b == 96) ≡ false) → name_count (doubled bs) ≡ length bs → name_count (doubled (b ∷ bs)) ≡ suc (length bs)
    by (inl y) more = rw y (ap suc more)
    by (inr n) more = ap (λ t. name_count (if t then 96 ∷ 96 ∷ doubled bs else b ∷ doubled bs)) n ∙ count-byte b (doubled bs) (some-doubled bs) n ∙ ap suc more

doubled-back : (bs : List ℕ) → undoubled 96 (doubled bs) ≡ bs
doubled-back [] = refl
doubled-back (b ∷ bs) = by (tells (b == 96)) (doubled-back bs)
  where
    by : ((b == 96) ≡ true) ⊎ ((b == 96) ≡ false) → undoubled 96 (doubled bs) ≡ bs → undoubled 96 (doubled (b ∷ bs)) ≡ b ∷ bs
    by (inl y) more = ap (λ t. undoubled 96 (if t then 96 ∷ 96 ∷ doubled bs else b ∷ doubled bs)) y ∙ ap (λ t. 96 ∷ t) more ∙ ap (λ c. c ∷ bs) (sym (eqb-true b 96 y))
    by (inr n) more = ap (λ t. undoubled 96 (if t then 96 ∷ 96 ∷ doubled bs else b ∷ doubled bs)) n ∙ undoubled-byte b (doubled bs) (some-doubled bs) n ∙ ap (λ t. b ∷ t) more

name-if : (body rest : List ℕ) (n : ℕ) → name_count body ≡ n → 1 ≤ n → n ≤ 64 → name_if (Some (1 + length body)) (body ++ rest) ≡ Some (kinds.QuotedName, suc (length body))
name-if body rest n c l m =
    let front : take (1 + length body - 1) (body ++ rest) ≡ body = ap (λ k. take k (body ++ rest)) (let e : 1 + length body - 1 ≡ length body = omega arith in e) ∙ taken body rest in
    ap (λ t. if_so (nat_le 1 (name_count t) && nat_le (name_count t) 64) kinds.QuotedName (1 + length body)) front
    ∙ ap (λ k. if_so (nat_le 1 k && nat_le k 64) kinds.QuotedName (1 + length body)) c
    ∙ ap (λ t. if_so t kinds.QuotedName (1 + length body)) (both-true (nat_le 1 n) (nat_le n 64) (le-leb 1 n l) (le-leb n 64 m))
    ∙ ap (λ k. Some (kinds.QuotedName, k)) (let e : 1 + length body ≡ suc (length body) = omega arith in e)

name-alone : (n : List ℕ) → is_name n ≡ true → IsAlone kinds.QuotedName (96 ∷ doubled n)
name-alone n h =
    let h1 : (nat_le (length n) 64 && list_all is_name_byte n) ≡ true = second_of_both (nat_lt 0 (length n)) _ h in
    let low : 0 < length n = ltb-true 0 (length n) (first_of_both (nat_lt 0 (length n)) _ h) in
    let high : length n ≤ 64 = leb-true (length n) 64 (first_of_both (nat_le (length n) 64) _ h1) in
    record {
      some = omega arith;
      alone = λ rest e. piece-is (96 ∷ (doubled n ++ rest)) kinds.QuotedName (suc (length (doubled n))) refl
          (ap (λ o. name_if o (doubled n ++ rest)) (quote-ends 96 false 1 127 (doubled n) rest (doubled-closes n (second_of_both (nat_le (length n) 64) _ h1)) (no-start (λ b. b == 96) rest (λ b s. space-same 96 b refl s) e))
          ∙ name-if (doubled n) rest (length n) (doubled-counts n) (omega (arith, low)) high);
    }

only-name : (n : List ℕ) → is_name n ≡ true → only_name n ≡ Some n
only-name n h = rw h refl

name-token : (n : List ℕ) → is_name n ≡ true → name_in kinds.QuotedName (96 ∷ doubled n) ≡ Some n
unfolding name_in
name-token n h = ap only_name (doubled-back n) ∙ only-name n h

-- ---- texts

some-escaping : (bs : List ℕ) → 1 ≤ length (escaping bs)
some-escaping [] = omega arith
some-escaping (b ∷ bs) = by (tells (b == 39 || b == 92))
  where
    by : ((b == 39 || b == 92) ≡ true) ⊎ ((b == 39 || b == 92) ≡ false) → 1 ≤ length (escaping (b ∷ bs))
    by (inl y) = rw y (omega arith)
    by (inr n) = rw n (omega arith)

neither-first : (a b : Bool) → (a || b) ≡ false → a ≡ false
neither-first true b e = e
neither-first false b e = refl

neither-second : (a b : Bool) → (a || b) ≡ false → b ≡ false
neither-second true b e = absurd (true≢false e)
neither-second false b e = e

low-within : (b : ℕ) → is_low b ≡ true → is_within 0 127 b ≡ true
low-within b h = grind (arith, nat_tests)

text-byte : (b : ℕ) (t : List ℕ) → 1 ≤ length t → (b == 39) ≡ false → (b == 92) ≡ false → is_within 0 127 b ≡ true → closes 39 true 0 127 t ≡ true → closes 39 true 0 127 (b ∷ t) ≡ true
text-byte b [] l n m w h = absurd (omega (arith, l))
text-byte b (c ∷ cs) l n m w h = rw (n, m) (both-true (is_within 0 127 b) (closes 39 true 0 127 (c ∷ cs)) w h)

escaping-closes : (bs : List ℕ) → list_all is_low bs ≡ true → closes 39 true 0 127 (escaping bs) ≡ true
escaping-closes [] h = refl
escaping-closes (b ∷ bs) h = by (tells (b == 39 || b == 92)) (low-within b (first_of_both (is_low b) (list_all is_low bs) h)) (escaping-closes bs (second_of_both (is_low b) (list_all is_low bs) h))
  where
    by : ((b == 39 || b == 92) ≡ true) ⊎ ((b == 39 || b == 92) ≡ false) → is_within 0 127 b ≡ true → closes 39 true 0 127 (escaping bs) ≡ true → closes 39 true 0 127 (escaping (b ∷ bs)) ≡ true
    by (inl y) w more = ap (λ t. closes 39 true 0 127 (if t then 92 ∷ b ∷ escaping bs else b ∷ escaping bs)) y ∙ both-true (is_within 0 127 b) (closes 39 true 0 127 (escaping bs)) w more
    by (inr n) w more = ap (λ t. closes 39 true 0 127 (if t then 92 ∷ b ∷ escaping bs else b ∷ escaping bs)) n ∙ text-byte b (escaping bs) (some-escaping bs) (neither-first (b == 39) (b == 92) n) (neither-second (b == 39) (b == 92) n) w more

text-alone : (x : List ℕ) → is_ascii_text x ≡ true → IsAlone kinds.Text (39 ∷ escaping x)
text-alone x h = record {
  some = omega arith;
  alone = λ rest e. piece-is (39 ∷ (escaping x ++ rest)) kinds.Text (suc (length (escaping x))) refl
      (ap (option_map (λ n. (kinds.Text, n))) (quote-ends 39 true 0 127 (escaping x) rest (escaping-closes x h) (no-start (λ b. b == 39) rest (λ b s. space-same 39 b refl s) e))
      ∙ ap (λ k. Some (kinds.Text, k)) (let e : 1 + length (escaping x) ≡ suc (length (escaping x)) = omega arith in e));
}

-- a quote or a backslash behind a backslash stands for itself
escaped-itself : (b : ℕ) → (b == 39 || b == 92) ≡ true → escaped b ≡ b ∷ []
unfolding escaped escaped_byte
escaped-itself b h = by (tells (b == 39))
  where
    second : (a c : Bool) → a ≡ false → (a || c) ≡ true → c ≡ true
    second a c e k = rw e at k

    by : ((b == 39) ≡ true) ⊎ ((b == 39) ≡ false) → escaped b ≡ b ∷ []
    by (inl y) = let e : b ≡ 39 = eqb-true b 39 y in rw e refl
    by (inr n) = let e : b ≡ 92 = eqb-true b 92 (second (b == 39) (b == 92) n h) in rw e refl

unescaped-byte : (b : ℕ) (t : List ℕ) → 1 ≤ length t → (b == 39) ≡ false → (b == 92) ≡ false → unescaped 39 (b ∷ t) ≡ b ∷ unescaped 39 t
unescaped-byte b [] l n m = absurd (omega (arith, l))
unescaped-byte b (c ∷ cs) l n m = rw (n, m) refl

escaping-back : (bs : List ℕ) → unescaped 39 (escaping bs) ≡ bs
escaping-back [] = refl
escaping-back (b ∷ bs) = by (tells (b == 39 || b == 92)) (escaping-back bs)
  where
    by : ((b == 39 || b == 92) ≡ true) ⊎ ((b == 39 || b == 92) ≡ false) → unescaped 39 (escaping bs) ≡ bs → unescaped 39 (escaping (b ∷ bs)) ≡ b ∷ bs
    by (inl y) more = ap (λ t. unescaped 39 (if t then 92 ∷ b ∷ escaping bs else b ∷ escaping bs)) y ∙ ap (λ t. t ++ unescaped 39 (escaping bs)) (escaped-itself b y) ∙ ap (λ t. b ∷ t) more
    by (inr n) more = ap (λ t. unescaped 39 (if t then 92 ∷ b ∷ escaping bs else b ∷ escaping bs)) n ∙ unescaped-byte b (escaping bs) (some-escaping bs) (neither-first (b == 39) (b == 92) n) (neither-second (b == 39) (b == 92) n) ∙ ap (λ t. b ∷ t) more

text-token : (x : List ℕ) → text_bytes (39 ∷ escaping x) ≡ x
unfolding text_bytes
text-token x = escaping-back x

-- ---- bytes

hex-is : (n : ℕ) → n < 16 → is_hex_digit (hex_digit n) ≡ true
hex-is n h = grind (arith, nat_tests)

hex-back : (n : ℕ) → n < 16 → hex_value (hex_digit n) ≡ n
unfolding hex_value
hex-back n h = grind (arith, nat_tests)

abbrev is_byte : ℕ → Bool
is_byte b = nat_lt b 256

high-half : (b : ℕ) → is_byte b ≡ true → b / 16 < 16
high-half b h = omega (arith, ltb-true b 256 h)

low-half : (b : ℕ) → b % 16 < 16
low-half b = omega arith

hex-closes : (bs : List ℕ) → list_all is_byte bs ≡ true → closes_pairs (hex_digits bs) ≡ true
hex-closes [] h = refl
hex-closes (b ∷ bs) h = rw (hex-is (b / 16) (high-half b (first_of_both (is_byte b) (list_all is_byte bs) h)), hex-is (b % 16) (low-half b)) (hex-closes bs (second_of_both (is_byte b) (list_all is_byte bs) h))

halves : (b x y : ℕ) → x ≡ b / 16 → y ≡ b % 16 → 16 * x + y ≡ b
halves b x y e f = omega arith

hex-pairs : (bs : List ℕ) → list_all is_byte bs ≡ true → pairs_bytes (hex_digits bs) ≡ bs
hex-pairs [] h = refl
hex-pairs (b ∷ bs) h =
    ap (λ n. n ∷ pairs_bytes (hex_digits bs)) (halves b (hex_value (hex_digit (b / 16))) (hex_value (hex_digit (b % 16))) (hex-back (b / 16) (high-half b (first_of_both (is_byte b) (list_all is_byte bs) h))) (hex-back (b % 16) (low-half b)))
    ∙ ap (λ t. b ∷ t) (hex-pairs bs (second_of_both (is_byte b) (list_all is_byte bs) h))

pairs-end : (body rest : List ℕ) → closes_pairs body ≡ true → pairs_end 1 (body ++ rest) ≡ Some (1 + length body)
pairs-end body rest h = at-is (1 + length body) (pairs_end 1 (body ++ rest)) (sym (pairs_at 1 (length body) (body ++ rest) (joined-length body rest)) ∙ ap closes_pairs (taken body rest) ∙ h)

octets-alone : (bs : List ℕ) → list_all is_byte bs ≡ true → IsAlone kinds.Bytes (120 ∷ 39 ∷ hex_digits bs)
octets-alone bs h = record {
  some = omega arith;
  alone = λ rest e. piece-is (120 ∷ 39 ∷ (hex_digits bs ++ rest)) kinds.Bytes (suc (suc (length (hex_digits bs)))) refl
      (ap (λ o. Some (word_or 1 o)) (pairs-end (hex_digits bs) rest (hex-closes bs h)) ∙ ap (λ k. Some (kinds.Bytes, k)) (let e : 1 + (1 + length (hex_digits bs)) ≡ suc (suc (length (hex_digits bs))) = omega arith in e));
}

octets-token : (bs : List ℕ) → list_all is_byte bs ≡ true → binary_bytes (120 ∷ 39 ∷ hex_digits bs) ≡ bs
unfolding binary_bytes
octets-token bs h = hex-pairs bs h

-- ---- words

letter-space : (b : ℕ) → is_letter b ≡ true → is_space b ≡ false
letter-space b h = grind (arith, nat_tests)

same-class : (test : ℕ → Bool) (x b : ℕ) → test x ≡ false → test b ≡ true → (b == x) ≡ false
same-class test x b h k = by (tells (b == x))
  where
    by : ((b == x) ≡ true) ⊎ ((b == x) ≡ false) → (b == x) ≡ false
    by (inl y) = absurd (true≢false (sym k ∙ ap test (eqb-true b x y) ∙ h))
    by (inr n) = n

no-pairs : (rest : List ℕ) → is_space_or_end true rest ≡ true → pairs_front rest ≡ None
no-pairs [] h = refl
no-pairs (b ∷ rest) h = rw (space-same 39 b refl h) refl

not-completed : (w rest : List ℕ) → is_space_or_end true rest ≡ true → is_same_word (codes "_binary") w ≡ false → completed w rest ≡ None
not-completed w rest h n = by (tells (is_same_word (codes "x") w))
  where
    by : (is_same_word (codes "x") w ≡ true) ⊎ (is_same_word (codes "x") w ≡ false) → completed w rest ≡ None
    by (inl y) = rw y (no-pairs rest h)
    by (inr o) = rw (o, n) refl

word-front : (w rest : List ℕ) → list_all is_word_byte w ≡ true → is_same_word (codes "_binary") w ≡ false → is_space_or_end true rest ≡ true → word_front (w ++ rest) ≡ Some (kinds.Word, length w)
word-front w rest all n h =
    let len : prefix_len is_word_byte (w ++ rest) ≡ length w = run-ends is_word_byte w rest all (no-start is_word_byte rest space-word h) in
    ap (λ k. Some (word_or k (completed (take k (w ++ rest)) (drop k (w ++ rest))))) len
    ∙ ap (λ t. Some (word_or (length w) (completed t (drop (length w) (w ++ rest))))) (taken w rest)
    ∙ ap (λ t. Some (word_or (length w) (completed w t))) (dropped w rest)
    ∙ ap (λ o. Some (word_or (length w) o)) (not-completed w rest h n)

not-true : (b : Bool) → not b ≡ true → b ≡ false
not-true true e = sym e
not-true false e = refl

letter-word : (b : ℕ) → is_letter b ≡ true → is_word_byte b ≡ true
letter-word b h = rw h refl

by-letter : (b : ℕ) (bs : List ℕ) → is_letter b ≡ true → front_of (b ∷ bs) ≡ word_front (b ∷ bs)
by-letter b bs h = rw h refl

word-alone : (w : List ℕ) → is_plain_word w ≡ true → IsAlone kinds.Word w
word-alone [] h = absurd (true≢false (sym h))
word-alone (b ∷ bs) h =
    let l : is_letter b ≡ true = first_of_both (is_letter b) _ h in
    let h1 : (list_all is_word_byte bs && not (is_same_word (codes "_binary") (b ∷ bs))) ≡ true = second_of_both (is_letter b) _ h in
    let all : list_all is_word_byte (b ∷ bs) ≡ true = both-true (is_word_byte b) (list_all is_word_byte bs) (letter-word b l) (first_of_both (list_all is_word_byte bs) _ h1) in
    record {
      some = omega arith;
      alone = λ rest e. piece-is (b ∷ (bs ++ rest)) kinds.Word (length (b ∷ bs))
          (not-blank b (bs ++ rest) (letter-space b l) (same-class is_letter 35 b refl l) (same-class is_letter 45 b refl l) (same-class is_letter 47 b refl l))
          (by-letter b (bs ++ rest) l ∙ word-front (b ∷ bs) rest all (not-true (is_same_word (codes "_binary") (b ∷ bs)) (second_of_both (list_all is_word_byte bs) _ h1)) e);
    }

-- ---- numbers

record IsDecimal (n : ℕ) (ds : List ℕ) : Type 0 where
  pub digits : list_all is_digit ds ≡ true
  pub value : number_from 0 ds ≡ n
  pub some : 1 ≤ length ds

all-more : (p : ℕ → Bool) (xs : List ℕ) (y : ℕ) → list_all p xs ≡ true → p y ≡ true → list_all p (xs ++ y ∷ []) ≡ true
all-more p [] y h k = both-true (p y) true k refl
all-more p (x ∷ xs) y h k = both-true (p x) (list_all p (xs ++ y ∷ [])) (first_of_both (p x) (list_all p xs) h) (all-more p xs y (second_of_both (p x) (list_all p xs) h) k)

number-more : (m : ℕ) (xs : List ℕ) (y : ℕ) → number_from m (xs ++ y ∷ []) ≡ 10 * number_from m xs + (y - 48)
number-more m [] y = refl
number-more m (x ∷ xs) y = number-more (10 * m + (x - 48)) xs y

digit-is : (d : ℕ) → d < 10 → is_digit (48 + d) ≡ true
digit-is d h = grind (arith, nat_tests)

longer : (xs : List ℕ) (y : ℕ) → 1 ≤ length (xs ++ y ∷ [])
longer [] y = omega arith
longer (x ∷ xs) y = omega (arith, longer xs y)

decimal-is : (n : ℕ) → n < 10 ^ 64 → IsDecimal n (decimal n)
decimal-is n h = decimal_by_steps_wide IsDecimal
    (λ n l. record { digits = both-true (is_digit (48 + n)) true (digit-is n l) refl; value = omega arith; some = omega arith })
    (λ n ds l p. record { digits = all-more is_digit ds (48 + n % 10) p.digits (digit-is (n % 10) (omega arith)); value = number-more 0 ds (48 + n % 10) ∙ last n (number_from 0 ds) p.value; some = longer ds (48 + n % 10) }) n h
  where
    last : (n m : ℕ) → m ≡ n / 10 → 10 * m + (48 + n % 10 - 48) ≡ n
    last n m e = omega arith

number-same : (m : ℕ) (ds : List ℕ) → number_from_digits_after 10 m (map (λ b. b - 48) ds) ≡ number_from m ds
number-same m [] = refl
number-same m (d ∷ ds) = ap (λ k. number_from_digits_after 10 k (map (λ b. b - 48) ds)) (let e : m * 10 + (d - 48) ≡ 10 * m + (d - 48) = omega arith in e) ∙ number-same (10 * m + (d - 48)) ds

digit-letter : (b : ℕ) → is_digit b ≡ true → is_letter b ≡ false
digit-letter b h = grind (arith, nat_tests)

digit-space : (b : ℕ) → is_digit b ≡ true → is_space b ≡ false
digit-space b h = grind (arith, nat_tests)

second-no : (a b c : Bool) → b ≡ false → (a && b && c) ≡ false
second-no true b c h = rw h refl
second-no false b c h = refl

not-hex : (b : ℕ) (bs rest : List ℕ) → list_all is_digit bs ≡ true → is_space_or_end true rest ≡ true → begins_hex (b ∷ (bs ++ rest)) ≡ false
not-hex b [] [] h e = refl
not-hex b [] (r ∷ rest) h e = second-no (b == 48) (r == 120) (starts is_hex_digit rest) (space-same 120 r refl e)
not-hex b (c ∷ bs) rest h e = second-no (b == 48) (c == 120) (starts is_hex_digit (bs ++ rest)) (same-class is_digit 120 c refl (first_of_both (is_digit c) (list_all is_digit bs) h))

digits-front : (b : ℕ) (bs rest : List ℕ) → list_all is_digit (b ∷ bs) ≡ true → number_from 0 (b ∷ bs) ≤ greatest → is_space_or_end true rest ≡ true → digits_front (b ∷ (bs ++ rest)) ≡ Some (kinds.Number, length (b ∷ bs))
digits-front b bs rest all small h =
    let len : prefix_len is_digit ((b ∷ bs) ++ rest) ≡ length (b ∷ bs) = run-ends is_digit (b ∷ bs) rest all (no-start is_digit rest space-digit h) in
    rw (not-hex b bs rest (second_of_both (is_digit b) (list_all is_digit bs) all) h)
    (ap (λ k. if_so (nat_le (number_of (take k ((b ∷ bs) ++ rest))) (2 ^ 127 - 1) && not (starts is_word_byte (drop k ((b ∷ bs) ++ rest)))) kinds.Number k) len
    ∙ ap (λ t. if_so (nat_le (number_of t) (2 ^ 127 - 1) && not (starts is_word_byte (drop (length (b ∷ bs)) ((b ∷ bs) ++ rest)))) kinds.Number (length (b ∷ bs))) (taken (b ∷ bs) rest)
    ∙ ap (λ t. if_so (nat_le (number_of (b ∷ bs)) (2 ^ 127 - 1) && not (starts is_word_byte t)) kinds.Number (length (b ∷ bs))) (dropped (b ∷ bs) rest)
    ∙ ap (λ t. if_so t kinds.Number (length (b ∷ bs))) (both-true (nat_le (number_of (b ∷ bs)) (2 ^ 127 - 1)) (not (starts is_word_byte rest))
    (le-leb (number_of (b ∷ bs)) (2 ^ 127 - 1) (omega (arith, number-same 0 (b ∷ bs), small))) (ap not (no-start is_word_byte rest space-word h))))

by-digit : (b : ℕ) (bs : List ℕ) → is_digit b ≡ true → front_of (b ∷ bs) ≡ digits_front (b ∷ bs)
by-digit b bs h = rw (digit-letter b h, h) refl

digits-alone : (n : ℕ) (ds : List ℕ) → n ≤ greatest → IsDecimal n ds → IsAlone kinds.Number ds
digits-alone n [] le d = absurd (omega (arith, d.some))
digits-alone n (b ∷ bs) le d =
    let h : is_digit b ≡ true = first_of_both (is_digit b) (list_all is_digit bs) d.digits in
    record {
      some = omega arith;
      alone = λ rest e. piece-is (b ∷ (bs ++ rest)) kinds.Number (length (b ∷ bs))
          (not-blank b (bs ++ rest) (digit-space b h) (same-class is_digit 35 b refl h) (same-class is_digit 45 b refl h) (same-class is_digit 47 b refl h))
          (by-digit b (bs ++ rest) h ∙ digits-front b bs rest d.digits (omega (arith, d.value, le)) e);
    }

-- ---- signs

lone-front : (a : ℕ) (rest : List ℕ) → is_lone_sign a ≡ true → ((r : ℕ) → is_space r ≡ true → is_double_sign a r ≡ false) → is_space_or_end true rest ≡ true → sign_front (a ∷ rest) ≡ Some (kinds.Sign, 1)
lone-front a [] h f e = rw h refl
lone-front a (r ∷ rest) h f e = rw (f r e, h) refl

abbrev pub known_signs : List (List ℕ)
known_signs = codes "(" ∷ codes ")" ∷ codes "," ∷ codes "=" ∷ codes "<" ∷ codes ">" ∷ codes "+" ∷ codes "-" ∷ codes "*" ∷ codes "<=" ∷ codes ">=" ∷ codes "<>" ∷ []

abbrev IsSign : List ℕ → Type 0
IsSign s = IsAlone kinds.Sign s

-- no white space completes `<` or `>`
not-equal : (r : ℕ) → is_space r ≡ true → (r == 61 || r == 62) ≡ false
not-equal r h = rw (space-same 61 r refl h, space-same 62 r refl h) refl

not-less : (r : ℕ) → is_space r ≡ true → is_double_sign 60 r ≡ false
not-less r h = rw (space-same 61 r refl h, space-same 62 r refl h) refl

not-more : (r : ℕ) → is_space r ≡ true → is_double_sign 62 r ≡ false
not-more r h = rw (space-same 61 r refl h) refl

no-dashes : (rest : List ℕ) → is_space_or_end true rest ≡ true → blank_front true (45 ∷ rest) ≡ 0
no-dashes [] h = refl
no-dashes (r ∷ rest) h = rw (space-same 45 r refl h) refl

open-alone : IsSign (codes "(")
open-alone = record { some = omega arith; alone = λ rest e. piece-is (40 ∷ rest) kinds.Sign 1 refl (lone-front 40 rest refl (λ r h. refl) e) }

close-alone : IsSign (codes ")")
close-alone = record { some = omega arith; alone = λ rest e. piece-is (41 ∷ rest) kinds.Sign 1 refl (lone-front 41 rest refl (λ r h. refl) e) }

comma-alone : IsSign (codes ",")
comma-alone = record { some = omega arith; alone = λ rest e. piece-is (44 ∷ rest) kinds.Sign 1 refl (lone-front 44 rest refl (λ r h. refl) e) }

equal-alone : IsSign (codes "=")
equal-alone = record { some = omega arith; alone = λ rest e. piece-is (61 ∷ rest) kinds.Sign 1 refl (lone-front 61 rest refl (λ r h. refl) e) }

less-alone : IsSign (codes "<")
less-alone = record { some = omega arith; alone = λ rest e. piece-is (60 ∷ rest) kinds.Sign 1 refl (lone-front 60 rest refl not-less e) }

more-alone : IsSign (codes ">")
more-alone = record { some = omega arith; alone = λ rest e. piece-is (62 ∷ rest) kinds.Sign 1 refl (lone-front 62 rest refl not-more e) }

plus-alone : IsSign (codes "+")
plus-alone = record { some = omega arith; alone = λ rest e. piece-is (43 ∷ rest) kinds.Sign 1 refl (lone-front 43 rest refl (λ r h. refl) e) }

minus-alone : IsSign (codes "-")
minus-alone = record { some = omega arith; alone = λ rest e. piece-is (45 ∷ rest) kinds.Sign 1 (no-dashes rest e) (lone-front 45 rest refl (λ r h. refl) e) }

star-alone : IsSign (codes "*")
star-alone = record { some = omega arith; alone = λ rest e. piece-is (42 ∷ rest) kinds.Sign 1 refl (lone-front 42 rest refl (λ r h. refl) e) }

up_to-alone : IsSign (codes "<=")
up_to-alone = record { some = omega arith; alone = λ rest e. piece-is (60 ∷ 61 ∷ rest) kinds.Sign 2 refl refl }

from-alone : IsSign (codes ">=")
from-alone = record { some = omega arith; alone = λ rest e. piece-is (62 ∷ 61 ∷ rest) kinds.Sign 2 refl refl }

unlike-alone : IsSign (codes "<>")
unlike-alone = record { some = omega arith; alone = λ rest e. piece-is (60 ∷ 62 ∷ rest) kinds.Sign 2 refl refl }

-- what holds of each of these holds of the one that is among them
sign-among : (signs : List (List ℕ)) (s : List ℕ) → is_listed signs s ≡ true → Each IsSign signs → IsSign s
sign-among [] s l i = absurd (true≢false (sym l))
sign-among (x ∷ xs) s l i = by (pointwise nat_eq x s) refl l (λ k. sign-among xs s k i.1)
  where
    by : (b : Bool) → pointwise nat_eq x s ≡ b → (b || is_listed xs s) ≡ true → (is_listed xs s ≡ true → IsSign s) → IsSign s
    by true e k more = subst IsSign (equal-where-same x s e) i.0
    by false e k more = more k

sign-alone : (s : List ℕ) → is_listed known_signs s ≡ true → IsSign s
sign-alone s l = sign-among known_signs s l
    (open-alone, (close-alone, (comma-alone, (equal-alone, (less-alone, (more-alone, (plus-alone, (minus-alone, (star-alone, (up_to-alone, (from-alone, (unlike-alone, tt))))))))))))

-- ---- parts

-- the part's own bytes are one token that spells it
abbrev pub is_writable : Part → Bool
is_writable (Keyword word) = is_plain_word word && is_same_word word word
is_writable (Mark sign) = is_listed known_signs sign
is_writable (Name name) = is_name name
is_writable (Count n) = nat_le n greatest
is_writable (Quoted text) = is_ascii_text text
is_writable (Octets bytes) = list_all is_byte bytes
is_writable (Plain word) = is_plain_word word

number-is : (n : ℕ) → nat_le n greatest ≡ true → IsDecimal n (decimal n)
number-is n h = decimal-is n (omega (arith, leb-true n greatest h, wide))
  where
    wide : greatest < 10 ^ 64
    wide = lit< tt

pub part-alone : (p : Part) → is_writable p ≡ true → IsAlone (kind_of p) (bytes_of p)
part-alone (Keyword word) h = word-alone word (first_of_both (is_plain_word word) (is_same_word word word) h)
part-alone (Mark sign) h = sign-alone sign h
part-alone (Name name) h = name-alone name h
part-alone (Count n) h = digits-alone n (decimal n) (leb-true n greatest h) (number-is n h)
part-alone (Quoted text) h = text-alone text h
part-alone (Octets bytes) h = octets-alone bytes h
part-alone (Plain word) h = word-alone word h

pub part-token : (p : Part) → is_writable p ≡ true → IsToken p (kind_of p) (bytes_of p)
part-token (Keyword word) h = (refl, second_of_both (is_plain_word word) (is_same_word word word) h)
part-token (Mark sign) h = (refl, refl)
part-token (Name name) h = name-token name h
part-token (Count n) h = (refl, (number-is n h).value)
part-token (Quoted text) h = (refl, text-token text)
part-token (Octets bytes) h = (refl, octets-token bytes h)
part-token (Plain word) h = (refl, refl)
