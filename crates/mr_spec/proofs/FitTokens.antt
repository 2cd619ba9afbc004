-- Names, texts, numbers and literals fit the tokens that they stand in.
use Rattle.std.proofs.Common.{◌≡◌, ℕ, zero, suc, ◌+◌, ◌-◌, ◌*◌, ◌%◌, ◌^◌, ◌≤◌, ◌<◌, List, [], ◌∷◌, ◌++◌, length, drop, Bool, true, false, not, if◌then◌else◌, ◌&&◌, ◌||◌, ◌==◌, nat_lt, nat_le, Option, Some, None, arith, refl, sym, pos}
use Rattle.std.specs.List.{list_all, prefix_len}
use Rattle.std.specs.Option.{option_map}
use Rattle.std.proofs.lemmas.Bool.{lt-ltb, leb-true}
use Rattle.std.proofs.lemmas.Grind.{common_steps}
use Rattle.mr_lex.specs.Bytes.{is_space}
use Rattle.mr_lex.specs.Tokens.{without_spaces}
use Rattle.mr_lex.specs.Reading.{Lexeme}
use Rattle.mr_lex.specs.declared.token.TokenKind.{TokenKind}
use Rattle.mr_lex.specs.declared.token.TokenKind.TheVariants as kinds
use Rattle.mr_types.specs.Grammatical.{is_name, is_literal, is_ascii_text, is_written, is_empty}
use Rattle.mr_types.specs.Sizes.{name_size, literal_size}
use Rattle.mr_types.specs.Values.{negated, number_from}
use Rattle.mr_types.specs.declared.value.Value.TheVariants as values
use Rattle.mr_spec.specs.Words.{is_word, is_text, is_number, is_bytes, is_reserved, undoubled, escaped, escaped_byte, unescaped, text_bytes, hex_value, pairs_bytes, padded_bytes, binary_bytes, only_name, only_ascii, name_in}
use Rattle.mr_spec.specs.Phrases.{Outcome, name, word, text, number, within, behind, first_kind}
use Rattle.mr_spec.specs.Literals.{literal, unsigned_literal, literal_by, binary, greatest}
use Rattle.mr_spec.proofs.Fitting.{From, Good, AreTokens, weight, bind, given, none, eaten_sign, expected, both, first_holds, second_holds}

abbrev is_byte : ℕ → Bool
is_byte b = nat_lt b 256

abbrev Taken : {A : Type 0} → (A → Bool) → (A → ℕ) → ℕ → Option A → Type 0
Taken ok size n None = Unit {0}
Taken ok size n (Some x) = (ok x ≡ true) × (size x ≤ n)

kept : {A : Type 0} (ok : A → Bool) (size : A → ℕ) (x : A) (n : ℕ) → size x ≤ n → (b : Bool) → b ≡ ok x → Taken ok size n (if b then Some x else None)
kept ok size x n le true e = (sym e, le)
kept ok size x n le false e = tt

-- a value that the first token gives
put : {A : Type 0} (ok : A → Bool) (size : A → ℕ) (m n : ℕ) (o : Option A) (rest : List Lexeme) → Taken ok size m o → AreTokens rest → m + weight rest ≤ n → Good ok size n (option_map (λ x. (x, rest)) o)
put ok size m n None rest t h le = tt
put ok size m n (Some x) rest t h le = (t.0, omega (arith, t.1, le), h)

put_where : {A : Type 0} (ok : A → Bool) (size : A → ℕ) (n : ℕ) (b : Bool) (o : Outcome A) → Good ok size n o → Good ok size n (if b then o else None)
put_where ok size n true o g = g
put_where ok size n false o g = tt

either_length : (b : Bool) (x y : List ℕ) (n : ℕ) → length x ≤ n → length y ≤ n → length (if b then x else y) ≤ n
either_length true x y n h k = h
either_length false x y n h k = k

either_bytes : (b : Bool) (x y : List ℕ) → list_all is_byte x ≡ true → list_all is_byte y ≡ true → list_all is_byte (if b then x else y) ≡ true
either_bytes true x y h k = h
either_bytes false x y h k = k

-- ---- names

undoubled-shorter : (q : ℕ) (bs : List ℕ) → length (undoubled q bs) ≤ length bs
undoubled-shorter q [] = omega arith
undoubled-shorter q (a ∷ []) = omega arith
undoubled-shorter q (a ∷ b ∷ bs) = either_length (a == q) (a ∷ undoubled q bs) (a ∷ undoubled q (b ∷ bs)) (suc (suc (length bs))) (omega (arith, undoubled-shorter q bs)) (omega (arith, undoubled-shorter q (b ∷ bs)))

behind_one-shorter : (bs : List ℕ) → length (drop 1 bs) ≤ length bs
behind_one-shorter [] = omega arith
behind_one-shorter (b ∷ bs) = omega arith

only_name-taken : (name : List ℕ) (n : ℕ) → length name ≤ n → Taken is_name name_size n (only_name name)
only_name-taken name n le = kept is_name name_size name n le (is_name name) refl

word_name : (b : Bool) (bytes : List ℕ) → Taken is_name name_size (length bytes) (if b then None else only_name bytes)
word_name true bytes = tt
word_name false bytes = only_name-taken bytes (length bytes) (omega arith)

name_in-taken : (k : TokenKind) (bytes : List ℕ) → Taken is_name name_size (length bytes) (name_in k bytes)
unfolding name_in
name_in-taken kinds.Word bytes = word_name (is_reserved bytes) bytes
name_in-taken kinds.QuotedName bytes = only_name-taken (undoubled 96 (drop 1 bytes)) (length bytes) (omega (arith, undoubled-shorter 96 (drop 1 bytes), behind_one-shorter bytes))
name_in-taken kinds.Number bytes = tt
name_in-taken kinds.Text bytes = tt
name_in-taken kinds.Bytes bytes = tt
name_in-taken kinds.Sign bytes = tt

name-good : (ts : List Lexeme) → AreTokens ts → Good is_name name_size (0 + weight ts) (name ts)
unfolding name behind
name-good [] h = tt
name-good (t ∷ ts) h = put is_name name_size (length t.bytes) (0 + weight (t ∷ ts)) (name_in t.kind t.bytes) ts (name_in-taken t.kind t.bytes) h.2 (omega arith)

pub name-fits : From is_name name_size 0 name
name-fits = record { good = name-good }

-- ---- words and texts

-- what ENGINE may have behind it
abbrev pub is_engine : List ℕ → Bool
is_engine word = not (is_empty word) && is_ascii_text word

some_bytes : (w : List ℕ) → 1 ≤ length w → not (is_empty w) ≡ true
some_bytes [] h = grind arith
some_bytes (b ∷ w) h = refl

word-taken : (w : List ℕ) → 1 ≤ length w → (b : Bool) → b ≡ is_ascii_text w → Taken is_engine name_size (length w) (if b then Some w else None)
word-taken w h true e = (both (some_bytes w h) (sym e), omega arith)
word-taken w h false e = tt

word-good : (ts : List Lexeme) → AreTokens ts → Good is_engine name_size (0 + weight ts) (word ts)
unfolding word
word-good [] h = tt
word-good (t ∷ ts) h = put_where is_engine name_size (0 + weight (t ∷ ts)) (is_word t.kind) (option_map (λ w. (w, ts)) (only_ascii t.bytes))
    (put is_engine name_size (length t.bytes) (0 + weight (t ∷ ts)) (only_ascii t.bytes) ts (word-taken t.bytes h.0 (is_ascii_text t.bytes) refl) h.2 (omega arith))

pub word-fits : From is_engine name_size 0 word
word-fits = record { good = word-good }

escaped-short : (b : ℕ) → length (escaped b) ≤ 2
unfolding escaped
escaped-short b = either_length (b == 37 || b == 95) (92 ∷ escaped_byte b ∷ []) (escaped_byte b ∷ []) 2 (omega arith) (omega arith)

length-joined : (x y : List ℕ) → length (x ++ y) ≡ length x + length y
length-joined [] y = omega arith
length-joined (a ∷ x) y = omega (arith, length-joined x y)

unescaped-shorter : (q : ℕ) (bs : List ℕ) → length (unescaped q bs) ≤ length bs
unescaped-shorter q [] = omega arith
unescaped-shorter q (a ∷ []) = omega arith
unescaped-shorter q (a ∷ b ∷ bs) = either_length (a == q) (a ∷ unescaped q bs) (if a == 92 then escaped b ++ unescaped q bs else a ∷ unescaped q (b ∷ bs)) (suc (suc (length bs)))
    (omega (arith, unescaped-shorter q bs))
    (either_length (a == 92) (escaped b ++ unescaped q bs) (a ∷ unescaped q (b ∷ bs)) (suc (suc (length bs)))
    (omega (arith, length-joined (escaped b) (unescaped q bs), escaped-short b, unescaped-shorter q bs)) (omega (arith, unescaped-shorter q (b ∷ bs))))

-- a byte more than the text has
abbrev pub text_size : List ℕ → ℕ
text_size text = 1 + length text

text_bytes-shorter : (bs : List ℕ) → 1 ≤ length bs → 1 + length (text_bytes bs) ≤ length bs
unfolding text_bytes
text_bytes-shorter [] h = omega (arith, h)
text_bytes-shorter (q ∷ bs) h = omega (arith, unescaped-shorter q bs)

text-good : (ts : List Lexeme) → AreTokens ts → Good is_ascii_text text_size (0 + weight ts) (text ts)
unfolding text
text-good [] h = tt
text-good (t ∷ ts) h = put_where is_ascii_text text_size (0 + weight (t ∷ ts)) (is_text t.kind) (option_map (λ w. (w, ts)) (only_ascii (text_bytes t.bytes)))
    (put is_ascii_text text_size (length t.bytes) (0 + weight (t ∷ ts)) (only_ascii (text_bytes t.bytes)) ts
    (kept is_ascii_text text_size (text_bytes t.bytes) (length t.bytes) (text_bytes-shorter t.bytes h.0) (is_ascii_text (text_bytes t.bytes)) refl) h.2 (omega arith))

pub text-fits : From is_ascii_text text_size 0 text
text-fits = record { good = text-good }

-- ---- numbers

abbrev pub one : ℕ → ℕ
one n = 1

within-taken : (least most n : ℕ) → Taken (λ x. nat_le least x && nat_le x most) one 1 (within least most n)
within-taken least most n = kept (λ x. nat_le least x && nat_le x most) one n 1 (omega arith) (nat_le least n && nat_le n most) refl

number-good : (least most : ℕ) (ts : List Lexeme) → AreTokens ts → Good (λ x. nat_le least x && nat_le x most) one (0 + weight ts) (number least most ts)
unfolding number
number-good least most [] h = tt
number-good least most (t ∷ ts) h = put_where (λ x. nat_le least x && nat_le x most) one (0 + weight (t ∷ ts)) (is_number t.kind) (option_map (λ n. (n, ts)) (within least most (number_from 0 t.bytes)))
    (put (λ x. nat_le least x && nat_le x most) one 1 (0 + weight (t ∷ ts)) (within least most (number_from 0 t.bytes)) ts (within-taken least most (number_from 0 t.bytes)) h.2 (omega (arith, h.0)))

pub number-fits : (least most : ℕ) → From (λ x. nat_le least x && nat_le x most) one 0 (number least most)
number-fits least most = record { good = number-good least most }

pub below_most : (most n : ℕ) → (nat_le 0 n && nat_le n most) ≡ true → n ≤ most
below_most most n e = leb-true n most (second_holds (nat_le 0 n) (nat_le n most) e)

written-plain : (n : ℕ) → n ≤ greatest → is_written (pos n) ≡ true
written-plain n h = lt-ltb n (2 ^ 127) (omega (arith, h))

written-negated : (n : ℕ) → n ≤ greatest → is_written (negated n) ≡ true
written-negated zero h = refl
written-negated (suc n) h = lt-ltb n (2 ^ 127 - 1) (omega (arith, h))

-- ---- bytes

all-joined : (x y : List ℕ) → list_all is_byte x ≡ true → list_all is_byte y ≡ true → list_all is_byte (x ++ y) ≡ true
all-joined [] y h k = k
all-joined (a ∷ x) y h k = both (first_holds (is_byte a) (list_all is_byte x) h) (all-joined x y (second_holds (is_byte a) (list_all is_byte x) h) k)

all-behind : (n : ℕ) (x : List ℕ) → list_all is_byte x ≡ true → list_all is_byte (drop n x) ≡ true
all-behind zero x h = h
all-behind (suc n) [] h = refl
all-behind (suc n) (a ∷ x) h = all-behind n x (second_holds (is_byte a) (list_all is_byte x) h)

behind-shorter : (n : ℕ) (x : List ℕ) → length (drop n x) ≤ length x
behind-shorter zero x = omega arith
behind-shorter (suc n) [] = omega arith
behind-shorter (suc n) (a ∷ x) = omega (arith, behind-shorter n x)

either_byte : (b : Bool) (x y : ℕ) → is_byte x ≡ true → is_byte y ≡ true → is_byte (if b then x else y) ≡ true
either_byte true x y h k = h
either_byte false x y h k = k

escaped_byte-byte : (b : ℕ) → is_byte b ≡ true → is_byte (escaped_byte b) ≡ true
unfolding escaped_byte
escaped_byte-byte b h = either_byte (b == 48) _ _ refl (either_byte (b == 98) _ _ refl (either_byte (b == 110) _ _ refl (either_byte (b == 114) _ _ refl (either_byte (b == 116) _ _ refl (either_byte (b == 90) _ _ refl h)))))

escaped-bytes : (b : ℕ) → is_byte b ≡ true → list_all is_byte (escaped b) ≡ true
unfolding escaped
escaped-bytes b h = either_bytes (b == 37 || b == 95) (92 ∷ escaped_byte b ∷ []) (escaped_byte b ∷ []) (both refl (both (escaped_byte-byte b h) refl)) (both (escaped_byte-byte b h) refl)

unescaped-bytes : (q : ℕ) (bs : List ℕ) → list_all is_byte bs ≡ true → list_all is_byte (unescaped q bs) ≡ true
unescaped-bytes q [] h = refl
unescaped-bytes q (a ∷ []) h = refl
unescaped-bytes q (a ∷ b ∷ bs) h =
    let ha = first_holds (is_byte a) (list_all is_byte (b ∷ bs)) h in
    let hb = second_holds (is_byte a) (list_all is_byte (b ∷ bs)) h in
    let hs = second_holds (is_byte b) (list_all is_byte bs) hb in
    either_bytes (a == q) (a ∷ unescaped q bs) (if a == 92 then escaped b ++ unescaped q bs else a ∷ unescaped q (b ∷ bs))
    (both ha (unescaped-bytes q bs hs))
    (either_bytes (a == 92) (escaped b ++ unescaped q bs) (a ∷ unescaped q (b ∷ bs))
    (all-joined (escaped b) (unescaped q bs) (escaped-bytes b (first_holds (is_byte b) (list_all is_byte bs) hb)) (unescaped-bytes q bs hs)) (both ha (unescaped-bytes q (b ∷ bs) hb)))

text_bytes-bytes : (bs : List ℕ) → list_all is_byte bs ≡ true → list_all is_byte (text_bytes bs) ≡ true
unfolding text_bytes
text_bytes-bytes [] h = refl
text_bytes-bytes (q ∷ bs) h = unescaped-bytes q bs (second_holds (is_byte q) (list_all is_byte bs) h)

text_bytes-not_longer : (bs : List ℕ) → length (text_bytes bs) ≤ length bs
unfolding text_bytes
text_bytes-not_longer [] = omega arith
text_bytes-not_longer (q ∷ bs) = omega (arith, unescaped-shorter q bs)

hex_value-small : (b : ℕ) → hex_value b < 16
unfolding hex_value
hex_value-small b = grind (arith, common_steps)

pair-byte : (a b : ℕ) → is_byte (16 * hex_value a + hex_value b) ≡ true
pair-byte a b = lt-ltb (16 * hex_value a + hex_value b) 256 (omega (arith, hex_value-small a, hex_value-small b))

pairs-bytes : (ds : List ℕ) → list_all is_byte (pairs_bytes ds) ≡ true
pairs-bytes [] = refl
pairs-bytes (a ∷ []) = refl
pairs-bytes (a ∷ b ∷ bs) = both (pair-byte a b) (pairs-bytes bs)

pairs-shorter : (ds : List ℕ) → 2 * length (pairs_bytes ds) ≤ length ds
pairs-shorter [] = omega arith
pairs-shorter (a ∷ []) = omega arith
pairs-shorter (a ∷ b ∷ bs) = omega (arith, pairs-shorter bs)

padded-bytes : (ds : List ℕ) → list_all is_byte (padded_bytes ds) ≡ true
unfolding padded_bytes
padded-bytes ds = either_bytes (length ds % 2 == 1) (pairs_bytes (48 ∷ ds)) (pairs_bytes ds) (pairs-bytes (48 ∷ ds)) (pairs-bytes ds)

padded-shorter : (ds : List ℕ) → length (padded_bytes ds) ≤ length ds
unfolding padded_bytes
padded-shorter ds = either_length (length ds % 2 == 1) (pairs_bytes (48 ∷ ds)) (pairs_bytes ds) (length ds) (omega (arith, pairs-shorter (48 ∷ ds))) (omega (arith, pairs-shorter ds))

without_spaces-bytes : (x : List ℕ) → list_all is_byte x ≡ true → list_all is_byte (without_spaces x) ≡ true
without_spaces-bytes x h = all-behind (prefix_len is_space x) x h

binary-bytes : (bs : List ℕ) → list_all is_byte bs ≡ true → list_all is_byte (binary_bytes bs) ≡ true
unfolding binary_bytes
binary-bytes [] h = refl
binary-bytes (b ∷ bs) h =
    let hs = second_holds (is_byte b) (list_all is_byte bs) h in
    either_bytes (b == 48) (padded_bytes (drop 1 bs)) (if b == 95 then text_bytes (without_spaces (drop 6 bs)) else pairs_bytes (drop 1 bs)) (padded-bytes (drop 1 bs))
    (either_bytes (b == 95) (text_bytes (without_spaces (drop 6 bs))) (pairs_bytes (drop 1 bs)) (text_bytes-bytes (without_spaces (drop 6 bs)) (without_spaces-bytes (drop 6 bs) (all-behind 6 bs hs))) (pairs-bytes (drop 1 bs)))

binary-shorter : (bs : List ℕ) → 1 ≤ length bs → 1 + length (binary_bytes bs) ≤ length bs
unfolding binary_bytes
binary-shorter [] h = omega (arith, h)
binary-shorter (b ∷ bs) h =
    let le = either_length (b == 48) (padded_bytes (drop 1 bs)) (if b == 95 then text_bytes (without_spaces (drop 6 bs)) else pairs_bytes (drop 1 bs)) (length bs) (omega (arith, padded-shorter (drop 1 bs), behind-shorter 1 bs))
    (either_length (b == 95) (text_bytes (without_spaces (drop 6 bs))) (pairs_bytes (drop 1 bs)) (length bs)
    (omega (arith, text_bytes-not_longer (without_spaces (drop 6 bs)), behind-shorter (prefix_len is_space (drop 6 bs)) (drop 6 bs), behind-shorter 6 bs)) (omega (arith, pairs-shorter (drop 1 bs), behind-shorter 1 bs))) in
    omega (arith, le)

binary-good : (ts : List Lexeme) → AreTokens ts → Good (list_all is_byte) text_size (0 + weight ts) (binary ts)
unfolding binary
binary-good [] h = tt
binary-good (t ∷ ts) h = put_where (list_all is_byte) text_size (0 + weight (t ∷ ts)) (is_bytes t.kind) (Some (binary_bytes t.bytes, ts)) (binary-bytes t.bytes h.1, omega (arith, binary-shorter t.bytes h.0), h.2)

pub binary-fits : From (list_all is_byte) text_size 0 binary
binary-fits = record { good = binary-good }

-- ---- literals

literal_by-fits : (kind : Option TokenKind) → From is_literal literal_size 0 (literal_by kind)
literal_by-fits (Some kinds.Number) = bind (number-fits 0 greatest) (λ n e. given (values.Number (pos n)) (written-plain n (below_most greatest n e)) (omega arith))
literal_by-fits (Some kinds.Text) = bind text-fits (λ t e. given (values.Text t) e (omega arith))
literal_by-fits (Some kinds.Bytes) = bind binary-fits (λ b e. given (values.Bytes b) e (omega arith))
literal_by-fits (Some kinds.Word) = expected _ _ (given values.Null refl (omega arith))
literal_by-fits (Some kinds.QuotedName) = none
literal_by-fits (Some kinds.Sign) = none
literal_by-fits None = none

unsigned_literal-fits : From is_literal literal_size 0 unsigned_literal
unfolding unsigned_literal
unsigned_literal-fits = record { good = λ ts h. (literal_by-fits (first_kind ts)).good ts h }

pub literal-fits : From is_literal literal_size 0 literal
unfolding literal
literal-fits = eaten_sign _ (bind (number-fits 0 greatest) (λ n e. given (values.Number (negated n)) (written-negated n (below_most greatest n e)) (omega arith))) unsigned_literal-fits
