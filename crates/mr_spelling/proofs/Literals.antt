-- Numbers, texts and literals.
use Rattle.std.proofs.Common.{◌≡◌, ℕ, suc, ◌-◌, ◌^◌, ◌≤◌, pos, negsuc, List, [], ◌∷◌, length, Bool, true, if◌then◌else◌, nat_lt, Option, Some, None, arith, refl, ap, sym, subst, ◌∙◌}
use Rattle.std.specs.Option.{option_map}
use Rattle.std.proofs.lemmas.Bool.{le-leb, ltb-true}
use Rattle.mr_lex.specs.Reading.{Lexeme}
use Rattle.mr_lex.specs.declared.token.TokenKind.{TokenKind}
use Rattle.mr_lex.specs.declared.token.TokenKind.TheVariants as kinds
use Rattle.mr_types.specs.Grammatical.{is_ascii_text, is_literal}
use Rattle.mr_types.specs.Values.{number_from}
use Rattle.mr_types.specs.declared.value.Value.{Value}
use Rattle.mr_types.specs.declared.value.Value.TheVariants as values
use Rattle.mr_spec.specs.Words.{is_number, is_text, is_bytes, is_word, only_ascii, text_bytes, binary_bytes}
use Rattle.mr_spec.specs.Phrases.{first_kind, number, text, within, word}
use Rattle.mr_spec.specs.Literals.{greatest, binary, literal_by, unsigned_literal, literal}
use Rattle.mr_spelling.specs.Parts.{Part, Count, Quoted, Octets, Plain, IsPart, Spell}
use Rattle.mr_spelling.specs.Spelling.{spelled_literal}
use Rattle.mr_spelling.proofs.Reading.{IsRead, Reads, go, done, want, yes_sign, no_sign}
use Rattle.mr_spelling.proofs.Lists.{IsItem, any_rest}

-- ---- one token

module _ {A : Type 0} (all : List Part) (x : A) where
  one-token : (b : Bool) (o : Option A) (ts : List Lexeme) → b ≡ true → o ≡ Some x → Spell ts all → IsRead x all (if b then option_map (λ y. (y, ts)) o else None)
  one-token b o ts e f s = rw (e, f) (refl, s)

within-some : (least most n : ℕ) → least ≤ n → n ≤ most → within least most n ≡ Some n
within-some least most n h k = rw (le-leb least n h, le-leb n most k) refl

number-all : (least most n : ℕ) (all : List Part) → least ≤ n → n ≤ most → (ts : List Lexeme) → Spell ts (Count n ∷ all) → IsRead n all (number least most ts)
unfolding number
number-all least most n all h k [] s = absurd s
number-all least most n all h k (t ∷ ts) s = one-token all n (is_number t.kind) (within least most (number_from 0 t.bytes)) ts (ap is_number s.0.0) (ap (within least most) s.0.1 ∙ within-some least most n h k) s.1

pub number-reads : (least most n : ℕ) {all : List Part} → least ≤ n → n ≤ most → Reads (number least most) (Count n ∷ all) n all
number-reads least most n {all} h k = record { reads = number-all least most n all h k }

only_ascii-some : (x : List ℕ) → is_ascii_text x ≡ true → only_ascii x ≡ Some x
only_ascii-some x h = rw h refl

text-all : (x : List ℕ) (all : List Part) → is_ascii_text x ≡ true → (ts : List Lexeme) → Spell ts (Quoted x ∷ all) → IsRead x all (text ts)
unfolding text
text-all x all h [] s = absurd s
text-all x all h (t ∷ ts) s = one-token all x (is_text t.kind) (only_ascii (text_bytes t.bytes)) ts (ap is_text s.0.0) (ap only_ascii s.0.1 ∙ only_ascii-some x h) s.1

pub text-reads : {x : List ℕ} {all : List Part} → is_ascii_text x ≡ true → Reads text (Quoted x ∷ all) x all
text-reads {x} {all} h = record { reads = text-all x all h }

word-all : (x : List ℕ) (all : List Part) → is_ascii_text x ≡ true → (ts : List Lexeme) → Spell ts (Plain x ∷ all) → IsRead x all (word ts)
unfolding word
word-all x all h [] s = absurd s
word-all x all h (t ∷ ts) s = one-token all x (is_word t.kind) (only_ascii t.bytes) ts (ap is_word s.0.0) (ap only_ascii s.0.1 ∙ only_ascii-some x h) s.1

pub word-reads : {x : List ℕ} {all : List Part} → is_ascii_text x ≡ true → Reads word (Plain x ∷ all) x all
word-reads {x} {all} h = record { reads = word-all x all h }

binary-token : (x : List ℕ) (all : List Part) (b : Bool) (bytes : List ℕ) (ts : List Lexeme) → b ≡ true → bytes ≡ x → Spell ts all → IsRead x all (if b then Some (bytes, ts) else None)
binary-token x all b bytes ts e f s = rw e (f, s)

binary-all : (x : List ℕ) (all : List Part) (ts : List Lexeme) → Spell ts (Octets x ∷ all) → IsRead x all (binary ts)
unfolding binary
binary-all x all [] s = absurd s
binary-all x all (t ∷ ts) s = binary-token x all (is_bytes t.kind) (binary_bytes t.bytes) ts (ap is_bytes s.0.0) s.0.1 s.1

binary-reads : {x : List ℕ} {all : List Part} → Reads binary (Octets x ∷ all) x all
binary-reads {x} {all} = record { reads = binary-all x all }

-- ---- literals

below-most : (n : ℕ) → nat_lt n (2 ^ 127) ≡ true → n ≤ greatest
below-most n h = omega (arith, ltb-true n (2 ^ 127) h)

below-most-negated : (n : ℕ) → nat_lt n (2 ^ 127 - 1) ≡ true → suc n ≤ greatest
below-most-negated n h = omega (arith, ltb-true n (2 ^ 127 - 1) h)

-- the first token is of this kind
kind-of-first : (ts : List Lexeme) (k : TokenKind) (p : Part) (all : List Part) → ((t : Lexeme) → IsPart p t → t.kind ≡ k) → Spell ts (p ∷ all) → first_kind ts ≡ Some k
unfolding first_kind
kind-of-first [] k p all f s = absurd s
kind-of-first (t ∷ ts) k p all f s = ap Some (f t s.0)

by-kind : {x : Value} {p : Part} {all rest : List Part} (k : TokenKind) → ((t : Lexeme) → IsPart p t → t.kind ≡ k) → Reads (literal_by (Some k)) (p ∷ all) x rest → Reads unsigned_literal (p ∷ all) x rest
unfolding unsigned_literal
by-kind {x} {p} {all} {rest} k f r = record { reads = λ ts s. subst (λ (o : Option TokenKind). IsRead x rest (literal_by o ts)) (sym (kind-of-first ts k p all f s)) (r.reads ts s) }

pub literal-reads : (v : Value) (more : List Part) → is_literal v ≡ true → Reads literal (spelled_literal v more) v more
unfolding literal
literal-reads values.Null more h = no_sign _ _ refl (by-kind kinds.Word (λ t i. i.0) (want _ done))
literal-reads (values.Number (pos n)) more h = no_sign _ _ refl (by-kind kinds.Number (λ t i. i.0) (go _ (number-reads 0 greatest n (omega arith) (below-most n h)) done))
literal-reads (values.Number (negsuc n)) more h = yes_sign _ (go _ (number-reads 0 greatest (suc n) (omega arith) (below-most-negated n h)) done)
literal-reads (values.Text x) more h = no_sign _ _ refl (by-kind kinds.Text (λ t i. i.0) (go _ (text-reads h) done))
literal-reads (values.Bytes x) more h = no_sign _ _ refl (by-kind kinds.Bytes (λ t i. i.0) (go _ binary-reads done))

pub literal-grows : (v : Value) (more : List Part) → suc (length more) ≤ length (spelled_literal v more)
literal-grows values.Null more = omega arith
literal-grows (values.Number (pos n)) more = omega arith
literal-grows (values.Number (negsuc n)) more = omega arith
literal-grows (values.Text x) more = omega arith
literal-grows (values.Bytes x) more = omega arith

pub literal-item : (v : Value) → is_literal v ≡ true → IsItem literal spelled_literal any_rest v
literal-item v h = record { grows = literal-grows v; reads = λ more c. literal-reads v more h }
