-- Phrases that read what is spelled.
use Rattle.std.proofs.Common.{◌≡◌, ℕ, suc, ◌≤◌, List, [], ◌∷◌, length, map, Bool, true, false, true≢false, if◌then◌else◌, not, ◌&&◌, ◌||◌, nat_eq, Option, Some, None, codes, arith, refl, ap, sym, subst, ◌∙◌}
use Rattle.std.specs.List.{list_all}
use Rattle.std.specs.Option.{option_map}
use Rattle.std.specs.Cmp.Lexicographic.{pointwise}
use Rattle.mr_lex.specs.Reading.{Lexeme}
use Rattle.mr_lex.specs.Tokens.{is_same_word, lowered}
use Rattle.mr_lex.specs.declared.token.TokenKind.{TokenKind}
use Rattle.mr_lex.specs.declared.token.TokenKind.TheVariants as kinds
use Rattle.mr_spec.specs.Words.{is_word, is_sign_kind, is_keyword, is_sign, is_reserved, is_among, reserved, name_in, is_namelike, only_name}
use Rattle.mr_spec.specs.Phrases.{Outcome, Phrase, and_then, ◌>>=◌, pure, check, eat, eat_sign, maybe, maybe_sign, expect, expect_sign, sees, sees_sign, after, after_sign, behind, begins_name, name}
use Rattle.mr_spelling.specs.Parts.{Part, Keyword, Mark, Name, Count, Quoted, Octets, Plain, IsPart, Spell}

-- ---- what a phrase reads

-- the value, and tokens that spell the rest
abbrev pub IsRead : {A : Type 0} → A → List Part → Outcome A → Type 0
IsRead x rest None = ⊥
IsRead x rest (Some p) = (p.0 ≡ x) × Spell p.1 rest

-- from whatever tokens spell all of these parts the phrase reads the value and leaves those of the rest
pub record Reads {A : Type 0} (p : Phrase A) (all : List Part) (x : A) (rest : List Part) : Type 0 where
  pub reads : (ts : List Lexeme) → Spell ts all → IsRead x rest (p ts)

next : {A B : Type 0} (o : Outcome A) (f : A → Phrase B) (x : A) (mid : List Part) (y : B) (rest : List Part) → IsRead x mid o → Reads (f x) mid y rest → IsRead y rest (and_then o f)
next None f x mid y rest r g = absurd r
next (Some p) f x mid y rest r g = subst (λ z. IsRead y rest (f z p.1)) (sym r.0) (g.reads p.1 r.1)

-- this, and behind it that
pub go : {A B : Type 0} {p : Phrase A} {all mid rest : List Part} {x : A} {y : B} (f : A → Phrase B) → Reads p all x mid → Reads (f x) mid y rest → Reads (p >>= f) all y rest
go {A} {B} {p} {all} {mid} {rest} {x} {y} f r g = record { reads = λ ts s. next (p ts) f x mid y rest (r.reads ts s) g }

pub done : {A : Type 0} {x : A} {all : List Part} → Reads (pure x) all x all
done = record { reads = λ ts s. (refl, s) }

pub done_as : {A : Type 0} {x y : A} {all : List Part} → x ≡ y → Reads (pure x) all y all
done_as e = record { reads = λ ts s. (e, s) }

pub checked : {B : Type 0} {b : Bool} {all rest : List Part} {y : B} (f : Unit {0} → Phrase B) → b ≡ true → Reads (f tt) all y rest → Reads (check b >>= f) all y rest
unfolding check
checked {B} {b} {all} {rest} {y} f e r = record { reads = λ ts s. rw e (r.reads ts s) }

-- ---- keywords

pub same-itself : (a : List ℕ) → pointwise nat_eq a a ≡ true
same-itself [] = refl
same-itself (x ∷ xs) = grind (arith, same-itself xs)

pub equal-where-same : (a b : List ℕ) → pointwise nat_eq a b ≡ true → a ≡ b
equal-where-same [] [] e = refl
equal-where-same [] (y ∷ ys) e = cc
equal-where-same (x ∷ xs) [] e = cc
equal-where-same (x ∷ xs) (y ∷ ys) e = grind (arith, equal-where-same xs ys)

-- words that are no names, and that may stand where a name stands
abbrev never_names : List (List ℕ)
never_names = codes "primary" ∷ codes "unique" ∷ codes "key" ∷ codes "index" ∷ codes "if" ∷ codes "default" ∷ codes "not" ∷ []

abbrev pub is_listed : List (List ℕ) → List ℕ → Bool
is_listed [] word = false
is_listed (w ∷ ws) word = pointwise nat_eq w word || is_listed ws word

-- the keyword doesn't come next
abbrev pub lacks : List ℕ → List Part → Bool
lacks word [] = true
lacks word (Keyword w ∷ ps) = not (pointwise nat_eq word w)
lacks word (Name n ∷ ps) = is_listed never_names word
lacks word (Plain w ∷ ps) = false
lacks word (Mark s ∷ ps) = true
lacks word (Count n ∷ ps) = true
lacks word (Quoted t ∷ ps) = true
lacks word (Octets b ∷ ps) = true

-- a token of another kind is no keyword
other-kind : (word : List ℕ) (t : Lexeme) (k : TokenKind) → t.kind ≡ k → is_word k ≡ false → is_keyword word t ≡ false
unfolding is_keyword
other-kind word t k e w = ap (λ x. is_word x && is_same_word word t.bytes) e ∙ ap (λ b. b && is_same_word word t.bytes) w

keyword-as : (word w : List ℕ) (t : Lexeme) → IsPart (Keyword w) t → is_keyword word t ≡ pointwise nat_eq word w
unfolding is_keyword
keyword-as word w t h = ap (λ x. is_word x && is_same_word word t.bytes) h.0 ∙ ap (pointwise nat_eq word) (sym (equal-where-same w (map lowered t.bytes) h.1))

or-first : (a b : Bool) → (a || b) ≡ false → a ≡ false
or-first true b e = e
or-first false b e = refl

or-second : (a b : Bool) → (a || b) ≡ false → b ≡ false
or-second true b e = absurd (true≢false e)
or-second false b e = e

not-among : (ws : List (List ℕ)) (word bytes : List ℕ) → is_among ws bytes ≡ false → is_listed ws word ≡ true → is_same_word word bytes ≡ false
not-among [] word bytes h l = absurd (true≢false (sym l))
not-among (w ∷ ws) word bytes h l = by_first (pointwise nat_eq w word) refl l (not-among ws word bytes (or-second (is_same_word w bytes) (is_among ws bytes) h))
  where
    by_first : (b : Bool) → pointwise nat_eq w word ≡ b → (b || is_listed ws word) ≡ true → (is_listed ws word ≡ true → is_same_word word bytes ≡ false) → is_same_word word bytes ≡ false
    by_first true e k more = ap (λ x. is_same_word x bytes) (sym (equal-where-same w word e)) ∙ or-first (is_same_word w bytes) (is_among ws bytes) h
    by_first false e k more = more k

-- each of these is reserved
listed-there : (ws vs : List (List ℕ)) (word : List ℕ) → list_all (is_listed vs) ws ≡ true → is_listed ws word ≡ true → is_listed vs word ≡ true
listed-there [] vs word all l = absurd (true≢false (sym l))
listed-there (w ∷ ws) vs word all l = by_first (pointwise nat_eq w word) (is_listed vs w) refl refl all l (listed-there ws vs word)
  where
    by_first : (b c : Bool) → pointwise nat_eq w word ≡ b → is_listed vs w ≡ c → (c && list_all (is_listed vs) ws) ≡ true → (b || is_listed ws word) ≡ true
        → (list_all (is_listed vs) ws ≡ true → is_listed ws word ≡ true → is_listed vs word ≡ true) → is_listed vs word ≡ true
    by_first true true e f k m more = ap (is_listed vs) (sym (equal-where-same w word e)) ∙ f
    by_first true false e f k m more = absurd (true≢false (sym k))
    by_first false true e f k m more = more k m
    by_first false false e f k m more = absurd (true≢false (sym k))

never-reserved : list_all (is_listed reserved) never_names ≡ true
unfolding reserved
never-reserved = refl

some-none : {A : Type 0} (x : A) → None ≡ Some x → ⊥
some-none x e = cc

some-value : {A : Type 0} (x y : A) → Some x ≡ Some y → x ≡ y
some-value x y e = cc

name-word : (b : Bool) (bytes called : List ℕ) → (if b then None else only_name bytes) ≡ Some called → b ≡ false
name-word true bytes called e = absurd (some-none called e)
name-word false bytes called e = refl

no-name-keyword : (word : List ℕ) (k : TokenKind) (bytes called : List ℕ) → name_in k bytes ≡ Some called → is_listed never_names word ≡ true → (is_word k && is_same_word word bytes) ≡ false
unfolding name_in is_reserved
no-name-keyword word kinds.Word bytes called e l = not-among reserved word bytes (name-word (is_reserved bytes) bytes called e) (listed-there never_names reserved word never-reserved l)
no-name-keyword word kinds.QuotedName bytes called e l = refl
no-name-keyword word kinds.Number bytes called e l = refl
no-name-keyword word kinds.Text bytes called e l = refl
no-name-keyword word kinds.Bytes bytes called e l = refl
no-name-keyword word kinds.Sign bytes called e l = refl

name-as : (word : List ℕ) (t : Lexeme) (n : List ℕ) → IsPart (Name n) t → is_listed never_names word ≡ true → is_keyword word t ≡ false
unfolding is_keyword
name-as word t n h l = no-name-keyword word t.kind t.bytes n h l

not-true : (b : Bool) → not b ≡ true → b ≡ false
not-true true e = sym e
not-true false e = refl

pub unseen : (word : List ℕ) (ts : List Lexeme) (all : List Part) → Spell ts all → lacks word all ≡ true → sees word ts ≡ false
unfolding sees
unseen word [] [] s l = refl
unseen word [] (p ∷ ps) s l = absurd s
unseen word (t ∷ ts) [] s l = absurd s
unseen word (t ∷ ts) (Keyword w ∷ ps) s l = keyword-as word w t s.0 ∙ not-true (pointwise nat_eq word w) l
unseen word (t ∷ ts) (Mark m ∷ ps) s l = other-kind word t kinds.Sign s.0.0 refl
unseen word (t ∷ ts) (Name n ∷ ps) s l = name-as word t n s.0 l
unseen word (t ∷ ts) (Count n ∷ ps) s l = other-kind word t kinds.Number s.0.0 refl
unseen word (t ∷ ts) (Quoted x ∷ ps) s l = other-kind word t kinds.Text s.0.0 refl
unseen word (t ∷ ts) (Octets x ∷ ps) s l = other-kind word t kinds.Bytes s.0.0 refl
unseen word (t ∷ ts) (Plain w ∷ ps) s l = absurd (true≢false (sym l))

-- ---- signs

-- the sign doesn't come next
abbrev pub lacks_sign : List ℕ → List Part → Bool
lacks_sign sign (Mark s ∷ ps) = not (pointwise nat_eq s sign)
lacks_sign sign _ = true

other-sign : (sign : List ℕ) (t : Lexeme) (k : TokenKind) → t.kind ≡ k → is_sign_kind k ≡ false → is_sign sign t ≡ false
unfolding is_sign
other-sign sign t k e w = ap (λ x. is_sign_kind x && pointwise nat_eq t.bytes sign) e ∙ ap (λ b. b && pointwise nat_eq t.bytes sign) w

sign-as : (sign s : List ℕ) (t : Lexeme) → IsPart (Mark s) t → is_sign sign t ≡ pointwise nat_eq s sign
unfolding is_sign
sign-as sign s t h = ap (λ x. is_sign_kind x && pointwise nat_eq t.bytes sign) h.0 ∙ ap (λ b. pointwise nat_eq b sign) h.1

no-name-sign : (k : TokenKind) (bytes called : List ℕ) (b : Bool) → name_in k bytes ≡ Some called → (is_sign_kind k && b) ≡ false
unfolding name_in
no-name-sign kinds.Word bytes called b e = refl
no-name-sign kinds.QuotedName bytes called b e = refl
no-name-sign kinds.Number bytes called b e = refl
no-name-sign kinds.Text bytes called b e = refl
no-name-sign kinds.Bytes bytes called b e = refl
no-name-sign kinds.Sign bytes called b e = absurd (some-none called e)

name-no-sign : (sign : List ℕ) (t : Lexeme) (n : List ℕ) → IsPart (Name n) t → is_sign sign t ≡ false
unfolding is_sign
name-no-sign sign t n h = no-name-sign t.kind t.bytes n (pointwise nat_eq t.bytes sign) h

pub unseen-sign : (sign : List ℕ) (ts : List Lexeme) (all : List Part) → Spell ts all → lacks_sign sign all ≡ true → sees_sign sign ts ≡ false
unfolding sees_sign
unseen-sign sign [] [] s l = refl
unseen-sign sign [] (p ∷ ps) s l = absurd s
unseen-sign sign (t ∷ ts) [] s l = absurd s
unseen-sign sign (t ∷ ts) (Keyword w ∷ ps) s l = other-sign sign t kinds.Word s.0.0 refl
unseen-sign sign (t ∷ ts) (Mark m ∷ ps) s l = sign-as sign m t s.0 ∙ not-true (pointwise nat_eq m sign) l
unseen-sign sign (t ∷ ts) (Name n ∷ ps) s l = name-no-sign sign t n s.0
unseen-sign sign (t ∷ ts) (Count n ∷ ps) s l = other-sign sign t kinds.Number s.0.0 refl
unseen-sign sign (t ∷ ts) (Quoted x ∷ ps) s l = other-sign sign t kinds.Text s.0.0 refl
unseen-sign sign (t ∷ ts) (Octets x ∷ ps) s l = other-sign sign t kinds.Bytes s.0.0 refl
unseen-sign sign (t ∷ ts) (Plain w ∷ ps) s l = other-sign sign t kinds.Word s.0.0 refl

-- ---- phrases of one token

pub seen : (word : List ℕ) (t : Lexeme) (ts : List Lexeme) → IsPart (Keyword word) t → sees word (t ∷ ts) ≡ true
unfolding sees
seen word t ts h = keyword-as word word t h ∙ same-itself word

pub seen-sign : (sign : List ℕ) (t : Lexeme) (ts : List Lexeme) → IsPart (Mark sign) t → sees_sign sign (t ∷ ts) ≡ true
unfolding sees_sign
seen-sign sign t ts h = sign-as sign sign t h ∙ same-itself sign

module _ {B : Type 0} (rest : List Part) (y : B) where
  stays : (f : Bool → Phrase B) (b : Bool) (ts : List Lexeme) → b ≡ false → IsRead y rest (f false ts) → IsRead y rest (f b (if b then behind ts else ts))
  stays f true ts e r = absurd (true≢false e)
  stays f false ts e r = r

  moves : (f : Bool → Phrase B) (b : Bool) (t : Lexeme) (ts : List Lexeme) → b ≡ true → IsRead y rest (f true ts) → IsRead y rest (f b (if b then behind (t ∷ ts) else (t ∷ ts)))
  unfolding behind
  moves f true t ts e r = r
  moves f false t ts e r = absurd (true≢false (sym e))

  wants : (f : Unit {0} → Phrase B) (b : Bool) (t : Lexeme) (ts : List Lexeme) → b ≡ true → IsRead y rest (f tt ts) → IsRead y rest (and_then (if b then Some (tt, behind (t ∷ ts)) else None) f)
  unfolding behind
  wants f true t ts e r = r
  wants f false t ts e r = absurd (true≢false (sym e))

  named-in : (f : List ℕ → Phrase B) (n : List ℕ) (o : Option (List ℕ)) (ts : List Lexeme) → o ≡ Some n → IsRead y rest (f n ts) → IsRead y rest (and_then (option_map (λ x. (x, ts)) o) f)
  named-in f n None ts e r = absurd (some-none n e)
  named-in f n (Some m) ts e r = subst (λ z. IsRead y rest (f z ts)) (sym (some-value m n e)) r

module _ {B : Type 0} {all rest : List Part} {y : B} where
  -- the keyword doesn't come, and is not read
  pub no : (word : List ℕ) {q : Phrase B} (p : Phrase B) → lacks word all ≡ true → Reads q all y rest → Reads (eat word >>= (λ b. if b then p else q)) all y rest
  unfolding after
  no word {q} p l r = record { reads = λ ts s. stays rest y (λ b. if b then p else q) (sees word ts) ts (unseen word ts all s l) (r.reads ts s) }

  pub no_sign : (sign : List ℕ) {q : Phrase B} (p : Phrase B) → lacks_sign sign all ≡ true → Reads q all y rest → Reads (eat_sign sign >>= (λ b. if b then p else q)) all y rest
  unfolding after_sign
  no_sign sign {q} p l r = record { reads = λ ts s. stays rest y (λ b. if b then p else q) (sees_sign sign ts) ts (unseen-sign sign ts all s l) (r.reads ts s) }

  yes-all : (word : List ℕ) (f : Bool → Phrase B) → Reads (f true) all y rest → (ts : List Lexeme) → Spell ts (Keyword word ∷ all) → IsRead y rest (f (sees word ts) (if sees word ts then behind ts else ts))
  yes-all word f r [] s = absurd s
  yes-all word f r (t ∷ ts) s = moves rest y f (sees word (t ∷ ts)) t ts (seen word t ts s.0) (r.reads ts s.1)

  -- it comes, and is read
  pub yes : {word : List ℕ} {p : Phrase B} (q : Phrase B) → Reads p all y rest → Reads (eat word >>= (λ b. if b then p else q)) (Keyword word ∷ all) y rest
  unfolding after
  yes {word} {p} q r = record { reads = yes-all word (λ b. if b then p else q) r }

  yes_sign-all : (sign : List ℕ) (f : Bool → Phrase B) → Reads (f true) all y rest → (ts : List Lexeme) → Spell ts (Mark sign ∷ all) → IsRead y rest (f (sees_sign sign ts) (if sees_sign sign ts then behind ts else ts))
  yes_sign-all sign f r [] s = absurd s
  yes_sign-all sign f r (t ∷ ts) s = moves rest y f (sees_sign sign (t ∷ ts)) t ts (seen-sign sign t ts s.0) (r.reads ts s.1)

  pub yes_sign : {sign : List ℕ} {p : Phrase B} (q : Phrase B) → Reads p all y rest → Reads (eat_sign sign >>= (λ b. if b then p else q)) (Mark sign ∷ all) y rest
  unfolding after_sign
  yes_sign {sign} {p} q r = record { reads = yes_sign-all sign (λ b. if b then p else q) r }

  want-all : (word : List ℕ) (f : Unit {0} → Phrase B) → Reads (f tt) all y rest → (ts : List Lexeme) → Spell ts (Keyword word ∷ all) → IsRead y rest (and_then (expect word ts) f)
  unfolding expect
  want-all word f r [] s = absurd s
  want-all word f r (t ∷ ts) s = wants rest y f (sees word (t ∷ ts)) t ts (seen word t ts s.0) (r.reads ts s.1)

  pub want : {word : List ℕ} (f : Unit {0} → Phrase B) → Reads (f tt) all y rest → Reads (expect word >>= f) (Keyword word ∷ all) y rest
  want {word} f r = record { reads = want-all word f r }

  want_sign-all : (sign : List ℕ) (f : Unit {0} → Phrase B) → Reads (f tt) all y rest → (ts : List Lexeme) → Spell ts (Mark sign ∷ all) → IsRead y rest (and_then (expect_sign sign ts) f)
  unfolding expect_sign
  want_sign-all sign f r [] s = absurd s
  want_sign-all sign f r (t ∷ ts) s = wants rest y f (sees_sign sign (t ∷ ts)) t ts (seen-sign sign t ts s.0) (r.reads ts s.1)

  pub want_sign : {sign : List ℕ} (f : Unit {0} → Phrase B) → Reads (f tt) all y rest → Reads (expect_sign sign >>= f) (Mark sign ∷ all) y rest
  want_sign {sign} f r = record { reads = want_sign-all sign f r }

  named-all : (n : List ℕ) (f : List ℕ → Phrase B) → Reads (f n) all y rest → (ts : List Lexeme) → Spell ts (Name n ∷ all) → IsRead y rest (and_then (name ts) f)
  unfolding name behind
  named-all n f r [] s = absurd s
  named-all n f r (t ∷ ts) s = named-in rest y f n (name_in t.kind t.bytes) ts s.0 (r.reads ts s.1)

  pub named : {n : List ℕ} (f : List ℕ → Phrase B) → Reads (f n) all y rest → Reads (name >>= f) (Name n ∷ all) y rest
  named {n} f r = record { reads = named-all n f r }

-- ---- phrases that stand last

pub yes_last : {word : List ℕ} {all : List Part} → Reads (eat word) (Keyword word ∷ all) true all
unfolding after
yes_last {word} {all} = record { reads = yes-all word pure done }

pub no_last : (word : List ℕ) {all : List Part} → lacks word all ≡ true → Reads (eat word) all false all
unfolding after
no_last word {all} l = record { reads = λ ts s. stays all false pure (sees word ts) ts (unseen word ts all s l) (refl, s) }

pub yes_sign_last : {sign : List ℕ} {all : List Part} → Reads (eat_sign sign) (Mark sign ∷ all) true all
unfolding after_sign
yes_sign_last {sign} {all} = record { reads = yes_sign-all sign pure done }

pub no_sign_last : (sign : List ℕ) {all : List Part} → lacks_sign sign all ≡ true → Reads (eat_sign sign) all false all
unfolding after_sign
no_sign_last sign {all} l = record { reads = λ ts s. stays all false pure (sees_sign sign ts) ts (unseen-sign sign ts all s l) (refl, s) }

want_last-all : (word : List ℕ) (all : List Part) (ts : List Lexeme) → Spell ts (Keyword word ∷ all) → IsRead tt all (expect word ts)
unfolding expect behind
want_last-all word all [] s = absurd s
want_last-all word all (t ∷ ts) s = rw (seen word t ts s.0) (refl, s.1)

pub want_last : {word : List ℕ} {all : List Part} → Reads (expect word) (Keyword word ∷ all) tt all
want_last {word} {all} = record { reads = want_last-all word all }

want_sign_last-all : (sign : List ℕ) (all : List Part) (ts : List Lexeme) → Spell ts (Mark sign ∷ all) → IsRead tt all (expect_sign sign ts)
unfolding expect_sign behind
want_sign_last-all sign all [] s = absurd s
want_sign_last-all sign all (t ∷ ts) s = rw (seen-sign sign t ts s.0) (refl, s.1)

pub want_sign_last : {sign : List ℕ} {all : List Part} → Reads (expect_sign sign) (Mark sign ∷ all) tt all
want_sign_last {sign} {all} = record { reads = want_sign_last-all sign all }

named-alone : (n : List ℕ) (all : List Part) (o : Option (List ℕ)) (ts : List Lexeme) → o ≡ Some n → Spell ts all → IsRead n all (option_map (λ x. (x, ts)) o)
named-alone n all None ts e s = absurd (some-none n e)
named-alone n all (Some m) ts e s = (some-value m n e, s)

named_last-all : (n : List ℕ) (all : List Part) (ts : List Lexeme) → Spell ts (Name n ∷ all) → IsRead n all (name ts)
unfolding name behind
named_last-all n all [] s = absurd s
named_last-all n all (t ∷ ts) s = named-alone n all (name_in t.kind t.bytes) ts s.0 s.1

pub named_last : {n : List ℕ} {all : List Part} → Reads name (Name n ∷ all) n all
named_last {n} {all} = record { reads = named_last-all n all }

-- ---- phrases that look first

module _ {A : Type 0} {all rest : List Part} {x : A} where
  pub looks : {p : Phrase A} (q : Phrase A) (test : List Lexeme → Bool) → ((ts : List Lexeme) → Spell ts all → test ts ≡ true) → Reads p all x rest → Reads (λ ts. if test ts then p ts else q ts) all x rest
  looks q test e r = record { reads = λ ts s. rw (e ts s) (r.reads ts s) }

  pub looks_past : {q : Phrase A} (p : Phrase A) (test : List Lexeme → Bool) → ((ts : List Lexeme) → Spell ts all → test ts ≡ false) → Reads q all x rest → Reads (λ ts. if test ts then p ts else q ts) all x rest
  looks_past p test e r = record { reads = λ ts s. rw (e ts s) (r.reads ts s) }

-- ---- how many tokens

pub as_many : (ts : List Lexeme) (all : List Part) → Spell ts all → length ts ≡ length all
as_many [] [] s = refl
as_many [] (p ∷ ps) s = absurd s
as_many (t ∷ ts) [] s = absurd s
as_many (t ∷ ts) (p ∷ ps) s = ap suc (as_many ts ps s.1)

-- a phrase whose turns are bounded by the count of tokens
pub with_turns : {A : Type 0} {all rest : List Part} {x : A} (p : ℕ → Phrase A) → ((n : ℕ) → length all ≤ n → Reads (p n) all x rest) → Reads (λ ts. p (length ts) ts) all x rest
with_turns {A} {all} {rest} {x} p r = record { reads = λ ts s. (r (length ts) (omega (arith, as_many ts all s))).reads ts s }

-- ---- a word that says nothing

pub maybe_yes : {word : List ℕ} {all : List Part} → Reads (maybe word) (Keyword word ∷ all) true all
unfolding maybe
maybe_yes = yes_last

pub maybe_no : (word : List ℕ) {all : List Part} → lacks word all ≡ true → Reads (maybe word) all false all
unfolding maybe
maybe_no word l = no_last word l

pub maybe_no_sign : (sign : List ℕ) {all : List Part} → lacks_sign sign all ≡ true → Reads (maybe_sign sign) all false all
unfolding maybe_sign
maybe_no_sign sign l = no_sign_last sign l

-- ---- whether a name comes next

namelike-word : (b : Bool) (bytes called : List ℕ) → (if b then None else only_name bytes) ≡ Some called → not b ≡ true
namelike-word b bytes called e = ap not (name-word b bytes called e)

namelike : (k : TokenKind) (bytes called : List ℕ) → name_in k bytes ≡ Some called → is_namelike k bytes ≡ true
unfolding name_in is_namelike
namelike kinds.Word bytes called e = namelike-word (is_reserved bytes) bytes called e
namelike kinds.QuotedName bytes called e = refl
namelike kinds.Number bytes called e = absurd (some-none called e)
namelike kinds.Text bytes called e = absurd (some-none called e)
namelike kinds.Bytes bytes called e = absurd (some-none called e)
namelike kinds.Sign bytes called e = absurd (some-none called e)

pub name-begins : (n : List ℕ) (all : List Part) (ts : List Lexeme) → Spell ts (Name n ∷ all) → begins_name ts ≡ true
unfolding begins_name
name-begins n all [] s = absurd s
name-begins n all (t ∷ ts) s = namelike t.kind t.bytes n s.0

or-true : (a b : Bool) → b ≡ true → (a || b) ≡ true
or-true true b e = refl
or-true false b e = e

among-there : (ws : List (List ℕ)) (word bytes : List ℕ) → is_listed ws word ≡ true → is_same_word word bytes ≡ true → is_among ws bytes ≡ true
among-there [] word bytes l h = absurd (true≢false (sym l))
among-there (w ∷ ws) word bytes l h = by_first (pointwise nat_eq w word) refl l (λ k. or-true (is_same_word w bytes) (is_among ws bytes) (among-there ws word bytes k h))
  where
    by_first : (b : Bool) → pointwise nat_eq w word ≡ b → (b || is_listed ws word) ≡ true → (is_listed ws word ≡ true → (is_same_word w bytes || is_among ws bytes) ≡ true) → (is_same_word w bytes || is_among ws bytes) ≡ true
    by_first true e k more = ap (λ x. x || is_among ws bytes) (ap (λ x. is_same_word x bytes) (equal-where-same w word e) ∙ h)
    by_first false e k more = more k

-- no name comes next
abbrev pub is_nameless : List Part → Bool
is_nameless [] = true
is_nameless (Keyword w ∷ ps) = pointwise nat_eq (codes "null") w
is_nameless (Name n ∷ ps) = false
is_nameless (Plain w ∷ ps) = false
is_nameless (Mark s ∷ ps) = true
is_nameless (Count n ∷ ps) = true
is_nameless (Quoted t ∷ ps) = true
is_nameless (Octets b ∷ ps) = true

null-reserved : is_listed reserved (codes "null") ≡ true
unfolding reserved
null-reserved = refl

null-nameless : (k : TokenKind) (bytes w : List ℕ) → k ≡ kinds.Word → is_same_word w bytes ≡ true → pointwise nat_eq (codes "null") w ≡ true → is_namelike k bytes ≡ false
unfolding is_namelike is_reserved
null-nameless k bytes w e h l = ap (λ x. is_namelike x bytes) e ∙ ap not (among-there reserved (codes "null") bytes null-reserved (ap (λ x. is_same_word x bytes) (equal-where-same (codes "null") w l) ∙ h))

nameless-kind : (t : Lexeme) (k : TokenKind) → t.kind ≡ k → is_namelike k t.bytes ≡ false → is_namelike t.kind t.bytes ≡ false
nameless-kind t k e h = ap (λ x. is_namelike x t.bytes) e ∙ h

pub nameless-begins : (all : List Part) (ts : List Lexeme) → Spell ts all → is_nameless all ≡ true → begins_name ts ≡ false
unfolding begins_name is_namelike
nameless-begins [] [] s l = refl
nameless-begins [] (t ∷ ts) s l = absurd s
nameless-begins (p ∷ ps) [] s l = refl
nameless-begins (Keyword w ∷ ps) (t ∷ ts) s l = null-nameless t.kind t.bytes w s.0.0 s.0.1 l
nameless-begins (Mark m ∷ ps) (t ∷ ts) s l = nameless-kind t kinds.Sign s.0.0 refl
nameless-begins (Name n ∷ ps) (t ∷ ts) s l = absurd (true≢false (sym l))
nameless-begins (Count n ∷ ps) (t ∷ ts) s l = nameless-kind t kinds.Number s.0.0 refl
nameless-begins (Quoted x ∷ ps) (t ∷ ts) s l = nameless-kind t kinds.Text s.0.0 refl
nameless-begins (Octets x ∷ ps) (t ∷ ts) s l = nameless-kind t kinds.Bytes s.0.0 refl
nameless-begins (Plain w ∷ ps) (t ∷ ts) s l = absurd (true≢false (sym l))
