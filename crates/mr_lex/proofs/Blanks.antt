-- White space and whole comments, byte by byte.
use Rattle.std.proofs.Common.{◌≡◌, ℕ, suc, List, [], ◌∷◌, ◌++◌, Some, None, Option, refl, ap, sym, ◌∙◌, Bool, true, false, inl, inr, ◌⊎◌, ◌==◌, ◌&&◌, if◌then◌else◌, append_assoc, append-nil}
use Rattle.std.proofs.lemmas.Bool.{eqb-true}
use Rattle.std.specs.Option.{option_map}
use Rattle.mr_lex.specs.Bytes.{is_space, is_empty, starts}
use Rattle.mr_lex.specs.Blank.{trimmed, trimmed_behind, line_length, block_length}
use Rattle.mr_lex.specs.Cutting.{next_place, place_from, place_behind, is_outside, is_blank}
use Rattle.mr_lex.specs.Resting.{next_blank, blank_from, is_whole}
use Rattle.mr_lex.specs.declared.place.Place.{Place}
use Rattle.mr_lex.specs.declared.place.Place.TheVariants.{Plain, Dash, Dashes, Slash, Line, Block, Star, Quoted, Escaped}
use Rattle.mr_lex.proofs.Lists.{tells}

-- where a block comment ends, if it does
abbrev pub in_block : Bool → List ℕ → List ℕ → Option ℕ → List ℕ
in_block ended kept more None = kept ++ more
in_block ended kept more (Some n) = trimmed_behind ended n more

abbrev pub star_length : List ℕ → Option ℕ
star_length more = if starts (λ c. c == 47) more then Some 1 else block_length more

-- What is left without white space and whole comments, where `kept` of the bytes in front may be left at this place,
-- and `more` follow.
abbrev pub trim_at : Bool → Place → Bool → List ℕ → List ℕ → List ℕ
trim_at ended p false kept more = kept ++ more
trim_at ended Plain true kept more = trimmed ended more
trim_at ended Dash true kept more = trimmed ended (45 ∷ more)
trim_at ended Dashes true kept more = trimmed ended (45 ∷ 45 ∷ more)
trim_at ended Slash true kept more = trimmed ended (47 ∷ more)
trim_at ended Line true kept more = trimmed_behind ended (line_length more) more
trim_at ended Block true kept more = in_block ended kept more (block_length more)
trim_at ended Star true kept more = in_block ended kept more (star_length more)
trim_at ended (Quoted q) true kept more = kept ++ more
trim_at ended (Escaped q) true kept more = kept ++ more

-- what is kept where all is blank up to here
abbrev pub IsKept : Place → Bool → List ℕ → Type 0
IsKept p false kept = is_empty kept ≡ false
IsKept Plain true kept = kept ≡ []
IsKept Dash true kept = kept ≡ 45 ∷ []
IsKept Dashes true kept = kept ≡ 45 ∷ 45 ∷ []
IsKept Slash true kept = kept ≡ 47 ∷ []
IsKept Line true kept = kept ≡ []
IsKept Block true kept = starts (λ b. b == 47) kept ≡ true
IsKept Star true kept = starts (λ b. b == 47) kept ≡ true
IsKept (Quoted q) true kept = ⊥
IsKept (Escaped q) true kept = ⊥

-- whether nothing is kept at this place, where all is blank
abbrev pub is_clear : Place → Bool
is_clear Plain = true
is_clear Line = true
is_clear _ = false

abbrev pub kept_with : Place → Bool → List ℕ → ℕ → List ℕ
kept_with p blank kept b = if next_blank p blank b && is_clear (next_place p b) then [] else kept ++ b ∷ []

snoc_some : (kept : List ℕ) (b : ℕ) → is_empty (kept ++ b ∷ []) ≡ false
snoc_some [] b = refl
snoc_some (a ∷ kept) b = refl

snoc_starts : (kept : List ℕ) (b : ℕ) → starts (λ c. c == 47) kept ≡ true → starts (λ c. c == 47) (kept ++ b ∷ []) ≡ true
snoc_starts [] b e = cc
snoc_starts (a ∷ kept) b e = e

snoc_more : (kept : List ℕ) (b : ℕ) (more : List ℕ) → kept ++ b ∷ more ≡ (kept ++ b ∷ []) ++ more
snoc_more kept b more = sym (append_assoc kept (b ∷ []) more)

-- no white space and no comment in front
plain_other : (ended : Bool) (b : ℕ) (more : List ℕ) → is_space b ≡ false → (b == 35) ≡ false → (b == 45) ≡ false → (b == 47) ≡ false → trimmed ended (b ∷ more) ≡ b ∷ more
plain_other ended b more s h d l = rw (s, h, d, l) refl

dash_other : (ended : Bool) (b : ℕ) (more : List ℕ) → (b == 45) ≡ false → trimmed ended (45 ∷ b ∷ more) ≡ 45 ∷ b ∷ more
dash_other ended b more n = rw n refl

dashes_other : (ended : Bool) (b : ℕ) (more : List ℕ) → is_space b ≡ false → trimmed ended (45 ∷ 45 ∷ b ∷ more) ≡ 45 ∷ 45 ∷ b ∷ more
dashes_other ended b more n = rw n refl

slash_other : (ended : Bool) (b : ℕ) (more : List ℕ) → (b == 42) ≡ false → trimmed ended (47 ∷ b ∷ more) ≡ 47 ∷ b ∷ more
slash_other ended b more n = rw n refl

block_open : (ended : Bool) (more : List ℕ) (o : Option ℕ) → block_length more ≡ o → trimmed ended (47 ∷ 42 ∷ more) ≡ in_block ended (47 ∷ 42 ∷ []) more o
block_open ended more None e = rw e refl
block_open ended more (Some n) e = rw e refl

block_shift : (ended : Bool) (kept : List ℕ) (b : ℕ) (more : List ℕ) (o : Option ℕ) → in_block ended kept (b ∷ more) (option_map suc o) ≡ in_block ended (kept ++ b ∷ []) more o
block_shift ended kept b more None = snoc_more kept b more
block_shift ended kept b more (Some n) = refl

block_star : (ended : Bool) (kept more : List ℕ) → in_block ended kept (42 ∷ more) (block_length (42 ∷ more)) ≡ in_block ended (kept ++ 42 ∷ []) more (star_length more)
block_star ended kept more = elim (tells (starts (λ c. c == 47) more)) [
  | inl y ↦ rw y refl
  | inr n ↦ rw n (block_shift ended kept 42 more (block_length more))
]

block_byte : (ended : Bool) (kept : List ℕ) (b : ℕ) (more : List ℕ) → (b == 42) ≡ false → in_block ended kept (b ∷ more) (block_length (b ∷ more)) ≡ in_block ended (kept ++ b ∷ []) more (block_length more)
block_byte ended kept b more n = rw n (block_shift ended kept b more (block_length more))

space_not : (b x : ℕ) → is_space b ≡ true → (b == x) ≡ true → is_space x ≡ true
space_not b x s e = let eq : b ≡ x = eqb-true b x e in ap is_space (sym eq) ∙ s

not_space : (b x : ℕ) → is_space b ≡ true → is_space x ≡ false → (b == x) ≡ false
not_space b x s n = by (tells (b == x))
  where
    by : ((b == x) ≡ true) ⊎ ((b == x) ≡ false) → (b == x) ≡ false
    by (inl y) = let yes : is_space x ≡ true = space_not b x s y in cc
    by (inr n) = n

pub record Next (ended : Bool) (p : Place) (blank : Bool) (kept : List ℕ) (b : ℕ) : Type 0 where
  pub same : (more : List ℕ) → trim_at ended p blank kept (b ∷ more) ≡ trim_at ended (next_place p b) (next_blank p blank b) (kept_with p blank kept b) more
  pub still : IsKept (next_place p b) (next_blank p blank b) (kept_with p blank kept b)

to : (ended : Bool) (p : Place) (blank : Bool) (kept : List ℕ) (b : ℕ) (P : Place) (B : Bool) → next_place p b ≡ P → next_blank p blank b ≡ B
    → ((more : List ℕ) → trim_at ended p blank kept (b ∷ more) ≡ trim_at ended P B (if B && is_clear P then [] else kept ++ b ∷ []) more)
    → IsKept P B (if B && is_clear P then [] else kept ++ b ∷ []) → Next ended p blank kept b
to ended p blank kept b P B np nb same still = record { same = λ more. rw (np, nb) (same more); still = rw (np, nb) still }

-- once something is not blank, all is kept
kept_all : (ended : Bool) (p : Place) (blank : Bool) (kept : List ℕ) (b : ℕ) → next_blank p blank b ≡ false
    → ((more : List ℕ) → trim_at ended p blank kept (b ∷ more) ≡ kept ++ b ∷ more) → Next ended p blank kept b
kept_all ended p blank kept b nb same = record { same = λ more. rw nb (same more ∙ snoc_more kept b more); still = rw nb (snoc_some kept b) }

stays : (p : Place) (b : ℕ) → next_blank p false b ≡ false
stays Plain b = refl
stays Dash b = refl
stays Dashes b = refl
stays Slash b = refl
stays Line b = refl
stays Block b = refl
stays Star b = refl
stays (Quoted q) b = refl
stays (Escaped q) b = refl

plain_step : (ended : Bool) (kept : List ℕ) (b : ℕ) → kept ≡ [] → Next ended Plain true kept b
plain_step ended kept b k = elim (tells (is_space b)) [
  | inl s ↦ to ended Plain true kept b Plain true (rw (not_space b 35 s refl, not_space b 45 s refl, not_space b 47 s refl, not_space b 39 s refl, not_space b 34 s refl, not_space b 96 s refl) refl) (rw s refl)
      (λ more. rw s refl) refl
  | inr s ↦ elim (tells (b == 35)) [
    | inl y ↦ let e : b ≡ 35 = eqb-true b 35 y in rw e (to ended Plain true kept 35 Line true refl refl (λ more. refl) refl)
    | inr h ↦ elim (tells (b == 45)) [
      | inl y ↦ let e : b ≡ 45 = eqb-true b 45 y in rw e (to ended Plain true kept 45 Dash true refl refl (λ more. refl) (ap (λ t. t ++ 45 ∷ []) k))
      | inr d ↦ elim (tells (b == 47)) [
        | inl y ↦ let e : b ≡ 47 = eqb-true b 47 y in rw e (to ended Plain true kept 47 Slash true refl refl (λ more. refl) (ap (λ t. t ++ 47 ∷ []) k))
        | inr l ↦ kept_all ended Plain true kept b (rw (s, h, d, l) refl) (λ more. plain_other ended b more s h d l ∙ sym (ap (λ t. t ++ b ∷ more) k))
      ]
    ]
  ]
]

dash_step : (ended : Bool) (kept : List ℕ) (b : ℕ) → kept ≡ 45 ∷ [] → Next ended Dash true kept b
dash_step ended kept b k = elim (tells (b == 45)) [
  | inl y ↦ let e : b ≡ 45 = eqb-true b 45 y in rw e (to ended Dash true kept 45 Dashes true refl refl (λ more. refl) (ap (λ t. t ++ 45 ∷ []) k))
  | inr n ↦ kept_all ended Dash true kept b n (λ more. dash_other ended b more n ∙ sym (ap (λ t. t ++ b ∷ more) k))
]

dashes_step : (ended : Bool) (kept : List ℕ) (b : ℕ) → kept ≡ 45 ∷ 45 ∷ [] → Next ended Dashes true kept b
dashes_step ended kept b k = elim (tells (is_space b)) [
  | inl s ↦ elim (tells (b == 10)) [
    | inl y ↦ let e : b ≡ 10 = eqb-true b 10 y in rw e (to ended Dashes true kept 10 Plain true refl refl (λ more. refl) refl)
    | inr n ↦ to ended Dashes true kept b Line true (rw (not_space b 45 s refl, n, s) refl) s (λ more. rw (s, n) refl) refl
  ]
  | inr s ↦ kept_all ended Dashes true kept b s (λ more. dashes_other ended b more s ∙ sym (ap (λ t. t ++ b ∷ more) k))
]

slash_step : (ended : Bool) (kept : List ℕ) (b : ℕ) → kept ≡ 47 ∷ [] → Next ended Slash true kept b
slash_step ended kept b k = elim (tells (b == 42)) [
  | inl y ↦ let e : b ≡ 42 = eqb-true b 42 y in rw e (to ended Slash true kept 42 Block true refl refl
      (λ more. block_open ended more (block_length more) refl ∙ sym (ap (λ t. in_block ended (t ++ 42 ∷ []) more (block_length more)) k)) (ap (λ t. starts (λ c. c == 47) (t ++ 42 ∷ [])) k))
  | inr n ↦ kept_all ended Slash true kept b n (λ more. slash_other ended b more n ∙ sym (ap (λ t. t ++ b ∷ more) k))
]

line_step : (ended : Bool) (kept : List ℕ) (b : ℕ) → Next ended Line true kept b
line_step ended kept b = elim (tells (b == 10)) [
  | inl y ↦ to ended Line true kept b Plain true (rw y refl) refl (λ more. rw y refl) refl
  | inr n ↦ to ended Line true kept b Line true (rw n refl) refl (λ more. rw n refl) refl
]

block_step : (ended : Bool) (kept : List ℕ) (b : ℕ) → starts (λ c. c == 47) kept ≡ true → Next ended Block true kept b
block_step ended kept b k = elim (tells (b == 42)) [
  | inl y ↦ let e : b ≡ 42 = eqb-true b 42 y in rw e (to ended Block true kept 42 Star true refl refl (λ more. block_star ended kept more) (snoc_starts kept 42 k))
  | inr n ↦ to ended Block true kept b Block true (rw n refl) refl (λ more. block_byte ended kept b more n) (snoc_starts kept b k)
]

star_step : (ended : Bool) (kept : List ℕ) (b : ℕ) → starts (λ c. c == 47) kept ≡ true → Next ended Star true kept b
star_step ended kept b k = elim (tells (b == 47)) [
  | inl y ↦ to ended Star true kept b Plain true (rw y refl) refl (λ more. rw y refl) refl
  | inr l ↦ elim (tells (b == 42)) [
    | inl y ↦ let e : b ≡ 42 = eqb-true b 42 y in rw e (to ended Star true kept 42 Star true refl refl (λ more. block_star ended kept more) (snoc_starts kept 42 k))
    | inr n ↦ to ended Star true kept b Block true (rw (l, n) refl) refl (λ more. ap (λ t. in_block ended kept (b ∷ more) (if t then Some 1 else block_length (b ∷ more))) l ∙ block_byte ended kept b more n) (snoc_starts kept b k)
  ]
]

pub step : (ended : Bool) (p : Place) (blank : Bool) (kept : List ℕ) (b : ℕ) → IsKept p blank kept → Next ended p blank kept b
step ended p false kept b k = kept_all ended p false kept b (stays p b) (λ more. refl)
step ended Plain true kept b k = plain_step ended kept b k
step ended Dash true kept b k = dash_step ended kept b k
step ended Dashes true kept b k = dashes_step ended kept b k
step ended Slash true kept b k = slash_step ended kept b k
step ended Line true kept b k = line_step ended kept b
step ended Block true kept b k = block_step ended kept b k
step ended Star true kept b k = star_step ended kept b k
step ended (Quoted q) true kept b k = absurd k
step ended (Escaped q) true kept b k = absurd k

abbrev pub kept_from : Place → Bool → List ℕ → List ℕ → List ℕ
kept_from p blank kept [] = kept
kept_from p blank kept (b ∷ bs) = kept_from (next_place p b) (next_blank p blank b) (kept_with p blank kept b) bs

pub run : (ended : Bool) (p : Place) (blank : Bool) (kept since more : List ℕ) → IsKept p blank kept
    → trim_at ended p blank kept (since ++ more) ≡ trim_at ended (place_from p since) (blank_from p blank since) (kept_from p blank kept since) more
run ended p blank kept [] more k = refl
run ended p blank kept (b ∷ bs) more k =
    let next = step ended p blank kept b k in
    next.same (bs ++ more) ∙ run ended (next_place p b) (next_blank p blank b) (kept_with p blank kept b) bs more next.still

pub run_kept : (p : Place) (blank : Bool) (kept since : List ℕ) → IsKept p blank kept → IsKept (place_from p since) (blank_from p blank since) (kept_from p blank kept since)
run_kept p blank kept [] k = k
run_kept p blank kept (b ∷ bs) k = run_kept (next_place p b) (next_blank p blank b) (kept_with p blank kept b) bs (step true p blank kept b k).still

some_left : (kept : List ℕ) → is_empty kept ≡ false → is_empty (kept ++ []) ≡ false
some_left [] e = cc
some_left (b ∷ kept) e = refl

some_started : (kept : List ℕ) → starts (λ b. b == 47) kept ≡ true → is_empty (kept ++ []) ≡ false
some_started [] e = cc
some_started (b ∷ kept) e = refl

blank_end : (p : Place) (blank : Bool) (kept : List ℕ) → IsKept p blank kept → is_empty (trim_at true p blank kept []) ≡ (blank && is_whole p)
blank_end p false kept k = some_left kept k
blank_end Plain true kept k = refl
blank_end Dash true kept k = refl
blank_end Dashes true kept k = refl
blank_end Slash true kept k = refl
blank_end Line true kept k = refl
blank_end Block true kept k = some_started kept k
blank_end Star true kept k = some_started kept k
blank_end (Quoted q) true kept k = absurd k
blank_end (Escaped q) true kept k = absurd k

text_end : (p : Place) (blank : Bool) (kept : List ℕ) → IsKept p blank kept → is_outside p ≡ true → trim_at false p blank kept [] ≡ kept
text_end p false kept k o = append-nil kept
text_end Plain true kept k o = sym k
text_end Dash true kept k o = sym k
text_end Dashes true kept k o = sym k
text_end Slash true kept k o = sym k
text_end Line true kept k o = cc
text_end Block true kept k o = cc
text_end Star true kept k o = cc
text_end (Quoted q) true kept k o = absurd k
text_end (Escaped q) true kept k o = absurd k

-- what a splitter knows of the bytes since the last end
pub blank_is : (since : List ℕ) → is_blank since ≡ (blank_from Plain true since && is_whole (place_behind since))
blank_is since = ap (λ s. is_empty (trimmed true s)) (sym (append-nil since)) ∙ ap is_empty (run true Plain true [] since [] refl)
    ∙ blank_end (place_from Plain since) (blank_from Plain true since) (kept_from Plain true [] since) (run_kept Plain true [] since refl)

-- the text of a statement that ends behind these bytes
pub text_is : (since : List ℕ) → is_outside (place_behind since) ≡ true → trimmed false since ≡ kept_from Plain true [] since
text_is since o = ap (trimmed false) (sym (append-nil since)) ∙ run false Plain true [] since [] refl
    ∙ text_end (place_from Plain since) (blank_from Plain true since) (kept_from Plain true [] since) (run_kept Plain true [] since refl) o
