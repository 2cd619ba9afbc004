-- Statements are read from texts.
use Rattle.std.proofs.Common.{◌≡◌, ℕ, suc, ◌+◌, List, [], ◌∷◌, ◌++◌, length, take, drop, true, true≢false, not, ◌&&◌, Option, Some, None, arith, refl, ap, sym, subst, ◌∙◌}
use Rattle.std.specs.List.{list_all}
use Rattle.std.specs.Option.{option_map}
use Rattle.mr_lex.specs.Bytes.{is_space, is_empty}
use Rattle.mr_lex.specs.Blank.{is_space_or_end}
use Rattle.mr_lex.specs.Reading.{Lexeme, Lexemes, Lexed, with_first, tokens_from, tokens_of}
use Rattle.mr_lex.specs.declared.token.TokenKind.{TokenKind}
use Rattle.mr_lex.proofs.Reading.{skipped, by_piece, blank_step}
use Rattle.mr_types.specs.declared.statement.Statement.{Statement}
use Rattle.mr_spec.specs.Grammar.{whole_statement, spelled_by, statement_of}
use Rattle.mr_spelling.specs.Parts.{Part, IsToken, Spell}
use Rattle.mr_spelling.specs.Statements.{IsSpellable, spelled_statement}
use Rattle.mr_spelling.specs.Texts.{IsAlone, Written, text_of, are_gaps, is_spaced, Write}
use Rattle.mr_spelling.proofs.Lists.{first_of_both, second_of_both}
use Rattle.mr_spelling.proofs.StatementsRead.{spelling-read}

-- white space in front is passed over
one-space : (at b : ℕ) (rest : List ℕ) → is_space b ≡ true → tokens_from at 0 (b ∷ rest) ≡ tokens_from (at + 1) 0 rest
one-space at b rest h = blank_step at 1 (b ∷ rest) (sym (rw h refl)) (omega arith)

past-gap : (gap : List ℕ) (at : ℕ) (rest : List ℕ) → list_all is_space gap ≡ true → tokens_from at 0 (gap ++ rest) ≡ tokens_from (at + length gap) 0 rest
past-gap [] at rest h = ap (λ n. tokens_from n 0 rest) (let e : at ≡ at + 0 = omega arith in e)
past-gap (b ∷ gap) at rest h =
    one-space at b (gap ++ rest) (first_of_both (is_space b) (list_all is_space gap) h)
    ∙ past-gap gap (at + 1) rest (second_of_both (is_space b) (list_all is_space gap) h)
    ∙ ap (λ n. tokens_from n 0 rest) (let e : at + 1 + length gap ≡ at + suc (length gap) = omega arith in e)

taken : (a b : List ℕ) → take (length a) (a ++ b) ≡ a
taken [] b = refl
taken (x ∷ a) b = ap (λ z. x ∷ z) (taken a b)

dropped : (a b : List ℕ) → drop (length a) (a ++ b) ≡ b
dropped [] b = refl
dropped (x ∷ a) b = dropped a b

-- a token in front is taken
past-token : (at : ℕ) (kind : TokenKind) (bytes rest : List ℕ) → IsAlone kind bytes → is_space_or_end true rest ≡ true
    → tokens_from at 0 (bytes ++ rest) ≡ with_first (record { kind = kind; bytes = bytes; start = at; end = at + length bytes }) (tokens_from (at + length bytes) 0 rest)
past-token at kind [] rest i h = absurd (omega (arith, i.some))
past-token at kind (b ∷ bs) rest i h =
    by_piece at b (bs ++ rest) (Lexed kind (suc (length bs))) (i.alone rest h)
    ∙ ap (λ bytes. with_first (record { kind = kind; bytes = bytes; start = at; end = at + suc (length bs) }) (tokens_from (at + 1) (length bs) (bs ++ rest))) (taken (b ∷ bs) rest)
    ∙ ap (with_first (record { kind = kind; bytes = b ∷ bs; start = at; end = at + suc (length bs) }))
    (skipped (at + 1) (length bs) (bs ++ rest) ∙ ap (λ n. tokens_from n 0 (drop (length bs) (bs ++ rest))) (let e : at + 1 + length bs ≡ at + suc (length bs) = omega arith in e)
    ∙ ap (tokens_from (at + suc (length bs)) 0) (dropped bs rest))

-- the tokens spell the parts, and none is bad
pub record IsLexed (tokens : Lexemes) (parts : List Part) : Type 0 where
  pub spell : Spell tokens.found parts
  pub none_bad : tokens.bad ≡ None

spaces-end : (last : List ℕ) (at : ℕ) → list_all is_space last ≡ true → IsLexed (tokens_from at 0 last) []
spaces-end [] at h = record { spell = tt; none_bad = refl }
spaces-end (b ∷ last) at h = subst (λ t. IsLexed t []) (sym (one-space at b last (first_of_both (is_space b) (list_all is_space last) h))) (spaces-end last (at + 1) (second_of_both (is_space b) (list_all is_space last) h))

-- white space or the end comes next
gap-next : (ws : List Written) (last : List ℕ) → are_gaps ws ≡ true → list_all is_space last ≡ true → is_space_or_end true (text_of ws last) ≡ true
gap-next [] [] g h = refl
gap-next [] (b ∷ last) g h = first_of_both (is_space b) (list_all is_space last) h
gap-next (w ∷ ws) last g h = begins w.gap (w.bytes ++ text_of ws last) (first_of_both (list_all is_space w.gap) (not (is_empty w.gap) && are_gaps ws) g)
    (first_of_both (not (is_empty w.gap)) (are_gaps ws) (second_of_both (list_all is_space w.gap) (not (is_empty w.gap) && are_gaps ws) g))
  where
    begins : (gap rest : List ℕ) → list_all is_space gap ≡ true → not (is_empty gap) ≡ true → is_space_or_end true (gap ++ rest) ≡ true
    begins [] rest h k = absurd (true≢false (sym k))
    begins (b ∷ gap) rest h k = first_of_both (is_space b) (list_all is_space gap) h

lexed-first : (w : Written) (ws : List Written) (p : Part) (ps : List Part) (last : List ℕ) (at : ℕ) → IsAlone w.kind w.bytes → IsToken p w.kind w.bytes → list_all is_space w.gap ≡ true → is_space_or_end true (text_of ws last) ≡ true
    → ((n : ℕ) → IsLexed (tokens_from n 0 (text_of ws last)) ps) → IsLexed (tokens_from at 0 (w.gap ++ (w.bytes ++ text_of ws last))) (p ∷ ps)
lexed-first w ws p ps last at i t g n more =
    let rest = text_of ws last in
    let here = at + length w.gap in
    let next = more (here + length w.bytes) in
    subst (λ z. IsLexed z (p ∷ ps)) (sym (past-gap w.gap at (w.bytes ++ rest) g ∙ past-token here w.kind w.bytes rest i n)) (record { spell = (t, next.spell); none_bad = next.none_bad })

lexed-on : (ws : List Written) (parts : List Part) (last : List ℕ) (at : ℕ) → Write ws parts → are_gaps ws ≡ true → list_all is_space last ≡ true → IsLexed (tokens_from at 0 (text_of ws last)) parts
lexed-on [] [] last at w g h = spaces-end last at h
lexed-on [] (p ∷ ps) last at w g h = absurd w
lexed-on (w ∷ ws) [] last at x g h = absurd x
lexed-on (w ∷ ws) (p ∷ ps) last at x g h =
    let g1 : (not (is_empty w.gap) && are_gaps ws) ≡ true = second_of_both (list_all is_space w.gap) _ g in
    let more : are_gaps ws ≡ true = second_of_both (not (is_empty w.gap)) (are_gaps ws) g1 in
    lexed-first w ws p ps last at x.0 x.1 (first_of_both (list_all is_space w.gap) _ g) (gap-next ws last more h) (λ n. lexed-on ws ps last n x.2 more h)

lexed-all : (ws : List Written) (parts : List Part) (last : List ℕ) → Write ws parts → is_spaced ws last ≡ true → IsLexed (tokens_of (text_of ws last)) parts
lexed-all [] [] last w h = spaces-end last 0 h
lexed-all [] (p ∷ ps) last w h = absurd w
lexed-all (w ∷ ws) [] last x h = absurd x
lexed-all (w ∷ ws) (p ∷ ps) last x h =
    let k : (are_gaps ws && list_all is_space last) ≡ true = second_of_both (list_all is_space w.gap) _ h in
    let g : are_gaps ws ≡ true = first_of_both (are_gaps ws) (list_all is_space last) k in
    let l : list_all is_space last ≡ true = second_of_both (are_gaps ws) (list_all is_space last) k in
    lexed-first w ws p ps last 0 x.0 x.1 (first_of_both (list_all is_space w.gap) _ h) (gap-next ws last g l) (λ n. lexed-on ws ps last n x.2 g l)

spelled-some : (found : List Lexeme) (bad : Option ℕ) (s : Statement) → bad ≡ None → whole_statement found ≡ Some (s, []) → spelled_by found bad ≡ Some s
spelled-some found bad s b e = ap (spelled_by found) b ∙ ap (option_map (λ (p : Statement × List Lexeme). p.0)) e

-- a statement is read from each text that its tokens and white space give
pub text-read : (s : Statement) (ws : List Written) (last : List ℕ) → IsSpellable s → Write ws (spelled_statement s) → is_spaced ws last ≡ true → statement_of (text_of ws last) ≡ Some s
unfolding statement_of
text-read s ws last h w g =
    let l = lexed-all ws (spelled_statement s) last w g in
    spelled-some (tokens_of (text_of ws last)).found (tokens_of (text_of ws last)).bad s l.none_bad (spelling-read s (tokens_of (text_of ws last)).found h l.spell)
