use Rattle.std.proofs.Common.{◌≡◌, ◌∙◌, ap, sym, arith, ℕ, List, ◌+◌, ◌-◌, ◌<◌, ◌≤◌, length, drop, length-drop}
use Rattle.std.proofs.lemmas.List.{drop-drop}
use Rattle.std.specs.Option.{option_map}
use Rattle.mr_lex.specs.Reading.{Lexeme, lexeme, with_first, tokens_from}
use Rattle.mr_lex.proofs.Reading.{bad_step, token_step}
use Rattle.mr_lex.proofs.lexer.Lexer.next_token.Goals as goal

more : (s : List ℕ) (n : ℕ) → n ≤ length s → (n ≡ length s → ⊥) → 0 < length (drop n s)
more s n l d = let len = length-drop n s in omega (arith, len, l, d)

behind : (s : List ℕ) (start : ℕ) (t : Lexeme) → start < t.end → with_first t (tokens_from t.end 0 (drop (t.end - start) (drop start s))) ≡ with_first t (tokens_from t.end 0 (drop t.end s))
behind s start t l = ap (λ k. with_first t (tokens_from t.end 0 k)) (drop-drop (t.end - start) start s ∙ ap (λ n. drop n s) (let e : start + (t.end - start) ≡ t.end = omega (arith, l) in e))

pub returns-in-None : goal.returns-in-None
returns-in-None c =
    let start = c.behind_blank-start.result in
    let text = c.self.inside.text.now in
    let same = c.behind_blank-start.ensures.same in (
      sym c.self.view_is ∙ same ∙ bad_step start (drop start text) c.behind_blank-start.ensures.none (more text start c.behind_blank-start.ensures.within c.if-start-self.false) (c.token_at.ensures.token ∙ ap (option_map lexeme) c.in-None.is),
      sym same ∙ c.self.view_is,
    )

pub returns-in-Some : goal.returns-in-Some
returns-in-Some c =
    let start = c.behind_blank-start.result in
    let text = c.self.inside.text.now in
    let same = c.behind_blank-start.ensures.same in
    sym c.self.view_is ∙ same ∙ token_step start (drop start text) (lexeme c.in-Some.token) c.behind_blank-start.ensures.none c.in-Some.ensures.end.0 (c.token_at.ensures.token ∙ ap (option_map lexeme) c.in-Some.is) ∙ behind text start (lexeme c.in-Some.token) c.in-Some.ensures.end.0
