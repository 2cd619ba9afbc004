use Rattle.std.proofs.Common.{◌≡◌, ◌∙◌, ap, sym, arith, ℕ, ◌+◌, ◌-◌, Some, take, drop, length-drop}
use Rattle.std.specs.Option.{option_map}
use Rattle.mr_lex.specs.Reading.{Lexeme, lexeme_at}
use Rattle.mr_lex.specs.Fronts.{front_of}
use Rattle.mr_lex.proofs.Reading.{tail}
use Rattle.mr_lex.proofs.First.{front_first}
use Rattle.mr_lex.proofs.Munch.{first_past}
use Rattle.mr_lex.proofs.lexer.token_at.Goals as goal

pub returns-in-None-clause-token : goal.returns-in-None-clause-token
returns-in-None-clause-token c = ap (option_map (lexeme_at c.args.at (drop c.args.at c.args.text.now))) (front_first (drop c.args.at c.args.text.now) ∙ sym (c.front.ensures.value ∙ ap front_of (tail c.args.text.now c.args.at)) ∙ c.in-None.is)

pub returns-in-Some-clause-end : goal.returns-in-Some-clause-end
returns-in-Some-clause-end c =
    let some = first_past (drop c.args.at c.args.text.now) (c.in-Some.kind, c.in-Some.len) (front_first (drop c.args.at c.args.text.now) ∙ sym (c.front.ensures.value ∙ ap front_of (tail c.args.text.now c.args.at)) ∙ c.in-Some.is) in
    let low = some.0 in
    let high = some.1 in
    let l = length-drop c.args.at c.args.text.now in
    (omega (arith, low), omega (arith, high, l, c.requires.within))

pub returns-in-Some-clause-token : goal.returns-in-Some-clause-token
returns-in-Some-clause-token c =
    let len : c.in-Some.len ≡ c.args.at + c.in-Some.len - c.args.at = omega arith in
    ap (option_map (lexeme_at c.args.at (drop c.args.at c.args.text.now))) (front_first (drop c.args.at c.args.text.now) ∙ sym (c.front.ensures.value ∙ ap front_of (tail c.args.text.now c.args.at)) ∙ c.in-Some.is)
    ∙ ap (λ (n : ℕ). (let l : Lexeme = record { kind = c.in-Some.kind; bytes = take n (drop c.args.at c.args.text.now); start = c.args.at; end = c.args.at + c.in-Some.len } in Some l)) len
