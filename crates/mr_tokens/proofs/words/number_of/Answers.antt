use Rattle.std.proofs.Common.{◌≡◌, ◌≤◌, ◌<◌, ◌+◌, ◌*◌, ◌-◌, ℕ, suc, List, [], ◌∷◌, arith, sym, ap, ◌∙◌, drop, get_or, drop-cons, None}
use Rattle.std.proofs.lemmas.Grind.{common_steps}
use Rattle.mr_types.specs.Values.{number_from}
use Rattle.mr_spec.specs.Phrases.{within}
use Rattle.mr_tokens.proofs.words.number_of.Goals as goal

-- more digits make no smaller number
grows : (n : ℕ) (bs : List ℕ) → n ≤ number_from n bs
grows n [] = omega arith
grows n (b ∷ bs) = omega (arith, grows (10 * n + (b - 48)) bs)

past_most : (least most n : ℕ) → most < n → None ≡ within least most n
past_most least most n h = grind (arith, common_steps)

pub returns-then-value-gt-TENTH : goal.returns-then-value-gt-TENTH
returns-then-value-gt-TENTH c =
    let ds = c.args.digits.now in
    let i = c.loop-digit.digit-index in
    let v = c.loop-digit.value in
    let step : drop i ds ≡ get_or ds i 0 ∷ drop (suc i) ds = drop-cons ds i 0 c.loop-digit-test.true in
    let e : number_from 0 ds ≡ number_from (10 * v + (get_or ds i 0 - 48)) (drop (suc i) ds) = sym c.loop-digit.invariant ∙ ap (number_from v) step in
    past_most c.args.least c.args.most (number_from 0 ds) (omega (arith, e, grows (10 * v + (get_or ds i 0 - 48)) (drop (suc i) ds), c.requires, c.if-value-gt-TENTH.true))
