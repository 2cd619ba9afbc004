use Rattle.std.proofs.Common.{◌<◌, ℕ, IfSome, length, map, string_bytes, sym, subst}
use Rattle.std.proofs.lemmas.List.{length-map}
use Rattle.mr_words.specs.Form.{options_in}
use Rattle.mr_words.proofs.Inside.{inside}
use Rattle.mr_words.proofs.form.options_of.Goals as goal

pub returns-clause-inside : goal.returns-clause-inside
returns-clause-inside c =
    let words = map string_bytes c.args.words.now in
    subst (λ o. IfSome o (λ x. x.folder < length c.args.words.now)) (sym c.said.ensures)
    (subst (λ (n : ℕ). IfSome (options_in words) (λ x. x.folder < n)) (length-map c.args.words.now string_bytes) (inside words))
