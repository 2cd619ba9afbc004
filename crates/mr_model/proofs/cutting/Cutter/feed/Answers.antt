use Rattle.std.proofs.Common.{sym, ◌∙◌, ap, ◌++◌, ◌∷◌, []}
use Rattle.mr_lex.specs.Pieces.{kept_where_blank}
use Rattle.mr_model.proofs.CutSteps.{holds_blank}
use Rattle.mr_model.proofs.cutting.Cutter.feed.Goals as goal

pub returns-in_ok-keep-in-Blank : goal.returns-in_ok-keep-in-Blank
returns-in_ok-keep-in-Blank c = λ r h.
    let kept = c.in_ok-keep-in-Blank.ensures in
    let clear = c.clear_blank.ensures in
    holds_blank r c.args.byte c.clear_blank.new.self (sym (c.feed.ensures.told r.since h.splitter) ∙ c.in-Blank.is)
    (clear.1 ∙ kept.1 ∙ c.feed.ensures.read r.since h.splitter)
    (clear.0 ∙ ap kept_where_blank (kept.0 ∙ ap (λ x. x ++ c.args.byte ∷ []) h.kept))
    clear.2 (clear.3 ∙ kept.3 ∙ h.read)
