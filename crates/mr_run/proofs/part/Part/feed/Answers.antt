use Rattle.std.proofs.Common.{◌∙◌, ◌++◌, ◌∷◌, [], sym, refl, true, false}
use Rattle.mr_run.proofs.Parts.{kept_of, ended_text, ended_holds, blank_holds, blank_ends, inside_holds, inside_ends}
use Rattle.mr_run.proofs.part.Part.feed.Goals as goal

pub returns-in-End-clause-ended : goal.returns-in-End-clause-ended
returns-in-End-clause-ended c = λ since h. ended_text c.args.self.now since c.args.byte c.end.result h (sym (c.feed.ensures.told since h.splitter) ∙ c.in-End.is) c.end.ensures.text

pub returns-in-End-clause-holds : goal.returns-in-End-clause-holds
returns-in-End-clause-holds c = λ since h.
    let e = c.end.ensures.emptied in
    ended_holds c.end.new.self since c.args.byte (sym (c.feed.ensures.told since h.splitter) ∙ c.in-End.is) (e.1 ∙ c.feed.ensures.read since h.splitter) e.0 e.2

pub returns-in_ok-keep-in-Blank-clause-ended : goal.returns-in_ok-keep-in-Blank-clause-ended
returns-in_ok-keep-in-Blank-clause-ended c = λ since h. blank_ends since c.args.byte (sym (c.feed.ensures.told since h.splitter) ∙ c.in-Blank.is)

pub returns-in_ok-keep-in-Blank-clause-holds : goal.returns-in_ok-keep-in-Blank-clause-holds
returns-in_ok-keep-in-Blank-clause-holds c = λ since h.
    let kept = c.in_ok-keep-in-Blank.ensures in
    let clear = c.clear_blank.ensures in
    blank_holds (record { splitter = c.clear_blank.new.self.splitter; kept = c.clear_blank.new.self.kept; begun = false }) since c.args.byte h.unended (sym (c.feed.ensures.told since h.splitter) ∙ c.in-Blank.is)
    (clear.others.0 ∙ kept.others.0 ∙ c.feed.ensures.read since h.splitter)
    (clear.kept (kept_of since ++ c.args.byte ∷ []) (kept.kept (kept_of since) h.kept)) refl

pub returns-in_ok-keep-in-Inside-clause-ended : goal.returns-in_ok-keep-in-Inside-clause-ended
returns-in_ok-keep-in-Inside-clause-ended c = λ since h. inside_ends since c.args.byte (sym (c.feed.ensures.told since h.splitter) ∙ c.in-Inside.is)

pub returns-in_ok-keep-in-Inside-clause-holds : goal.returns-in_ok-keep-in-Inside-clause-holds
returns-in_ok-keep-in-Inside-clause-holds c = λ since h.
    let kept = c.in_ok-keep-in-Inside.ensures in
    inside_holds (record { splitter = c.keep-in-Inside.new.self.splitter; kept = c.keep-in-Inside.new.self.kept; begun = true }) since c.args.byte h.unended (sym (c.feed.ensures.told since h.splitter) ∙ c.in-Inside.is)
    (kept.others.0 ∙ c.feed.ensures.read since h.splitter)
    (kept.kept (kept_of since) h.kept) refl
