use Rattle.std.proofs.Common.{◌∙◌, ap, sym, Bool}
use Rattle.mr_lex.specs.Resting.{told_at}
use Rattle.mr_lex.specs.Cutting.{next_place}
use Rattle.mr_lex.specs.declared.place.Place.{Place}
use Rattle.mr_lex.specs.declared.splitter.Splitter.{Splitter}
use Rattle.mr_lex.proofs.Feeding.{told_is, read_is}
use Rattle.mr_lex.proofs.splitter.Splitter.feed.Goals as goal

pub returns-clause-told : goal.returns-clause-told
returns-clause-told c = λ since h.
    c.told.ensures
    ∙ ap (λ (p : Place). told_at p c.next_blank-self.result) c.next_place-self.ensures
    ∙ ap (told_at (next_place c.args.self.now.place c.args.byte)) c.next_blank-self.ensures
    ∙ told_is c.args.self.now since c.args.byte h (sym c.ends_here.ensures ∙ c.if-ends_here.false)

pub returns-clause-read : goal.returns-clause-read
returns-clause-read c = λ since h.
    ap (λ (p : Place). (let t : Splitter = record { place = p; blank = c.next_blank-self.result } in t)) c.next_place-self.ensures
    ∙ ap (λ (k : Bool). (let t : Splitter = record { place = next_place c.args.self.now.place c.args.byte; blank = k } in t)) c.next_blank-self.ensures
    ∙ read_is c.args.self.now since c.args.byte h (sym c.ends_here.ensures ∙ c.if-ends_here.false)
