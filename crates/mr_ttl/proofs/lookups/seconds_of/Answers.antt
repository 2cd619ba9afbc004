use Rattle.std.proofs.Common.{Ok, Err, sym, rules}
use Rattle.std.proofs.lemmas.List.Sorted.{answers_always}
use Rattle.mr_ttl.proofs.Places.{found}
use Rattle.mr_ttl.proofs.lookups.seconds_of.Goals as goal

pub returns-in-Ok : goal.returns-in-Ok
returns-in-Ok c =
    let facts = c.in-Ok.ensures in
    let by_index = facts.position (λ d. d.index) (answers_always _ _ _ (λ f a r g called. search rules)) in
    let h = found c.args.durations.now c.requires c.args.index (Ok c.in-Ok.place) facts.bound by_index in
    sym h.1

pub returns-in-Err : goal.returns-in-Err
returns-in-Err c =
    let facts = c.in-Err.ensures in
    let by_index = facts.position (λ d. d.index) (answers_always _ _ _ (λ f a r g called. search rules)) in
    sym (found c.args.durations.now c.requires c.args.index (Err c.in-Err.field-0) facts.bound by_index)
