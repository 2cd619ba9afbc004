use Rattle.std.proofs.lemmas.List.{get_or_read}
use Rattle.mr_families.specs.Known.{no_one}
use Rattle.mr_families.proofs.Needing.{rooms_at}
use Rattle.mr_families.proofs.reserving.reserve_at.Goals as goal

pub returns-clause-same : goal.returns-clause-same
returns-clause-same c =
    let ns = c.args.list.now.items in
    rooms_at ns c.args.place c.index_mut.result.now c.reserve.new.self c.requires.kept.ascending c.requires.place (get_or_read ns c.args.place c.index_mut.result.now c.requires.place c.index_mut.ensures.value no_one) c.reserve.ensures.number c.reserve.ensures.same
