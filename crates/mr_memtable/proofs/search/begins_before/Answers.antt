use Rattle.std.proofs.Common.{◌∙◌, None, sym, ap, arith}
use Rattle.mr_iter.specs.Versions.{as_version}
use Rattle.mr_memtable.specs.Slots.{goes_before}
use Rattle.mr_memtable.proofs.Places.{first_is, some_at, fit_at}
use Rattle.mr_memtable.proofs.search.begins_before.Goals as goal

pub is_chunk_before-requires-clause-some : goal.is_chunk_before-requires-clause-some
is_chunk_before-requires-clause-some c =
    let some = some_at c.args.chunks.now c.args.i c.index-chunks-i.result c.requires.within c.index-chunks-i.is c.requires.some in
    omega (arith, some, c.index-chunks-i.result.slots.ok.0)

pub is_chunk_before-requires-clause-fit : goal.is_chunk_before-requires-clause-fit
is_chunk_before-requires-clause-fit c = fit_at c.args.pieces.now c.args.chunks.now c.args.i c.index-chunks-i.result c.requires.within c.index-chunks-i.is c.requires.fit

pub returns : goal.returns
returns c =
    c.is_chunk_before.ensures ∙ ap (goes_before c.args.direction c.args.pieces.now (as_version c.args.key.now c.args.sequence None)) (sym (first_is c.args.chunks.now c.args.i c.index-chunks-i.result c.requires.within c.index-chunks-i.is))
