use Rattle.std.proofs.Common.{◌≡◌, ◌<◌, ◌+◌, ◌-◌, ℕ, false, None, length, sym, subst, arith}
use Rattle.mr_iter.specs.Versions.{as_version}
use Rattle.mr_memtable.specs.Slots.{goes_before}
use Rattle.mr_memtable.specs.Chunks.{first_slot}
use Rattle.mr_memtable.proofs.Places.{place_first, place_at}
use Rattle.mr_memtable.proofs.search.find.Goals as goal

pub returns-then-begun-eq0-clause-place : goal.returns-then-begun-eq0-clause-place
returns-then-begun-eq0-clause-place c =
    place_first c.args.direction c.args.pieces.now (as_version c.args.key.now c.args.sequence None) c.args.chunks.now c.requires.some
    (λ lt. subst (λ (n : ℕ). n < length c.args.chunks.now → goes_before c.args.direction c.args.pieces.now (as_version c.args.key.now c.args.sequence None) (first_slot c.args.chunks.now n) ≡ false) c.if-begun-eq0.true c.find_chunk-begun.ensures.behind lt)

pub returns-clause-place : goal.returns-clause-place
returns-clause-place c =
    let i = c.find_chunk-begun.result - 1 in
    let lt : c.find_chunk-begun.result - 1 < length c.args.chunks.now = omega (arith, c.find_chunk-begun.ensures.within, c.if-begun-eq0.false) in
    let up : (c.find_chunk-begun.result - 1) + 1 ≡ c.find_chunk-begun.result = omega (arith, c.if-begun-eq0.false) in
    let x = as_version c.args.key.now c.args.sequence None in
    place_at c.args.direction c.args.pieces.now x c.args.chunks.now i c.find_in_chunk-at.result c.index-chunks-chunk.result c.requires.some lt c.index-chunks-chunk.is
    (c.find_chunk-begun.ensures.before (omega (arith, c.if-begun-eq0.false)))
    (λ more. subst (λ (n : ℕ). n < length c.args.chunks.now → goes_before c.args.direction c.args.pieces.now x (first_slot c.args.chunks.now n) ≡ false) (sym up) c.find_chunk-begun.ensures.behind more)
    c.find_in_chunk-at.ensures.within c.find_in_chunk-at.ensures.before c.find_in_chunk-at.ensures.behind
