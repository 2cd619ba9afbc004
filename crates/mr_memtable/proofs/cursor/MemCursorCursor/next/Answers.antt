use Rattle.std.proofs.Common.{◌≡◌, ◌<◌, ◌+◌, ℕ, ◌∙◌, ap, drop, length, arith}
use Rattle.mr_memtable.specs.Chunks.{sizes}
use Rattle.mr_memtable.specs.Tables.{flat, versions_in}
use Rattle.mr_memtable.specs.Standing.{left_list}
use Rattle.mr_memtable.proofs.Stands.{on_chunk}
use Rattle.mr_memtable.proofs.cursor.MemCursorCursor.next.Goals as goal

pub stand-place-requires-clause-behind : goal.stand-place-requires-clause-behind
stand-place-requires-clause-behind g c = λ le.
    let lt : c.args.self.now.chunk < length c.args.self.now.table.now.chunks.items = on_chunk c.args.self.now.table.now.bytes.items c.args.self.now.table.now.chunks.items c.args.self.now.chunk c.args.self.now.at c.args.self.now.standing c.requires in
    absurd (omega (arith, le, lt))

pub returns-clause-moved : goal.returns-clause-moved
returns-clause-moved g c = λ _ _.
    let vs = versions_in c.args.self.now.table.now.bytes.items c.args.self.now.table.now.chunks.items in
    let e : flat (sizes c.args.self.now.table.now.chunks.items) c.stand-place.result.chunk c.stand-place.result.at ≡ flat (sizes c.args.self.now.table.now.chunks.items) c.args.self.now.chunk c.args.self.now.at + 1 = omega (arith, c.stand-place.ensures.flat) in
    left_list vs (flat (sizes c.args.self.now.table.now.chunks.items) c.stand-place.result.chunk c.stand-place.result.at) ∙ ap (λ (n : ℕ). drop n vs) e
