use Rattle.std.proofs.Common.{◌≤◌, ◌+◌, ◌-◌, ◌∙◌, arith, length, Some, None}
use Rattle.mr_rowval.proofs.Loops.{flags_behind, next_some, next_none, flags_end, bits_left}
use Rattle.mr_rowval.proofs.nulls.nulls_at.Goals as goal

pub returns-in-None : goal.returns-in-None
returns-in-None c =
    let m = c.args.count - (c.loop.counter + 1) in
    (flags_behind c.args.count c.args.bytes.now None (c.loop.invariant.0 ∙ next_none (c.args.count - c.loop.counter) m c.loop.bits (omega arith) (c.in-None.ensures.next m)), omega arith)

pub loop-preserved : goal.loop-preserved
loop-preserved c =
    let m = c.args.count - (c.loop.counter + 1) in
    let less : length c.in-Some.next.rest.now ≤ length c.loop.bits.rest.now = c.in-Some.ensures.within in
    (c.loop.invariant.0 ∙ next_some (c.args.count - c.loop.counter) m c.loop.bits c.in-Some.next c.in-Some.field-0-0 (omega arith) (c.in-Some.ensures.next m), omega arith)

pub returns-then-bits-ne0 : goal.returns-then-bits-ne0
returns-then-bits-ne0 c =
    (flags_behind c.args.count c.args.bytes.now None (c.loop.invariant.0 ∙ bits_left (c.args.count - c.loop.counter) c.loop.bits (omega arith) c.if-bits-ne0.true), omega arith)

pub returns : goal.returns
returns c =
    (flags_behind c.args.count c.args.bytes.now (Some c.loop.bits.rest.now) (c.loop.invariant.0 ∙ flags_end (c.args.count - c.loop.counter) c.loop.bits (omega arith) c.if-bits-ne0.false), omega arith)
