use Rattle.std.proofs.Common.{arith}
use Rattle.mr_rowval.proofs.Decoding.{found_all, found_more, found_end}
use Rattle.mr_rowval.proofs.walked.parts_at.Goals as goal

pub returns-then-rest-gt0 : goal.returns-then-rest-gt0
returns-then-rest-gt0 c =
    let all = found_all c.args.columns.now c.args.places.now c.args.key.now c.args.nulls.now c.in_ok-unpack.unpack.now c.in_ok-plain.plain.now c.in-Ok.rest.now c.nullable_count.result c.in-Ok.field-0-0 c.nullable_count.ensures c.in_ok-unpack.ensures.0 c.in_ok-plain.ensures.0 c.in-Ok.ensures.reads in
    (found_more c.args.columns.now c.args.places.now c.args.key.now c.args.nulls.now c.in_ok-unpack.unpack.now c.in_ok-plain.plain.now c.in-Ok.rest.now all (omega (arith, c.if-rest-gt0.true)), omega (arith, c.in-Ok.ensures.within, c.in_ok-plain.ensures.1, c.in_ok-unpack.ensures.1))

pub returns-else-rest-gt0 : goal.returns-else-rest-gt0
returns-else-rest-gt0 c =
    let all = found_all c.args.columns.now c.args.places.now c.args.key.now c.args.nulls.now c.in_ok-unpack.unpack.now c.in_ok-plain.plain.now c.in-Ok.rest.now c.nullable_count.result c.in-Ok.field-0-0 c.nullable_count.ensures c.in_ok-unpack.ensures.0 c.in_ok-plain.ensures.0 c.in-Ok.ensures.reads in
    found_end c.args.columns.now c.args.places.now c.args.key.now c.args.nulls.now c.in_ok-unpack.unpack.now c.in_ok-plain.plain.now c.in-Ok.rest.now all (omega (arith, c.if-rest-gt0.false))
