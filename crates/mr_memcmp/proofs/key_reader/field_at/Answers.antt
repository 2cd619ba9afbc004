use Rattle.std.proofs.Common.{ap, ◌∙◌, length}
use Rattle.std.proofs.lemmas.Result.{err_from_is_err_and}
use Rattle.mr_memcmp.specs.Reading.{field_read, completed, with_rest}
use Rattle.mr_memcmp.proofs.key_reader.field_at.Goals as goal

pub returns-in_err-kept-clause-reads : goal.returns-in_err-kept-clause-reads
unfolding field_read
returns-in_err-kept-clause-reads c =
    let p = err_from_is_err_and c.from_residual.result c.from_residual.ensures.1 in
    rw (p.1, p.2) (ap (completed c.args.column.kind (length c.args.key.now) c.args.unpack.now) c.in_err-kept.ensures.reads)

pub returns-in-Ok-clause-reads : goal.returns-in-Ok-clause-reads
unfolding field_read
returns-in-Ok-clause-reads c =
    ap (completed c.args.column.kind (length c.args.key.now) c.args.unpack.now) c.in_ok-kept.ensures.reads.0
    ∙ ap (with_rest (length c.args.key.now) c.in_ok-kept.rest.now) c.in-Ok.ensures.reads

pub returns-in-Err-clause-reads : goal.returns-in-Err-clause-reads
unfolding field_read
returns-in-Err-clause-reads c =
    ap (completed c.args.column.kind (length c.args.key.now) c.args.unpack.now) c.in_ok-kept.ensures.reads.0
    ∙ ap (with_rest (length c.args.key.now) c.in_ok-kept.rest.now) c.in-Err.ensures.reads
