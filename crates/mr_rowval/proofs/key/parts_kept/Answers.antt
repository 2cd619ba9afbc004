use Rattle.std.proofs.Common.{◌≤◌, ◌∙◌, arith, length}
use Rattle.std.specs.Option.{option_copied}
use Rattle.std.proofs.lemmas.Result.{err_from_is_err_and}
use Rattle.mr_rowval.proofs.Loops.{kept_on, kept_stops}
use Rattle.mr_rowval.proofs.key.parts_kept.Goals as goal

pub returns-in_err-rest : goal.returns-in_err-rest
returns-in_err-rest c =
    let p = err_from_is_err_and c.from_residual.result c.from_residual.ensures.1 in
    let read = c.loop-place.invariant.0 ∙ kept_stops c.args.columns.now c.args.places.now c.loop-place.rest.now _ c.loop-place.place-index (option_copied c.at.result) (omega arith) c.at.ensures c.in_err-rest.ensures.0 in
    rw (p.1, p.2) (read, omega (arith, c.in_err-rest.ensures.1))

pub loop-place-preserved : goal.loop-place-preserved
loop-place-preserved c =
    let less : length c.in_ok-rest.rest.now ≤ length c.loop-place.rest.now = c.in_ok-rest.ensures.1 in
    (c.loop-place.invariant.0 ∙ kept_on c.args.columns.now c.args.places.now c.loop-place.rest.now c.in_ok-rest.rest.now c.loop-place.place-index (option_copied c.at.result) (omega arith) c.at.ensures c.in_ok-rest.ensures.0, omega arith)
