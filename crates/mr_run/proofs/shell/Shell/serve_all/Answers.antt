use Rattle.std.proofs.Common.{◌≡◌, ◌∙◌, ◌≤◌, List, ℕ, Some, None, map, ◌++◌, ap, sym, refl, take, drop, arith, IsTrue, Err, Ok, Result, OnOk, length, ◌+◌}
use Rattle.std.proofs.lemmas.List.{take-append-le, length-take, length-take-le}
use Rattle.mr_lex.specs.Cutting.{rest_of}
use Rattle.mr_spec.specs.ScriptRun.{read_part}
use Rattle.mr_commit_log.specs.Appending.{early}
use Rattle.mr_commit_log.proofs.GoingOn.{goes_nowhere, goes_then}
use Rattle.mr_run.specs.Cutting.{statements_in}
use Rattle.mr_run.proofs.Feeding.{served_given, goes_then as clocks_then}
use Rattle.mr_run.proofs.Taking.{taken_start, taken_same, taken_on, is_taken, is_taken_more, script_failed, script_too_long, script_cut_inside, script_done, nothing_taken}
use Rattle.mr_run.proofs.shell.Shell.serve_all.Goals as goal

on_any : {T E : Type 0} (P : Type 0) (r : Result T E) → P → OnOk r P
on_any P (Ok x) p = p
on_any P (Err e) p = tt

-- what the source gave stands in the buffer's front
piece_of : (old new out back : List ℕ) (n : ℕ) → n ≤ length out → old ≡ take n out ++ new → old ≡ take n (out ++ back) ++ new
piece_of old new out back n fits moved = moved ∙ ap (λ y. y ++ new) (sym (take-append-le n out back fits))

piece_length : (out back : List ℕ) (n : ℕ) → n ≤ length out → length (take n (out ++ back)) ≡ n
piece_length out back n fits = ap length (take-append-le n out back fits) ∙ length-take-le n out fits

pub loop-taken-init : goal.loop-taken-init
loop-taken-init g c = record {
  so_far = taken_start _ _ c.requires.fresh _ c.requires.none _ _ _;
  bound = omega (arith, c.requires.none);
  given = refl;
  limit = refl;
  clocks = record { tells = refl; untaken = λ some. refl };
  serving = c.requires.serving;
  goes_on = goes_nowhere _;
  later = omega arith;
}

pub returns-in_err-count-clause-serves : goal.returns-in_err-count-clause-serves
returns-in_err-count-clause-serves g c =
    let e = c.in_err-count.ensures in
    script_failed _ (g.S.Source.source c.take.new.self) _ _ _ _ _ _ _ c.loop-taken.taken c.from_residual.result c.from_residual.ensures.1 (omega (arith, c.loop-taken-test.true))
    (taken_same _ (g.S.Source.source c.loop-taken.source) (g.S.Source.source c.take.new.self) _ _ _ _ _ _ _ _ c.loop-taken.invariant.so_far e.tells e.nothing)

pub returns-in_err-count-clause-taken : goal.returns-in_err-count-clause-taken
returns-in_err-count-clause-taken g c =
    let e = c.in_err-count.ensures in
    is_taken _ _ _ _ _ _ _ _ _ _ (taken_same _ _ _ _ _ _ _ _ _ _ _ c.loop-taken.invariant.so_far e.tells e.nothing)

pub returns-then-count-eq0-clause-serves : goal.returns-then-count-eq0-clause-serves
returns-then-count-eq0-clause-serves g c =
    let e = c.in_ok-count.ensures in
    let inv = c.loop-taken.invariant in
    let same = λ (tells : IsTrue (g.S.Source.source c.loop-taken.source).tells). nothing_taken _ _ c.take.new.out c.in_ok-count.count c.if-count-eq0.true (e.moved tells) in
    script_done _ (g.S.Source.source c.take.new.self) _ _ _ _ _ _ _ _ _ _ c.loop-taken.taken c.loop-taken.self.server.log.gate.limit c.finish.result (taken_same _ (g.S.Source.source c.loop-taken.source) (g.S.Source.source c.take.new.self) _ _ _ _ _ _ _ _ inv.so_far e.tells same)
    (λ tells. same (sym e.tells ∙ tells) ∙ e.end (sym e.tells ∙ tells) (omega (arith, c.min-room.ensures, c.loop-taken-test.true, length-take c.min-room.result c.loop-taken.buffer)) c.if-count-eq0.true)
    (omega (arith, c.loop-taken-test.true)) inv.limit c.finish.ensures.cause
    (λ since h. served_given c.args.self.now.given c.loop-taken.self.given _ _ (g.C.Clock.clock c.loop-taken.clock) (g.C.Clock.clock c.finish.new.clock) _ _ (early c.finish.result) (map read_part (rest_of since)) inv.given (c.finish.ensures.serves since h))

pub returns-then-count-eq0-clause-ended : goal.returns-then-count-eq0-clause-ended
returns-then-count-eq0-clause-ended g c = λ tells.
    let e = c.in_ok-count.ensures in
    let now = c.loop-taken.invariant.so_far.tells ∙ tells in
    on_any _ c.finish.result (nothing_taken _ _ c.take.new.out c.in_ok-count.count c.if-count-eq0.true (e.moved now)
    ∙ e.end now (omega (arith, c.min-room.ensures, c.loop-taken-test.true, length-take c.min-room.result c.loop-taken.buffer)) c.if-count-eq0.true)

pub returns-then-count-eq0-clause-taken : goal.returns-then-count-eq0-clause-taken
returns-then-count-eq0-clause-taken g c =
    let e = c.in_ok-count.ensures in
    is_taken _ _ _ _ _ _ _ _ _ _ (taken_same _ _ _ _ _ _ _ _ _ _ _ c.loop-taken.invariant.so_far e.tells
    (λ (tells : IsTrue (g.S.Source.source c.loop-taken.source).tells). nothing_taken _ _ c.take.new.out c.in_ok-count.count c.if-count-eq0.true (e.moved tells)))

pub returns-then-count-eq0-clause-goes_on : goal.returns-then-count-eq0-clause-goes_on
returns-then-count-eq0-clause-goes_on g c = goes_then _ _ _ c.loop-taken.invariant.goes_on c.finish.ensures.goes_on

pub loop-taken-preserved : goal.loop-taken-preserved
loop-taken-preserved g c =
    let inv = c.loop-taken.invariant in
    let e = c.in_ok-count.ensures in
    let n = c.in_ok-count.count in
    let out = c.take.new.out in
    let back = drop c.min-room.result c.loop-taken.buffer in
    let fits : n ≤ length out = omega (arith, e.fits, c.take.auto.out) in
    record {
      so_far = taken_on _ _ _ _ _ (take n (out ++ back)) _ _ _ _ _ _ _ _ _ _ _ inv.so_far e.tells (λ tells. piece_of _ _ out back n fits (e.moved tells))
          (let s : c.loop-taken.taken + n ≡ c.loop-taken.taken + length (take n (out ++ back)) = omega (arith, piece_length out back n fits) in s)
          c.in_ok-feed_all.ensures.holds
          (λ since h. served_given c.args.self.now.given c.loop-taken.self.given _ _ (g.C.Clock.clock c.loop-taken.clock) (g.C.Clock.clock c.feed_all.new.clock) _ _ None (statements_in since (take n (out ++ back))) inv.given (c.in_ok-feed_all.ensures.serves since h));
      bound = omega (arith, inv.bound, e.fits, length-take c.min-room.result c.loop-taken.buffer, c.min-room.ensures);
      given = c.in_ok-feed_all.ensures.given ∙ inv.given;
      limit = c.in_ok-feed_all.ensures.limit ∙ inv.limit;
      clocks = clocks_then c.args.self.now.given c.loop-taken.self.given _ _ _ inv.given inv.clocks c.in_ok-feed_all.ensures.clock;
      serving = c.in_ok-feed_all.ensures.serving;
      goes_on = goes_then _ _ _ inv.goes_on c.in_ok-feed_all.ensures.goes_on;
      later = omega (arith, inv.later, e.later);
    }

pub returns-in_err-feed_all-clause-serves : goal.returns-in_err-feed_all-clause-serves
returns-in_err-feed_all-clause-serves g c =
    let inv = c.loop-taken.invariant in
    let e = c.in_ok-count.ensures in
    let n = c.in_ok-count.count in
    let out = c.take.new.out in
    let back = drop c.min-room.result c.loop-taken.buffer in
    let fits : n ≤ length out = omega (arith, e.fits, c.take.auto.out) in
    script_cut_inside _ (g.S.Source.source c.loop-taken.source) (g.S.Source.source c.take.new.self) _ (take n (out ++ back)) _ _ _ _ _ _ _ _ _ _ _ c.loop-taken.self.server.log.gate.limit c.from_residual-in_err-feed_all.result c.in_err-feed_all.field-0.0 c.from_residual-in_err-feed_all.ensures.1 inv.so_far
    (λ tells. piece_of _ _ out back n fits (e.moved tells)) (let s : c.loop-taken.taken + n ≡ c.loop-taken.taken + length (take n (out ++ back)) = omega (arith, piece_length out back n fits) in s)
    inv.limit c.in_err-feed_all.ensures.cause
    (λ since h. served_given c.args.self.now.given c.loop-taken.self.given _ _ (g.C.Clock.clock c.loop-taken.clock) (g.C.Clock.clock c.feed_all.new.clock) _ _ (Some c.in_err-feed_all.field-0.0) (statements_in since (take n (out ++ back))) inv.given (c.in_err-feed_all.ensures.serves since h))

pub returns-in_err-feed_all-clause-taken : goal.returns-in_err-feed_all-clause-taken
returns-in_err-feed_all-clause-taken g c =
    let inv = c.loop-taken.invariant in
    let e = c.in_ok-count.ensures in
    let n = c.in_ok-count.count in
    let out = c.take.new.out in
    let back = drop c.min-room.result c.loop-taken.buffer in
    let fits : n ≤ length out = omega (arith, e.fits, c.take.auto.out) in
    is_taken_more _ _ _ _ (take n (out ++ back)) _ _ _ _ _ _ _ _ inv.so_far e.tells (λ tells. piece_of _ _ out back n fits (e.moved tells))
    (let s : c.loop-taken.taken + n ≡ c.loop-taken.taken + length (take n (out ++ back)) = omega (arith, piece_length out back n fits) in s)

pub returns-in_err-feed_all-clause-goes_on : goal.returns-in_err-feed_all-clause-goes_on
returns-in_err-feed_all-clause-goes_on g c = goes_then _ _ _ c.loop-taken.invariant.goes_on c.in_err-feed_all.ensures.goes_on

pub returns-clause-serves : goal.returns-clause-serves
returns-clause-serves g c = script_too_long _ _ _ _ _ _ _ _ _ c.loop-taken.taken (omega (arith, c.loop-taken-test.false, c.loop-taken.invariant.bound)) c.loop-taken.invariant.so_far

pub returns-clause-taken : goal.returns-clause-taken
returns-clause-taken g c = is_taken _ _ _ _ _ _ _ _ _ _ c.loop-taken.invariant.so_far

pub returns-in_err-feed_all-clause-at_most : goal.returns-in_err-feed_all-clause-at_most
returns-in_err-feed_all-clause-at_most g c = omega (arith, c.loop-taken.invariant.bound, c.in_ok-count.ensures.fits, length-take c.min-room.result c.loop-taken.buffer, c.min-room.ensures)
