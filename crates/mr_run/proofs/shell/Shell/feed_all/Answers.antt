use Rattle.std.proofs.Common.{◌∙◌, ℕ, List, None, refl, subst, take, take_all, get_or}
use Rattle.mr_commit_log.proofs.GoingOn.{goes_nowhere, goes_then}
use Rattle.mr_run.specs.Clocks.{clock_of}
use Rattle.mr_run.specs.Cutting.{left_by, statements_in}
use Rattle.mr_run.specs.Holding.{Holds}
use Rattle.mr_run.specs.Serving.{Serves}
use Rattle.mr_run.proofs.Feeding.{served_byte, served_byte_cut, holds_byte, goes_then as clocks_then}
use Rattle.mr_run.proofs.Served.{served_nothing, served_early}
use Rattle.mr_run.proofs.shell.Shell.feed_all.Goals as goal

pub loop-byte-init : goal.loop-byte-init
loop-byte-init g c = record {
  serves = λ since h. served_nothing _ _ _;
  holds = λ since h. h;
  given = refl;
  limit = refl;
  serving = c.requires.serving;
  clocks = record { tells = refl; untaken = λ some. refl };
  goes_on = goes_nowhere _;
}

pub returns-in_err-feed-clause-serves : goal.returns-in_err-feed-clause-serves
returns-in_err-feed-clause-serves g c = λ since h.
    let inv = c.loop-byte.invariant in
    served_early _ _ _ _ _ _ _ c.from_residual.result c.in_err-feed.field-0.0 c.from_residual.ensures.1
    (served_byte_cut _ _ _ c.args.self.now.given c.loop-byte.self.given _ (g.C.Clock.clock c.loop-byte.clock) _ _ (g.H.Disk.disk c.loop-byte.host) _ c.in_err-feed.field-0.0 since c.args.bytes.now c.loop-byte.byte-index (get_or c.args.bytes.now c.loop-byte.byte-index 0) c.loop-byte-test.true refl inv.given
    (inv.serves since h) (c.in_err-feed.ensures.serves (left_by since (take c.loop-byte.byte-index c.args.bytes.now)) (inv.holds since h)))

pub loop-byte-preserved : goal.loop-byte-preserved
loop-byte-preserved g c =
    let inv = c.loop-byte.invariant in
    let e = c.in_ok-feed.ensures in
    let i = c.loop-byte.byte-index in
    let bytes = c.args.bytes.now in
    record {
      serves = λ since h. served_byte _ _ _ c.args.self.now.given c.loop-byte.self.given _ (g.C.Clock.clock c.loop-byte.clock) _ _ (g.H.Disk.disk c.loop-byte.host) _ None since bytes i (get_or c.args.bytes.now c.loop-byte.byte-index 0) c.loop-byte-test.true refl inv.given
          (inv.serves since h) (e.serves (left_by since (take i bytes)) (inv.holds since h));
      holds = λ since h. holds_byte c.feed.new.self.part since bytes i (get_or c.args.bytes.now c.loop-byte.byte-index 0) c.loop-byte-test.true refl (e.holds (left_by since (take i bytes)) (inv.holds since h));
      given = e.given ∙ inv.given;
      limit = e.limit ∙ inv.limit;
      serving = e.serving;
      clocks = clocks_then c.args.self.now.given c.loop-byte.self.given _ _ _ inv.given inv.clocks e.clock;
      goes_on = goes_then _ _ _ inv.goes_on e.goes_on;
    }

pub returns-clause-serves : goal.returns-clause-serves
returns-clause-serves g c = λ since h.
    let inv = c.loop-byte.invariant in
    subst (λ (x : List ℕ). Serves c.args.self.now.server c.loop-byte.self.server (clock_of c.args.self.now.given (g.C.Clock.clock c.args.clock.now)) (clock_of c.args.self.now.given (g.C.Clock.clock c.loop-byte.clock)) (g.H.Disk.disk c.args.host.now) (g.H.Disk.disk c.loop-byte.host) None (statements_in since x))
    (take_all c.loop-byte.byte-index c.args.bytes.now c.loop-byte-test.false) (inv.serves since h)

pub returns-clause-holds : goal.returns-clause-holds
returns-clause-holds g c = λ since h.
    subst (λ (x : List ℕ). Holds c.loop-byte.self.part (left_by since x)) (take_all c.loop-byte.byte-index c.args.bytes.now c.loop-byte-test.false) (c.loop-byte.invariant.holds since h)
