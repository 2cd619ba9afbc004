use Rattle.mr_kv.proofs.Cached.{gapless, not_read}
use Rattle.mr_kv.proofs.Ready.{ready_got}
use Rattle.mr_kv.proofs.kv.Kv.get.Goals as goal

pub returns-clause-ready : goal.returns-clause-ready
returns-clause-ready g c =
    let kv = c.args.self.now in
    let s = g.D.Disk.disk c.args.disk.now in
    let t = g.D.Disk.disk c.get.new.disk in
    let ready = c.requires.ready in
    ready_got kv s t ready c.get.ensures.counts.tells c.get.ensures.same c.args.family c.get.new.self c.get.ensures.only c.get.ensures.memtable c.get.ensures.levels
    (λ told. c.get.ensures.stays_true told (gapless (λ r image is. c.runs_lie_without_gaps.ensures r image is) kv (Rattle.mr_base.specs.Disk.seen s) (ready.holds told) c.args.family) ((ready.holds told).cached c.args.family))
    (λ file bytes told le agrees. c.get.ensures.others file bytes (not_read kv (Rattle.mr_base.specs.Disk.seen s) (ready.holds told) c.args.family file le) agrees)
