use Rattle.std.proofs.Common.{length, refl}
use Rattle.mr_wal.specs.EngineLog.{record_bytes}
use Rattle.mr_engine_log.specs.Standing.{log_with}
use Rattle.mr_engine_log.proofs.Ready.{ready_added}
use Rattle.mr_engine_log.proofs.record.append.Goals as goal

pub returns-clause-ready : goal.returns-clause-ready
returns-clause-ready g c = λ pending later leaves.
    let disk = g.D.Disk.disk in
    ready_added (log_with c.args.log.now c.args.base c.args.last c.args.item.now.verdict) c.args.item.now.body refl c.add_record.new.log pending later leaves (length (record_bytes c.args.item.now))
    (disk c.args.disk.now) (disk c.add_record.new.disk) c.requires.ready c.in_ok-add_record.ensures.ok c.in_ok-add_record.ensures.counts.tells c.in_ok-add_record.ensures.stands c.in_ok-add_record.ensures.end c.in_ok-add_record.ensures.has
