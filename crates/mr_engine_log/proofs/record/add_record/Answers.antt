use Rattle.std.proofs.Common.{◌≡◌, List, ℕ, Ok, sym, ◌∙◌, ap, subst}
use Rattle.mr_base.specs.Disk.{file_of}
use Rattle.mr_base.proofs.Moments.{file_weaker}
use Rattle.mr_gate.specs.Gate.{Gate}
use Rattle.mr_wal.specs.EngineLog.{record_bytes, read_record}
use Rattle.mr_engine_log.proofs.Replaying.{has_record, may_have_record, record_fits, end_after}
use Rattle.mr_engine_log.proofs.record.add_record.Goals as goal

pub returns-in_err-append-clause-any_moment : goal.returns-in_err-append-clause-any_moment
returns-in_err-append-clause-any_moment g c tells =
    let disk = g.D.Disk.disk in
    let file = c.args.log.now.file in
    let is : c.as_slice.result.now ≡ record_bytes c.args.item.now = c.as_slice.ensures ∙ c.in_ok-body.ensures.written in
    let reads : read_record c.as_slice.result.now ≡ Ok c.args.item.now = subst (λ (b : List ℕ). read_record b ≡ Ok c.args.item.now) (sym c.as_slice.ensures) (c.in_ok-body.ensures.reads_back (record_fits c.args.item.now c.in_ok-body.ensures.fits c.requires.rules)) in
    file_weaker file _ _ _ _ (λ f either rest. may_have_record c.args.log.now.end c.args.item.now c.as_slice.result.now (file_of (disk c.args.disk.now) file).bytes (c.requires.end tells) is reads f (either rest)) (c.append.ensures.any_moment tells)

pub returns-clause-any_moment : goal.returns-clause-any_moment
returns-clause-any_moment g c tells =
    let disk = g.D.Disk.disk in
    let file = c.args.log.now.file in
    let is : c.as_slice.result.now ≡ record_bytes c.args.item.now = c.as_slice.ensures ∙ c.in_ok-body.ensures.written in
    let reads : read_record c.as_slice.result.now ≡ Ok c.args.item.now = subst (λ (b : List ℕ). read_record b ≡ Ok c.args.item.now) (sym c.as_slice.ensures) (c.in_ok-body.ensures.reads_back (record_fits c.args.item.now c.in_ok-body.ensures.fits c.requires.rules)) in
    file_weaker file _ _ _ _ (λ f either rest. may_have_record c.args.log.now.end c.args.item.now c.as_slice.result.now (file_of (disk c.args.disk.now) file).bytes (c.requires.end tells) is reads f (either rest)) (c.append.ensures.any_moment tells)

pub returns-clause-has : goal.returns-clause-has
returns-clause-has g c tells =
    let disk = g.D.Disk.disk in
    let file = c.args.log.now.file in
    let is : c.as_slice.result.now ≡ record_bytes c.args.item.now = c.as_slice.ensures ∙ c.in_ok-body.ensures.written in
    let reads : read_record c.as_slice.result.now ≡ Ok c.args.item.now = subst (λ (b : List ℕ). read_record b ≡ Ok c.args.item.now) (sym c.as_slice.ensures) (c.in_ok-body.ensures.reads_back (record_fits c.args.item.now c.in_ok-body.ensures.fits c.requires.rules)) in
    has_record c.args.log.now.end c.args.item.now c.as_slice.result.now (file_of (disk c.args.disk.now) file).bytes (c.requires.end tells) is reads (file_of (disk c.append.new.disk) file).bytes (c.in_ok-append.ensures.added tells)

pub returns-clause-end : goal.returns-clause-end
returns-clause-end g c tells =
    let disk = g.D.Disk.disk in
    let file = c.args.log.now.file in
    ap (λ (log : Gate). log.end) c.in_ok-append.ensures.ok
    ∙ (end_after c.args.log.now.end c.as_slice.result.now (file_of (disk c.args.disk.now) file).bytes (file_of (disk c.append.new.disk) file).bytes (c.requires.sound tells) (c.requires.end tells) (c.in_ok-append.ensures.added tells)).1
