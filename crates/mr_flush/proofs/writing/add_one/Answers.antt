use Rattle.std.proofs.Common.{◌≡◌, List, ℕ, Option, Bor}
use Rattle.std.specs.Option.{option_map}
use Rattle.mr_iter.specs.Versions.{as_version}
use Rattle.mr_flush.proofs.Steps.{on_told, stands_on, at_some, adds_one, same_version, memory_cursor}
use Rattle.mr_flush.proofs.writing.add_one.Goals as goal

pub returns-clause-adds : goal.returns-clause-adds
returns-clause-adds g c =
    let before = memory_cursor c.args.cursor.now in
    let here = stands_on before.current c.requires.on in
    let put : Option (List ℕ) = option_map (λ (b : Bor (List ℕ)). b.now) c.put_at-put.result in
    on_told c.next.result (λ tells. c.next.ensures.moved tells tt) (λ moved.
    adds_one before (memory_cursor c.next.new.self) c.args.writer.now c.add.new.self (g.D.Disk.disk c.args.disk.now) (g.D.Disk.disk c.add.new.disk) (g.D.Disk.disk c.next.new._disk) here.0 (as_version c.key.result.now c.sequence.result put)
    c.in_ok-add.ensures.file c.add.ensures.counts c.next.ensures.counts.disk c.add.ensures.others c.next.ensures.same c.in_ok-add.ensures.stands c.in_ok-add.ensures.entries here.1
    (same_version c.key.result.now c.sequence.result put here.0 (at_some before.current here.0 (λ v. c.key.result.now ≡ v.key) here.1 c.key.ensures) (at_some before.current here.0 (λ v. c.sequence.result ≡ v.sequence) here.1 c.sequence.ensures) (at_some before.current here.0 (λ v. put ≡ v.put) here.1 c.put_at-put.ensures))
    c.in_ok-add.ensures.added moved)
