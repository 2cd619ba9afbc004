use Rattle.mr_base.specs.Disk.{file_of}
use Rattle.mr_run_writer.proofs.Drafting.{HasClosed, ended_none, ended_some}
use Rattle.mr_run_writer.proofs.Results.{with_ok, at_ok}
use Rattle.mr_run_writer.proofs.writer.RunWriter.close_last.Goals as goal

pub returns-then-self-clause-ended : goal.returns-then-self-clause-ended
returns-then-self-clause-ended g c tells = ended_none c.args.self.now (file_of (g.D.Disk.disk c.args.disk.now) c.args.self.now.buffer.file).bytes c.if-self.true (c.requires.stands tells)

pub returns-else-self-clause-ended : goal.returns-else-self-clause-ended
returns-else-self-clause-ended g c tells = with_ok c.close_block.result _ (λ a is.
    let b = c.close_block.ensures in
    let d : HasClosed c.args.self.now c.close_block.new.self = record { index = at_ok c.close_block.result a _ is b.index; blocks = at_ok c.close_block.result a _ is b.count; versions = b.versions; empty = b.is_empty; entries = b.entries; last = b.last; room = at_ok c.close_block.result a _ is b.room; size = at_ok c.close_block.result a _ is b.size; key = at_ok c.close_block.result a _ is b.key; back = at_ok c.close_block.result a _ is b.back } in
    let file = c.args.self.now.buffer.file in
    ended_some c.args.self.now c.close_block.new.self (file_of (g.D.Disk.disk c.args.disk.now) file).bytes (file_of (g.D.Disk.disk c.close_block.new.disk) file).bytes c.if-self.false d (at_ok c.close_block.result a _ is (b.end tells)) (at_ok c.close_block.result a _ is (b.bytes tells)) (c.requires.stands tells))
