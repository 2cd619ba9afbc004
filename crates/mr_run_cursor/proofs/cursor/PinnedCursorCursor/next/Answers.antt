use Rattle.std.proofs.Common.{◌≡◌, ◌∙◌, None, sym, subst, arith}
use Rattle.mr_base.specs.Disk.{seen}
use Rattle.mr_run_cursor.specs.Laws.{upto_end, sought_start, whole_keys}
use Rattle.mr_run_cursor.specs.Pinned.{stands}
use Rattle.mr_run_open.specs.Runs.{first_block, are_in_order}
use Rattle.mr_run_cursor.proofs.Moving.{next_stands, next_counts, next_steps, next_whole, next_moved, more_moved, within_end}
use Rattle.mr_run_cursor.proofs.cursor.PinnedCursorCursor.next.Goals as goal

pub overflow_add-self : goal.overflow_add-self
overflow_add-self g c = omega (arith, c.has_more.ensures.fits c.if-has_more.true)

pub returns-then-has_more-clause-moved : goal.returns-then-has_more-clause-moved
returns-then-has_more-clause-moved g c tells whole = more_moved c.args.self.now.run.now c.args.self.now.start c.args.self.now.end c.args.self.now.at c.args.self.now.block (seen (g.D.Disk.disk c.args.disk.now)) (sym c.has_more.ensures.more ∙ c.if-has_more.true)

pub invariant_of-self-in-Ok : goal.invariant_of-self-in-Ok
invariant_of-self-in-Ok g c =
    let upto = upto_end c.args.self.now.run.now c.args.self.now.start c.args.self.now.end c.args.self.now.at c.args.self.now.block c.args.self.now.standing in
    record { standing = next_stands c.args.self.now.run.now c.args.self.now.start c.args.self.now.end c.following-self.result c.in-Ok.block upto.0 upto.1 c.following-self.ensures c.in-Ok.ensures.some c.in-Ok.ensures.entries }

pub returns-in-Ok-clause-counts : goal.returns-in-Ok-clause-counts
returns-in-Ok-clause-counts g c =
    let upto = upto_end c.args.self.now.run.now c.args.self.now.start c.args.self.now.end c.args.self.now.at c.args.self.now.block c.args.self.now.standing in
    next_counts c.args.self.now.run.now c.args.self.now.start c.args.self.now.end c.following-self.result c.args.self.now.at c.args.self.now.block c.in-Ok.block (g.D.Disk.disk c.args.disk.now) (g.D.Disk.disk c.next_block.new.disk) upto.0 upto.1 c.following-self.ensures c.next_block.ensures.counts

pub returns-in-Ok-clause-steps : goal.returns-in-Ok-clause-steps
returns-in-Ok-clause-steps g c = next_steps c.args.self.now.run.now c.args.self.now.start c.args.self.now.end c.following-self.result c.args.self.now.at c.args.self.now.block c.in-Ok.block c.args.self.now.standing c.requires c.following-self.ensures c.in-Ok.ensures.some c.in-Ok.ensures.entries

pub returns-in-Ok-clause-whole : goal.returns-in-Ok-clause-whole
returns-in-Ok-clause-whole g c tells whole = next_whole c.args.self.now.run.now c.args.self.now.end c.args.self.now.end c.following-self.result c.args.self.now.block c.in-Ok.block (seen (g.D.Disk.disk c.args.disk.now)) c.following-self.ensures c.in-Ok.ensures.some (c.in-Ok.ensures.held tells) whole

pub returns-in-Ok-clause-moved : goal.returns-in-Ok-clause-moved
returns-in-Ok-clause-moved g c tells whole = next_moved c.args.self.now.run.now c.args.self.now.start c.args.self.now.end c.following-self.result c.args.self.now.at c.args.self.now.block c.in-Ok.block (seen (g.D.Disk.disk c.args.disk.now)) c.args.self.now.standing c.requires (sym c.has_more.ensures.more ∙ c.if-has_more.false) c.following-self.ensures c.in-Ok.ensures.some c.in-Ok.ensures.entries (c.in-Ok.ensures.held tells)

pub returns-in-Err-clause-counts : goal.returns-in-Err-clause-counts
returns-in-Err-clause-counts g c =
    let upto = upto_end c.args.self.now.run.now c.args.self.now.start c.args.self.now.end c.args.self.now.at c.args.self.now.block c.args.self.now.standing in
    next_counts c.args.self.now.run.now c.args.self.now.start c.args.self.now.end c.following-self.result c.args.self.now.at c.args.self.now.block None (g.D.Disk.disk c.args.disk.now) (g.D.Disk.disk c.next_block.new.disk) upto.0 upto.1 c.following-self.ensures c.next_block.ensures.counts

pub returns-in-Err-clause-spent : goal.returns-in-Err-clause-spent
returns-in-Err-clause-spent g c k tells whole steady one sought =
    let r = c.args.self.now.run.now in
    let keys = whole_keys c.args.self.now.run.now c.args.self.now.end c.args.self.now.block (seen (g.D.Disk.disk c.args.disk.now)) whole in
    let same = sought_start (are_in_order c.args.self.now.run.now.direction c.args.self.now.run.now.index.blocks) c.args.self.now.start (first_block c.args.self.now.run.now.direction k c.args.self.now.run.now.index.blocks) keys sought in
    within_end c.args.self.now.run.now c.args.self.now.start c.following-self.result 0 None (seen (g.D.Disk.disk c.args.disk.now)) k same (omega (arith, c.following-self.ensures))
