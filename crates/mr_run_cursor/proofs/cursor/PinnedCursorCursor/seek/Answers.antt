use Rattle.std.proofs.Common.{◌≡◌, ◌<◌, ◌≤◌, ◌+◌, ℕ, List, None, Option, Ok, IfSome, length, drop, get_or, subst, arith}
use Rattle.mr_base.specs.Disk.{Image, seen}
use Rattle.mr_iter.specs.Versions.{version_cmp, IsInOrder, from_key}
use Rattle.mr_run_file.specs.Reading.{versions_at}
use Rattle.mr_run_open.specs.Runs.{first_block, are_in_order, no_block}
use Rattle.mr_run_cursor.specs.declared.blocks.Pin.{Pin}
use Rattle.mr_run_cursor.specs.Found.{IsFoundIn}
use Rattle.mr_run_cursor.specs.Laws.{whole_keys}
use Rattle.mr_run_cursor.specs.Pinned.{HoldsBlock, IsRunOffence}
use Rattle.mr_run_cursor.proofs.Moving.{one_counts, two_counts, seek_reads, sought_here, seek_found, seek_next, next_stands, within_end, later_stop, earlier}
use Rattle.mr_run_cursor.proofs.cursor.PinnedCursorCursor.seek.Goals as goal

pub returns-in-Ok-Some-clause-counts : goal.returns-in-Ok-Some-clause-counts
returns-in-Ok-Some-clause-counts g c = one_counts c.args.self.now.run.now.index.blocks c.first_block-first.result c.following-behind.result (g.D.Disk.disk c.args.disk.now) (g.D.Disk.disk c.find_in.new.disk) c.first_block-first.ensures.within c.following-behind.ensures c.in-Ok-Some.ensures.counts

pub returns-in-Ok-Some-clause-found : goal.returns-in-Ok-Some-clause-found
returns-in-Ok-Some-clause-found g c tells whole =
    let r = c.args.self.now.run.now in
    let image = seen (g.D.Disk.disk c.args.disk.now) in
    let n = c.first_block-first.result in
    let found = subst (λ (o : Option Pin). IsFoundIn c.args.self.now.run.now.direction c.args.key.now (seen (g.D.Disk.disk c.args.disk.now) c.args.self.now.run.now.file) (get_or c.args.self.now.run.now.index.blocks c.first_block-first.result no_block) o) c.in-Ok-Some.field-0-is (c.in-Ok-Some.ensures.found tells) in
    let within = subst (λ (o : Option Pin). IfSome o (λ p. (p.at < length p.block) × (length p.block ≤ (get_or c.args.self.now.run.now.index.blocks c.first_block-first.result no_block).size))) c.in-Ok-Some.field-0-is c.in-Ok-Some.ensures.entries in
    seek_found r n c.following-behind.result c.in-Ok-Some.pin.at c.args.self.now.end c.args.self.now.block image c.args.key.now c.in-Ok-Some.pin.block whole c.first_block-first.ensures.within c.following-behind.ensures
    (c.first_block-first.ensures.found (whole_keys r c.args.self.now.end c.args.self.now.block image whole)) found.0 found.1 within.0

pub returns-in-Ok-Some-clause-sought : goal.returns-in-Ok-Some-clause-sought
returns-in-Ok-Some-clause-sought g c = sought_here (are_in_order c.args.self.now.run.now.direction c.args.self.now.run.now.index.blocks) c.first_block-first.result (first_block c.args.self.now.run.now.direction c.args.key.now c.args.self.now.run.now.index.blocks) c.first_block-first.ensures.found

pub returns-in-Err-clause-counts : goal.returns-in-Err-clause-counts
returns-in-Err-clause-counts g c = one_counts c.args.self.now.run.now.index.blocks c.first_block-first.result c.following-behind.result (g.D.Disk.disk c.args.disk.now) (g.D.Disk.disk c.find_in.new.disk) c.first_block-first.ensures.within c.following-behind.ensures c.in-Err.ensures.counts

pub returns-in-Err-clause-spent : goal.returns-in-Err-clause-spent
returns-in-Err-clause-spent g c tells whole one =
    seek_reads c.args.self.now.run.now c.first_block-first.result c.following-behind.result c.args.key.now (g.D.Disk.disk c.args.disk.now) (g.D.Disk.disk c.find_in.new.disk)
    (c.first_block-first.ensures.found (whole_keys c.args.self.now.run.now c.args.self.now.end c.args.self.now.block (seen (g.D.Disk.disk c.args.disk.now)) whole))
    (omega (arith, c.following-behind.ensures)) (one_counts c.args.self.now.run.now.index.blocks c.first_block-first.result c.following-behind.result (g.D.Disk.disk c.args.disk.now) (g.D.Disk.disk c.find_in.new.disk) c.first_block-first.ensures.within c.following-behind.ensures c.in-Err.ensures.counts)

pub returns-in-Err-clause-anew : goal.returns-in-Err-clause-anew
returns-in-Err-clause-anew g c tells whole one anew =
    within_end c.args.self.now.run.now c.first_block-first.result c.following-behind.result 0 None (seen (g.D.Disk.disk c.args.disk.now)) c.args.key.now
    (c.first_block-first.ensures.found (whole_keys c.args.self.now.run.now c.args.self.now.end c.args.self.now.block (seen (g.D.Disk.disk c.args.disk.now)) whole)) (omega (arith, c.following-behind.ensures))

pub invariant_of-self-in-Ok : goal.invariant_of-self-in-Ok
invariant_of-self-in-Ok g c = record { standing = next_stands c.args.self.now.run.now c.first_block-first.result c.following-behind.result c.following-self.result c.in-Ok.block (omega (arith, c.following-behind.ensures, c.first_block-first.ensures.within)) (omega (arith, c.following-behind.ensures)) c.following-self.ensures c.in-Ok.ensures.some c.in-Ok.ensures.entries }

pub returns-in-Ok-clause-counts : goal.returns-in-Ok-clause-counts
returns-in-Ok-clause-counts g c = two_counts c.args.self.now.run.now.index.blocks c.first_block-first.result c.following-behind.result c.following-self.result (g.D.Disk.disk c.args.disk.now) (g.D.Disk.disk c.find_in.new.disk) (g.D.Disk.disk c.next_block.new.disk) c.first_block-first.ensures.within c.following-behind.ensures c.following-self.ensures c.in-Ok-None.ensures.counts c.in-Ok.ensures.counts

pub returns-in-Ok-clause-found : goal.returns-in-Ok-clause-found
returns-in-Ok-clause-found g c tells whole =
    let r = c.args.self.now.run.now in
    let image = seen (g.D.Disk.disk c.args.disk.now) in
    let n = c.first_block-first.result in
    let none = subst (λ (o : Option Pin). IsFoundIn c.args.self.now.run.now.direction c.args.key.now (seen (g.D.Disk.disk c.args.disk.now) c.args.self.now.run.now.file) (get_or c.args.self.now.run.now.index.blocks c.first_block-first.result no_block) o) c.in-Ok-None.field-0-is (c.in-Ok-None.ensures.found tells) in
    let held = earlier (HoldsBlock c.args.self.now.run.now (c.following-behind.result + 1) c.in-Ok.block) _ _ (g.D.Disk.disk c.args.disk.now) (g.D.Disk.disk c.find_in.new.disk) c.in-Ok-None.ensures.same c.in-Ok-None.ensures.counts c.in-Ok.ensures.held tells in
    seek_next r n c.following-behind.result c.following-self.result c.args.self.now.end c.args.self.now.block c.in-Ok.block image c.args.key.now whole c.first_block-first.ensures.within c.following-behind.ensures
    (c.first_block-first.ensures.found (whole_keys r c.args.self.now.end c.args.self.now.block image whole)) none c.following-self.ensures c.in-Ok.ensures.some c.in-Ok.ensures.entries held

pub returns-in-Err-next_block-clause-counts : goal.returns-in-Err-next_block-clause-counts
returns-in-Err-next_block-clause-counts g c = two_counts c.args.self.now.run.now.index.blocks c.first_block-first.result c.following-behind.result c.following-self.result (g.D.Disk.disk c.args.disk.now) (g.D.Disk.disk c.find_in.new.disk) (g.D.Disk.disk c.next_block.new.disk) c.first_block-first.ensures.within c.following-behind.ensures c.following-self.ensures c.in-Ok-None.ensures.counts c.in-Err-next_block.ensures.counts

pub returns-in-Err-next_block-clause-stops : goal.returns-in-Err-next_block-clause-stops
returns-in-Err-next_block-clause-stops g c = later_stop (IsRunOffence c.args.self.now.run.now) _ _ (g.D.Disk.disk c.args.disk.now) (g.D.Disk.disk c.find_in.new.disk) (g.D.Disk.disk c.next_block.new.disk) c.in-Ok-None.ensures.same c.in-Ok-None.ensures.counts c.in-Err-next_block.stop c.in-Err-next_block.ensures.stops

pub returns-in-Err-next_block-clause-spent : goal.returns-in-Err-next_block-clause-spent
returns-in-Err-next_block-clause-spent g c tells whole one =
    seek_reads c.args.self.now.run.now c.first_block-first.result c.following-self.result c.args.key.now (g.D.Disk.disk c.args.disk.now) (g.D.Disk.disk c.next_block.new.disk)
    (c.first_block-first.ensures.found (whole_keys c.args.self.now.run.now c.args.self.now.end c.args.self.now.block (seen (g.D.Disk.disk c.args.disk.now)) whole))
    (omega (arith, c.following-self.ensures)) (two_counts c.args.self.now.run.now.index.blocks c.first_block-first.result c.following-behind.result c.following-self.result (g.D.Disk.disk c.args.disk.now) (g.D.Disk.disk c.find_in.new.disk) (g.D.Disk.disk c.next_block.new.disk) c.first_block-first.ensures.within c.following-behind.ensures c.following-self.ensures c.in-Ok-None.ensures.counts c.in-Err-next_block.ensures.counts)

pub returns-in-Err-next_block-clause-anew : goal.returns-in-Err-next_block-clause-anew
returns-in-Err-next_block-clause-anew g c tells whole one anew =
    within_end c.args.self.now.run.now c.first_block-first.result c.following-self.result 0 None (seen (g.D.Disk.disk c.args.disk.now)) c.args.key.now
    (c.first_block-first.ensures.found (whole_keys c.args.self.now.run.now c.args.self.now.end c.args.self.now.block (seen (g.D.Disk.disk c.args.disk.now)) whole)) (omega (arith, c.following-self.ensures))
