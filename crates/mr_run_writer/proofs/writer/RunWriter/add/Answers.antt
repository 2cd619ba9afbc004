use Rattle.std.proofs.Common.{◌≡◌, ◌<◌, ◌≤◌, ◌++◌, ℕ, List, length, Bor, sym, ◌∙◌, subst}
use Rattle.std.specs.Option.{option_map}
use Rattle.std.proofs.lemmas.Bool.{leb-true, leb-false}
use Rattle.mr_base.specs.Disk.{file_of}
use Rattle.mr_iter.specs.Versions.{Version, as_version}
use Rattle.mr_block.specs.Block.{block_bytes}
use Rattle.mr_run_writer.specs.Buffers.{EndsAt}
use Rattle.mr_run_writer.specs.Drafts.{closed_bytes}
use Rattle.mr_run_writer.proofs.Drafting.{HasMore, HasClosed, stays_open, filled, filled_adds}
use Rattle.mr_run_writer.proofs.Results.{with_ok, at_ok}
use Rattle.mr_run_writer.proofs.writer.RunWriter.add.Goals as goal

pub returns-else-is_full-clause-stands : goal.returns-else-is_full-clause-stands
returns-else-is_full-clause-stands g c tells =
    let w1 = c.add_open.new.self in
    let e = c.in_ok-add_open.ensures in
    let v : Version = as_version c.args.key.now c.args.sequence (option_map {T = Bor (List ℕ)} {U = List ℕ} (λ v. v.now) c.args.put) in
    let m : HasMore c.args.self.now w1 v = record { written = e.buffer.1; held = e.buffer.2; index = e.index.1; blocks = e.index.0; versions = e.versions; first = e.first; empty = e.is_empty; entries = e.entries; last = e.last } in
    let small : length (block_bytes w1.block.versions) < 4096 = leb-false 4096 (length (block_bytes w1.block.versions)) (sym c.is_full.ensures ∙ c.if-is_full.false) in
    stays_open c.args.self.now w1 v (file_of (g.D.Disk.disk c.args.disk.now) c.args.self.now.buffer.file).bytes m small (c.requires.stands tells)

pub returns-then-is_full-clause-stands : goal.returns-then-is_full-clause-stands
returns-then-is_full-clause-stands g c tells = with_ok c.close_block.result _ (λ a is.
    let w1 = c.add_open.new.self in
    let e = c.in_ok-add_open.ensures in
    let b = c.close_block.ensures in
    let v : Version = as_version c.args.key.now c.args.sequence (option_map {T = Bor (List ℕ)} {U = List ℕ} (λ v. v.now) c.args.put) in
    let m : HasMore c.args.self.now w1 v = record { written = e.buffer.1; held = e.buffer.2; index = e.index.1; blocks = e.index.0; versions = e.versions; first = e.first; empty = e.is_empty; entries = e.entries; last = e.last } in
    let d : HasClosed w1 c.close_block.new.self = record { index = at_ok c.close_block.result a _ is b.index; blocks = at_ok c.close_block.result a _ is b.count; versions = b.versions; empty = b.is_empty; entries = b.entries; last = b.last; room = at_ok c.close_block.result a _ is b.room; size = at_ok c.close_block.result a _ is b.size; key = at_ok c.close_block.result a _ is b.key; back = at_ok c.close_block.result a _ is b.back } in
    let full : 4096 ≤ length (block_bytes w1.block.versions) = leb-true 4096 (length (block_bytes w1.block.versions)) (sym c.is_full.ensures ∙ c.if-is_full.true) in
    let file = c.args.self.now.buffer.file in
    let same : w1.buffer.file ≡ file = e.buffer.0 in
    filled c.args.self.now w1 c.close_block.new.self v (file_of (g.D.Disk.disk c.args.disk.now) file).bytes (file_of (g.D.Disk.disk c.close_block.new.disk) file).bytes m d full (subst (λ (f : ℕ). EndsAt c.close_block.new.self.buffer.written (file_of (g.D.Disk.disk c.close_block.new.disk) f).bytes) same (at_ok c.close_block.result a _ is (b.end tells)))
    (subst (λ (f : ℕ). closed_bytes c.close_block.new.self (file_of (g.D.Disk.disk c.close_block.new.disk) f).bytes ≡ closed_bytes w1 (file_of (g.D.Disk.disk c.args.disk.now) f).bytes ++ block_bytes w1.block.versions) same (at_ok c.close_block.result a _ is (b.bytes tells))) (c.requires.stands tells))

pub returns-then-is_full-clause-added : goal.returns-then-is_full-clause-added
returns-then-is_full-clause-added g c tells = with_ok c.close_block.result _ (λ a is.
    let w1 = c.add_open.new.self in
    let e = c.in_ok-add_open.ensures in
    let b = c.close_block.ensures in
    let v : Version = as_version c.args.key.now c.args.sequence (option_map {T = Bor (List ℕ)} {U = List ℕ} (λ v. v.now) c.args.put) in
    let m : HasMore c.args.self.now w1 v = record { written = e.buffer.1; held = e.buffer.2; index = e.index.1; blocks = e.index.0; versions = e.versions; first = e.first; empty = e.is_empty; entries = e.entries; last = e.last } in
    let d : HasClosed w1 c.close_block.new.self = record { index = at_ok c.close_block.result a _ is b.index; blocks = at_ok c.close_block.result a _ is b.count; versions = b.versions; empty = b.is_empty; entries = b.entries; last = b.last; room = at_ok c.close_block.result a _ is b.room; size = at_ok c.close_block.result a _ is b.size; key = at_ok c.close_block.result a _ is b.key; back = at_ok c.close_block.result a _ is b.back } in
    let full : 4096 ≤ length (block_bytes w1.block.versions) = leb-true 4096 (length (block_bytes w1.block.versions)) (sym c.is_full.ensures ∙ c.if-is_full.true) in
    let file = c.args.self.now.buffer.file in
    let same : w1.buffer.file ≡ file = e.buffer.0 in
    filled_adds c.args.self.now w1 c.close_block.new.self v (file_of (g.D.Disk.disk c.args.disk.now) file).bytes (file_of (g.D.Disk.disk c.close_block.new.disk) file).bytes m d full (subst (λ (f : ℕ). EndsAt c.close_block.new.self.buffer.written (file_of (g.D.Disk.disk c.close_block.new.disk) f).bytes) same (at_ok c.close_block.result a _ is (b.end tells)))
    (subst (λ (f : ℕ). closed_bytes c.close_block.new.self (file_of (g.D.Disk.disk c.close_block.new.disk) f).bytes ≡ closed_bytes w1 (file_of (g.D.Disk.disk c.args.disk.now) f).bytes ++ block_bytes w1.block.versions) same (at_ok c.close_block.result a _ is (b.bytes tells))) (c.requires.stands tells))
