use Rattle.std.proofs.Common.{◌≡◌, ◌<◌, ◌^◌, ◌++◌, ℕ, List, length, ◌∙◌, ap, subst, arith}
use Rattle.mr_base.specs.Disk.{Tells, file_of}
use Rattle.mr_base.proofs.Counting.{still_tells}
use Rattle.mr_run_file.specs.Format.{key_bytes, footer_bytes}
use Rattle.mr_run_writer.specs.Buffers.{with_held}
use Rattle.mr_run_writer.specs.Drafts.{closed_bytes}
use Rattle.mr_run_writer.proofs.Drafting.{written_out}
use Rattle.mr_run_writer.proofs.Results.{with_ok, at_ok, if_at_ok}
use Rattle.mr_run_writer.proofs.writer.RunWriter.write_end.Goals as goal

pub returns-clause-written : goal.returns-clause-written
returns-clause-written g c vs tells some ended = with_ok c.finish-2.result _ (λ n is.
    let disk = g.D.Disk.disk in
    let w = c.args.self in
    let file = c.args.self.buffer.file in
    let tells1 : Tells (disk c.append.new.disk) = still_tells _ _ _ _ _ c.append.ensures.counts tells in
    let held : (file_of (disk c.finish-2.new.disk) c.append.new.self.file).bytes ≡ with_held c.append.new.self.written c.append.new.self.held.items (file_of (disk c.append.new.disk) c.append.new.self.file).bytes = at_ok c.finish-2.result n _ is (c.finish-2.ensures.bytes tells1) in
    let held_here : (file_of (disk c.finish-2.new.disk) file).bytes ≡ with_held c.append.new.self.written c.append.new.self.held.items (file_of (disk c.append.new.disk) file).bytes =
    subst (λ (f : ℕ). (file_of (disk c.finish-2.new.disk) f).bytes ≡ with_held c.append.new.self.written c.append.new.self.held.items (file_of (disk c.append.new.disk) f).bytes) c.append.ensures.file held in
    let whole : (file_of (disk c.finish-2.new.disk) file).bytes ≡ closed_bytes w (file_of (disk c.args.disk.now) file).bytes ++ c.in_ok-tail.tail.items =
    held_here ∙ c.in_ok-append.ensures.bytes tells ∙ ap (λ (l : List ℕ). closed_bytes w (file_of (disk c.args.disk.now) file).bytes ++ l) c.deref-2.ensures.value in
    let tail : c.in_ok-tail.tail.items ≡ (w.index.bytes.items ++ key_bytes w.last.items) ++ footer_bytes c.in_ok-place.place (length (w.index.bytes.items ++ key_bytes w.last.items)) w.index.blocks w.entries =
    c.in_ok-tail.ensures.bytes ∙ ap (λ (l : List ℕ). (w.index.bytes.items ++ key_bytes l) ++ footer_bytes c.in_ok-place.place (length (w.index.bytes.items ++ key_bytes l)) w.index.blocks w.entries) c.deref.ensures.value in
    let long : length (file_of (disk c.finish-2.new.disk) c.append.new.self.file).bytes ≡ n = if_at_ok c.finish-2.result n _ is (c.finish-2.ensures.length tells1) in
    let long_here : length (file_of (disk c.finish-2.new.disk) file).bytes ≡ n = subst (λ (f : ℕ). length (file_of (disk c.finish-2.new.disk) f).bytes ≡ n) c.append.ensures.file long in
    let fits : n < 2 ^ 64 = if_at_ok c.finish-2.result n (λ m. m < 2 ^ 64) is c.finish-2.ensures.fits in
    let small : length (file_of (disk c.finish-2.new.disk) file).bytes < 2 ^ 64 = omega (arith, long_here, fits) in
    let last : length w.last.items < 2 ^ 32 = omega (arith, c.in_ok-tail.ensures.last, ap length c.deref.ensures.value) in
    written_out w (file_of (disk c.args.disk.now) file).bytes (file_of (disk c.finish-2.new.disk) file).bytes c.in_ok-tail.tail.items vs c.in_ok-place.place ended some c.in_ok-place.ensures.place tail whole small last)
