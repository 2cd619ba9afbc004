use Rattle.std.proofs.Common.{refl, sym, arith}
use Rattle.mr_base.specs.Disk.{file_of}
use Rattle.mr_run_open.proofs.FileParts.{footer_read, is_footer, footer_offence}
use Rattle.mr_run_open.proofs.structure.read_footer.Goals as goal

pub returns-in-Ok-clause-footer : goal.returns-in-Ok-clause-footer
returns-in-Ok-clause-footer g c tells =
    let file = (file_of (g.D.Disk.disk c.args.disk.now) c.args.info.now.file).bytes in
    let out = footer_read c.args.info.now.entries c.args.info.now.length c.in_ok-read.field-0 file c.read.new.out c.requires.room (c.requires.length tells) (omega (arith, c.read.auto.out)) (c.in_ok-read.ensures.count tells) (c.in_ok-read.ensures.bytes tells) in
    is_footer c.args.info.now.entries c.args.info.now.length file c.read.new.out c.in-Ok.footer.place c.in-Ok.footer.size c.in-Ok.footer.blocks c.requires.room (c.requires.length tells) out (sym c.in-Ok.ensures.judged) c.in-Ok.ensures.place c.in-Ok.ensures.size c.in-Ok.ensures.blocks

pub returns-in-Err-clause-stops : goal.returns-in-Err-clause-stops
returns-in-Err-clause-stops g c = (
  refl,
  λ tells.
      let file = (file_of (g.D.Disk.disk c.args.disk.now) c.args.info.now.file).bytes in
      let out = footer_read c.args.info.now.entries c.args.info.now.length c.in_ok-read.field-0 file c.read.new.out c.requires.room (c.requires.length tells) (omega (arith, c.read.auto.out)) (c.in_ok-read.ensures.count tells) (c.in_ok-read.ensures.bytes tells) in
      footer_offence c.args.info.now.entries c.args.info.now.length c.in-Err.at file c.read.new.out c.requires.room (c.requires.length tells) out (sym c.in-Err.ensures.judged),
)
