use Rattle.std.proofs.Common.{◌-◌, length, drop, ◌∙◌, ap, arith, length-drop}
use Rattle.std.proofs.lemmas.List.{take_all}
use Rattle.byteorder.specs.Endian.{big_number}
use Rattle.mr_block.proofs.block.place_at.Goals as goal

pub returns : goal.returns
returns c =
    c.read_u32.ensures ∙ ap (big_number 4) (take_all (length c.args.block.now - c.args.at) (drop c.args.at c.args.block.now) (omega (arith, length-drop c.args.at c.args.block.now)))
