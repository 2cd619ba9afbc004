use Rattle.std.proofs.Common.{List, length, ap, arith}
use Rattle.mr_iter.specs.Versions.{Version}
use Rattle.mr_block.specs.Block.{block_bytes}
use Rattle.mr_block.specs.Built.{versions_in}
use Rattle.mr_block.proofs.Building.{block_length}
use Rattle.mr_block.proofs.builder.BlockBuilder.block_len.Goals as goal

pub returns : goal.returns
returns c =
    let vs = versions_in (length c.self.inside.offsets.items) c.self.inside.entries.items in
    let whole = block_length c.self.inside.entries.items c.self.inside.offsets.items vs c.self.invariant in
    omega (arith, whole, ap (λ (us : List Version). length (block_bytes us)) c.self.view_is, c.len.ensures, c.len-2.ensures, c.saturating_mul.ensures, c.saturating_add.ensures, c.saturating_add-2.ensures)
