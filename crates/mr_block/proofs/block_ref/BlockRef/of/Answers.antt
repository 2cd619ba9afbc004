use Rattle.std.proofs.Common.{◌∙◌, arith}
use Rattle.mr_block.specs.Block.{block_in, list_of}
use Rattle.mr_block.proofs.FieldLaws.{all_bytes}
use Rattle.mr_block.proofs.Blocks.{block_only}
use Rattle.mr_block.proofs.block_ref.BlockRef.of.Goals as goal

pub place_at-count-requires : goal.place_at-count-requires
place_at-count-requires c = omega (arith, (block_only c.args.bytes.now (list_of (block_in c.args.bytes.now)) (all_bytes c.args.bytes.now c.type_inv.bytes) c.requires).fits)

pub invariant_of-result : goal.invariant_of-result
invariant_of-result c =
    let bytes = all_bytes c.args.bytes.now c.type_inv.bytes in
    let block = block_only c.args.bytes.now (list_of (block_in c.args.bytes.now)) bytes c.requires in
    (bytes, c.requires, c.place_at-count.ensures ∙ block.count)

pub returns-clause-form : goal.returns-clause-form
returns-clause-form c = (block_only c.args.bytes.now (list_of (block_in c.args.bytes.now)) (all_bytes c.args.bytes.now c.type_inv.bytes) c.requires).form
