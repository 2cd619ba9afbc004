use Rattle.std.proofs.Common.{◌∙◌}
use Rattle.mr_block.specs.Block.{block_in, list_of}
use Rattle.mr_block.proofs.FieldLaws.{all_bytes}
use Rattle.mr_block.proofs.BlockLaws.{was_read}
use Rattle.mr_block.proofs.Blocks.{block_only}
use Rattle.mr_block.proofs.block_ref.BlockRef.parse.Goals as goal

pub invariant_of-result : goal.invariant_of-result
invariant_of-result c =
    let bytes = all_bytes c.args.bytes.now c.type_inv.bytes in
    let read = was_read (block_in c.args.bytes.now) c.in_ok-count.ensures.ok in
    let block = block_only c.args.bytes.now (list_of (block_in c.args.bytes.now)) bytes read in
    (bytes, read, c.in_ok-count.ensures.count ∙ block.count)

pub returns-clause-form : goal.returns-clause-form
returns-clause-form c =
    let bytes = all_bytes c.args.bytes.now c.type_inv.bytes in
    let read = was_read (block_in c.args.bytes.now) c.in_ok-count.ensures.ok in
    (block_only c.args.bytes.now (list_of (block_in c.args.bytes.now)) bytes read).form
