use Rattle.std.proofs.Common.{◌≡◌, ◌+◌, ◌*◌, ℕ, drop, get_or, ◌∙◌, ap, arith}
use Rattle.byteorder.specs.Endian.{big_number}
use Rattle.mr_block.specs.Block.{block_in, list_of, entry_in, no_version}
use Rattle.mr_block.specs.Given.{version_of}
use Rattle.mr_block.proofs.FieldLaws.{all_bytes}
use Rattle.mr_block.proofs.Blocks.{block_only, same_version, no_offence}
use Rattle.mr_block.proofs.block.entry_at.Goals as goal

pub overflow_mul-i : goal.overflow_mul-i
overflow_mul-i c =
    let b = block_only c.args.block.now (list_of (block_in c.args.block.now)) (all_bytes c.args.block.now c.type_inv.block) c.requires.block in
    omega (arith, b.fits, c.requires.within)

pub overflow_add-i : goal.overflow_add-i
overflow_add-i c =
    let b = block_only c.args.block.now (list_of (block_in c.args.block.now)) (all_bytes c.args.block.now c.type_inv.block) c.requires.block in
    omega (arith, b.fits, c.requires.within)

pub place_at-place-requires : goal.place_at-place-requires
place_at-place-requires c =
    let b = block_only c.args.block.now (list_of (block_in c.args.block.now)) (all_bytes c.args.block.now c.type_inv.block) c.requires.block in
    omega (arith, b.fits, c.requires.within)

pub rest_at-requires : goal.rest_at-requires
rest_at-requires c =
    let b = block_only c.args.block.now (list_of (block_in c.args.block.now)) (all_bytes c.args.block.now c.type_inv.block) c.requires.block in
    let at = b.at c.args.i c.requires.within in
    omega (arith, at.1, c.place_at-place.ensures)

pub returns-in-Ok : goal.returns-in-Ok
returns-in-Ok c =
    let b = block_only c.args.block.now (list_of (block_in c.args.block.now)) (all_bytes c.args.block.now c.type_inv.block) c.requires.block in
    let at = b.at c.args.i c.requires.within in
    let e : entry_in c.rest_at.result.now ≡ entry_in (drop (big_number 4 (drop (4 + 4 * c.args.i) c.args.block.now)) c.args.block.now) =
    ap entry_in (c.rest_at.ensures ∙ ap (λ (k : ℕ). drop k c.args.block.now) c.place_at-place.ensures) in
    same_version (entry_in c.rest_at.result.now) (version_of c.in-Ok.entry) (get_or (list_of (block_in c.args.block.now)) c.args.i no_version) c.in-Ok.field-0-1.now at.0 c.in-Ok.ensures.read (e ∙ at.2)

pub returns-in-Err : goal.returns-in-Err
returns-in-Err c =
    let b = block_only c.args.block.now (list_of (block_in c.args.block.now)) (all_bytes c.args.block.now c.type_inv.block) c.requires.block in
    let at = b.at c.args.i c.requires.within in
    let e : entry_in c.rest_at.result.now ≡ entry_in (drop (big_number 4 (drop (4 + 4 * c.args.i) c.args.block.now)) c.args.block.now) =
    ap entry_in (c.rest_at.ensures ∙ ap (λ (k : ℕ). drop k c.args.block.now) c.place_at-place.ensures) in
    absurd (no_offence (entry_in c.rest_at.result.now) c.in-Err.field-0 (get_or (list_of (block_in c.args.block.now)) c.args.i no_version) at.0 c.in-Err.ensures.read (e ∙ at.2))
