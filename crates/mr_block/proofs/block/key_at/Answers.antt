use Rattle.std.proofs.Common.{◌≡◌, ◌+◌, ◌*◌, ℕ, drop, get_or, ◌∙◌, ap, arith}
use Rattle.byteorder.specs.Endian.{big_number}
use Rattle.mr_block.specs.Block.{block_in, list_of, key_in, no_version}
use Rattle.mr_block.proofs.FieldLaws.{all_bytes}
use Rattle.mr_block.proofs.Blocks.{block_only}
use Rattle.mr_block.proofs.EntryLaws.{key_front, same_key, no_key}
use Rattle.mr_block.proofs.block.key_at.Goals as goal

pub overflow_mul-i : goal.overflow_mul-i
overflow_mul-i c =
    let b = block_only c.args.block.now (list_of (block_in c.args.block.now)) (all_bytes c.args.block.now c.type_inv.block) c.requires.block in
    omega (arith, b.fits, c.requires.within)

pub overflow_add-i : goal.overflow_add-i
overflow_add-i c =
    let b = block_only c.args.block.now (list_of (block_in c.args.block.now)) (all_bytes c.args.block.now c.type_inv.block) c.requires.block in
    omega (arith, b.fits, c.requires.within)

pub place_at-place-requires : goal.place_at-place-requires
place_at-place-requires c =
    let b = block_only c.args.block.now (list_of (block_in c.args.block.now)) (all_bytes c.args.block.now c.type_inv.block) c.requires.block in
    omega (arith, b.fits, c.requires.within)

pub rest_at-requires : goal.rest_at-requires
rest_at-requires c =
    let b = block_only c.args.block.now (list_of (block_in c.args.block.now)) (all_bytes c.args.block.now c.type_inv.block) c.requires.block in
    let at = b.at c.args.i c.requires.within in
    omega (arith, at.1, c.place_at-place.ensures)

pub returns-in-Ok : goal.returns-in-Ok
returns-in-Ok c =
    let b = block_only c.args.block.now (list_of (block_in c.args.block.now)) (all_bytes c.args.block.now c.type_inv.block) c.requires.block in
    let at = b.at c.args.i c.requires.within in
    let e : key_in c.rest_at.result.now ≡ key_in (drop (big_number 4 (drop (4 + 4 * c.args.i) c.args.block.now)) c.args.block.now) =
    ap key_in (c.rest_at.ensures ∙ ap (λ (k : ℕ). drop k c.args.block.now) c.place_at-place.ensures) in
    let front = key_front (drop (big_number 4 (drop (4 + 4 * c.args.i) c.args.block.now)) c.args.block.now) (get_or (list_of (block_in c.args.block.now)) c.args.i no_version, at.0) at.2 in
    same_key (key_in c.rest_at.result.now) c.in-Ok.key.now (get_or (list_of (block_in c.args.block.now)) c.args.i no_version).key c.in-Ok.field-0-1.now front.0 c.in-Ok.ensures (e ∙ front.1)

pub returns-in-Err : goal.returns-in-Err
returns-in-Err c =
    let b = block_only c.args.block.now (list_of (block_in c.args.block.now)) (all_bytes c.args.block.now c.type_inv.block) c.requires.block in
    let at = b.at c.args.i c.requires.within in
    let e : key_in c.rest_at.result.now ≡ key_in (drop (big_number 4 (drop (4 + 4 * c.args.i) c.args.block.now)) c.args.block.now) =
    ap key_in (c.rest_at.ensures ∙ ap (λ (k : ℕ). drop k c.args.block.now) c.place_at-place.ensures) in
    let front = key_front (drop (big_number 4 (drop (4 + 4 * c.args.i) c.args.block.now)) c.args.block.now) (get_or (list_of (block_in c.args.block.now)) c.args.i no_version, at.0) at.2 in
    absurd (no_key (key_in c.rest_at.result.now) c.in-Err.field-0 (get_or (list_of (block_in c.args.block.now)) c.args.i no_version).key front.0 c.in-Err.ensures (e ∙ front.1))
