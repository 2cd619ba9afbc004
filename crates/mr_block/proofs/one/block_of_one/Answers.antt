use Rattle.std.proofs.Common.{◌≡◌, ◌<◌, ◌^◌, ◌∷◌, [], length, unwrap_or, ◌∙◌, ap, arith, rules}
use Rattle.std.specs.Option.{option_map}
use Rattle.mr_iter.specs.Versions.{as_version}
use Rattle.mr_block.specs.Block.{block_bytes, block_in}
use Rattle.mr_block.specs.Built.{FitsEntry}
use Rattle.mr_block.proofs.Building.{block_back, one_length}
use Rattle.mr_block.proofs.one.block_of_one.Goals as goal

pub returns-clause-reads_back : goal.returns-clause-reads_back
returns-clause-reads_back c =
    let v = as_version c.args.key.now c.args.sequence (option_map (λ v. v.now) c.args.put) in
    let value : c.unwrap_or-value.result.now ≡ unwrap_or (option_map (λ v. v.now) c.args.put) [] = search rules in
    let key_fits : length c.args.key.now < 2 ^ 32 = omega (arith, c.if-total-ge4294967296.false, c.saturating_add.ensures, c.saturating_add-total.ensures) in
    let value_fits : length c.unwrap_or-value.result.now < 2 ^ 32 = omega (arith, c.if-total-ge4294967296.false, c.saturating_add.ensures, c.saturating_add-total.ensures) in
    let fits : FitsEntry v = record { key = key_fits; sequence = omega (arith, c.ranges.sequence.fits); value = omega (arith, value_fits, ap length value) } in
    let written : c.from_vec.result ≡ block_bytes (v ∷ []) = search rules in
    let small : length (block_bytes (v ∷ [])) < 2 ^ 32 = omega (arith, one_length v fits, ap length value, c.if-total-ge4294967296.false, c.saturating_add.ensures, c.saturating_add-total.ensures) in
    ap block_in written ∙ block_back (v ∷ []) (fits, tt) small
