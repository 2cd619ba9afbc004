use Rattle.std.proofs.Common.{◌≡◌, [], is_some, unwrap_or, rules}
use Rattle.std.specs.Option.{option_map}
use Rattle.mr_block.proofs.Writing.{entry_written}
use Rattle.mr_block.proofs.write.write_entry.Goals as goal

pub returns : goal.returns
returns c =
    let is_put : c.is_some.result ≡ is_some (option_map (λ v. v.now) c.args.put) = search rules in
    let value : c.unwrap_or.result.now ≡ unwrap_or (option_map (λ v. v.now) c.args.put) [] = search rules in
    entry_written c.write_sized-2.result c.args.out.now.items c.write_sized.new.out.items c.write_u64.new.out.items c.write_kind.new.out.items c.write_sized-2.new.out.items c.args.key.now c.unwrap_or.result.now c.args.sequence c.is_some.result (option_map (λ v. v.now) c.args.put) is_put value
    c.in_ok-write_sized.ensures c.in_ok-write_u64.ensures c.in_ok-write_kind.ensures c.write_sized-2.ensures
