use Rattle.std.proofs.Common.{◌≡◌, ◌∙◌, ℕ, length, ap, arith, nat_le}
use Rattle.mr_memtable.proofs.Stands.{end_test}
use Rattle.mr_memtable.proofs.cursor.MemCursorListed.at_end.Goals as goal

pub returns : goal.returns
returns c =
    let n : c.len.result ≡ length c.args.self.now.table.now.chunks.items = omega (arith, c.len.ensures, c.args.self.now.table.now.chunks.ok.0) in
    ap (λ (m : ℕ). nat_le m c.args.self.now.chunk) n ∙ end_test c.args.self.now.table.now.bytes.items c.args.self.now.table.now.chunks.items c.args.self.now.chunk c.args.self.now.at c.args.self.now.standing
