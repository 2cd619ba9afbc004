use Rattle.std.proofs.Common.{◌≡◌, ◌+◌, ◌++◌, ℕ, List, get_or, take, ◌∙◌, sym, ap, arith, append_assoc}
use Rattle.byteorder.specs.Endian.{big_bytes}
use Rattle.mr_block.specs.Built.{placed}
use Rattle.mr_block.proofs.Building.{placed_take}
use Rattle.mr_block.proofs.builder.write_places.Goals as goal

pub placing-preserved : goal.placing-preserved
placing-preserved c =
    let place : c.in-Ok.place ≡ c.args.start + get_or c.args.offsets.now c.placing.offset-index 0 = omega (arith, c.saturating_add.ensures, c.in-Ok.ensures) in
    c.in_ok-write_u32.ensures
    ∙ ap (λ (x : List ℕ). x ++ big_bytes 4 c.in-Ok.place) c.placing.invariant
    ∙ append_assoc c.args.out.now.items (placed c.args.start (take c.placing.offset-index c.args.offsets.now)) (big_bytes 4 c.in-Ok.place)
    ∙ ap (λ (x : List ℕ). c.args.out.now.items ++ x) (sym (placed_take c.args.start c.args.offsets.now c.placing.offset-index c.in-Ok.place c.placing-test.true place))
