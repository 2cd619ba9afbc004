use Rattle.std.proofs.Common.{◌≡◌, ◌<◌, ℕ, List, true, false, length, get_or, sym, ◌∙◌, ap, arith}
use Rattle.std.specs.Cmp.Lexicographic.{slice_cmp}
use Rattle.std.specs.Ordering.{nat_cmp, is_eq}
use Rattle.mr_iter.specs.Newest.{is_of}
use Rattle.mr_block.specs.Block.{no_version}
use Rattle.mr_block.proofs.Newest.{newest_end, newest_here, newest_other}
use Rattle.mr_block.proofs.block_ref.BlockRef.newest.Goals as goal

pub returns-then-i-self-clause-found : goal.returns-then-i-self-clause-found
returns-then-i-self-clause-found c =
    newest_end c.args.direction c.args.number c.args.key.now c.args.self.now c.place_of-i.result c.place_of-i.ensures.place (omega (arith, c.if-i-self.true, c.self.invariant.2, ap length c.self.view_is))

pub returns-then-is_eq-clause-found : goal.returns-then-is_eq-clause-found
returns-then-is_eq-clause-found c =
    let lt : c.place_of-i.result < length c.args.self.now = omega (arith, c.if-i-self.false, c.self.invariant.2, ap length c.self.view_is) in
    let is : is_of c.args.key.now (get_or c.args.self.now c.place_of-i.result no_version) ≡ true =
    ap (λ (k : List ℕ). is_eq (slice_cmp nat_cmp c.args.key.now k)) (sym c.key.ensures) ∙ ap is_eq (sym c.cmp.ensures) ∙ sym c.is_eq.ensures ∙ c.if-is_eq.true in
    newest_here c.args.direction c.args.number c.args.key.now c.args.self.now c.place_of-i.result c.place_of-i.ensures.place lt is

pub returns-clause-found : goal.returns-clause-found
returns-clause-found c =
    let lt : c.place_of-i.result < length c.args.self.now = omega (arith, c.if-i-self.false, c.self.invariant.2, ap length c.self.view_is) in
    let other : is_of c.args.key.now (get_or c.args.self.now c.place_of-i.result no_version) ≡ false =
    ap (λ (k : List ℕ). is_eq (slice_cmp nat_cmp c.args.key.now k)) (sym c.key.ensures) ∙ ap is_eq (sym c.cmp.ensures) ∙ sym c.is_eq.ensures ∙ c.if-is_eq.false in
    newest_other c.args.direction c.args.number c.args.key.now c.args.self.now c.place_of-i.result c.place_of-i.ensures.place lt other
