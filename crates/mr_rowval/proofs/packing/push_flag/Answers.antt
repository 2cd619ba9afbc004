use Rattle.std.proofs.Common.{◌++◌, ◌∷◌, ◌∙◌, [], ap, sym, List, ℕ, Bool, arith, append_assoc}
use Rattle.mr_rowval.specs.NullBits.{with_flag}
use Rattle.mr_rowval.specs.Packing.{pending}
use Rattle.mr_rowval.proofs.Packed.{one_on, byte_full}
use Rattle.mr_rowval.proofs.packing.push_flag.Goals as goal

pub returns-then-pack-lt7-clause-flag : goal.returns-then-pack-lt7-clause-flag
returns-then-pack-lt7-clause-flag c = λ flags.
    let pack = c.args.pack in
    ap (λ (l : List ℕ). c.args.out.now.items ++ l) (sym (one_on pack.used pack.byte c.with_bit-byte.result c.args.is_null flags c.if-pack-lt7.true (omega (arith, c.requires.power, c.requires.below)) c.with_bit-byte.ensures.0))
    ∙ ap (λ (b : Bool). c.args.out.now.items ++ pending pack.used pack.byte (with_flag b c.args.is_null flags)) (sym c.if-not-nullable.false)

pub returns-clause-flag : goal.returns-clause-flag
returns-clause-flag c = λ flags.
    let pack = c.args.pack in
    ap (λ (l : List ℕ). l ++ pending 0 0 flags) c.in_ok-push.ensures.items ∙ append_assoc c.args.out.now.items (c.with_bit-byte.result ∷ []) (pending 0 0 flags)
    ∙ ap (λ (l : List ℕ). c.args.out.now.items ++ l) (sym (byte_full pack.used pack.byte c.with_bit-byte.result c.args.is_null flags (omega (arith, c.requires.few, c.if-pack-lt7.false)) c.with_bit-byte.ensures.0))
    ∙ ap (λ (b : Bool). c.args.out.now.items ++ pending pack.used pack.byte (with_flag b c.args.is_null flags)) (sym c.if-not-nullable.false)
