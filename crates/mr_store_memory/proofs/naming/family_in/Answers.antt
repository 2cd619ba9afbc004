use Rattle.std.proofs.Common.{◌∙◌, sym, arith}
use Rattle.mr_store_memory.proofs.Keys.{key_of}
use Rattle.mr_store_memory.proofs.naming.family_in.Goals as goal

pub returns-clause-found : goal.returns-clause-found
returns-clause-found c = key_of c.args.key.now c.in_ok-number.number (λ i. omega (arith, c.type_inv.key i)) (sym c.number_in.ensures ∙ c.in_ok-number.was) c.if-number-lt2.false
