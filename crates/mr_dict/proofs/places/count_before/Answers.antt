use Rattle.std.proofs.Common.{◌≡◌, ◌<◌, ℕ, false, length, get_or, subst, arith}
use Rattle.mr_dict_entry.specs.Entries.{kinded_key}
use Rattle.mr_dict.specs.Dictionary.{is_before}
use Rattle.mr_dict.specs.Given.{no_entry}
use Rattle.mr_dict.proofs.Orders.{counted}
use Rattle.mr_dict.proofs.places.count_before.Goals as goal

pub returns-clause-found : goal.returns-clause-found
returns-clause-found c = λ order.
    let same : c.halving.high ≡ c.halving.low = omega (arith, c.halving.invariant.order, c.halving-test.false) in
    counted (kinded_key c.args.kind c.args.rest.now) c.args.entries.now c.halving.low order
    (omega (arith, c.halving.invariant.order, c.halving.invariant.within)) c.halving.invariant.before
    (subst (λ (n : ℕ). n < length c.args.entries.now → is_before (kinded_key c.args.kind c.args.rest.now) (get_or c.args.entries.now n no_entry) ≡ false) same c.halving.invariant.behind)
