use Rattle.std.proofs.Common.{◌≤◌, arith, sym, subst}
use Rattle.mr_claims.proofs.Keeping.{forgotten_kept, needed_or_kept}
use Rattle.mr_claims.proofs.claims.Claims.forget.Goals as goal

pub forget_commits-requires : goal.forget_commits-requires
forget_commits-requires c = needed_or_kept c.args.self.now.lists c.args.self.now.entries c.args.self.now.commits c.args.self.now.before _ c.args.self.now.kept

pub invariant_of-self : goal.invariant_of-self
invariant_of-self c =
    let e = c.forget_commits.ensures in
    let le : c.args.self.now.before ≤ c.max-before.result = subst (λ n. c.args.self.now.before ≤ n) (sym c.max-before.ensures) (omega arith) in
    record {
      kept = forgotten_kept c.args.self.now.lists c.args.self.now.entries c.forget_commits.new.entries c.args.self.now.commits c.forget_commits.new.commits c.args.self.now.before _ c.args.self.now.kept
          le e.counts e.noted e.last e.needed e.begin e.rise e.len e.capacity;
    }
