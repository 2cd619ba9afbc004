use Rattle.std.proofs.Common.{◌==◌}
use Rattle.mr_claims.specs.Kept.{held_in}
use Rattle.mr_claims.proofs.Keeping.{released_kept, no_longer}
use Rattle.mr_claims.proofs.claims.Claims.keep_first.Goals as goal

pub invariant_of-self : goal.invariant_of-self
invariant_of-self c =
    let e = c.release.ensures in
    record {
      kept = released_kept c.args.self.now.lists c.release.new.lists c.args.self.now.entries c.release.new.entries c.args.self.now.commits c.args.self.now.before c.args.self.now.kept
          e.counted (λ s. no_longer (s == c.args.session) c.args.count (held_in c.args.self.now.lists s) (held_in c.release.new.lists s) (e.held s)) e.noted e.needed;
    }
