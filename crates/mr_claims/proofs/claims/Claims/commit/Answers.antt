use Rattle.mr_claims.specs.Kept.{held_in}
use Rattle.mr_claims.proofs.Keeping.{committed_kept}
use Rattle.mr_claims.proofs.claims.Claims.commit.Goals as goal

pub invariant_of-self : goal.invariant_of-self
invariant_of-self c =
    let e = c.commit_claims.ensures in
    record {
      kept = committed_kept c.args.self.now.lists c.commit_claims.new.lists c.args.self.now.entries c.commit_claims.new.entries c.args.self.now.commits c.commit_claims.new.commits c.args.self.now.before c.args.k (held_in c.args.self.now.lists c.args.session) c.args.self.now.kept
          c.requires.behind c.requires.last e.counted e.noted e.others e.commits e.room;
    }
