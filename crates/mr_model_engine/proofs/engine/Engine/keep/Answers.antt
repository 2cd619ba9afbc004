use Rattle.std.proofs.Common.{rules, ◌≡◌, subst}
use Rattle.mr_spec.specs.World.{view_of}
use Rattle.mr_model_engine.specs.Kept.{IsKept}
use Rattle.mr_model_engine.proofs.Current.{kept_further, view_ascends}
use Rattle.mr_model_engine.proofs.engine.Engine.keep.Goals as goal

pub invariant_of-self-in-Some : goal.invariant_of-self-in-Some
invariant_of-self-in-Some c = record {
  current = c.args.self.now.current;
  seen = kept_further c.args.self.now.commits c.args.self.now.view c.in_ok-view-in-Some.view c.args.self.now.here.txn c.in-Some.txn c.args.changes c.append.new.self c.args.self.now.seen (search rules) (search rules) (search rules);
}

pub changed_view-requires : goal.changed_view-requires
changed_view-requires c =
    let same : c.args.self.now.view ≡ c.take-view.result = search rules in
    record {
      rising = view_ascends c.args.self.now.commits c.args.self.now.here.txn c.take-view.result (subst (λ o. IsKept o (view_of c.args.self.now.commits c.args.self.now.here.txn)) same c.args.self.now.seen);
    }
