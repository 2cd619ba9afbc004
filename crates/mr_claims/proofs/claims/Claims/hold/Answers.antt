use Rattle.std.proofs.Common.{◌==◌, refl, sym, ◌∙◌, ap}
use Rattle.mr_claims.specs.Lists.{times}
use Rattle.mr_claims.specs.Kept.{held_in}
use Rattle.mr_claims.proofs.Counts.{none_held, hold_counts}
use Rattle.mr_claims.proofs.Keeping.{still_kept, held_kept}
use Rattle.mr_claims.proofs.claims.Claims.hold.Goals as goal

pub invariant_of-self-in-Break-branch-3 : goal.invariant_of-self-in-Break-branch-3
invariant_of-self-in-Break-branch-3 c = record {
  kept = still_kept _ _ _ _ _ _ _ c.args.self.now.kept c.make_room.ensures.held (λ d. refl) c.make_room_for_commits.ensures.items c.make_room_for_commits.ensures.len c.make_room_for_commits.ensures.capacity;
}

pub invariant_of-self-in-Break-branch-4 : goal.invariant_of-self-in-Break-branch-4
invariant_of-self-in-Break-branch-4 c = record {
  kept = still_kept _ _ _ _ _ _ _ c.args.self.now.kept c.make_room.ensures.held c.in_err-make_entry.ensures.err c.make_room_for_commits.ensures.items c.make_room_for_commits.ensures.len c.make_room_for_commits.ensures.capacity;
}

pub raise-requires-clause-alone : goal.raise-requires-clause-alone
raise-requires-clause-alone c = λ s apart. c.make_entry.ensures.counts s c.args.claim.now ∙ sym (c.args.self.now.kept.counted s c.args.claim.now) ∙ none_held c.args.claim.now (held_in c.args.self.now.lists s) (c.requires s apart)

pub invariant_of-self-2 : goal.invariant_of-self-2
invariant_of-self-2 c = record {
  kept = held_kept c.args.self.now.lists c.add.new.lists c.args.self.now.entries c.raise.new.entries c.args.self.now.commits c.make_room_for_commits.new.commits c.args.self.now.before c.args.claim.now c.args.self.now.kept
      (λ s d. hold_counts (s == c.args.session) d c.in_ok-copy.copy c.args.claim.now (held_in c.make_room.new.lists s) (held_in c.add.new.lists s) _ _ _ (c.add.ensures.held s) c.in_ok-copy.ensures (ap (times d) (c.make_room.ensures.held s) ∙ c.args.self.now.kept.counted s d) (c.make_entry.ensures.counts s d) (c.raise.ensures.counts s d))
      (λ d. c.raise.ensures.noted d ∙ c.make_entry.ensures.noted d)
      (λ d n. c.raise.ensures.others d n ∙ c.make_entry.ensures.others d n)
      c.raise.ensures.held c.make_room_for_commits.ensures.items c.in_ok-make_room_for_commits.ensures.room;
}
