use Rattle.std.proofs.Common.{◌≡◌, ℕ, ◌+◌, ◌<◌, ◌≤◌, ◌==◌, List, length, suc, refl, subst, arith}
use Rattle.std.specs.VecDeque.{deque_len, deque_capacity}
use Rattle.std.proofs.lemmas.Bool.Decides.{nat_tests}
use Rattle.mr_claims.specs.Kept.{held_in, holding}
use Rattle.mr_claims.proofs.Counts.{number_itself, other_number}
use Rattle.mr_claims.proofs.Rising.{with_one}
use Rattle.mr_claims.proofs.Holding.{room_for_one, holding_one_less, holding_fewer}
use Rattle.mr_claims.proofs.Keeping.{emptied, emptied_one, emptied_other}
use Rattle.mr_claims.proofs.release.commit_claims.Goals as goal

pub add_commit-requires : goal.add_commit-requires
add_commit-requires c =
    let held = held_in c.args.lists.now c.args.session in
    let some : 0 < length c.take_claims-claims.result.items = grind (arith, nat_tests, c.take_claims-claims.result.ok.0) in
    let holds : 0 < length held = subst (λ (cs : List (List ℕ)). 0 < length cs) c.take_claims-claims.ensures.claims some in
    let s : c.args.session < 256 = c.ranges.session.fits in
    record { room = room_for_one 256 c.args.session c.args.lists.now (deque_len c.args.commits.now) (deque_capacity c.args.commits.now) s holds c.requires.room }

pub returns-then-not-is_empty-clause-commits : goal.returns-then-not-is_empty-clause-commits
returns-then-not-is_empty-clause-commits c =
    let held = held_in c.args.lists.now c.args.session in
    let some : 0 < length c.take_claims-claims.result.items = grind (arith, nat_tests, c.take_claims-claims.result.ok.0) in
    let holds : 0 < length held = subst (λ (cs : List (List ℕ)). 0 < length cs) c.take_claims-claims.ensures.claims some in
    with_one c.args.k held c.args.commits.now.items c.add_commit.new.commits.items (record { number = c.args.k; claims = c.take_claims-claims.result }) holds refl c.take_claims-claims.ensures.claims c.add_commit.ensures.items

pub returns-then-not-is_empty-clause-room : goal.returns-then-not-is_empty-clause-room
returns-then-not-is_empty-clause-room c =
    let held = held_in c.args.lists.now c.args.session in
    let some : 0 < length c.take_claims-claims.result.items = grind (arith, nat_tests, c.take_claims-claims.result.ok.0) in
    let holds : 0 < length held = subst (λ (cs : List (List ℕ)). 0 < length cs) c.take_claims-claims.ensures.claims some in
    let s : c.args.session < 256 = c.ranges.session.fits in
    let less : suc (holding 256 c.take_claims-claims.new.lists) ≡ holding 256 c.args.lists.now = holding_one_less 256 c.args.session c.args.lists.now c.take_claims-claims.new.lists s holds
    (emptied_one (c.args.session == c.args.session) held _ (number_itself c.args.session) (c.take_claims-claims.ensures.held c.args.session))
    (λ t apart. emptied_other (t == c.args.session) _ _ (other_number t c.args.session apart) (c.take_claims-claims.ensures.held t)) in
    let room : holding 256 c.args.lists.now + deque_len c.args.commits.now ≤ deque_capacity c.args.commits.now = c.requires.room in
    omega (arith, less, room, c.add_commit.ensures.len, c.add_commit.ensures.capacity)

pub returns-else-not-is_empty-clause-room : goal.returns-else-not-is_empty-clause-room
returns-else-not-is_empty-clause-room c =
    let room : holding 256 c.args.lists.now + deque_len c.args.commits.now ≤ deque_capacity c.args.commits.now = c.requires.room in
    let fewer : holding 256 c.take_claims-claims.new.lists ≤ holding 256 c.args.lists.now = holding_fewer 256 c.args.lists.now c.take_claims-claims.new.lists (λ s. emptied (s == c.args.session) _ _ (c.take_claims-claims.ensures.held s)) in
    omega (arith, room, fewer)
