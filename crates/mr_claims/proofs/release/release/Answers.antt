use Rattle.std.proofs.Common.{◌≡◌, ◌==◌, true, drop, sym, ap, ◌∙◌, arith}
use Rattle.mr_claims.specs.Lists.{has, times}
use Rattle.mr_claims.specs.Kept.{held_in, entry_in}
use Rattle.mr_claims.proofs.Counts.{times_split, release_counts, same_number}
use Rattle.mr_claims.proofs.Forgetting.{dropped_count}
use Rattle.mr_claims.proofs.release.release.Goals as goal

pub lower_each-requires : goal.lower_each-requires
lower_each-requires c = λ d.
    let all = c.claims_of-claims.result.now in
    let n = c.args.count in
    let rest : times d c.split_at.result.1.now ≡ times d (drop n all) = ap (times d) c.split_at.ensures.back in
    let held : times d all ≡ times d (held_in c.args.lists.now c.args.session) = ap (times d) c.claims_of-claims.ensures in
    omega (arith, rest, held, times_split d n all, c.requires.counted c.args.session d)

pub returns-then-count-claims-clause-counted : goal.returns-then-count-claims-clause-counted
returns-then-count-claims-clause-counted c = λ s d.
    let all = c.claims_of-claims.result.now in
    let n = c.args.count in
    let rest = c.split_at.result.1.now in
    let is : (s == c.args.session) ≡ true → rest ≡ drop n (held_in c.args.lists.now s) = λ y. c.split_at.ensures.back ∙ ap (drop n) (c.claims_of-claims.ensures ∙ ap (held_in c.args.lists.now) (sym (same_number s c.args.session y))) in
    release_counts (s == c.args.session) d n (held_in c.args.lists.now s) (held_in c.shorten.new.lists s) rest _ _ (c.shorten.ensures s) is (c.requires.counted s d) (c.lower_each.ensures.counts s d)
    ∙ sym (dropped_count s c.args.before (has d rest) (entry_in c.lower_each.new.entries d) (entry_in c.drop_each.new.entries d) (c.drop_each.ensures d))
