use Rattle.std.proofs.Common.{◌≡◌, ◌==◌, ◌-◌, ℕ, List, cond, take, false}
use Rattle.mr_claims.specs.Lists.{has, times}
use Rattle.mr_claims.specs.Kept.{entry_in, count_of, noted, marked}
use Rattle.mr_claims.proofs.release.lower_each.Given as goal

abbrev pub invariant-lowering : goal.invariant-lowering
invariant-lowering l = record {
  counts : (s : ℕ) (c : List ℕ) → count_of s (entry_in l.entries c) ≡ count_of s (entry_in l.fn.entries c) - cond (s == l.session) (times c (take l.claim-index l.claims)) 0;
  noted : (c : List ℕ) → noted (entry_in l.entries c) ≡ cond (has c (take l.claim-index l.claims)) (marked l.change (noted (entry_in l.fn.entries c))) (noted (entry_in l.fn.entries c));
  others : (c : List ℕ) → has c (take l.claim-index l.claims) ≡ false → entry_in l.entries c ≡ entry_in l.fn.entries c;
}
