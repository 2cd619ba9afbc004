use Rattle.std.proofs.Common.{refl, sym, ◌+◌}
use Rattle.mr_claims.specs.Kept.{entry_in}
use Rattle.mr_claims.proofs.Counts.{raised_at}
use Rattle.mr_claims.proofs.entries.raise.Goals as goal

pub returns-clause-counts : goal.returns-clause-counts
returns-clause-counts c = λ s d. raised_at c.args.session s c.args.claim.now d (entry_in c.args.entries.now) (entry_in c.replace.new.entries d) c.in-Some.entry (record { session = c.args.session; count = c.in-Some.entry.count + 1; changed = c.in-Some.entry.changed }) (c.replace.ensures d) (sym c.in-Some.ensures) refl refl c.requires.alone
