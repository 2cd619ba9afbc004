use Rattle.std.proofs.Common.{ℕ}
use Rattle.mr_memhost.specs.Files.{bytes_of, held}
use Rattle.mr_memhost.specs.Told.{story}
use Rattle.mr_memhost.proofs.Leads.{Leads}
use Rattle.mr_memhost.proofs.journal.Journal.image.Given as goal

abbrev pub invariant-loop-number : goal.invariant-loop-number
invariant-loop-number l = (f : ℕ) → Leads l.fn.choice (held l.self.initial l.self.files f).synced (story l.self) f l.number (bytes_of l.image f)
