use Rattle.std.proofs.Common.{Some, List, ℕ, ◌≡◌, ◌∙◌, cond, subst}
use Rattle.std.specs.Str.{bytes_eq}
use Rattle.mr_claims.proofs.Keys.{updated}
use Rattle.mr_claims.specs.Kept.{entry_in, an_empty_entry}
use Rattle.mr_claims.proofs.entries.put_new.Goals as goal

pub returns-clause-ok : goal.returns-clause-ok
returns-clause-ok c = λ d.
    subst (λ (bs : List ℕ). entry_in c.insert.new.self d ≡ cond (bytes_eq bs d) (Some an_empty_entry) (entry_in c.args.entries.now d)) (c.into_vec-key.ensures ∙ c.in_ok-copy.ensures)
    (updated c.into_vec-key.result.items c.args.entries.now c.insert.new.self (Some an_empty_entry) c.in-Ok.ensures.updates d)
