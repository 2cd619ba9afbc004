-- The options that words tell.
use Rattle.std.proofs.Common.{◌≡◌, ◌^◌, ℕ, List, Option, Some, unwrap_or, ap, sym, subst, ◌∙◌}
use Rattle.std.specs.Prelude.{option_and_then}
use Rattle.mr_base.specs.Disk.{State}
use Rattle.mr_base.specs.Source.{SourceState, ClockState}
use Rattle.mr_types.specs.declared.row.Commit.{Commit}
use Rattle.mr_words.specs.Form.{options_in}
use Rattle.mr_words.specs.declared.options.Options.{Options}
use Rattle.mr_run.specs.Clocks.{clock_of}
use Rattle.mr_run.specs.Headline.{Headline}
use Rattle.mr_run.specs.declared.top_call.Report.{Report}
use Rattle.mr_run.specs.Words.{now_in, limit_in}

pub now_is : (words : List (List ℕ)) (o : Options) → options_in words ≡ Some o → now_in words ≡ o.now
now_is words o e = ap (λ (x : Option Options). option_and_then (λ (y : Options). y.now) x) e

pub limit_is : (words : List (List ℕ)) (o : Options) → options_in words ≡ Some o → limit_in words ≡ unwrap_or o.log_limit (2 ^ 40)
limit_is words o e = ap (λ (x : Option Options). unwrap_or (option_and_then (λ (y : Options). y.log_limit) x) (2 ^ 40)) e

-- what is promised with the options is promised with the words
pub headline_of : (words : List (List ℕ)) (o : Options) (limit : ℕ) → options_in words ≡ Some o → limit ≡ unwrap_or o.log_limit (2 ^ 40)
    → (source_old source_new : SourceState) (clock : ClockState) (old new : State) (status : ℕ) (report : Report) (commits : List Commit)
    → Headline limit source_old source_new (clock_of o.now clock) old new status report commits → Headline (limit_in words) source_old source_new (clock_of (now_in words) clock) old new status report commits
headline_of words o limit e same source_old source_new clock old new status report commits h =
    subst (λ (n : ℕ). Headline n source_old source_new (clock_of (now_in words) clock) old new status report commits) (same ∙ sym (limit_is words o e))
    (subst (λ (v : Option ℕ). Headline limit source_old source_new (clock_of v clock) old new status report commits) (sym (now_is words o e)) h)
