-- What the words of the command line say to a run.
use Rattle.std.specs.Prelude.{ℕ, ◌^◌, List, Option, unwrap_or, option_and_then}
use Rattle.mr_words.specs.Form.{options_in}
use Rattle.mr_words.specs.declared.options.Options.{Options}

-- the value that each statement is served at, where one is given
abbrev pub now_in : List (List ℕ) → Option ℕ
now_in words = option_and_then (λ (o : Options). o.now) (options_in words)

-- the length in bytes that the binary log is not to pass
abbrev pub limit_in : List (List ℕ) → ℕ
limit_in words = unwrap_or (option_and_then (λ (o : Options). o.log_limit) (options_in words)) (2 ^ 40)
