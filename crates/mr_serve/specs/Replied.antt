-- How many replies an output has.
use Rattle.std.specs.Prelude.{ℕ, ◌+◌, List, [], ◌∷◌}
use Rattle.std.specs.Option.{option_map_or}
use Rattle.mr_spec.specs.ReplyText.{text_of}
use Rattle.mr_spec.specs.ScriptRun.{Event}
use Rattle.mr_spec.specs.TtlOptions.{behind}

-- the number of replies of the longest list of first statements whose whole replies the output begins with
abbrev pub replied : List Event → List ℕ → ℕ
replied [] output = 0
replied (e ∷ es) output = option_map_or (λ rest. 1 + replied es rest) (behind (text_of e.reply) output) 0
