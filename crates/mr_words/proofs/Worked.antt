-- Worked words.
use Rattle.std.proofs.Common.{◌≡◌, [], ◌∷◌, Option, Some, None, codes, refl, ℕ}
use Rattle.mr_words.specs.declared.options.Options.{Options}
use Rattle.mr_words.specs.Form.{options_in}

abbrev said : ℕ → Option ℕ → Option ℕ → Option Options
said folder now limit = Some (record { folder = folder; now = now; log_limit = limit })

folder_alone : options_in (codes "run" ∷ codes "shop" ∷ []) ≡ said 1 None None
folder_alone = refl

options_behind : options_in (codes "run" ∷ codes "shop" ∷ codes "--now=7" ∷ codes "--log-limit=4096" ∷ []) ≡ said 1 (Some 7) (Some 4096)
options_behind = refl

options_before : options_in (codes "run" ∷ codes "--log-limit" ∷ codes "1099511627776" ∷ codes "--now" ∷ codes "007" ∷ codes "shop" ∷ []) ≡ said 5 (Some 7) (Some 1099511627776)
options_before = refl

folder_behind_dashes : options_in (codes "run" ∷ codes "--now=18446744073709551615" ∷ codes "--" ∷ codes "--now=5" ∷ []) ≡ said 3 (Some 18446744073709551615) None
folder_behind_dashes = refl

twice : options_in (codes "run" ∷ codes "--now=5" ∷ codes "shop" ∷ codes "--now" ∷ codes "5" ∷ []) ≡ None
twice = refl

no_value : options_in (codes "run" ∷ codes "shop" ∷ codes "--now" ∷ []) ≡ None
no_value = refl

too_great : options_in (codes "run" ∷ codes "shop" ∷ codes "--now=18446744073709551616" ∷ []) ≡ None
too_great = refl

too_short : options_in (codes "run" ∷ codes "shop" ∷ codes "--log-limit=4095" ∷ []) ≡ None
too_short = refl
