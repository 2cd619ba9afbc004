-- Where a splitter stands.
use Rattle.std.specs.Prelude.{◌≡◌, ℕ, List, true}
use Rattle.mr_lex.specs.Cutting.{place_behind}
use Rattle.mr_lex.specs.Resting.{blank_from}
use Rattle.mr_lex.specs.declared.place.Place.TheVariants.{Plain}
use Rattle.mr_lex.specs.declared.splitter.Splitter.{Splitter}

abbrev pub standing : List ℕ → Splitter
standing since = record { place = place_behind since; blank = blank_from Plain true since }

-- the splitter has read these bytes since the last end
abbrev pub HasRead : Splitter → List ℕ → Type 0
HasRead s since = s ≡ standing since
