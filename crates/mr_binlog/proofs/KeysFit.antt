-- A key that has a form beside its table's columns has one in a commit.
use Rattle.std.proofs.Common.{ℕ, ◌<◌, ◌≤◌, List, [], ◌∷◌, arith}
use Rattle.std.specs.List.{AllByRecursion}
use Rattle.mr_types.specs.declared.definition.IndexDef.{IndexDef}
use Rattle.mr_schema.specs.DefinitionFitting.{KeyFits}

all_below : (limit : ℕ) (places : List ℕ) → limit ≤ 256 → AllByRecursion (λ place. place < limit) places → AllByRecursion (λ place. place < 256) places
all_below limit [] most all = tt
all_below limit (p ∷ places) most all = (omega (arith, most, all.0), all_below limit places most all.1)

pub key_fits : (limit : ℕ) (key : IndexDef) → limit ≤ 256 → KeyFits limit key → KeyFits 256 key
key_fits limit key most fits = record {
  name = fits.name;
  columns = record { count = fits.columns.count; each = all_below limit key.columns most fits.columns.each };
  comment = fits.comment;
}
