-- What becomes of what a writing statement leaves.
use Rattle.std.specs.Prelude.{ℕ, nat_lt, ◌==◌, if◌then◌else◌, List, ◌++◌, Result, Ok, Err}
use Rattle.mr_types.specs.Refusals.{◌>>◌, refuse_where}
use Rattle.mr_spec.specs.declared.progress.Refusal.{Refusal}
use Rattle.mr_spec.specs.Database.{replay}
use Rattle.mr_spec.specs.Outcome.{Outcome, refused, done}
use Rattle.mr_spec.specs.Progress.{told}
use Rattle.mr_spec.specs.Weight.{total_weight}
use Rattle.mr_spec.specs.World.{World, changes_by, rolled_back, keeping, with_number}
use Rattle.mr_model_changes.specs.declared.written.Written.{Written}

-- 1197 where the transaction's changes are too heavy
abbrev pub left_light : World → Written → Result Written Refusal
left_light w left = do
  told left.next (refuse_where 1197 (nat_lt 67108864 (total_weight (replay w.commits) (changes_by w.here.txn ++ left.changes))))
  Ok left

-- a statement that is done keeps its changes, and the numbers it drew; a refused one leaves the world but for these, and
-- 1213 ends the transaction
abbrev pub behind_left : List ℕ → World → Result Written Refusal → Outcome
behind_left name w (Ok left) = done (keeping left.changes (with_number name left.next w)) left.count
behind_left name w (Err e) = refused (if e.code == 1213 then rolled_back (with_number name e.next w) else with_number name e.next w) e.code
