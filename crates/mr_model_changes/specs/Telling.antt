-- How a program's scene and answers stand for those of the definitions.
use Rattle.std.specs.Prelude.{◌≡◌, Result, Ok, Err}
use Rattle.mr_spec.specs.declared.progress.Refusal.{Refusal}
use Rattle.mr_spec.specs.Claims.{has_claim_in}
use Rattle.mr_spec.specs.Progress.{Scene}
use Rattle.mr_model_changes.specs.declared.scene.Scene.{Scene as Held}
use Rattle.mr_model_changes.specs.declared.scene.Failed.{Failed}
use Rattle.mr_model_changes.specs.declared.scene.Failed.TheVariants.{Memory, Refused}

-- the claims are those of the lists of changes
abbrev pub scene_in : Held → Scene
scene_in s = record { def = s.def.now; moment = s.moment; held = has_claim_in s.def.now s.held.now; changed = has_claim_in s.def.now s.changed.now }

-- the result is this answer; want of memory says nothing
abbrev pub Tells : {A : Type 0} → Result A Failed → Result A Refusal → Type 0
Tells (Ok x) answer = answer ≡ Ok x
Tells (Err (Refused refusal)) answer = answer ≡ Err refusal
Tells (Err Memory) answer = Unit {0}
