-- One statement of the engine, as the event that it is in a world.
use Rattle.std.proofs.Common.{◌≡◌, ℕ, Bool, false, ◌||◌, List, [], ◌∷◌, ◌++◌, length, drop, Result, refl, ap, sym, ◌∙◌, subst}
use Rattle.mr_spec.specs.Lawful.{IsLawful}
use Rattle.mr_spec.specs.Outcome.{Outcome}
use Rattle.mr_spec.specs.ReplyText.{text_of}
use Rattle.mr_spec.specs.ScriptRun.{event_at, world_after, has_error, is_refusal}
use Rattle.mr_spec.specs.Step.{step}
use Rattle.mr_spec.specs.World.{World}
use Rattle.mr_spec.proofs.Runs.{commits-after}
use Rattle.mr_types.specs.declared.row.Commit.{Commit}
use Rattle.mr_types.specs.declared.row.Reply.{Reply}
use Rattle.mr_types.specs.declared.statement.Statement.{Statement}
use Rattle.mr_sound.specs.Sound.{IsSound}
use Rattle.mr_model_engine.specs.declared.engine.Engine.{Engine}
use Rattle.mr_model_engine.specs.Worlds.{world_in}

-- the outcome of the step, of which the program's engine and reply are what is left
abbrev pub IsStepped : Engine → Engine → Result Statement ℕ → ℕ → Reply → Type 0
IsStepped old new s clock reply = step (world_in old) s clock ≡ record { world = world_in new; reply = reply }

-- the same of the world that the engine had
stepped_in : (old new : Engine) (w : World) (s : Result Statement ℕ) (clock : ℕ) (reply : Reply) → world_in old ≡ w → IsStepped old new s clock reply → step w s clock ≡ record { world = world_in new; reply = reply }
stepped_in old new w s clock reply same e = ap (λ (x : World). step x s clock) (sym same) ∙ e

-- the commits behind those from before are those of the event
pub added_is : (old new : Engine) (w : World) (s : Result Statement ℕ) (clock n : ℕ) (xs : List Commit) (reply : Reply) → world_in old ≡ w → IsStepped old new s clock reply → n ≡ length old.commits → xs ≡ drop n new.commits → xs ≡ (event_at w s clock).added
added_is old new w s clock n xs reply same e count are =
    are ∙ ap (λ k. drop k new.commits) (count ∙ ap (λ (x : World). length x.commits) same) ∙ ap (λ (o : Outcome). drop (length w.commits) o.world.commits) (sym (stepped_in old new w s clock reply same e))

-- so is the reply's text
pub text_is : (old new : Engine) (w : World) (s : Result Statement ℕ) (clock : ℕ) (reply : Reply) (text : List ℕ) → world_in old ≡ w → IsStepped old new s clock reply → text ≡ text_of reply → text ≡ text_of ((event_at w s clock).reply)
text_is old new w s clock reply text same e t = t ∙ ap (λ (o : Outcome). text_of o.reply) (sym (stepped_in old new w s clock reply same e))

-- and the world behind it
pub world_is : (old new : Engine) (w : World) (s : Result Statement ℕ) (clock : ℕ) (reply : Reply) → world_in old ≡ w → IsStepped old new s clock reply → world_in new ≡ world_after w s clock
world_is old new w s clock reply same e = ap (λ (o : Outcome). o.world) (sym (stepped_in old new w s clock reply same e))

or_same : (a b c : Bool) → c ≡ b → (a || c) ≡ (a || (b || false))
or_same a b c same = ap (λ t. a || t) (same ∙ or_false b)
  where
    or_false : (b : Bool) → b ≡ (b || false)
    or_false Rattle.std.proofs.Common.true = refl
    or_false Rattle.std.proofs.Common.false = refl

-- and whether some reply was an error
pub failed_is : (old new : Engine) (w : World) (s : Result Statement ℕ) (clock : ℕ) (reply : Reply) (before : Bool) → world_in old ≡ w → IsStepped old new s clock reply → (before || is_refusal reply) ≡ (before || has_error (event_at w s clock ∷ []))
failed_is old new w s clock reply before same e = or_same before (is_refusal ((event_at w s clock).reply)) (is_refusal reply) (ap (λ (o : Outcome). is_refusal o.reply) (sym (stepped_in old new w s clock reply same e)))

-- the commits of a sound world, with those of a statement behind it, are lawful
pub lawful_added : (w : World) (s : Result Statement ℕ) (clock : ℕ) (xs : List Commit) → xs ≡ (event_at w s clock).added → IsSound (world_after w s clock) → IsLawful (w.commits ++ xs)
lawful_added w s clock xs are sound = subst IsLawful (commits-after w s clock ∙ ap (λ y. w.commits ++ y) (sym are)) sound.commits
