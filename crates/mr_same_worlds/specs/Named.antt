-- The same worlds, whose sessions have the same names too.
use Rattle.std.specs.Prelude.{◌≡◌, List, [], ◌∷◌, map, ⊤}
use Rattle.mr_lanes.specs.Kernels.{upper}
use Rattle.mr_spec.specs.declared.world.Session.{Session}
use Rattle.mr_spec.specs.Outcome.{Outcome}
use Rattle.mr_spec.specs.World.{World}
use Rattle.mr_same_worlds.specs.SameWorld.{SameWorld}

-- the same name, without regard to case
abbrev pub IsNamedAlike : Session → Session → Type 0
IsNamedAlike old new = map upper new.name ≡ map upper old.name

-- one after the other
abbrev pub AreNamedAlike : List Session → List Session → Type 0
AreNamedAlike [] [] = ⊤
AreNamedAlike (s ∷ ss) (u ∷ us) = IsNamedAlike s u × AreNamedAlike ss us
AreNamedAlike _ _ = ⊥

-- the same worlds, and the sessions' names too
pub record SameNamedWorld (old new : World) : Type 0 where
  pub same : SameWorld old new
  pub here : IsNamedAlike old.here new.here
  pub others : AreNamedAlike old.others new.others

-- outcomes with the same reply, and the same world again, names too
pub record SameNamedOutcome (old new : Outcome) : Type 0 where
  pub reply : new.reply ≡ old.reply
  pub world : SameNamedWorld old.world new.world
