-- Laws of runs.
use Rattle.std.proofs.Common.{◌≡◌, ℕ, suc, List, [], ◌∷◌, ◌++◌, length, drop, None, Result, Ok, refl, ap, sym, ◌∙◌, append_assoc, append-nil}
use Rattle.std.proofs.Math.Seq.{take-length, take-append-le, drop-append_seam}
use Rattle.mr_types.specs.declared.row.Commit.{Commit}
use Rattle.mr_types.specs.declared.statement.Statement.{Statement}
use Rattle.mr_types.specs.declared.statement.Statement.TheVariants as statement
use Rattle.mr_spec.specs.Database.{replay}
use Rattle.mr_spec.specs.World.{World, view_of}
use Rattle.mr_spec.specs.Replay.{reopened}
use Rattle.mr_spec.specs.Step.{step, timed}
use Rattle.mr_spec.specs.Outcome.{done}
use Rattle.mr_spec.specs.ScriptRun.{trace, added_by, world_behind, world_after, event_at}
use Rattle.mr_spec.specs.Promises.{Extends, SnapshotStays}
use Rattle.mr_spec.proofs.Commits.{further-step}

-- WORK moves the moment alone
pub work-only-moves-the-moment : (w : World) (n clock : ℕ) → step w (Ok (statement.Work n)) clock ≡ done (timed w clock) 0
work-only-moves-the-moment w n clock = refl

-- a session outside a transaction sees the replay of all commits
pub view-outside : (commits : List Commit) → view_of commits None ≡ replay commits
view-outside commits = ap replay (take-length commits)

pub commits-after : (w : World) (s : Result Statement ℕ) (clock : ℕ) → (world_after w s clock).commits ≡ w.commits ++ (event_at w s clock).added
commits-after w s clock =
    let e : Extends w.commits (world_after w s clock).commits = further-step w s clock in
    let tail : (event_at w s clock).added ≡ e.more = ap (drop (length w.commits)) e.is ∙ drop-append_seam w.commits e.more in
    e.is ∙ ap (λ x. w.commits ++ x) (sym tail)

-- the commits behind a run are those in front of it and those of its events
pub commits-behind : (w : World) (ss : List (Result Statement ℕ)) (now : ℕ → ℕ) → (world_behind w ss now).commits ≡ w.commits ++ added_by (trace w ss now)
commits-behind w [] now = sym (append-nil w.commits)
commits-behind w (s ∷ ss) now =
    let u : World = world_after w s (now 0) in
    commits-behind u ss (λ k. now (suc k)) ∙ ap (λ x. x ++ added_by (trace u ss (λ k. now (suc k)))) (commits-after w s (now 0)) ∙
    append_assoc w.commits (event_at w s (now 0)).added (added_by (trace u ss (λ k. now (suc k))))

-- behind a run, a session outside a transaction sees the replay of all commits, old and new
pub view-behind : (commits : List Commit) (ss : List (Result Statement ℕ)) (now : ℕ → ℕ) →
    view_of (world_behind (reopened commits) ss now).commits None ≡ replay (commits ++ added_by (trace (reopened commits) ss now))
view-behind commits ss now = view-outside (world_behind (reopened commits) ss now).commits ∙ ap replay (commits-behind (reopened commits) ss now)

-- a fixed snapshot sees the same tables behind a statement
pub snapshot-stays : (w : World) (s : Result Statement ℕ) (clock : ℕ) → SnapshotStays w s clock
snapshot-stays w s clock t n fixed within =
    let e : Extends w.commits (world_after w s clock).commits = further-step w s clock in
    rw (fixed, e.is, take-append-le n w.commits e.more within) refl
