-- Snapshots lie since the opening.
use Rattle.std.proofs.Common.{◌≡◌, ℕ, suc, ◌≤◌, le_refl, le_trans, Bool, true, false, not, inl, inr, List, [], ◌∷◌, length, find, Option, Some, None, unwrap_or, Result, Ok, Err, IfOk, refl, ap, sym, subst, ◌∙◌, arith, length-append, codes}
use Rattle.std.specs.Prelude.{if◌then◌else◌, ◌&&◌, nat_le}
use Rattle.std.specs.List.{list_any}
use Rattle.std.proofs.lemmas.Option.{none-some, same_Some}
use Rattle.mr_types.specs.declared.row.Commit.{Commit}
use Rattle.mr_types.specs.declared.statement.Statement.{Statement}
use Rattle.mr_types.specs.declared.statement.Statement.TheVariants as statement
use Rattle.mr_types.specs.Refusals.{refuse_where}
use Rattle.mr_spec.specs.declared.world.Session.{Session}
use Rattle.mr_spec.specs.declared.world.Txn.{Txn}
use Rattle.mr_spec.specs.Replay.{reopened}
use Rattle.mr_spec.specs.World.{World, committed, fresh, is_session, turned_to}
use Rattle.mr_spec.specs.Outcome.{Outcome, answered}
use Rattle.mr_spec.specs.SessionSteps.{new_txn, session_outcome}
use Rattle.mr_spec.specs.Step.{timed}
use Rattle.mr_spec.specs.ScriptRun.{world_after, world_behind}
use Rattle.mr_spec.proofs.Commits.{further-step}
use Rattle.mr_laws.proofs.Staying.{Follows, Origin, Keeps, snapshot_of, keeps-step, others-committed}
use Rattle.mr_laws.specs.Snapshots.{StaysInPlace}
use Rattle.mr_sound.specs.Sound.{IsIn}
use Rattle.mr_sound.proofs.Basics.{in-filter}
use Rattle.mr_sound.proofs.Made.{ok-behind}
use Rattle.mr_sound.proofs.Worlds.{found-in}
use Rattle.mr_steps.specs.Since.{LiesSince, LieSince}

pub not-fewer : (w : World) (s : Result Statement ℕ) (clock : ℕ) → length w.commits ≤ length (world_after w s clock).commits
not-fewer w s clock = let e = further-step w s clock in let a = ap length e.is in let b = length-append w.commits e.more in omega (arith, a, b)

-- ---- where the transaction goes on

follows-since : (all n k : ℕ) (old new : Option ℕ) → n ≤ all → ((m : ℕ) → old ≡ Some m → (n ≤ m) × (m ≤ all)) → Follows all old new → new ≡ Some k → (n ≤ k) × (k ≤ all)
follows-since all n k old new le h (inl f) e = h k (sym f ∙ e)
follows-since all n k None new le h (inr f) e = let same : all ≡ k = same_Some all k (sym f ∙ e) in (omega (arith, le, same), omega (arith, same))
follows-since all n k (Some m) new le h (inr f) e = h k (sym f ∙ e)

longer-since : (n k all more : ℕ) → all ≤ more → (n ≤ k) × (k ≤ all) → (n ≤ k) × (k ≤ more)
longer-since n k all more le p = (p.0, le_trans p.1 le)

kept-since : (n : ℕ) (w u : World) → n ≤ length w.commits → length w.commits ≤ length u.commits → Keeps w u.here.txn u.others → LieSince n w → LieSince n u
kept-since n w u le more keeps h s (inl same) t k e f =
    let o : Origin w.here.txn (length w.commits) t = keeps.origin t (ap (λ (x : Session). x.txn) same ∙ e) in
    longer-since n k (length w.commits) (length u.commits) more (follows-since (length w.commits) n k o.from.snapshot t.snapshot le (λ m. h w.here (inl refl) o.from m o.is) o.snapshot f)
kept-since n w u le more keeps h s (inr i) t k e f =
    longer-since n k (length w.commits) (length u.commits) more (h s (inr (subst (λ xs. IsIn s xs) keeps.others i)) t k e f)

-- ---- where another one is current

new-since : (b : Bool) (all k : ℕ) → (if b then Some all else None) ≡ Some k → k ≡ all
new-since true all k e = sym (same_Some all k e)
new-since false all k e = absurd (none-some k e)

begun-since : (n : ℕ) (w : World) (b : Bool) (clock : ℕ) → n ≤ length w.commits → LieSince n w → LieSince n (world_after w (Ok (statement.Begin b)) clock)
begun-since n w b clock le h s (inl same) t k e f =
    let u : World = committed (timed w clock) in
    let more : length w.commits ≤ length u.commits = not-fewer w (Ok (statement.Begin b)) clock in
    let txn : Some (new_txn b u) ≡ Some t = ap (λ (x : Session). x.txn) same ∙ e in
    let all : k ≡ length u.commits = new-since b (length u.commits) k (ap snapshot_of txn ∙ f) in
    (omega (arith, le, more, all), omega (arith, all))
begun-since n w b clock le h s (inr i) t k e f =
    longer-since n k (length w.commits) (length (committed (timed w clock)).commits) (not-fewer w (Ok (statement.Begin b)) clock) (h s (inr (subst (λ xs. IsIn s xs) (others-committed (timed w clock)) i)) t k e f)

turned-since : (n : ℕ) (name : List ℕ) (sessions : List Session) (w : World) → ((s : Session) → IsIn s sessions → LiesSince n w s) → LieSince n (turned_to name sessions w)
turned-since n name sessions w h s (inl same) = subst (LiesSince n w) same (by_found (find (is_session name) sessions) refl)
  where
    by_found : (o : Option Session) → find (is_session name) sessions ≡ o → LiesSince n w (unwrap_or o (fresh name))
    by_found None e = λ t k f. absurd (none-some t f)
    by_found (Some x) e = h x (found-in (is_session name) sessions x e).0
turned-since n name sessions w h s (inr i) = h s (in-filter (λ x. not (is_session name x)) s sessions i).0

session-since : (n : ℕ) (w : World) (name : List ℕ) → LieSince n w → IfOk (session_outcome w name) (λ o. LieSince n o.world)
session-since n w name h = ok-behind (λ (o : Outcome). LieSince n o.world) (refuse_where 1040 (nat_le 64 (length (w.here ∷ w.others)) && not (list_any (is_session name) (w.here ∷ w.others)))) _ (λ x e. turned-since n name (w.here ∷ w.others) w h)

answered-since : (n : ℕ) (w : World) (r : Result Outcome ℕ) → LieSince n w → IfOk r (λ o. LieSince n o.world) → LieSince n (answered w r).world
answered-since n w (Ok o) h k = k
answered-since n w (Err code) h k = h

-- ---- the laws

pub step-since : (n : ℕ) (w : World) (s : Result Statement ℕ) (clock : ℕ) → n ≤ length w.commits → LieSince n w → LieSince n (world_after w s clock)
step-since n w (Err code) clock le h = h
step-since n w (Ok (statement.Begin b)) clock le h = begun-since n w b clock le h
step-since n w (Ok (statement.Session name)) clock le h = answered-since n (timed w clock) (session_outcome (timed w clock) name) h (session-since n (timed w clock) name h)
step-since n w (Ok statement.Disconnect) clock le h = turned-since n (codes "main") w.others (timed w clock) (λ s i. h s (inr i))
step-since n w (Ok s) clock le h = kept-since n w (world_after w (Ok s) clock) le (not-fewer w (Ok s) clock) (keeps-step w (Ok s) clock _) h

pub opened-since : (commits : List Commit) → LieSince (length commits) (reopened commits)
opened-since commits s (inl same) t k e f = absurd (none-some t (ap (λ (x : Session). x.txn) same ∙ e))
opened-since commits s (inr i) t k e f = absurd i

behind-since : (n : ℕ) (w : World) (ss : List (Result Statement ℕ)) (now : ℕ → ℕ) → n ≤ length w.commits → LieSince n w → LieSince n (world_behind w ss now)
behind-since n w [] now le h = h
behind-since n w (s ∷ ss) now le h = behind-since n (world_after w s (now 0)) ss (λ k. now (suc k)) (le_trans le (not-fewer w s (now 0))) (step-since n w s (now 0) le h)

pub run-since : (commits : List Commit) (ss : List (Result Statement ℕ)) (now : ℕ → ℕ) → LieSince (length commits) (world_behind (reopened commits) ss now)
run-since commits ss now = behind-since (length commits) (reopened commits) ss now (le_refl (length commits)) (opened-since commits)

-- ---- where a snapshot is fixed

follows-new : (all n : ℕ) (old new : Option ℕ) → old ≡ None → Follows all old new → new ≡ Some n → n ≡ all
follows-new all n old new e (inl f) g = absurd (none-some n (sym e ∙ sym f ∙ g))
follows-new all n old new e (inr f) g = sym (same_Some all n (sym (f ∙ ap (λ x. Some (unwrap_or x all)) e) ∙ g))

pub first-fixed : (w : World) (s : Result Statement ℕ) (clock n : ℕ) (t u : Txn) → StaysInPlace s → w.here.txn ≡ Some t → t.snapshot ≡ None → (world_after w s clock).here.txn ≡ Some u → u.snapshot ≡ Some n → n ≡ length w.commits
first-fixed w s clock n t u p e f g h =
    let o : Origin w.here.txn (length w.commits) u = (keeps-step w s clock p).origin u g in
    let same : Some o.from ≡ Some t = sym o.is ∙ e in
    follows-new (length w.commits) n o.from.snapshot u.snapshot (ap snapshot_of same ∙ f) o.snapshot h

pub begun-fixed : (w : World) (clock : ℕ) (t : Txn) → (world_after w (Ok (statement.Begin true)) clock).here.txn ≡ Some t → t.snapshot ≡ Some (length (world_after w (Ok (statement.Begin true)) clock).commits)
begun-fixed w clock t e = ap snapshot_of (sym e)
