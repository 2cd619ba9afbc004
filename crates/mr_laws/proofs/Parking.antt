-- Sessions that are parked, and those that are turned to.
use Rattle.std.proofs.Common.{◌≡◌, ℕ, ◌≤◌, le_trans, Bool, true, false, true≢false, not, cond, ◌⊎◌, inl, inr, List, [], ◌∷◌, length, filter, find, Contains, All, Option, Some, None, unwrap_or, Result, Ok, Err, IfOk, refl, ap, sym, subst, ◌∙◌, arith, length-append, codes, if◌then◌else◌, ◌&&◌, nat_le}
use Rattle.std.proofs.lemmas.Option.{none-some, same_Some}
use Rattle.std.proofs.lemmas.List.Elements.{Contains-append_right, Contains-append_cases, Contains-push_cases, Contains-get_or, All-cons, All-head, All-tail, All-filter, All-contains}
use Rattle.std.specs.Prelude.{⊤}
use Rattle.std.specs.List.{list_any}
use Rattle.mr_types.specs.Refusals.{refuse_where}
use Rattle.mr_types.specs.declared.row.Commit.{Commit}
use Rattle.mr_types.specs.declared.statement.Statement.{Statement}
use Rattle.mr_types.specs.declared.statement.Statement.TheVariants as statement
use Rattle.mr_spec.specs.declared.world.Session.{Session}
use Rattle.mr_spec.specs.declared.world.Txn.{Txn}
use Rattle.mr_spec.specs.World.{World, committed, fresh, is_session, turned_to}
use Rattle.mr_spec.specs.Outcome.{Outcome, done, answered}
use Rattle.mr_spec.specs.SessionSteps.{new_txn, session_outcome}
use Rattle.mr_spec.specs.Step.{timed}
use Rattle.mr_spec.specs.ScriptRun.{world_after}
use Rattle.mr_spec.specs.Promises.{Extends}
use Rattle.mr_spec.proofs.Results.{behind}
use Rattle.mr_spec.proofs.Commits.{further-step}
use Rattle.std.specs.Prelude.{codes}
use Rattle.mr_types.specs.declared.row.Reply.TheVariants as reply
use Rattle.mr_spec.specs.Step.{step}
use Rattle.mr_laws.specs.Snapshots.{AreWithin}
use Rattle.mr_laws.proofs.Staying.{Follows, Origin, Keeps, snapshot_of, keeps-step, others-committed}

-- ---- elements

no_element : {X : Type 0} (x : X) → Contains [] x → ⊥
no_element x at = omega (arith, at.1)

contains-first : {X : Type 0} (xs : List X) (x : X) → Contains (x ∷ xs) x
contains-first xs x = (0, omega arith, refl)

contains-cases : {X : Type 0} (y : X) (ys : List X) (x : X) → Contains (y ∷ ys) x → (y ≡ x) ⊎ Contains ys x
contains-cases y ys x at = of_one (Contains-append_cases (y ∷ []) ys x at)
  where
    of_push : Contains [] x ⊎ (y ≡ x) → (y ≡ x) ⊎ Contains ys x
    of_push (inl h) = absurd (no_element x h)
    of_push (inr e) = inl e

    of_one : Contains (y ∷ []) x ⊎ Contains ys x → (y ≡ x) ⊎ Contains ys x
    of_one (inl h) = of_push (Contains-push_cases [] y x h)
    of_one (inr h) = inr h

contains-kept : {X : Type 0} (b : Bool) (y : X) (ys : List X) (x : X) → Contains ys x → Contains (cond b (y ∷ ys) ys) x
contains-kept true y ys x at = Contains-append_right (y ∷ []) ys x at
contains-kept false y ys x at = at

contains-passed : {X : Type 0} (b : Bool) (x y : X) (ys : List X) → b ≡ true → y ≡ x → Contains (cond b (y ∷ ys) ys) x
contains-passed true x y ys e f = subst (λ z. Contains (z ∷ ys) x) (sym f) (contains-first ys x)
contains-passed false x y ys e f = absurd (true≢false (sym e))

filter-cases : {X : Type 0} (p : X → Bool) (y : X) (ys : List X) (x : X) → p x ≡ true → (Contains ys x → Contains (filter p ys) x) → (y ≡ x) ⊎ Contains ys x → Contains (filter p (y ∷ ys)) x
filter-cases p y ys x e h (inl f) = contains-passed (p y) x y (filter p ys) (ap p f ∙ e) f
filter-cases p y ys x e h (inr at) = contains-kept (p y) y (filter p ys) x (h at)

-- what passes the test is kept
pub contains-filter : {X : Type 0} (p : X → Bool) (xs : List X) (x : X) → p x ≡ true → Contains xs x → Contains (filter p xs) x
contains-filter p [] x e at = absurd (no_element x at)
contains-filter p (y ∷ ys) x e at = filter-cases p y ys x e (contains-filter p ys x e) (contains-cases y ys x at)

found-cases : {X : Type 0} (P : X → Type 0) (b : Bool) (x : X) (o : Option X) (d : X) → P x → P (unwrap_or o d) → P (unwrap_or (cond b (Some x) o) d)
found-cases P true x o d h k = h
found-cases P false x o d h k = k

-- the one that is found, or the one in its place
found-or : {X : Type 0} (P : X → Type 0) (p : X → Bool) (xs : List X) (d : X) → P d → All P xs → P (unwrap_or (find p xs) d)
found-or P p [] d h all = h
found-or P p (x ∷ xs) d h all = found-cases P (p x) x (find p xs) d (All-head P x xs all) (found-or P p xs d h (All-tail P x xs all))

-- ---- sessions

pub others-parked : (name : List ℕ) (sessions : List Session) (w : World) (x : Session) → Contains sessions x → is_session name x ≡ false → Contains (turned_to name sessions w).others x
others-parked name sessions w x at e = contains-filter (λ s. not (is_session name s)) sessions x (ap not e) at

-- an answer that isn't refused has what its outcome has
not-refused : (P : Outcome → Type 0) (u : World) (r : Result Outcome ℕ) (n : ℕ) → IfOk r P → (answered u r).reply ≡ reply.Ok n → P (answered u r)
not-refused P u (Ok o) n h e = h
not-refused P u (Err code) n h e = absurd cc

-- SESSION turns to the session of its name among all open ones
abbrev Turns : World → List ℕ → ℕ → Outcome → Type 0
Turns w name clock o = o.world ≡ turned_to name (w.here ∷ w.others) (timed w clock)

session-answers : (w : World) (name : List ℕ) (clock : ℕ) → IfOk (session_outcome (timed w clock) name) (Turns w name clock)
session-answers w name clock = search (behind)

pub session-turns : (w : World) (name : List ℕ) (clock n : ℕ) → (step w (Ok (statement.Session name)) clock).reply ≡ reply.Ok n → world_after w (Ok (statement.Session name)) clock ≡ turned_to name (w.here ∷ w.others) (timed w clock)
session-turns w name clock n e = not-refused (Turns w name clock) (timed w clock) (session_outcome (timed w clock) name) n (session-answers w name clock) e

-- the snapshot of its transaction, where it is fixed, is of at most so many commits
abbrev pub IsBelow : ℕ → Session → Type 0
IsBelow all x = (t : Txn) (n : ℕ) → x.txn ≡ Some t → t.snapshot ≡ Some n → n ≤ all

all-below : (w : World) → AreWithin w → All (IsBelow (length w.commits)) (w.here ∷ w.others)
all-below w h k d lt = λ t n. h _ t n (Contains-get_or (w.here ∷ w.others) k d lt)

below-all : (w : World) → All (IsBelow (length w.commits)) (w.here ∷ w.others) → AreWithin w
below-all w h x t n at = All-contains (IsBelow (length w.commits)) (w.here ∷ w.others) x h at t n

fresh-below : (all : ℕ) (name : List ℕ) → IsBelow all (fresh name)
fresh-below all name t n e = absurd (none-some t e)

turned-within : (name : List ℕ) (sessions : List Session) (w : World) → All (IsBelow (length w.commits)) sessions → AreWithin (turned_to name sessions w)
turned-within name sessions w h = below-all (turned_to name sessions w) (All-cons (IsBelow (length w.commits)) _ _
    (found-or (IsBelow (length w.commits)) (is_session name) sessions (fresh name) (fresh-below (length w.commits) name) h)
    (All-filter (λ s. not (is_session name s)) (IsBelow (length w.commits)) sessions h))

session-within : (w : World) (name : List ℕ) → AreWithin w → IfOk (session_outcome w name) (λ o. AreWithin o.world)
session-within w name h = behind {A = ⊤} {E = ℕ} (λ (o : Outcome). AreWithin o.world) (refuse_where 1040 (nat_le 64 (length (w.here ∷ w.others)) && not (list_any (is_session name) (w.here ∷ w.others)))) (Ok (done (turned_to name (w.here ∷ w.others) w) 0))
    (turned-within name (w.here ∷ w.others) w (all-below w h))

answered-within : (w : World) (r : Result Outcome ℕ) → AreWithin w → IfOk r (λ o. AreWithin o.world) → AreWithin (answered w r).world
answered-within w (Ok o) h k = k
answered-within w (Err code) h k = h

-- ---- the current session

not-fewer : (old new : List Commit) → Extends old new → length old ≤ length new
not-fewer old new e = omega (arith, ap length e.is, length-append old e.more)

follows-below : (all n : ℕ) (old new : Option ℕ) → ((m : ℕ) → old ≡ Some m → m ≤ all) → Follows all old new → new ≡ Some n → n ≤ all
follows-below all n old new h (inl f) e = h n (sym f ∙ e)
follows-below all n None new h (inr f) e = omega (arith, same_Some _ _ (sym f ∙ e))
follows-below all n (Some m) new h (inr f) e = h n (sym f ∙ e)

-- where the transaction goes on from the one before, and the others stay
kept-within : (w u : World) → Extends w.commits u.commits → Keeps w u.here.txn u.others → AreWithin w → AreWithin u
kept-within w u more k h x t n at e f = of_cases (contains-cases u.here u.others x at)
  where
    fewer : length w.commits ≤ length u.commits
    fewer = not-fewer w.commits u.commits more

    here_below : u.here.txn ≡ Some t → n ≤ length w.commits
    here_below e =
        let o : Origin w.here.txn (length w.commits) t = k.origin t e in
        follows-below (length w.commits) n o.from.snapshot t.snapshot (λ m. h w.here o.from m (contains-first w.others w.here) o.is) o.snapshot f

    of_cases : (u.here ≡ x) ⊎ Contains u.others x → n ≤ length u.commits
    of_cases (inl s) = le_trans (here_below (ap (λ (y : Session). y.txn) s ∙ e)) fewer
    of_cases (inr r) = le_trans (h x t n (Contains-append_right (w.here ∷ []) w.others x (subst (λ xs. Contains xs x) k.others r)) e f) fewer

-- a transaction that begins
begin-below : (b : Bool) (all n : ℕ) → (if b then Some all else None) ≡ Some n → n ≤ all
begin-below true all n e = omega (arith, same_Some _ _ e)
begin-below false all n e = absurd (none-some n e)

begun-within : (w : World) (b : Bool) (clock : ℕ) → AreWithin w → AreWithin (world_after w (Ok (statement.Begin b)) clock)
begun-within w b clock h x t n at e f = of_cases (contains-cases (world_after w (Ok (statement.Begin b)) clock).here (world_after w (Ok (statement.Begin b)) clock).others x at)
  where
    all : ℕ
    all = length (world_after w (Ok (statement.Begin b)) clock).commits

    fewer : length w.commits ≤ all
    fewer = not-fewer w.commits _ (further-step w (Ok (statement.Begin b)) clock)

    new_one : Some (new_txn b (committed (timed w clock))) ≡ Some t → n ≤ all
    new_one g = begin-below b all n (ap snapshot_of g ∙ f)

    of_cases : ((world_after w (Ok (statement.Begin b)) clock).here ≡ x) ⊎ Contains (world_after w (Ok (statement.Begin b)) clock).others x → n ≤ all
    of_cases (inl s) = new_one (ap (λ (y : Session). y.txn) s ∙ e)
    of_cases (inr r) = le_trans (h x t n (Contains-append_right (w.here ∷ []) w.others x (subst (λ xs. Contains xs x) (others-committed (timed w clock)) r)) e f) fewer

-- ---- the law

pub step-within : (w : World) (s : Result Statement ℕ) (clock : ℕ) → AreWithin w → AreWithin (world_after w s clock)
step-within w (Err code) clock h = h
step-within w (Ok (statement.Begin b)) clock h = begun-within w b clock h
step-within w (Ok (statement.Session name)) clock h = answered-within (timed w clock) _ h (session-within (timed w clock) name h)
step-within w (Ok statement.Disconnect) clock h = turned-within (codes "main") w.others (timed w clock) (All-tail (IsBelow (length w.commits)) w.here w.others (all-below w h))
step-within w (Ok s) clock h = kept-within w (world_after w (Ok s) clock) (further-step w (Ok s) clock) (keeps-step w (Ok s) clock _) h
