-- The same worlds with the same names answer alike, SESSION and DISCONNECT too.
use Rattle.std.proofs.Common.{◌≡◌, ℕ, suc, Bool, true, false, cond, List, [], ◌∷◌, drop, length, find, filter, map, Option, Some, None, unwrap_or, Result, Ok, Err, refl, ap, ap₂, ◌∙◌, sym, subst, codes}
use Rattle.std.specs.Prelude.{if◌then◌else◌, ◌&&◌, ◌||◌, not, nat_le, max}
use Rattle.std.specs.List.{list_any}
use Rattle.std.specs.Option.{option_map}
use Rattle.mr_lanes.specs.Kernels.{upper}
use Rattle.mr_types.specs.declared.row.Change.{Change}
use Rattle.mr_types.specs.declared.statement.Statement.{Statement}
use Rattle.mr_types.specs.declared.statement.Statement.TheVariants as statement
use Rattle.mr_types.specs.Refusals.{◌>>◌, refuse_where}
use Rattle.mr_types.specs.Values.{same_bytes}
use Rattle.mr_spec.specs.declared.world.Session.{Session}
use Rattle.mr_spec.specs.declared.world.Txn.{Txn}
use Rattle.mr_spec.specs.Outcome.{Outcome, answered, done}
use Rattle.mr_spec.specs.Promises.{IsOfOne}
use Rattle.mr_spec.specs.ScriptRun.{event_at, trace, statements_of, run_of, world_after}
use Rattle.mr_spec.specs.Step.{step, outcome_of, begun, timed, commits_first}
use Rattle.mr_spec.specs.World.{World, changes_by, committed, with_rows, is_session, fresh, turned_to}
use Rattle.mr_spec.proofs.Others.{moved-outcome_of}
use Rattle.mr_same_worlds.specs.Named.{IsNamedAlike, AreNamedAlike, SameNamedWorld, SameNamedOutcome}
use Rattle.mr_same_worlds.specs.SameWorld.{SameSession, SameSessions, SameWorld, SameOutcome, IsTidy}
use Rattle.mr_same_worlds.proofs.Again.{used-by, begun-others, answer-alike}
use Rattle.mr_same_worlds.proofs.Dressed.{with_used, dressed, SameUsed, Alike, outcome-alike}
use Rattle.mr_same_worlds.proofs.Tidy.{tidy-after}

-- ---- a statement of one session leaves all names

own-dress : (o : Option Txn) → option_map (with_used (used-by o)) o ≡ o
own-dress None = refl
own-dress (Some t) = refl

own-used : (o : Option Txn) → SameUsed (used-by o) o
own-used None = tt
own-used (Some t) = λ name. refl

name-stays : (s : Statement) (w : World) → IsOfOne s → (outcome_of s w).world.here.name ≡ w.here.name
name-stays s w p =
    let n : List ℕ = w.here.name in
    let us : List (List ℕ) = used-by w.here.txn in
    let same : dressed n us w ≡ w = ap (λ o. record w { here = record { name = n; txn = o } }) (own-dress w.here.txn) in
    let a : Alike n (outcome_of s w) (outcome_of s (dressed n us w)) = outcome-alike s n us w p (own-used w.here.txn) in
    let b : Alike n (outcome_of s w) (outcome_of s w) = subst (λ (u : World). Alike n (outcome_of s w) (outcome_of s u)) same a in
    ap (λ (o : Outcome). o.world.here.name) b.is

others-stay : (s : Statement) (w : World) → IsOfOne s → (outcome_of s w).world.others ≡ w.others
others-stay s w p = ap (λ (x : Outcome). x.world.others) (moved-outcome_of s w.others w p (record { held = λ def name c. refl; used = λ name. refl }))

rows-name : (cs : List Change) (w : World) → (with_rows cs w).here.name ≡ w.here.name
rows-name [] w = refl
rows-name (c ∷ cs) w = refl

begun-name : (s : Statement) (w : World) → (begun s w).here.name ≡ w.here.name
begun-name s w = elim (commits_first s) as (λ b. (if b then committed w else w).here.name ≡ w.here.name) [ true ↦ rows-name (changes_by w.here.txn) w | false ↦ refl ]

step-name : (s : Statement) (w : World) (clock : ℕ) → IsOfOne s → (step w (Ok s) clock).world.here.name ≡ w.here.name
step-name s w clock p = name-stays s (begun s (timed w clock)) p ∙ begun-name s (timed w clock)

step-others : (s : Statement) (w : World) (clock : ℕ) → IsOfOne s → (step w (Ok s) clock).world.others ≡ w.others
step-others s w clock p = others-stay s (begun s (timed w clock)) p ∙ begun-others s (timed w clock)

of-one : (s : Statement) (old new : World) (clock : ℕ) → IsOfOne s → IsTidy old → IsTidy new → SameNamedWorld old new → SameNamedOutcome (step old (Ok s) clock) (step new (Ok s) clock)
of-one s old new clock one p q h =
    let o : SameOutcome (step old (Ok s) clock) (step new (Ok s) clock) = answer-alike old new s clock p q h.same one in
    record {
      reply = o.reply;
      world = record {
        same = o.world;
        here = ap (map upper) (step-name s new clock one) ∙ h.here ∙ ap (map upper) (sym (step-name s old clock one));
        others = subst (λ ss. AreNamedAlike ss (step new (Ok s) clock).world.others) (sym (step-others s old clock one)) (subst (λ us. AreNamedAlike old.others us) (sym (step-others s new clock one)) h.others);
      };
    }

-- ---- lists of sessions

as-many : (ss us : List Session) → SameSessions ss us → length us ≡ length ss
as-many [] [] h = refl
as-many [] (u ∷ us) h = absurd h
as-many (s ∷ ss) [] h = absurd h
as-many (s ∷ ss) (u ∷ us) h = ap (λ n. suc n) (as-many ss us h.1)

same-test : (name : List ℕ) (s u : Session) → IsNamedAlike s u → is_session name u ≡ is_session name s
same-test name s u h = ap (λ x. same_bytes x (map upper name)) h

same-any : (name : List ℕ) (ss us : List Session) → AreNamedAlike ss us → list_any (is_session name) us ≡ list_any (is_session name) ss
same-any name [] [] h = refl
same-any name [] (u ∷ us) h = absurd h
same-any name (s ∷ ss) [] h = absurd h
same-any name (s ∷ ss) (u ∷ us) h = ap₂ (λ a b. a || b) (same-test name s u h.0) (same-any name ss us h.1)

-- the session that is found, or a fresh one
abbrev found : List ℕ → List Session → Session
found name ss = unwrap_or (find (is_session name) ss) (fresh name)

abbrev left-out : List ℕ → List Session → List Session
left-out name ss = filter (λ s. not (is_session name s)) ss

same-found : (name : List ℕ) (ss us : List Session) → SameSessions ss us → AreNamedAlike ss us → SameSession (found name ss) (found name us) × IsNamedAlike (found name ss) (found name us)
same-found name [] [] h k = (tt, refl)
same-found name [] (u ∷ us) h k = absurd h
same-found name (s ∷ ss) [] h k = absurd h
same-found name (s ∷ ss) (u ∷ us) h k =
    subst (λ b. SameSession (found name (s ∷ ss)) (unwrap_or (cond b (Some u) (find (is_session name) us)) (fresh name)) × IsNamedAlike (found name (s ∷ ss)) (unwrap_or (cond b (Some u) (find (is_session name) us)) (fresh name))) (sym (same-test name s u k.0))
    (elim (is_session name s) as (λ b. SameSession (unwrap_or (cond b (Some s) (find (is_session name) ss)) (fresh name)) (unwrap_or (cond b (Some u) (find (is_session name) us)) (fresh name))
    × IsNamedAlike (unwrap_or (cond b (Some s) (find (is_session name) ss)) (fresh name)) (unwrap_or (cond b (Some u) (find (is_session name) us)) (fresh name))) [
      | true ↦ (h.0, k.0)
      | false ↦ same-found name ss us h.1 k.1
    ])

same-left : (name : List ℕ) (ss us : List Session) → SameSessions ss us → AreNamedAlike ss us → SameSessions (left-out name ss) (left-out name us) × AreNamedAlike (left-out name ss) (left-out name us)
same-left name [] [] h k = (tt, tt)
same-left name [] (u ∷ us) h k = absurd h
same-left name (s ∷ ss) [] h k = absurd h
same-left name (s ∷ ss) (u ∷ us) h k =
    subst (λ b. SameSessions (left-out name (s ∷ ss)) (cond (not b) (u ∷ left-out name us) (left-out name us)) × AreNamedAlike (left-out name (s ∷ ss)) (cond (not b) (u ∷ left-out name us) (left-out name us))) (sym (same-test name s u k.0))
    (elim (is_session name s) as (λ b. SameSessions (cond (not b) (s ∷ left-out name ss) (left-out name ss)) (cond (not b) (u ∷ left-out name us) (left-out name us))
    × AreNamedAlike (cond (not b) (s ∷ left-out name ss) (left-out name ss)) (cond (not b) (u ∷ left-out name us) (left-out name us))) [
      | true ↦ same-left name ss us h.1 k.1
      | false ↦ (let more = same-left name ss us h.1 k.1 in ((h.0, more.0), (k.0, more.1)))
    ])

-- ---- SESSION and DISCONNECT

turned-alike : (name : List ℕ) (ss us : List Session) (old new : World) → SameWorld old new → SameSessions ss us → AreNamedAlike ss us → SameNamedWorld (turned_to name ss old) (turned_to name us new)
turned-alike name ss us old new w h k =
    let f = same-found name ss us h k in
    let l = same-left name ss us h k in
    record {
      same = record { commits = w.commits; moment = w.moment; numbers = w.numbers; building = w.building; here = f.0; others = l.0 };
      here = f.1;
      others = l.1;
    }

by-room : (b c : Bool) (name : List ℕ) (old new : World) → c ≡ b → SameNamedWorld old new →
    SameNamedOutcome (answered old (refuse_where 1040 b >> Ok (done (turned_to name (old.here ∷ old.others) old) 0))) (answered new (refuse_where 1040 c >> Ok (done (turned_to name (new.here ∷ new.others) new) 0)))
by-room b c name old new e h = subst (λ d. SameNamedOutcome (answered old (refuse_where 1040 b >> Ok (done (turned_to name (old.here ∷ old.others) old) 0))) (answered new (refuse_where 1040 d >> Ok (done (turned_to name (new.here ∷ new.others) new) 0)))) (sym e) (
    elim b as (λ d. SameNamedOutcome (answered old (refuse_where 1040 d >> Ok (done (turned_to name (old.here ∷ old.others) old) 0))) (answered new (refuse_where 1040 d >> Ok (done (turned_to name (new.here ∷ new.others) new) 0)))) [
      | true ↦ record { reply = refl; world = h }
      | false ↦ record { reply = refl; world = turned-alike name (old.here ∷ old.others) (new.here ∷ new.others) old new h.same (h.same.here, h.same.others) (h.here, h.others) }
    ])

session-alike : (name : List ℕ) (old new : World) → SameNamedWorld old new → SameNamedOutcome (outcome_of (statement.Session name) old) (outcome_of (statement.Session name) new)
session-alike name old new h =
    let room : (nat_le 64 (length (new.here ∷ new.others)) && not (list_any (is_session name) (new.here ∷ new.others))) ≡ (nat_le 64 (length (old.here ∷ old.others)) && not (list_any (is_session name) (old.here ∷ old.others)))
    = ap₂ (λ n b. nat_le 64 n && not b) (as-many (old.here ∷ old.others) (new.here ∷ new.others) (h.same.here, h.same.others)) (same-any name (old.here ∷ old.others) (new.here ∷ new.others) (h.here, h.others)) in
    by-room (nat_le 64 (length (old.here ∷ old.others)) && not (list_any (is_session name) (old.here ∷ old.others))) (nat_le 64 (length (new.here ∷ new.others)) && not (list_any (is_session name) (new.here ∷ new.others))) name old new room h

timed-alike : (old new : World) (clock : ℕ) → SameNamedWorld old new → SameNamedWorld (timed old clock) (timed new clock)
timed-alike old new clock h = record {
  same = record { commits = h.same.commits; moment = ap (λ m. max m clock) h.same.moment; numbers = h.same.numbers; building = h.same.building; here = h.same.here; others = h.same.others };
  here = h.here;
  others = h.others;
}

read-alike : (s : Statement) (old new : World) (clock : ℕ) → IsTidy old → IsTidy new → SameNamedWorld old new → SameNamedOutcome (step old (Ok s) clock) (step new (Ok s) clock)
read-alike (statement.Session name) old new clock p q h = session-alike name (timed old clock) (timed new clock) (timed-alike old new clock h)
read-alike statement.Disconnect old new clock p q h = record { reply = refl; world = turned-alike (codes "main") old.others new.others (timed old clock) (timed new clock) (timed-alike old new clock h).same h.same.others h.others }
read-alike s old new clock p q h = of-one s old new clock tt p q h

pub named-alike : (old new : World) (s : Result Statement ℕ) (clock : ℕ) → IsTidy old → IsTidy new → SameNamedWorld old new → SameNamedOutcome (step old s clock) (step new s clock)
named-alike old new (Ok s) clock p q h = read-alike s old new clock p q h
named-alike old new (Err code) clock p q h = record { reply = refl; world = timed-alike old new clock h }

-- ---- scripts

all-alike : (ss : List (Result Statement ℕ)) (old new : World) (now : ℕ → ℕ) → IsTidy old → IsTidy new → SameNamedWorld old new → trace new ss now ≡ trace old ss now
all-alike [] old new now p q h = refl
all-alike (s ∷ ss) old new now p q h =
    let o : SameNamedOutcome (step old s (now 0)) (step new s (now 0)) = named-alike old new s (now 0) p q h in
    let event : event_at new s (now 0) ≡ event_at old s (now 0) = λ i. record { added = drop (length (h.same.commits i)) (o.world.same.commits i); reply = o.reply i } in
    ap₂ (λ e es. e ∷ es) event (all-alike ss (world_after old s (now 0)) (world_after new s (now 0)) (λ k. now (suc k)) (tidy-after old s (now 0) p) (tidy-after new s (now 0) q) o.world)

pub script-alike : (old new : World) (script : List ℕ) (now : ℕ → ℕ) → IsTidy old → IsTidy new → SameNamedWorld old new → run_of script now new ≡ run_of script now old
script-alike old new script now p q h = all-alike (statements_of script) old new now p q h
