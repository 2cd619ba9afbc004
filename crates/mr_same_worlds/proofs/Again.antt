-- The same worlds answer alike.
use Rattle.std.proofs.Common.{◌≡◌, ℕ, suc, true, false, List, [], ◌∷◌, ◌++◌, drop, length, Option, Some, None, Ok, Err, refl, ap, ap₂, ◌∙◌, sym, subst}
use Rattle.std.specs.Prelude.{if◌then◌else◌, ◌||◌, max}
use Rattle.std.specs.List.{list_any, AllByRecursion}
use Rattle.std.specs.Option.{option_map, option_map_or}
use Rattle.mr_types.specs.declared.row.Change.{Change}
use Rattle.mr_types.specs.declared.statement.Statement.{Statement}
use Rattle.mr_types.specs.Values.{same_bytes}
use Rattle.mr_spec.specs.declared.world.Session.{Session}
use Rattle.mr_spec.specs.declared.world.Txn.{Txn}
use Rattle.mr_spec.specs.Claims.{has_claim_in}
use Rattle.mr_spec.specs.Database.{table_of, replay, on_table}
use Rattle.mr_spec.specs.Outcome.{Outcome}
use Rattle.mr_spec.specs.Promises.{IsOfOne, SameOthers, others_in, moved}
use Rattle.mr_spec.specs.ScriptRun.{event_at, trace, world_after}
use Rattle.mr_spec.specs.Step.{step, step_of, outcome_of, begun, timed, commits_first}
use Rattle.mr_spec.specs.World.{World, changes_by, held_changes, has_used, committed, with_rows}
use Rattle.mr_spec.proofs.Others.{moved-outcome_of, moved-committed}
use Rattle.mr_same_worlds.specs.SameWorld.{SameOpen, SameSessions, SameWorld, SameOutcome, IsTidy, all_read}
use Rattle.mr_same_worlds.proofs.Dressed.{with_used, dressed, SameUsed, Alike, outcome-alike, dress-committed}
use Rattle.mr_same_worlds.proofs.Tidy.{tidy-after}

-- ---- sameness

txn-itself : (o : Option Txn) → SameOpen o o
txn-itself None = tt
txn-itself (Some t) = record { snapshot = refl; changes = refl; savepoints = refl; used = λ name. refl }

txn-back : (o p : Option Txn) → SameOpen o p → SameOpen p o
txn-back None None h = tt
txn-back None (Some u) h = h
txn-back (Some t) None h = h
txn-back (Some t) (Some u) h = record { snapshot = sym h.snapshot; changes = sym h.changes; savepoints = sym h.savepoints; used = λ name. sym (h.used name) }

txn-on : (o p q : Option Txn) → SameOpen o p → SameOpen p q → SameOpen o q
txn-on None None None h k = tt
txn-on None None (Some v) h k = k
txn-on None (Some u) q h k = absurd h
txn-on (Some t) None q h k = absurd h
txn-on (Some t) (Some u) None h k = k
txn-on (Some t) (Some u) (Some v) h k = record { snapshot = k.snapshot ∙ h.snapshot; changes = k.changes ∙ h.changes; savepoints = k.savepoints ∙ h.savepoints; used = λ name. k.used name ∙ h.used name }

all-itself : (ss : List Session) → SameSessions ss ss
all-itself [] = tt
all-itself (s ∷ ss) = (txn-itself s.txn, all-itself ss)

all-back : (ss us : List Session) → SameSessions ss us → SameSessions us ss
all-back [] [] h = tt
all-back [] (u ∷ us) h = h
all-back (s ∷ ss) [] h = h
all-back (s ∷ ss) (u ∷ us) h = (txn-back s.txn u.txn h.0, all-back ss us h.1)

all-on : (ss us vs : List Session) → SameSessions ss us → SameSessions us vs → SameSessions ss vs
all-on [] [] [] h k = tt
all-on [] [] (v ∷ vs) h k = k
all-on [] (u ∷ us) vs h k = absurd h
all-on (s ∷ ss) [] vs h k = absurd h
all-on (s ∷ ss) (u ∷ us) [] h k = k
all-on (s ∷ ss) (u ∷ us) (v ∷ vs) h k = (txn-on s.txn u.txn v.txn h.0 k.0, all-on ss us vs h.1 k.1)

pub itself : (w : World) → SameWorld w w
itself w = record { commits = refl; moment = refl; numbers = λ name t e. refl; building = λ name t e. refl; here = txn-itself w.here.txn; others = all-itself w.others }

pub back : (old new : World) → SameWorld old new → SameWorld new old
back old new h = record {
  commits = sym h.commits;
  moment = sym h.moment;
  numbers = λ name t e. sym (h.numbers name t (ap (λ cs. table_of name (replay cs)) (sym h.commits) ∙ e));
  building = λ name t e. sym (h.building name t (ap (λ cs. table_of name (replay cs)) (sym h.commits) ∙ e));
  here = txn-back old.here.txn new.here.txn h.here;
  others = all-back old.others new.others h.others;
}

pub on : (old new last : World) → SameWorld old new → SameWorld new last → SameWorld old last
on old new last h k = record {
  commits = k.commits ∙ h.commits;
  moment = k.moment ∙ h.moment;
  numbers = λ name t e. k.numbers name t (ap (λ cs. table_of name (replay cs)) h.commits ∙ e) ∙ h.numbers name t e;
  building = λ name t e. k.building name t (ap (λ cs. table_of name (replay cs)) h.commits ∙ e) ∙ h.building name t e;
  here = txn-on old.here.txn new.here.txn last.here.txn h.here k.here;
  others = all-on old.others new.others last.others h.others k.others;
}

-- ---- the other sessions

same-changes : (s u : Option Txn) → SameOpen s u → changes_by u ≡ changes_by s
same-changes None None h = refl
same-changes None (Some u) h = absurd h
same-changes (Some t) None h = absurd h
same-changes (Some t) (Some u) h = h.changes

same-held : (ss us : List Session) → SameSessions ss us → held_changes us ≡ held_changes ss
same-held [] [] h = refl
same-held [] (u ∷ us) h = absurd h
same-held (s ∷ ss) [] h = absurd h
same-held (s ∷ ss) (u ∷ us) h = ap₂ (λ a b. a ++ b) (same-changes s.txn u.txn h.0) (same-held ss us h.1)

same-use : (name : List ℕ) (s u : Option Txn) → SameOpen s u → option_map_or (λ t. list_any (same_bytes name) t.used) u false ≡ option_map_or (λ t. list_any (same_bytes name) t.used) s false
same-use name None None h = refl
same-use name None (Some u) h = absurd h
same-use name (Some t) None h = absurd h
same-use name (Some t) (Some u) h = h.used name

same-uses : (name : List ℕ) (ss us : List Session) → SameSessions ss us → list_any (has_used name) us ≡ list_any (has_used name) ss
same-uses name [] [] h = refl
same-uses name [] (u ∷ us) h = absurd h
same-uses name (s ∷ ss) [] h = absurd h
same-uses name (s ∷ ss) (u ∷ us) h = ap₂ (λ a b. a || b) (same-use name s.txn u.txn h.0) (same-uses name ss us h.1)

same-others : (ss us : List Session) → SameSessions ss us → SameOthers ss us
same-others ss us h = record {
  held = λ def name c. ap (λ cs. has_claim_in def (on_table name cs) c) (same-held ss us h);
  used = λ name. same-uses name ss us h;
}

-- ---- one world in another dress

abbrev pub used-by : Option Txn → List (List ℕ)
used-by None = []
used-by (Some t) = t.used

abbrev in-dress : World → World → World
in-dress new old = dressed new.here.name (used-by new.here.txn) (others_in new.others old)

txn-dressed : (o p : Option Txn) → SameOpen o p → p ≡ option_map (with_used (used-by p)) o
txn-dressed None None h = refl
txn-dressed None (Some u) h = absurd h
txn-dressed (Some t) None h = absurd h
txn-dressed (Some t) (Some u) h = λ i. Some (record { snapshot = h.snapshot i; changes = h.changes i; savepoints = h.savepoints i; used = u.used })

used-same : (o p : Option Txn) → SameOpen o p → SameUsed (used-by p) o
used-same None None h = tt
used-same None (Some u) h = absurd h
used-same (Some t) None h = absurd h
used-same (Some t) (Some u) h = h.used

-- tidy worlds have the same numbers and keys for every name
all-numbers : (old new : World) → IsTidy old → IsTidy new → SameWorld old new → (name : List ℕ) → new.numbers name ≡ old.numbers name
all-numbers old new p q h name = (elim (table_of name (replay old.commits)) as (λ o. table_of name (replay old.commits) ≡ o → new.numbers name ≡ old.numbers name) [
  | None ↦ λ e. q.number name (ap (λ cs. table_of name (replay cs)) h.commits ∙ e) ∙ sym (p.number name e)
  | Some t ↦ λ e. h.numbers name t e
]) refl

all-building : (old new : World) → IsTidy old → IsTidy new → SameWorld old new → (name : List ℕ) → new.building name ≡ old.building name
all-building old new p q h name = (elim (table_of name (replay old.commits)) as (λ o. table_of name (replay old.commits) ≡ o → new.building name ≡ old.building name) [
  | None ↦ λ e. q.key name (ap (λ cs. table_of name (replay cs)) h.commits ∙ e) ∙ sym (p.key name e)
  | Some t ↦ λ e. h.building name t e
]) refl

is-dressed : (old new : World) → IsTidy old → IsTidy new → SameWorld old new → new ≡ in-dress new old
is-dressed old new p q h = λ i. record {
  commits = h.commits i;
  here = record { name = new.here.name; txn = txn-dressed old.here.txn new.here.txn h.here i };
  others = new.others;
  building = λ name. all-building old new p q h name i;
  numbers = λ name. all-numbers old new p q h name i;
  moment = h.moment i;
}

dress-begun : (s : Statement) (n : List ℕ) (us : List (List ℕ)) (w : World) → begun s (dressed n us w) ≡ dressed n us (begun s w)
dress-begun s n us w = elim (commits_first s) as (λ b. (if b then committed (dressed n us w) else dressed n us w) ≡ dressed n us (if b then committed w else w)) [ true ↦ dress-committed n us w w.here.txn | false ↦ refl ]

begun-used : (s : Statement) (us : List (List ℕ)) (w : World) → SameUsed us w.here.txn → SameUsed us (begun s w).here.txn
begun-used s us w h = elim (commits_first s) as (λ b. SameUsed us (if b then committed w else w).here.txn) [ true ↦ tt | false ↦ h ]

moved-begun : (s : Statement) (os : List Session) (w : World) → begun s (others_in os w) ≡ others_in os (begun s w)
moved-begun s os w = elim (commits_first s) as (λ b. (if b then committed (others_in os w) else others_in os w) ≡ others_in os (if b then committed w else w)) [ true ↦ moved-committed os w | false ↦ refl ]

pub rows-others : (cs : List Change) (w : World) → (with_rows cs w).others ≡ w.others
rows-others [] w = refl
rows-others (c ∷ cs) w = refl

pub begun-others : (s : Statement) (w : World) → (begun s w).others ≡ w.others
begun-others s w = elim (commits_first s) as (λ b. (if b then committed w else w).others ≡ w.others) [ true ↦ rows-others (changes_by w.here.txn) w | false ↦ refl ]

same-dressed : (n : List ℕ) (us : List (List ℕ)) (os : List Session) (w : World) → SameUsed us w.here.txn → SameSessions w.others os → SameWorld w (dressed n us (others_in os w))
same-dressed n us os w h k = record { commits = refl; moment = refl; numbers = λ name t e. refl; building = λ name t e. refl; here = txn-same w.here.txn h; others = k }
  where
    txn-same : (o : Option Txn) → SameUsed us o → SameOpen o (option_map (with_used us) o)
    txn-same None g = tt
    txn-same (Some t) g = record { snapshot = refl; changes = refl; savepoints = refl; used = g }

-- the outcome in a world whose sessions are the same, in any dress
outcome-again : (s : Statement) (n : List ℕ) (us : List (List ℕ)) (os : List Session) (w : World) → IsOfOne s → SameUsed us w.here.txn → SameSessions w.others os → SameOutcome (outcome_of s w) (outcome_of s (dressed n us (others_in os w)))
outcome-again s n us os w p h k =
    let o : SameOthers w.others os = same-others w.others os k in
    let m : outcome_of s (others_in os w) ≡ moved os (outcome_of s w) = moved-outcome_of s os w p o in
    let stay : (outcome_of s w).world.others ≡ w.others = ap (λ (x : Outcome). x.world.others) (moved-outcome_of s w.others w p (record { held = λ def name c. refl; used = λ name. refl })) in
    let a : Alike n (outcome_of s (others_in os w)) (outcome_of s (dressed n us (others_in os w))) = outcome-alike s n us (others_in os w) p h in
    let b : Alike n (moved os (outcome_of s w)) (outcome_of s (dressed n us (others_in os w))) = subst (λ (x : Outcome). Alike n x (outcome_of s (dressed n us (others_in os w)))) m a in
    subst (λ (x : Outcome). SameOutcome (outcome_of s w) x) (sym b.is) (record {
      reply = refl;
      world = same-dressed n b.used os (outcome_of s w).world b.same (subst (λ ss. SameSessions ss os) (sym stay) k);
    })

step-dressed : (s : Statement) (n : List ℕ) (us : List (List ℕ)) (os : List Session) (w : World) (clock : ℕ) → IsOfOne s → SameUsed us w.here.txn → SameSessions w.others os → SameOutcome (step_of w s clock) (step_of (dressed n us (others_in os w)) s clock)
step-dressed s n us os w clock p h k =
    let v : World = begun s (timed w clock) in
    let start : begun s (dressed n us (others_in os (timed w clock))) ≡ dressed n us (others_in os v) = dress-begun s n us (others_in os (timed w clock)) ∙ ap (dressed n us) (moved-begun s os (timed w clock)) in
    subst (λ (u : World). SameOutcome (outcome_of s v) (outcome_of s u)) (sym start) (outcome-again s n us os v p (begun-used s us (timed w clock) h) (subst (λ ss. SameSessions ss os) (sym (begun-others s (timed w clock))) k))

pub answer-alike : (old new : World) (s : Statement) (clock : ℕ) → IsTidy old → IsTidy new → SameWorld old new → IsOfOne s → SameOutcome (step old (Ok s) clock) (step new (Ok s) clock)
answer-alike old new s clock p q h one =
    subst (λ (u : World). SameOutcome (step_of old s clock) (step_of u s clock)) (sym (is-dressed old new p q h))
    (step-dressed s new.here.name (used-by new.here.txn) new.others old clock one (used-same old.here.txn new.here.txn h.here) h.others)

pub unread-alike : (old new : World) (code clock : ℕ) → SameWorld old new → SameOutcome (step old (Err code) clock) (step new (Err code) clock)
unread-alike old new code clock h = record {
  reply = refl;
  world = record { commits = h.commits; moment = ap (λ m. max m clock) h.moment; numbers = h.numbers; building = h.building; here = h.here; others = h.others };
}

-- ---- runs

pub same-event : (old new : World) (s : Statement) (clock : ℕ) → SameWorld old new → SameOutcome (step old (Ok s) clock) (step new (Ok s) clock) → event_at new (Ok s) clock ≡ event_at old (Ok s) clock
same-event old new s clock h o = λ i. record { added = drop (length (h.commits i)) (o.world.commits i); reply = o.reply i }

pub run-alike : (ss : List Statement) (old new : World) (now : ℕ → ℕ) → IsTidy old → IsTidy new → SameWorld old new → AllByRecursion IsOfOne ss → trace new (all_read ss) now ≡ trace old (all_read ss) now
run-alike [] old new now p q h all = refl
run-alike (s ∷ ss) old new now p q h all =
    let o : SameOutcome (step old (Ok s) (now 0)) (step new (Ok s) (now 0)) = answer-alike old new s (now 0) p q h all.0 in
    ap₂ (λ e es. e ∷ es) (same-event old new s (now 0) h o)
    (run-alike ss (world_after old (Ok s) (now 0)) (world_after new (Ok s) (now 0)) (λ k. now (suc k)) (tidy-after old (Ok s) (now 0) p) (tidy-after new (Ok s) (now 0) q) o.world all.1)
