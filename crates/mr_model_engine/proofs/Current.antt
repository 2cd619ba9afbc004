-- The tables that stay beside the commits.
use Rattle.std.proofs.Common.{◌≡◌, ℕ, List, [], ◌∷◌, ◌++◌, length, take, min, Option, Some, None, option_map, unwrap_or, refl, sym, ap, subst, ◌∙◌}
use Rattle.std.proofs.Math.Seq.{take-length}
use Rattle.std.proofs.lemmas.List.{take_min}
use Rattle.std.proofs.lemmas.Option.{none-some}
use Rattle.mr_types.specs.declared.row.Commit.{Commit}
use Rattle.mr_spec.specs.declared.world.Table.{Table}
use Rattle.mr_types.specs.declared.row.Change.{Change}
use Rattle.mr_spec.specs.declared.world.Txn.{Txn}
use Rattle.mr_spec.specs.Database.{changed, with_changes, with_body, with_commits, replay}
use Rattle.mr_spec.specs.World.{seen_by, view_of}
use Rattle.std.specs.Option.{ForSome}
use Rattle.mr_orders.specs.Orders.{AreAscending}
use Rattle.mr_orders.proofs.Tables.{with-commits, views-ascend}
use Rattle.mr_model_engine.specs.Kept.{IsKept}

after_more : (ts : List Table) (cs : List Commit) (c : Commit) → with_commits ts (cs ++ c ∷ []) ≡ with_body (with_commits ts cs) c.body
after_more ts [] c = refl
after_more ts (d ∷ cs) c = after_more (with_body ts d.body) cs c

-- a commit more changes the tables by what it says
pub replay_more : (cs : List Commit) (c : Commit) → replay (cs ++ c ∷ []) ≡ with_body (replay cs) c.body
replay_more cs c = after_more [] cs c

-- no transaction sees all
pub all_of : (cs : List Commit) → view_of cs None ≡ replay cs
all_of cs = ap replay (take-length cs)

-- as many as there are, are all
pub all_seen : (n : ℕ) (cs : List Commit) → min n (length cs) ≡ length cs → take n cs ≡ cs
all_seen n cs e = sym (take_min n cs) ∙ ap (λ k. take k cs) e ∙ take-length cs

-- ---- the view of a transaction

after_both : (ts : List Table) (before more : List Change) → with_changes ts (before ++ more) ≡ with_changes (with_changes ts before) more
after_both ts [] more = refl
after_both ts (c ∷ cs) more = after_both (changed ts c) cs more

changed_kept : (old : Option (List Table)) (seen : List Table) (changes : List Change) → IsKept old seen → IsKept (option_map (λ ts. with_changes ts changes) old) (with_changes seen changes)
changed_kept None seen changes kept = λ x e. absurd (none-some x e)
changed_kept (Some ts) seen changes kept = λ x e. sym (ap (λ o. unwrap_or o []) e) ∙ ap (λ us. with_changes us changes) (kept ts refl)

-- what is kept goes with the transaction's changes
pub kept_further : (cs : List Commit) (old new : Option (List Table)) (before : Option Txn) (txn : Txn) (changes all : List Change)
    → IsKept old (view_of cs before) → before ≡ Some txn → new ≡ option_map (λ ts. with_changes ts changes) old → all ≡ txn.changes ++ changes → IsKept new (view_of cs (Some (record txn { changes = all })))
kept_further cs old new before txn changes all kept is so more =
    let seen : List Table = view_of cs (Some txn) in
    let whole : with_changes seen changes ≡ view_of cs (Some (record txn { changes = all })) =
    sym (after_both (replay (take (seen_by (Some txn) (length cs)) cs)) txn.changes changes) ∙ ap (with_changes (replay (take (seen_by (Some txn) (length cs)) cs))) (sym more) in
    subst (λ o. IsKept o (view_of cs (Some (record txn { changes = all })))) (sym so)
    (subst (IsKept (option_map (λ ts. with_changes ts changes) old)) whole (changed_kept old seen changes (subst (λ b. IsKept old (view_of cs b)) is kept)))

-- ---- their rows ascend

pub replay_ascends : (cs : List Commit) (ts : List Table) → ts ≡ replay cs → AreAscending ts
replay_ascends cs ts e = subst AreAscending (sym e) (with-commits cs [] tt)

pub view_ascends : (cs : List Commit) (txn : Option Txn) (kept : Option (List Table)) → IsKept kept (view_of cs txn) → ForSome kept AreAscending
view_ascends cs txn kept is = λ ts e. subst AreAscending (sym (is ts e)) (views-ascend cs txn)
