-- Commits that are appended one after the other.
use Rattle.std.proofs.Common.{◌≡◌, ℕ, ◌+◌, ◌<◌, List, [], ◌∷◌, ◌++◌, length, take, drop, get_or, Some, None, Option, ap, sym, ◌∙◌, subst, append_assoc, take-append-drop}
use Rattle.std.proofs.lemmas.List.{take_more}
use Rattle.mr_base.specs.Disk.{State, Tells}
use Rattle.mr_spec.specs.Lawful.{IsLawful}
use Rattle.mr_types.specs.declared.row.Commit.{Commit}
use Rattle.mr_commit_log.specs.Appending.{Appends}
use Rattle.mr_commit_log.specs.declared.ending.Ending.{Ending}
use Rattle.mr_commit_log.proofs.Appending.{appends_on, appends_cut}
use Rattle.mr_commit_log.proofs.Lawful.{lawful_middle}

one_more : (all : List Commit) (i : ℕ) (x : Commit) → i < length all → x ≡ get_or all i x → take (i + 1) all ≡ take i all ++ x ∷ []
one_more all i x within is = take_more all i x within ∙ ap (λ y. take i all ++ y ∷ []) (sym is)

-- the commits up to the next one are lawful
lawful_next : (before all : List Commit) (i : ℕ) (x : Commit) → i < length all → x ≡ get_or all i x → IsLawful (before ++ all) → IsLawful ((before ++ take i all) ++ x ∷ [])
lawful_next before all i x within is lawful =
    let split : before ++ all ≡ before ++ (take (i + 1) all ++ drop (i + 1) all) = ap (λ y. before ++ y) (sym (take-append-drop (i + 1) all)) in
    subst IsLawful (ap (λ y. before ++ y) (one_more all i x within is) ∙ sym (append_assoc before (take i all) (x ∷ [])))
    (lawful_middle before (take (i + 1) all) (drop (i + 1) all) (subst IsLawful split lawful))

-- one more of them
pub appends_next : (most limit : ℕ) (a b c : State) (before all : List Commit) (i : ℕ) (x : Commit) (ending : Option Ending) → limit ≡ most → i < length all → x ≡ get_or all i x → IsLawful (before ++ all) → (Tells a → Tells b)
    → (IsLawful (before ++ all) → Appends most a b (take i all) None before) → ((now : List Commit) → IsLawful (now ++ x ∷ []) → Appends limit b c (x ∷ []) ending now) → Appends most a c (take (i + 1) all) ending before
appends_next most limit a b c before all i x ending same within is lawful keeps first next =
    subst (λ (y : List Commit). Appends most a c y ending before) (sym (one_more all i x within is))
    (appends_on most a b c (take i all) (x ∷ []) ending before keeps (first lawful) (subst (λ n. Appends n b c (x ∷ []) ending (before ++ take i all)) same (next (before ++ take i all) (lawful_next before all i x within is lawful))))

-- an error at the next one
pub appends_next_cut : (most limit : ℕ) (a b c : State) (before all : List Commit) (i : ℕ) (x : Commit) (e : Ending) → limit ≡ most → i < length all → x ≡ get_or all i x → IsLawful (before ++ all) → (Tells a → Tells b)
    → (IsLawful (before ++ all) → Appends most a b (take i all) None before) → ((now : List Commit) → IsLawful (now ++ x ∷ []) → Appends limit b c (x ∷ []) (Some e) now) → Appends most a c all (Some e) before
appends_next_cut most limit a b c before all i x e same within is lawful keeps first next =
    subst (λ (y : List Commit). Appends most a c y (Some e) before) (take-append-drop (i + 1) all)
    (appends_cut most a c (take (i + 1) all) (drop (i + 1) all) e before (appends_next most limit a b c before all i x (Some e) same within is lawful keeps first next))
