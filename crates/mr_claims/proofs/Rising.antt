-- Commits whose numbers rise, and the last of them that has a claim.
use Rattle.std.proofs.Common.{◌≡◌, ℕ, ◌<◌, ◌||◌, List, [], ◌∷◌, ◌++◌, length, Bool, true, false, cond, Option, Some, None, refl, sym, ◌∙◌, ap, subst, arith}
use Rattle.std.specs.Option.{IfSome}
use Rattle.std.proofs.lemmas.Bool.{lt-ltb}
use Rattle.mr_claims.specs.declared.commit.Commit.{Commit}
use Rattle.mr_claims.specs.Lists.{has}
use Rattle.mr_claims.specs.Kept.{unless_forgotten}
use Rattle.mr_claims.specs.Commits.{or_earlier, last_of, Rise, RisesFrom, BeginBehind, IsWith}
use Rattle.mr_claims.proofs.Counts.{same_bytes}

pub rise_from : (b : ℕ) (ms : List Commit) → RisesFrom ms → BeginBehind b ms → Rise b ms
rise_from b [] h behind = tt
rise_from b (m ∷ ms) h behind = (behind, h.1.1, h.1.2)

behind_one : (a k : ℕ) (h : Bool) (o : Option ℕ) → a < k → IfSome o (λ j. k < j) → IfSome (or_earlier o h k) (λ j. a < j)
behind_one a k true None lt i = lt
behind_one a k false None lt i = tt
behind_one a k h (Some j) lt i = omega (arith, lt, i)

last_behind : (a : ℕ) (ms : List Commit) (c : List ℕ) → Rise a ms → IfSome (last_of ms c) (λ j. a < j)
last_behind a [] c r = tt
last_behind a (m ∷ ms) c r = behind_one a m.number (has c m.claims.items) (last_of ms c) r.0 (last_behind m.number ms c r.2)

stays : (b : ℕ) (o : Option ℕ) → IfSome o (λ j. b < j) → unless_forgotten b o ≡ o
stays b None i = refl
stays b (Some j) i = ap (λ t. cond t (Some j) None) (lt-ltb b j i)

-- none of the commits is forgotten
pub last_stays : (b : ℕ) (ms : List Commit) (c : List ℕ) → Rise b ms → unless_forgotten b (last_of ms c) ≡ last_of ms c
last_stays b ms c r = stays b (last_of ms c) (last_behind b ms c r)

earlier_of : (h g : Bool) (k j : ℕ) (o : Option ℕ) → or_earlier (cond h (Some k) o) g j ≡ cond h (Some k) (or_earlier o g j)
earlier_of true g k j o = refl
earlier_of false g k j o = refl

last_push : (ms : List Commit) (m : Commit) (c : List ℕ) → last_of (ms ++ m ∷ []) c ≡ cond (has c m.claims.items) (Some m.number) (last_of ms c)
last_push [] m c = refl
last_push (n ∷ ms) m c = ap (λ o. or_earlier o (has c n.claims.items) n.number) (last_push ms m c) ∙ earlier_of (has c m.claims.items) (has c n.claims.items) m.number n.number (last_of ms c)

-- the last commit that has a claim, once there is one more
pub last_with : (k : ℕ) (held : List (List ℕ)) (old new : List Commit) (c : List ℕ) → IsWith k held old new → last_of new c ≡ cond (has c held) (Some k) (last_of old c)
last_with k [] old new c w = ap (λ ms. last_of ms c) w
last_with k (x ∷ xs) old new c w =
    ap (λ ms. last_of ms c) w.3 ∙ last_push old w.0 c
    ∙ ap (λ (n : ℕ). cond (has c w.0.claims.items) (Some n) (last_of old c)) w.1
    ∙ ap (λ cs. cond (has c cs) (Some k) (last_of old c)) w.2

has_first : (cs : List (List ℕ)) → 0 < length cs → (c : List ℕ) × (has c cs ≡ true)
has_first [] lt = absurd (omega (arith, lt))
has_first (c ∷ cs) lt = (c, ap (λ b. b || has c cs) (same_bytes c))

below : (k j : ℕ) (h : Bool) (o : Option ℕ) → h ≡ true → IfSome o (λ i. j < i) → IfSome (or_earlier o h j) (λ i. i < k) → j < k
below k j h None e i l = subst (λ b. IfSome (cond b (Some j) None) (λ i. i < k)) e l
below k j h (Some i) e lt l = omega (arith, lt, l)

later_too : (k j : ℕ) (h : Bool) (o : Option ℕ) → IfSome (or_earlier o h j) (λ i. i < k) → IfSome o (λ i. i < k)
later_too k j h None l = tt
later_too k j h (Some i) l = l

rise_push : (a k : ℕ) (ms : List Commit) (m : Commit) → m.number ≡ k → 0 < length m.claims.items → Rise a ms → a < k → ((c : List ℕ) → IfSome (last_of ms c) (λ j. j < k)) → Rise a (ms ++ m ∷ [])
rise_push a k [] m e some r lt last = (subst (λ (n : ℕ). a < n) (sym e) lt, some, tt)
rise_push a k (n ∷ ms) m e some r lt last =
    let x = has_first n.claims.items r.1 in
    let under : n.number < k = below k n.number (has x.0 n.claims.items) (last_of ms x.0) x.1 (last_behind n.number ms x.0 r.2) (last x.0) in
    (r.0, r.1, rise_push n.number k ms m e some r.2 under (λ c. later_too k n.number (has c n.claims.items) (last_of ms c) (last c)))

pub rise_with : (a k : ℕ) (held : List (List ℕ)) (old new : List Commit) → IsWith k held old new → Rise a old → a < k → ((c : List ℕ) → IfSome (last_of old c) (λ j. j < k)) → Rise a new
rise_with a k [] old new w r lt last = subst (Rise a) (sym w) r
rise_with a k (x ∷ xs) old new w r lt last = subst (Rise a) (sym w.3) (rise_push a k old w.0 w.1 (subst (λ (cs : List (List ℕ)). 0 < length cs) (sym w.2) (omega arith)) r lt last)

pub with_one : (k : ℕ) (held : List (List ℕ)) (old new : List Commit) (m : Commit) → 0 < length held → m.number ≡ k → m.claims.items ≡ held → new ≡ old ++ m ∷ [] → IsWith k held old new
with_one k [] old new m some e f g = absurd (omega (arith, some))
with_one k (x ∷ xs) old new m some e f g = (m, e, f, g)
