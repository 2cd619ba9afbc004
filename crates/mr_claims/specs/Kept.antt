-- How claims are kept: for each session a list, and for each claim an entry.
use Rattle.std.specs.Prelude.{◌≡◌, ◌&&◌, ◌||◌, not, ℕ, suc, zero, ◌==◌, Bool, true, cond, List, [], length, Option, Some, None, is_some, Vec, nat_lt}
use Rattle.std.specs.BTreeMap.{get, get_by}
use Rattle.std.specs.Cmp.Lexicographic.{slice_cmp}
use Rattle.std.specs.Ordering.{nat_cmp}
use Rattle.std.specs.declared.alloc.Global.{Global}
use Rattle.std.specs.declared.collections.BTreeMap.{BTreeMap}
use Rattle.mr_claims.specs.declared.entry.Entry.{Entry}
use Rattle.mr_claims.specs.declared.claimed.Claimed.{Claimed}
use Rattle.mr_claims.specs.declared.claimed.Claimed.TheVariants.{Free, Held, Changed}
use Rattle.mr_claims.specs.Lists.{times}

abbrev pub Lists : Type 0
Lists = BTreeMap ℕ (Vec (List ℕ) Global) Global

abbrev pub Entries : Type 0
Entries = BTreeMap (Vec ℕ Global) Entry Global

abbrev pub items_of : Option (Vec (List ℕ) Global) → List (List ℕ)
items_of None = []
items_of (Some v) = v.items

-- a session's claims
abbrev pub held_in : Lists → ℕ → List (List ℕ)
held_in lists session = items_of (get nat_cmp lists session)

-- a claim's entry
abbrev pub entry_in : Entries → List ℕ → Option Entry
entry_in entries claim = get_by (λ k. slice_cmp nat_cmp claim k.items) entries

-- how often the session holds the claim of this entry
abbrev pub count_of : ℕ → Option Entry → ℕ
count_of session None = 0
count_of session (Some e) = cond (e.session == session) e.count 0

-- the last commit that is noted in the entry
abbrev pub noted : Option Entry → Option ℕ
noted None = None
noted (Some e) = e.changed

-- the number where there is one, else what was noted
abbrev pub marked : Option ℕ → Option ℕ → Option ℕ
marked None o = o
marked (Some k) o = Some k

-- an entry that says nothing
abbrev pub an_empty_entry : Entry
an_empty_entry = record { session = 0; count = 0; changed = None }

-- the same where it isn't forgotten
abbrev pub unless_forgotten : ℕ → Option ℕ → Option ℕ
unless_forgotten before None = None
unless_forgotten before (Some k) = cond (nat_lt before k) (Some k) None

-- what is noted is behind the snapshot `since`
abbrev pub changed_since : ℕ → Option ℕ → Claimed
changed_since since None = Free
changed_since since (Some k) = cond (nat_lt since k) (Changed k) Free

-- what a claim with this entry is to a session whose snapshot is `since`
abbrev pub judged : Option Entry → ℕ → ℕ → Claimed
judged None session since = Free
judged (Some e) session since = cond (nat_lt 0 e.count && not (e.session == session)) (Held e.session) (changed_since since e.changed)

-- the entry says more than commits up to this number
abbrev pub says_more : ℕ → Entry → Bool
says_more before e = nat_lt 0 e.count || is_some (unless_forgotten before e.changed)

-- there is no entry that says nothing but commits up to this number
abbrev pub is_needed : ℕ → Option Entry → Bool
is_needed before None = true
is_needed before (Some e) = says_more before e

-- the entry where it says more than commits up to this number
abbrev pub needed_only : ℕ → Option Entry → Option Entry
needed_only before None = None
needed_only before (Some e) = cond (says_more before e) (Some e) None

-- the entries count what the lists have
abbrev pub Counted : Lists → Entries → Type 0
Counted lists entries = (session : ℕ) (claim : List ℕ) → times claim (held_in lists session) ≡ count_of session (entry_in entries claim)

-- an entry stands for those claims alone that a session holds or that a commit behind this number has
abbrev pub AreNeeded : ℕ → Entries → Type 0
AreNeeded before entries = (claim : List ℕ) → is_needed before (entry_in entries claim) ≡ true

-- how many of the first n sessions hold claims
unfoldable pub holding : ℕ → Lists → ℕ
holding zero lists = 0
holding (suc n) lists = cond (nat_lt 0 (length (held_in lists n))) (suc (holding n lists)) (holding n lists)
