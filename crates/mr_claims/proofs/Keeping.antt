-- What is kept of claims stays so through each call.
use Rattle.std.proofs.Common.{◌≡◌, ℕ, ◌+◌, ◌<◌, ◌≤◌, ◌||◌, List, [], length, take, Bool, true, false, cond, Option, Some, None, is_some, refl, sym, ◌∙◌, ap, subst, arith, inl, inr, length-take}
use Rattle.std.specs.Option.{IfSome, IsSomeAnd}
use Rattle.std.specs.Str.{bytes_eq}
use Rattle.std.specs.VecDeque.{deque_len, deque_capacity}
use Rattle.std.proofs.lemmas.Bool.{cases_Bool}
use Rattle.mr_claims.specs.declared.entry.Entry.{Entry}
use Rattle.mr_claims.specs.Lists.{has, times}
use Rattle.mr_claims.specs.Kept.{Lists, Entries, held_in, entry_in, count_of, noted, unless_forgotten, is_needed, AreNeeded, Counted, holding}
use Rattle.mr_claims.specs.Commits.{Commits, IsKept, IsWith, HasRoom, AreNoted, Rise, RisesFrom, BeginBehind, last_of}
use Rattle.mr_claims.proofs.Counts.{equal_bytes}
use Rattle.mr_claims.proofs.Forgetting.{needed_by_commit, needed_by_hold, needed_by_last, needed_or_last, note_commit, unless_later}
use Rattle.mr_claims.proofs.Rising.{last_stays, last_with, rise_with, rise_from}
use Rattle.mr_claims.proofs.Holding.{holding_at_most, holding_fewer, holding_none}

-- nothing has changed but for room
pub still_kept : (lists lists' : Lists) (entries entries' : Entries) (commits commits' : Commits) (before : ℕ) → IsKept lists entries commits before
    → ((s : ℕ) → held_in lists' s ≡ held_in lists s) → ((c : List ℕ) → entry_in entries' c ≡ entry_in entries c)
    → commits'.items ≡ commits.items → deque_len commits' ≡ deque_len commits → deque_capacity commits ≤ deque_capacity commits'
    → IsKept lists' entries' commits' before
still_kept lists lists' entries entries' commits commits' before kept held entry items len capacity = record {
  counted = λ s c. ap (times c) (held s) ∙ kept.counted s c ∙ sym (ap (count_of s) (entry c));
  noted = λ c. ap (λ o. unless_forgotten before (noted o)) (entry c) ∙ kept.noted c ∙ sym (ap (λ ms. last_of ms c) items);
  needed = λ c. ap (is_needed before) (entry c) ∙ kept.needed c;
  rising = subst (Rise before) (sym items) kept.rising;
  room = (let fewer : holding 256 lists' ≤ holding 256 lists = holding_fewer 256 lists lists' (λ s. subst (λ (cs : List (List ℕ)). length cs ≤ length (held_in lists s)) (sym (held s)) (omega arith)) in
      let room : holding 256 lists + deque_len commits ≤ deque_capacity commits = kept.room in
      omega (arith, fewer, room, len, capacity));
}

needed_hold : (before : ℕ) (o : Option Entry) → IsSomeAnd o (λ e. 0 < e.count) → is_needed before o ≡ true
needed_hold before None h = refl
needed_hold before (Some e) h = needed_by_hold before e h

-- one more claim is held
pub held_kept : (lists lists' : Lists) (entries entries' : Entries) (commits commits' : Commits) (before : ℕ) (claim : List ℕ) → IsKept lists entries commits before
    → Counted lists' entries' → ((c : List ℕ) → noted (entry_in entries' c) ≡ noted (entry_in entries c))
    → ((c : List ℕ) → bytes_eq claim c ≡ false → entry_in entries' c ≡ entry_in entries c) → IsSomeAnd (entry_in entries' claim) (λ e. 0 < e.count)
    → commits'.items ≡ commits.items → 256 + deque_len commits' ≤ deque_capacity commits' → IsKept lists' entries' commits' before
held_kept lists lists' entries entries' commits commits' before claim kept counted note others here items room = record {
  counted = counted;
  noted = λ c. ap (unless_forgotten before) (note c) ∙ kept.noted c ∙ sym (ap (λ ms. last_of ms c) items);
  needed = λ c. elim (cases_Bool (bytes_eq claim c)) [
    | inl y ↦ ap (λ x. is_needed before (entry_in entries' x)) (sym (equal_bytes claim c y)) ∙ needed_hold before (entry_in entries' claim) here
    | inr n ↦ ap (is_needed before) (others c n) ∙ kept.needed c
  ];
  rising = subst (Rise before) (sym items) kept.rising;
  room = (let most : holding 256 lists' ≤ 256 = holding_at_most 256 lists' in omega (arith, most, room));
}

pub no_longer : (same : Bool) (n : ℕ) (cs ds : List (List ℕ)) → ds ≡ cond same (take n cs) cs → length ds ≤ length cs
no_longer true n cs ds e = subst (λ (es : List (List ℕ)). length es ≤ length cs) (sym e) (omega (arith, length-take n cs))
no_longer false n cs ds e = subst (λ (es : List (List ℕ)). length es ≤ length cs) (sym e) (omega arith)

pub emptied : (same : Bool) (cs ds : List (List ℕ)) → ds ≡ cond same [] cs → length ds ≤ length cs
emptied true cs ds e = subst (λ (es : List (List ℕ)). length es ≤ length cs) (sym e) (omega arith)
emptied false cs ds e = subst (λ (es : List (List ℕ)). length es ≤ length cs) (sym e) (omega arith)

pub emptied_one : (same : Bool) (cs ds : List (List ℕ)) → same ≡ true → ds ≡ cond same [] cs → ds ≡ []
emptied_one same cs ds t e = e ∙ ap (λ b. cond b [] cs) t

pub emptied_other : (same : Bool) (cs ds : List (List ℕ)) → same ≡ false → ds ≡ cond same [] cs → ds ≡ cs
emptied_other same cs ds f e = e ∙ ap (λ b. cond b [] cs) f

-- a session lets claims go
pub released_kept : (lists lists' : Lists) (entries entries' : Entries) (commits : Commits) (before : ℕ) → IsKept lists entries commits before
    → Counted lists' entries' → ((s : ℕ) → length (held_in lists' s) ≤ length (held_in lists s))
    → ((c : List ℕ) → unless_forgotten before (noted (entry_in entries' c)) ≡ unless_forgotten before (noted (entry_in entries c)))
    → AreNeeded before entries' → IsKept lists' entries' commits before
released_kept lists lists' entries entries' commits before kept counted fewer note needed = record {
  counted = counted;
  noted = λ c. note c ∙ kept.noted c;
  needed = needed;
  rising = kept.rising;
  room = (let less : holding 256 lists' ≤ holding 256 lists = holding_fewer 256 lists lists' fewer in
      let room : holding 256 lists + deque_len commits ≤ deque_capacity commits = kept.room in
      omega (arith, less, room));
}

-- a session's claims are those of a commit
pub committed_kept : (lists lists' : Lists) (entries entries' : Entries) (commits commits' : Commits) (before k : ℕ) (held : List (List ℕ)) → IsKept lists entries commits before
    → before < k → ((c : List ℕ) → IfSome (unless_forgotten before (noted (entry_in entries c))) (λ j. j < k))
    → Counted lists' entries' → ((c : List ℕ) → noted (entry_in entries' c) ≡ cond (has c held) (Some k) (noted (entry_in entries c)))
    → ((c : List ℕ) → has c held ≡ false → entry_in entries' c ≡ entry_in entries c)
    → IsWith k held commits.items commits'.items → HasRoom lists' commits' → IsKept lists' entries' commits' before
committed_kept lists lists' entries entries' commits commits' before k held kept behind last counted note others added room = record {
  counted = counted;
  noted = λ c. note_commit before k (has c held) (noted (entry_in entries c)) (noted (entry_in entries' c)) behind (note c)
      ∙ ap (cond (has c held) (Some k)) (kept.noted c) ∙ sym (last_with k held commits.items commits'.items c added);
  needed = λ c. elim (cases_Bool (has c held)) [
    | inl y ↦ needed_by_commit before k (entry_in entries' c) behind (note c ∙ ap (λ b. cond b (Some k) (noted (entry_in entries c))) y)
    | inr n ↦ ap (is_needed before) (others c n) ∙ kept.needed c
  ];
  rising = rise_with before k held commits.items commits'.items added kept.rising behind (λ c. subst (λ o. IfSome o (λ j. j < k)) (kept.noted c) (last c));
  room = room;
}

-- before commits are forgotten, an entry is needed, or it is one of a commit
pub needed_or_kept : (lists : Lists) (entries : Entries) (commits : Commits) (a b : ℕ) → IsKept lists entries commits a
    → (c : List ℕ) → (is_needed b (entry_in entries c) || is_some (last_of commits.items c)) ≡ true
needed_or_kept lists entries commits a b kept c = needed_or_last a b (last_of commits.items c) (entry_in entries c) (kept.noted c) (kept.needed c)

-- commits are forgotten
pub forgotten_kept : (lists : Lists) (entries entries' : Entries) (commits commits' : Commits) (a b : ℕ) → IsKept lists entries commits a → a ≤ b
    → ((s : ℕ) (c : List ℕ) → count_of s (entry_in entries' c) ≡ count_of s (entry_in entries c))
    → ((c : List ℕ) → unless_forgotten b (noted (entry_in entries' c)) ≡ unless_forgotten b (noted (entry_in entries c)))
    → ((c : List ℕ) → unless_forgotten b (last_of commits'.items c) ≡ unless_forgotten b (last_of commits.items c))
    → ((c : List ℕ) → (is_needed b (entry_in entries' c) || is_some (last_of commits'.items c)) ≡ true)
    → BeginBehind b commits'.items → ((n : ℕ) → Rise n commits.items → RisesFrom commits'.items)
    → deque_len commits' ≤ deque_len commits → deque_capacity commits' ≡ deque_capacity commits → IsKept lists entries' commits' b
forgotten_kept lists entries entries' commits commits' a b kept le counts note last needed begin rise len capacity =
    let rising : Rise b commits'.items = rise_from b commits'.items (rise a kept.rising) begin in
    let are_noted : AreNoted b entries' commits'.items = λ c.
    note c ∙ sym (unless_later a b (noted (entry_in entries c)) le) ∙ ap (unless_forgotten b) (kept.noted c) ∙ sym (last c) ∙ last_stays b commits'.items c rising in
    record {
      counted = λ s c. kept.counted s c ∙ sym (counts s c);
      noted = are_noted;
      needed = λ c. needed_by_last b (last_of commits'.items c) (entry_in entries' c) (are_noted c) (needed c);
      rising = rising;
      room = (let room : holding 256 lists + deque_len commits ≤ deque_capacity commits = kept.room in omega (arith, room, len, capacity));
    }

-- nothing is kept at first
pub none_kept : (lists : Lists) (entries : Entries) (commits : Commits) → ((s : ℕ) → held_in lists s ≡ []) → ((c : List ℕ) → entry_in entries c ≡ None) → commits.items ≡ [] → deque_len commits ≡ 0
    → IsKept lists entries commits 0
none_kept lists entries commits held entry items len = record {
  counted = λ s c. ap (times c) (held s) ∙ sym (ap (count_of s) (entry c));
  noted = λ c. ap (λ o. unless_forgotten 0 (noted o)) (entry c) ∙ sym (ap (λ ms. last_of ms c) items);
  needed = λ c. ap (is_needed 0) (entry c);
  rising = subst (Rise 0) (sym items) tt;
  room = (let none : holding 256 lists ≡ 0 = holding_none 256 lists held in omega (arith, none, len));
}
