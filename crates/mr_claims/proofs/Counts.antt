-- How often a claim stands in a list, and what is noted of it, one claim after another.
use Rattle.std.proofs.Common.{◌≡◌, ◌≢◌, ℕ, ◌+◌, ◌-◌, ◌<◌, ◌≤◌, ◌==◌, ◌&&◌, ◌||◌, zero, suc, List, [], ◌∷◌, ◌++◌, Bool, true, false, cond, Option, Some, None, refl, sym, ◌∙◌, ap, arith, add-one, take, drop, length, get_or, inl, inr}
use Rattle.std.proofs.lemmas.Bool.{cases_Bool}
use Rattle.std.proofs.lemmas.Slice.Eq.{bytes_eq-Decides}
use Rattle.std.specs.Str.{bytes_eq}
use Rattle.mr_claims.specs.declared.entry.Entry.{Entry}
use Rattle.mr_claims.specs.Lists.{has, times}
use Rattle.mr_claims.specs.Kept.{count_of, marked}

pub same_bytes : (bs : List ℕ) → bytes_eq bs bs ≡ true
same_bytes bs = (bytes_eq-Decides bs bs).1 refl

pub equal_bytes : (bs cs : List ℕ) → bytes_eq bs cs ≡ true → bs ≡ cs
equal_bytes bs cs e = (bytes_eq-Decides bs cs).0 e

suc_cond : (b : Bool) (m n : ℕ) → cond b (suc (m + n)) (m + n) ≡ cond b (suc m) m + n
suc_cond true m n = omega arith
suc_cond false m n = refl

one_cond : (b : Bool) → cond b (suc 0) 0 ≡ 0 + cond b 1 0
one_cond true = refl
one_cond false = refl

or_false : (b : Bool) → (b || false) ≡ b
or_false true = refl
or_false false = refl

or_or : (a b c : Bool) → (a || (b || c)) ≡ ((a || b) || c)
or_or true b c = refl
or_or false b c = refl

pub times_take : (c : List ℕ) (cs : List (List ℕ)) (i : ℕ) (x : List ℕ) → i < length cs → x ≡ get_or cs i x → times c (take (i + 1) cs) ≡ times c (take i cs) + cond (bytes_eq x c) 1 0
times_take c cs i x lt is = ap (λ (m : ℕ). times c (take m cs)) (add-one i) ∙ go cs i lt is
  where
    go : (cs : List (List ℕ)) (i : ℕ) → i < length cs → x ≡ get_or cs i x → times c (take (suc i) cs) ≡ times c (take i cs) + cond (bytes_eq x c) 1 0
    go [] i lt is = absurd (omega arith)
    go (d ∷ cs) zero lt is = ap (λ (y : List ℕ). cond (bytes_eq y c) (suc 0) 0) (sym is) ∙ one_cond (bytes_eq x c)
    go (d ∷ cs) (suc i) lt is = ap (λ (n : ℕ). cond (bytes_eq d c) (suc n) n) (go cs i (omega arith) is) ∙ suc_cond (bytes_eq d c) (times c (take i cs)) (cond (bytes_eq x c) 1 0)

pub has_take : (c : List ℕ) (cs : List (List ℕ)) (i : ℕ) (x : List ℕ) → i < length cs → x ≡ get_or cs i x → has c (take (i + 1) cs) ≡ (has c (take i cs) || bytes_eq x c)
has_take c cs i x lt is = ap (λ (m : ℕ). has c (take m cs)) (add-one i) ∙ go cs i lt is
  where
    go : (cs : List (List ℕ)) (i : ℕ) → i < length cs → x ≡ get_or cs i x → has c (take (suc i) cs) ≡ (has c (take i cs) || bytes_eq x c)
    go [] i lt is = absurd (omega arith)
    go (d ∷ cs) zero lt is = ap (λ (y : List ℕ). bytes_eq y c || false) (sym is) ∙ or_false (bytes_eq x c)
    go (d ∷ cs) (suc i) lt is = ap (λ (b : Bool). bytes_eq d c || b) (go cs i (omega arith) is) ∙ or_or (bytes_eq d c) (has c (take i cs)) (bytes_eq x c)

cond_up : (b : Bool) (m n : ℕ) → m ≤ n → cond b (suc m) m ≤ cond b (suc n) n
cond_up true m n l = omega (arith, l)
cond_up false m n l = l

-- no more of a list's front than of the list
pub times_front : (c : List ℕ) (n : ℕ) (cs : List (List ℕ)) → times c (take n cs) ≤ times c cs
times_front c zero cs = omega arith
times_front c (suc n) [] = omega arith
times_front c (suc n) (d ∷ cs) = cond_up (bytes_eq d c) (times c (take n cs)) (times c cs) (times_front c n cs)

-- the claim at place i is still there when those before it are gone
pub still_there : (cs : List (List ℕ)) (i : ℕ) (x : List ℕ) (old : ℕ) → i < length cs → x ≡ get_or cs i x → times x cs ≤ old → 0 < old - times x (take i cs)
still_there cs i x old lt is le =
    let one : times x (take (i + 1) cs) ≡ times x (take i cs) + 1 = times_take x cs i x lt is ∙ ap (λ (b : Bool). times x (take i cs) + cond b 1 0) (same_bytes x) in
    omega (arith, one, times_front x (i + 1) cs, le)

pub count_step : (same eq : Bool) (old cur new t u : ℕ) → cur ≡ old - cond same t 0 → new ≡ cond (same && eq) (cur - 1) cur → u ≡ t + cond eq 1 0 → new ≡ old - cond same u 0
count_step true true old cur new t u p q r = omega (arith, p, q, r)
count_step true false old cur new t u p q r = omega (arith, p, q, r)
count_step false eq old cur new t u p q r = q ∙ p

marked_again : (ch o : Option ℕ) → marked ch (marked ch o) ≡ marked ch o
marked_again None o = refl
marked_again (Some k) o = refl

pub note_step : (h eq g : Bool) (ch o cur new : Option ℕ) → cur ≡ cond h (marked ch o) o → new ≡ cond eq (marked ch cur) cur → g ≡ (h || eq) → new ≡ cond g (marked ch o) o
note_step true true g ch o cur new p q r = q ∙ ap (marked ch) p ∙ marked_again ch o ∙ ap (λ (b : Bool). cond b (marked ch o) o) (sym r)
note_step true false g ch o cur new p q r = q ∙ p ∙ ap (λ (b : Bool). cond b (marked ch o) o) (sym r)
note_step false true g ch o cur new p q r = q ∙ ap (marked ch) p ∙ ap (λ (b : Bool). cond b (marked ch o) o) (sym r)
note_step false false g ch o cur new p q r = q ∙ p ∙ ap (λ (b : Bool). cond b (marked ch o) o) (sym r)

times_append : (c x : List ℕ) (cs : List (List ℕ)) → times c (cs ++ x ∷ []) ≡ cond (bytes_eq x c) (suc (times c cs)) (times c cs)
times_append c x [] = refl
times_append c x (d ∷ cs) = ap (λ (n : ℕ). cond (bytes_eq d c) (suc n) n) (times_append c x cs) ∙ swapped (bytes_eq d c) (bytes_eq x c) (times c cs)
  where
    swapped : (a b : Bool) (n : ℕ) → cond a (suc (cond b (suc n) n)) (cond b (suc n) n) ≡ cond b (suc (cond a (suc n) n)) (cond a (suc n) n)
    swapped true true n = refl
    swapped true false n = refl
    swapped false true n = refl
    swapped false false n = refl

-- a claim that doesn't stand in a list stands there no times, and one that does at least once
pub none_held : (c : List ℕ) (cs : List (List ℕ)) → has c cs ≡ false → times c cs ≡ 0
none_held c [] h = refl
none_held c (d ∷ cs) h = elim (cases_Bool (bytes_eq d c)) [
  | inl y ↦ let no : true ≡ false = sym (ap (λ b. b || has c cs) y) ∙ h in cc
  | inr n ↦ ap (λ b. cond b (suc (times c cs)) (times c cs)) n ∙ none_held c cs (sym (ap (λ b. b || has c cs) n) ∙ h)
]

pub some_held : (c : List ℕ) (cs : List (List ℕ)) → 0 < times c cs → has c cs ≡ true
some_held c cs h = elim (cases_Bool (has c cs)) [
  | inl y ↦ y
  | inr n ↦ absurd (omega (arith, h, none_held c cs n))
]

pub held_some : (c : List ℕ) (cs : List (List ℕ)) → has c cs ≡ true → 0 < times c cs
held_some c [] h = cc
held_some c (d ∷ cs) h = elim (cases_Bool (bytes_eq d c)) [
  | inl y ↦ rw y (omega arith)
  | inr n ↦ rw n (held_some c cs (sym (ap (λ b. b || has c cs) n) ∙ h))
]

pub not_held : (c : List ℕ) (cs : List (List ℕ)) → times c cs ≡ 0 → has c cs ≡ false
not_held c cs h = elim (cases_Bool (has c cs)) [
  | inl y ↦ absurd (omega (arith, h, held_some c cs y))
  | inr n ↦ n
]

pub appended : (same : Bool) (c x : List ℕ) (cs ds : List (List ℕ)) → ds ≡ cond same (cs ++ x ∷ []) cs → times c ds ≡ cond (same && bytes_eq x c) (suc (times c cs)) (times c cs)
appended true c x cs ds e = ap (times c) e ∙ times_append c x cs
appended false c x cs ds e = ap (times c) e

pub hold_counts : (same : Bool) (d x y : List ℕ) (cs ds : List (List ℕ)) (o m n : ℕ) → ds ≡ cond same (cs ++ x ∷ []) cs → x ≡ y → times d cs ≡ o → m ≡ o → n ≡ cond (same && bytes_eq y d) (suc m) m → times d ds ≡ n
hold_counts same d x y cs ds o m n e xy t mo nm =
    appended same d x cs ds e
    ∙ ap (λ (z : List ℕ). cond (same && bytes_eq z d) (suc (times d cs)) (times d cs)) xy
    ∙ ap (λ (z : ℕ). cond (same && bytes_eq y d) (suc z) z) (t ∙ sym mo)
    ∙ sym nm

split_cond : (b : Bool) (m n o : ℕ) → m + n ≡ o → cond b (suc m) m + n ≡ cond b (suc o) o
split_cond true m n o e = omega (arith, e)
split_cond false m n o e = e

pub times_split : (d : List ℕ) (n : ℕ) (cs : List (List ℕ)) → times d (take n cs) + times d (drop n cs) ≡ times d cs
times_split d zero cs = omega arith
times_split d (suc n) [] = refl
times_split d (suc n) (c ∷ cs) = split_cond (bytes_eq c d) (times d (take n cs)) (times d (drop n cs)) (times d cs) (times_split d n cs)

pub release_counts : (same : Bool) (d : List ℕ) (n : ℕ) (cs ds es : List (List ℕ)) (o m : ℕ) → ds ≡ cond same (take n cs) cs → (same ≡ true → es ≡ drop n cs) → times d cs ≡ o → m ≡ o - cond same (times d es) 0 → times d ds ≡ m
release_counts true d n cs ds es o m e is t r = let p : times d es ≡ times d (drop n cs) = ap (times d) (is refl) in let q : times d ds ≡ times d (take n cs) = ap (times d) e in omega (arith, p, q, t, r, times_split d n cs)
release_counts false d n cs ds es o m e is t r = ap (times d) e ∙ omega (arith, t, r)

pub same_number : (s t : ℕ) → (s == t) ≡ true → s ≡ t
same_number s t e = grind (arith, e)

pub other_number : (s t : ℕ) → s ≢ t → (s == t) ≡ false
other_number s t n = elim (cases_Bool (s == t)) [
  | inl y ↦ absurd (n (same_number s t y))
  | inr f ↦ f
]

pub number_itself : (s : ℕ) → (s == s) ≡ true
number_itself s = grind arith

-- one more of a claim that no other session holds
pub raised : (session s : ℕ) (e new : Entry) → new.session ≡ session → new.count ≡ e.count + 1 → ((t : ℕ) → t ≢ session → count_of t (Some e) ≡ 0) → count_of s (Some new) ≡ cond (s == session) (suc (count_of s (Some e))) (count_of s (Some e))
raised session s e new p q alone = elim (cases_Bool (s == session)) [
  | inl y ↦
      let there : s ≡ session = same_number s session y in
      let here : (new.session == s) ≡ true = ap (λ (t : ℕ). t == s) (p ∙ sym there) ∙ number_itself s in
      elim (cases_Bool (e.session == s)) [
        | inl z ↦ rw (y, here, z) (omega (arith, q))
        | inr f ↦
            let apart : e.session ≢ session = λ g. (let no : true ≡ false = sym (ap (λ (t : ℕ). t == s) (g ∙ sym there) ∙ number_itself s) ∙ f in cc) in
            let none : e.count ≡ 0 = sym (ap (λ b. cond b e.count 0) (number_itself e.session)) ∙ alone e.session apart in
            rw (y, here, f) (omega (arith, q, none))
      ]
  | inr f ↦
      let apart : s ≢ session = λ g. (let no : true ≡ false = sym (ap (λ (t : ℕ). s == t) (sym g) ∙ number_itself s) ∙ f in cc) in
      let there : (new.session == s) ≡ false = other_number new.session s (λ g. apart (sym g ∙ p)) in
      rw (f, there) (sym (alone s apart))
]

pub raised_at : (session s : ℕ) (x d : List ℕ) (f : List ℕ → Option Entry) (n : Option Entry) (e new : Entry) → n ≡ cond (bytes_eq x d) (Some new) (f d) → f x ≡ Some e → new.session ≡ session → new.count ≡ e.count + 1 → ((t : ℕ) → t ≢ session → count_of t (f x) ≡ 0)
    → count_of s n ≡ cond (s == session && bytes_eq x d) (suc (count_of s (f d))) (count_of s (f d))
raised_at session s x d f n e new h is p q alone = elim (cases_Bool (bytes_eq x d)) [
  | inl y ↦
      let there : f d ≡ Some e = ap f (sym (equal_bytes x d y)) ∙ is in
      let one = raised session s e new p q (λ t a. sym (ap (count_of t) is) ∙ alone t a) in
      ap (count_of s) (h ∙ ap (λ b. cond b (Some new) (f d)) y) ∙ one
      ∙ sym (ap (λ (o : Option Entry). cond (s == session) (suc (count_of s o)) (count_of s o)) there)
      ∙ sym (and_true (s == session) _ _ _ y)
  | inr m ↦ ap (count_of s) (h ∙ ap (λ b. cond b (Some new) (f d)) m) ∙ sym (and_false (s == session) _ _ _ m)
]
  where
    and_true : (a b : Bool) (m n : ℕ) → b ≡ true → cond (a && b) m n ≡ cond a m n
    and_true true b m n e = ap (λ c. cond c m n) e
    and_true false b m n e = refl

    and_false : (a b : Bool) (m n : ℕ) → b ≡ false → cond (a && b) m n ≡ n
    and_false true b m n e = ap (λ c. cond c m n) e
    and_false false b m n e = refl

-- what changes at no claim of a list's front, nor at the next one
pub others_step : {W : Type 0} (h eq g : Bool) (o cur new : W) → (h ≡ false → cur ≡ o) → (eq ≡ false → new ≡ cur) → g ≡ (h || eq) → g ≡ false → new ≡ o
others_step true eq g o cur new p q r n = (let no : true ≡ false = sym r ∙ n in cc)
others_step false true g o cur new p q r n = (let no : true ≡ false = sym r ∙ n in cc)
others_step false false g o cur new p q r n = q refl ∙ p refl
