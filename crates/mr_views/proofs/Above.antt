-- The next hidden number is one above those of the rows that were inserted since the table was made.
use Rattle.std.proofs.Common.{◌≡◌, ◌⊎◌, ℕ, ◌+◌, ◌<◌, ◌≤◌, Bool, true, false, true≢false, cond, List, [], ◌∷◌, ◌++◌, Option, Some, None, refl, ap, sym, subst, ◌∙◌, inl, inr, arith, append_assoc}
use Rattle.std.specs.Prelude.{◌||◌, if◌then◌else◌, max}
use Rattle.std.specs.List.{list_any, flat_map}
use Rattle.std.specs.Option.{option_map_or}
use Rattle.mr_types.specs.declared.row.Change.{Change}
use Rattle.mr_types.specs.declared.row.Change.TheVariants as change
use Rattle.mr_types.specs.declared.row.Commit.{Commit}
use Rattle.mr_types.specs.declared.row.CommitBody.{CommitBody}
use Rattle.mr_types.specs.declared.row.CommitBody.TheVariants as body
use Rattle.mr_types.specs.declared.row.Schema.TheVariants.{CreateTable, DropTable, CreateIndex, DropIndex}
use Rattle.mr_types.specs.Values.{same_bytes}
use Rattle.mr_spec.specs.declared.world.Table.{Table}
use Rattle.mr_spec.specs.Database.{with_body, with_commits, changes_in, changes_of, on_table}
use Rattle.mr_spec.specs.Lawful.{LawfulBody, LawfulFrom, IsLawful}
use Rattle.mr_spec.specs.Replay.{numbers_by_change, numbers_by_changes, numbers_by_body, numbers_after}
use Rattle.mr_spec.specs.Rows.{table_name}
use Rattle.mr_spec.specs.World.{at_name}
use Rattle.mr_same_worlds.proofs.Absent.{name-is, is-name, IsAbsent}
use Rattle.mr_same_worlds.proofs.Openings.{Begins, begins-commits}
use Rattle.mr_views.specs.HiddenNumbers.{makes_by, makes, EndsInMaking, AreSinceMade, number_given, inserted_number, inserted_numbers, IsNumberOf, IsOneAbove}
use Rattle.mr_views.proofs.Folds.{numbers-append}

-- ---- a number that rises from a start by those that are inserted

-- above all of these and not below the start, and no greater than it must be
record IsRaised (start : ℕ) (numbers : List ℕ) (next : ℕ) : Type 0 where
  from : start ≤ next
  above : (h : ℕ) → IsNumberOf h numbers → h < next
  least : (next ≡ start) ⊎ ((h : ℕ) × IsNumberOf h numbers × (next ≡ h + 1))

in-left : (h : ℕ) (ns ms : List ℕ) → IsNumberOf h ns → IsNumberOf h (ns ++ ms)
in-left h [] ms i = absurd i
in-left h (n ∷ ns) ms (inl e) = inl e
in-left h (n ∷ ns) ms (inr i) = inr (in-left h ns ms i)

in-right : (h : ℕ) (ns ms : List ℕ) → IsNumberOf h ms → IsNumberOf h (ns ++ ms)
in-right h [] ms i = i
in-right h (n ∷ ns) ms i = inr (in-right h ns ms i)

in-either : (h : ℕ) (ns ms : List ℕ) → IsNumberOf h (ns ++ ms) → IsNumberOf h ns ⊎ IsNumberOf h ms
in-either h [] ms i = inr i
in-either h (n ∷ ns) ms (inl e) = inl (inl e)
in-either h (n ∷ ns) ms (inr i) = elim (in-either h ns ms i) [ inl j ↦ inl (inr j) | inr j ↦ inr j ]

raised-none : (start : ℕ) → IsRaised start [] start
raised-none start = record { from = omega arith; above = λ h i. absurd i; least = inl refl }

raised-on : (start middle next : ℕ) (ns ms : List ℕ) → IsRaised start ns middle → IsRaised middle ms next → IsRaised start (ns ++ ms) next
raised-on start middle next ns ms a b = record {
  from = let p : start ≤ middle = a.from in let q : middle ≤ next = b.from in omega arith;
  above = λ h i. over h (in-either h ns ms i);
  least = least-of b.least a.least;
}
  where
    over : (h : ℕ) → IsNumberOf h ns ⊎ IsNumberOf h ms → h < next
    over h (inl i) = let p : h < middle = a.above h i in let q : middle ≤ next = b.from in omega arith
    over h (inr i) = b.above h i

    least-of : (next ≡ middle) ⊎ ((h : ℕ) × IsNumberOf h ms × (next ≡ h + 1)) → (middle ≡ start) ⊎ ((h : ℕ) × IsNumberOf h ns × (middle ≡ h + 1)) → (next ≡ start) ⊎ ((h : ℕ) × IsNumberOf h (ns ++ ms) × (next ≡ h + 1))
    least-of (inr k) l = inr (k.0, in-right k.0 ns ms k.1, k.2)
    least-of (inl e) (inl f) = inl (e ∙ f)
    least-of (inl e) (inr k) = inr (k.0, in-left k.0 ns ms k.1, e ∙ k.2)

max-raised : (start h : ℕ) → IsRaised start (h ∷ []) (max start (h + 1))
max-raised start h = record {
  from = omega arith;
  above = λ k i. elim i [ inl e ↦ (let same : k ≡ h = e in omega arith) | inr j ↦ absurd j ];
  least = by-order (order start (h + 1));
}
  where
    order : (a b : ℕ) → (a ≤ b) ⊎ (b ≤ a)
    order a b = grind arith

    by-order : (start ≤ h + 1) ⊎ (h + 1 ≤ start) → (max start (h + 1) ≡ start) ⊎ ((k : ℕ) × IsNumberOf k (h ∷ []) × (max start (h + 1) ≡ k + 1))
    by-order (inl le) = inr (h, inl refl, omega arith)
    by-order (inr le) = inl (omega arith)

-- ---- along changes and commits

number-raised : (f : List ℕ → ℕ) (name table : List ℕ) (o : Option ℕ) (b : Bool) → same_bytes table name ≡ b → IsRaised (f name) (flat_map number_given (cond b (o ∷ []) [])) (option_map_or (λ h. at_name table (max (f table) (h + 1)) f) o f name)
number-raised f name table None true e = raised-none (f name)
number-raised f name table None false e = raised-none (f name)
number-raised f name table (Some h) true e =
    let same : table ≡ name = name-is table name e in
    subst (λ t. IsRaised (f name) (h ∷ []) (if same_bytes name t then max (f t) (h + 1) else f name)) (sym same) (subst (λ b. IsRaised (f name) (h ∷ []) (if b then max (f name) (h + 1) else f name)) (sym (is-name name)) (max-raised (f name) h))
number-raised f name table (Some h) false e = (elim (same_bytes name table) as (λ b. same_bytes name table ≡ b → IsRaised (f name) [] (if b then max (f table) (h + 1) else f name)) [
  | true ↦ λ g. absurd (true≢false (sym (ap (λ t. same_bytes t name) (sym (name-is name table g)) ∙ is-name name) ∙ e))
  | false ↦ λ g. raised-none (f name)
]) refl

abbrev numbers-in : List ℕ → List Change → List ℕ
numbers-in name cs = flat_map inserted_number (on_table name cs)

change-raised : (f : List ℕ → ℕ) (name : List ℕ) (c : Change) → IsRaised (f name) (numbers-in name (c ∷ [])) (numbers_by_change f c name)
change-raised f name (change.Insert table new) = subst (λ ns. IsRaised (f name) ns (numbers_by_change f (change.Insert table new) name)) (same (same_bytes table name)) (number-raised f name table new.hidden (same_bytes table name) refl)
  where
    same : (b : Bool) → flat_map number_given (cond b (new.hidden ∷ []) []) ≡ flat_map inserted_number (cond b (change.Insert table new ∷ []) [])
    same true = refl
    same false = refl
change-raised f name (change.Update table old new) = subst (λ ns. IsRaised (f name) ns (f name)) (same (same_bytes table name)) (raised-none (f name))
  where
    same : (b : Bool) → [] ≡ flat_map inserted_number (cond b (change.Update table old new ∷ []) [])
    same true = refl
    same false = refl
change-raised f name (change.Delete table old) = subst (λ ns. IsRaised (f name) ns (f name)) (same (same_bytes table name)) (raised-none (f name))
  where
    same : (b : Bool) → [] ≡ flat_map inserted_number (cond b (change.Delete table old ∷ []) [])
    same true = refl
    same false = refl

kept-append : (name : List ℕ) (xs ys : List Change) → on_table name (xs ++ ys) ≡ on_table name xs ++ on_table name ys
kept-append name [] ys = refl
kept-append name (x ∷ xs) ys = elim (same_bytes (table_name x) name) as (λ b. cond b (x ∷ on_table name (xs ++ ys)) (on_table name (xs ++ ys)) ≡ cond b (x ∷ on_table name xs) (on_table name xs) ++ on_table name ys) [
  | true ↦ ap (λ zs. x ∷ zs) (kept-append name xs ys)
  | false ↦ kept-append name xs ys
]

flat-append : (xs ys : List Change) → flat_map inserted_number (xs ++ ys) ≡ flat_map inserted_number xs ++ flat_map inserted_number ys
flat-append [] ys = refl
flat-append (x ∷ xs) ys = ap (λ zs. inserted_number x ++ zs) (flat-append xs ys) ∙ sym (append_assoc (inserted_number x) (flat_map inserted_number xs) (flat_map inserted_number ys))

numbers-split : (name : List ℕ) (xs ys : List Change) → numbers-in name (xs ++ ys) ≡ numbers-in name xs ++ numbers-in name ys
numbers-split name xs ys = ap (flat_map inserted_number) (kept-append name xs ys) ∙ flat-append (on_table name xs) (on_table name ys)

changes-raised : (f : List ℕ → ℕ) (name : List ℕ) (cs : List Change) → IsRaised (f name) (numbers-in name cs) (numbers_by_changes f cs name)
changes-raised f name [] = raised-none (f name)
changes-raised f name (c ∷ cs) = subst (λ ns. IsRaised (f name) ns (numbers_by_changes f (c ∷ cs) name)) (sym (numbers-split name (c ∷ []) cs))
    (raised-on (f name) (numbers_by_change f c name) (numbers_by_changes (numbers_by_change f c) cs name) (numbers-in name (c ∷ [])) (numbers-in name cs) (change-raised f name c) (changes-raised (numbers_by_change f c) name cs))

elsewhere : (f : List ℕ → ℕ) (n name : List ℕ) → same_bytes n name ≡ false → at_name n 1 f name ≡ f name
elsewhere f n name e = (elim (same_bytes name n) as (λ b. same_bytes name n ≡ b → (if b then 1 else f name) ≡ f name) [
  | true ↦ λ g. absurd (true≢false (sym (ap (λ t. same_bytes t name) (sym (name-is name n g)) ∙ is-name name) ∙ e))
  | false ↦ λ g. refl
]) refl

body-raised : (f : List ℕ → ℕ) (name : List ℕ) (b : CommitBody) → makes_by name b ≡ false → IsRaised (f name) (numbers-in name (changes_in b)) (numbers_by_body f b name)
body-raised f name (body.Rows cs) e = changes-raised f name cs
body-raised f name (body.Schema (CreateTable def)) e = raised-none (f name)
body-raised f name (body.Schema (DropTable n)) e = subst (λ k. IsRaised (f name) [] k) (sym (elsewhere f n name e)) (raised-none (f name))
body-raised f name (body.Schema (CreateIndex n key)) e = raised-none (f name)
body-raised f name (body.Schema (DropIndex n key)) e = raised-none (f name)

neither : (a b : Bool) → (a || b) ≡ false → (a ≡ false) × (b ≡ false)
neither false b e = (refl, e)
neither true b e = absurd (true≢false e)

commits-raised : (f : List ℕ → ℕ) (name : List ℕ) (cs : List Commit) → list_any (makes name) cs ≡ false → IsRaised (f name) (inserted_numbers name cs) (numbers_after f cs name)
commits-raised f name [] e = raised-none (f name)
commits-raised f name (c ∷ cs) e =
    let p = neither (makes name c) (list_any (makes name) cs) e in
    subst (λ ns. IsRaised (f name) ns (numbers_after f (c ∷ cs) name)) (sym (numbers-split name (changes_in c.body) (changes_of cs)))
    (raised-on (f name) (numbers_by_body f c.body name) (numbers_after (numbers_by_body f c.body) cs name) (numbers-in name (changes_in c.body)) (inserted_numbers name cs) (body-raised f name c.body p.0) (commits-raised (numbers_by_body f c.body) name cs p.1))

-- ---- where the table was made

lawful-front : (moment : ℕ) (ts : List Table) (cs ds : List Commit) → LawfulFrom moment ts (cs ++ ds) → LawfulFrom moment ts cs
lawful-front moment ts [] ds l = tt
lawful-front moment ts (c ∷ cs) ds l = (l.0, l.1, lawful-front c.moment (with_body ts c.body) cs ds l.2)

-- the last of some lawful commits is lawful behind the others
record IsLawfulBehind (ts : List Table) (cs : List Commit) (c : Commit) : Type 0 where
  moment : ℕ
  is : LawfulBody moment (with_commits ts cs) c.body

lawful-last : (moment : ℕ) (ts : List Table) (cs : List Commit) (c : Commit) → LawfulFrom moment ts (cs ++ c ∷ []) → IsLawfulBehind ts cs c
lawful-last moment ts [] c l = record { moment = c.moment; is = l.1 }
lawful-last moment ts (d ∷ cs) c l = let k : IsLawfulBehind (with_body ts d.body) cs c = lawful-last d.moment (with_body ts d.body) cs c l.2 in record { moment = k.moment; is = k.is }

made-at-one : (f : List ℕ → ℕ) (name : List ℕ) (moment : ℕ) (ts : List Table) (b : CommitBody) → LawfulBody moment ts b → Begins f ts → makes_by name b ≡ true → numbers_by_body f b name ≡ 1
made-at-one f name moment ts (body.Rows cs) l h e = absurd (true≢false (sym e))
made-at-one f name moment ts (body.Schema (CreateTable def)) l h e = h name (subst (λ n. IsAbsent n ts) (name-is def.name name e) l.0)
made-at-one f name moment ts (body.Schema (DropTable n)) l h e = ap (λ b. if b then 1 else f name) (ap (λ t. same_bytes name t) (name-is n name e) ∙ is-name name)
made-at-one f name moment ts (body.Schema (CreateIndex n key)) l h e = absurd (true≢false (sym e))
made-at-one f name moment ts (body.Schema (DropIndex n key)) l h e = absurd (true≢false (sym e))

begins-at-one : (name : List ℕ) (before : List Commit) → LawfulFrom 0 [] before → EndsInMaking name before → numbers_after (λ n. 1) before name ≡ 1
begins-at-one name before l (inl e) = ap (λ cs. numbers_after (λ n. 1) cs name) e
begins-at-one name before l (inr k) =
    let whole : LawfulFrom 0 [] (k.0 ++ k.1 ∷ []) = subst (LawfulFrom 0 []) k.2 l in
    let last : IsLawfulBehind [] k.0 k.1 = lawful-last 0 [] k.0 k.1 whole in
    let begins : Begins (numbers_after (λ n. 1) k.0) (with_commits [] k.0) = begins-commits 0 (λ n. 1) [] k.0 (lawful-front 0 [] k.0 (k.1 ∷ []) whole) (λ n a. refl) in
    ap (λ cs. numbers_after (λ n. 1) cs name) k.2
    ∙ ap (λ (g : List ℕ → ℕ). g name) (numbers-append (λ n. 1) k.0 (k.1 ∷ []))
    ∙ made-at-one (numbers_after (λ n. 1) k.0) name last.moment (with_commits [] k.0) k.1.body last.is begins k.3

pub one-above : (name : List ℕ) (commits since : List Commit) → IsLawful commits → AreSinceMade name commits since → IsOneAbove (inserted_numbers name since) (numbers_after (λ n. 1) commits name)
one-above name commits since l h =
    let whole : LawfulFrom 0 [] (h.before ++ since) = subst (LawfulFrom 0 []) h.whole l in
    let start : numbers_after (λ n. 1) h.before name ≡ 1 = begins-at-one name h.before (lawful-front 0 [] h.before since whole) h.ends in
    let parts : numbers_after (λ n. 1) commits name ≡ numbers_after (numbers_after (λ n. 1) h.before) since name = ap (λ cs. numbers_after (λ n. 1) cs name) h.whole ∙ ap (λ (g : List ℕ → ℕ). g name) (numbers-append (λ n. 1) h.before since) in
    let raised : IsRaised (numbers_after (λ n. 1) h.before name) (inserted_numbers name since) (numbers_after (numbers_after (λ n. 1) h.before) since name) = commits-raised (numbers_after (λ n. 1) h.before) name since h.none in
    let from_one : IsRaised 1 (inserted_numbers name since) (numbers_after (numbers_after (λ n. 1) h.before) since name) = subst (λ k. IsRaised k (inserted_numbers name since) (numbers_after (numbers_after (λ n. 1) h.before) since name)) start raised in
    subst (IsOneAbove (inserted_numbers name since)) (sym parts) (record { above = from_one.above; least = from_one.least })
