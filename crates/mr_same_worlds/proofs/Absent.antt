-- Tables that aren't there, before and after a change.
use Rattle.std.proofs.Common.{◌≡◌, ◌⊎◌, ℕ, Bool, true, false, true≢false, cond, List, [], ◌∷◌, ◌++◌, filter, Option, Some, None, refl, ap, ap₂, sym, subst, ◌∙◌, inl, inr, nat_eq, arith}
use Rattle.std.specs.Prelude.{◌&&◌, not, if◌then◌else◌}
use Rattle.std.proofs.lemmas.Bool.{cases_Bool}
use Rattle.mr_types.specs.declared.row.Change.{Change}
use Rattle.mr_types.specs.declared.row.Commit.{Commit}
use Rattle.mr_types.specs.declared.row.Schema.{Schema}
use Rattle.mr_types.specs.declared.row.Schema.TheVariants.{CreateTable, DropTable, CreateIndex, DropIndex}
use Rattle.mr_types.specs.Values.{same_bytes}
use Rattle.mr_spec.specs.declared.world.Table.{Table}
use Rattle.mr_spec.specs.Database.{is_table, table_of, at_table, changed, with_changes, with_schema, with_body, with_commits, replay}
use Rattle.mr_spec.specs.KeyChecks.{is_named}
use Rattle.mr_spec.specs.Rows.{rows_after, table_name}

pub both : (a b : Bool) → (a && b) ≡ true → (a ≡ true) × (b ≡ true)
both true b e = (refl, e)
both false b e = absurd (true≢false (sym e))

pub not-both : {A : Type 0} (b : Bool) → b ≡ true → b ≡ false → A
not-both b e f = absurd (true≢false (sym e ∙ f))

number-is : (m n : ℕ) → nat_eq m n ≡ true → m ≡ n
number-is m n e = grind arith

is-number : (m : ℕ) → nat_eq m m ≡ true
is-number m = grind arith

pub name-is : (s t : List ℕ) → same_bytes s t ≡ true → s ≡ t
name-is [] [] e = refl
name-is [] (y ∷ t) e = absurd (true≢false (sym e))
name-is (x ∷ s) [] e = absurd (true≢false (sym e))
name-is (x ∷ s) (y ∷ t) e = let p = both (nat_eq x y) (same_bytes s t) e in ap₂ (λ a b. a ∷ b) (number-is x y p.0) (name-is s t p.1)

pub is-name : (s : List ℕ) → same_bytes s s ≡ true
is-name [] = refl
is-name (x ∷ s) = ap₂ (λ a b. a && b) (is-number x) (is-name s)

-- the table isn't there
abbrev pub IsAbsent : List ℕ → List Table → Type 0
IsAbsent name ts = table_of name ts ≡ None

pub none-some : {A B : Type 0} (o : Option A) (x : A) → o ≡ None → o ≡ Some x → B
none-some o x e f = absurd (different (sym e ∙ f))
  where
    different : None ≡ Some x → ⊥
    different h = cc

-- a list without the table has another one in front
pub not-first : (name : List ℕ) (t : Table) (ts : List Table) → IsAbsent name (t ∷ ts) → (is_table name t ≡ false) × IsAbsent name ts
not-first name t ts e = (elim (is_table name t) as (λ b. cond b (Some t) (table_of name ts) ≡ None → (b ≡ false) × IsAbsent name ts) [
  | true ↦ λ h. none-some (Some t) t h refl
  | false ↦ λ h. (refl, h)
]) e

pub first-not : (name : List ℕ) (t : Table) (ts : List Table) → is_table name t ≡ false → IsAbsent name ts → IsAbsent name (t ∷ ts)
first-not name t ts e h = rw e h

-- the table that is found has the name
pub found-name : (name : List ℕ) (ts : List Table) (t : Table) → table_of name ts ≡ Some t → t.def.name ≡ name
found-name name [] t e = absurd cc
found-name name (u ∷ ts) t e = (elim (is_table name u) as (λ b. is_table name u ≡ b → cond b (Some u) (table_of name ts) ≡ Some t → t.def.name ≡ name) [
  | true ↦ λ f h. let same : u ≡ t = cc in ap (λ (x : Table). x.def.name) (sym same) ∙ name-is u.def.name name f
  | false ↦ λ f h. found-name name ts t h
]) refl e

-- ---- tables made anew keep their names

same-name : (n name : List ℕ) (f : Table → Table) (t : Table) → ((u : Table) → (f u).def.name ≡ u.def.name) → (if is_table n t then f t else t).def.name ≡ t.def.name
same-name n name f t h = elim (is_table n t) as (λ b. (if b then f t else t).def.name ≡ t.def.name) [ true ↦ h t | false ↦ refl ]

pub absent-anew : (n name : List ℕ) (f : Table → Table) (ts : List Table) → ((u : Table) → (f u).def.name ≡ u.def.name) → IsAbsent name (at_table n f ts) → IsAbsent name ts
absent-anew n name f [] h e = refl
absent-anew n name f (t ∷ ts) h e =
    let p = not-first name (if is_table n t then f t else t) (at_table n f ts) e in
    first-not name t ts (ap (λ x. same_bytes x name) (sym (same-name n name f t h)) ∙ p.0) (absent-anew n name f ts h p.1)

pub absent-changed : (name : List ℕ) (c : Change) (ts : List Table) → IsAbsent name (changed ts c) → IsAbsent name ts
absent-changed name c ts e = absent-anew (table_name c) name (λ t. record t { rows = rows_after t.def t.rows c }) ts (λ u. refl) e

pub absent-changes : (name : List ℕ) (cs : List Change) (ts : List Table) → IsAbsent name (with_changes ts cs) → IsAbsent name ts
absent-changes name [] ts e = e
absent-changes name (c ∷ cs) ts e = absent-changed name c ts (absent-changes name cs (changed ts c) e)

-- ---- a table more, or one less

pub absent-more : (name : List ℕ) (t : Table) (ts : List Table) → IsAbsent name (ts ++ t ∷ []) → IsAbsent name ts
absent-more name t [] e = refl
absent-more name t (u ∷ ts) e = let p = not-first name u (ts ++ t ∷ []) e in first-not name u ts p.0 (absent-more name t ts p.1)

pub absent-dropped : (n name : List ℕ) (ts : List Table) → IsAbsent name (filter (λ t. not (is_table n t)) ts) → IsAbsent name ts ⊎ (name ≡ n)
absent-dropped n name [] e = inl refl
absent-dropped n name (t ∷ ts) e = elim (cases_Bool (is_table n t)) [
  | inl f ↦
      let rest : IsAbsent name (filter (λ t. not (is_table n t)) ts) = subst (λ b. IsAbsent name (cond (not b) (t ∷ filter (λ t. not (is_table n t)) ts) (filter (λ t. not (is_table n t)) ts))) f e in
      by-name (cases_Bool (is_table name t)) (absent-dropped n name ts rest) f
  | inr f ↦
      let more : IsAbsent name (t ∷ filter (λ t. not (is_table n t)) ts) = subst (λ b. IsAbsent name (cond (not b) (t ∷ filter (λ t. not (is_table n t)) ts) (filter (λ t. not (is_table n t)) ts))) f e in
      let p = not-first name t (filter (λ t. not (is_table n t)) ts) more in
      behind p.0 (absent-dropped n name ts p.1)
]
  where
    by-name : (is_table name t ≡ true) ⊎ (is_table name t ≡ false) → IsAbsent name ts ⊎ (name ≡ n) → is_table n t ≡ true → IsAbsent name (t ∷ ts) ⊎ (name ≡ n)
    by-name (inl g) h f = inr (sym (name-is t.def.name name g) ∙ name-is t.def.name n f)
    by-name (inr g) (inl h) f = inl (first-not name t ts g h)
    by-name (inr g) (inr h) f = inr h

    behind : is_table name t ≡ false → IsAbsent name ts ⊎ (name ≡ n) → IsAbsent name (t ∷ ts) ⊎ (name ≡ n)
    behind g (inl h) = inl (first-not name t ts g h)
    behind g (inr h) = inr h

-- ---- commits

commits-append : (ts : List Table) (cs ds : List Commit) → with_commits ts (cs ++ ds) ≡ with_commits (with_commits ts cs) ds
commits-append ts [] ds = refl
commits-append ts (c ∷ cs) ds = commits-append (with_body ts c.body) cs ds

pub one-more : (cs : List Commit) (c : Commit) → replay (cs ++ c ∷ []) ≡ with_body (replay cs) c.body
one-more cs c = commits-append [] cs (c ∷ [])

pub absent-indexed : (name : List ℕ) (s : Schema) (ts : List Table) → IsAbsent name (with_schema ts s) → IsAbsent name ts ⊎ (s ≡ DropTable name)
absent-indexed name (CreateTable def) ts e = inl (absent-more name (record { def = def; rows = [] }) ts e)
absent-indexed name (DropTable n) ts e = elim (absent-dropped n name ts e) [ inl h ↦ inl h | inr h ↦ inr (ap (λ x. DropTable x) (sym h)) ]
absent-indexed name (CreateIndex n key) ts e = inl (absent-anew n name (λ t. record t { def = record t.def { secondary = t.def.secondary ++ key ∷ [] } }) ts (λ u. refl) e)
absent-indexed name (DropIndex n key) ts e = inl (absent-anew n name (λ t. record t { def = record t.def { secondary = filter (λ k. not (is_named key k)) t.def.secondary } }) ts (λ u. refl) e)
