-- Openings are tidy.
use Rattle.std.proofs.Common.{◌≡◌, ◌⊎◌, ℕ, ◌+◌, true, false, true≢false, List, [], ◌∷◌, Option, Some, None, refl, ap, sym, subst, ◌∙◌, inl, inr}
use Rattle.std.specs.Prelude.{if◌then◌else◌, max}
use Rattle.std.specs.Option.{option_map_or}
use Rattle.mr_types.specs.declared.row.Change.{Change}
use Rattle.mr_types.specs.declared.row.Change.TheVariants as change
use Rattle.mr_types.specs.declared.row.Commit.{Commit}
use Rattle.mr_types.specs.declared.row.CommitBody.{CommitBody}
use Rattle.mr_types.specs.declared.row.CommitBody.TheVariants as body
use Rattle.mr_types.specs.declared.row.Schema.{Schema}
use Rattle.mr_types.specs.declared.row.Schema.TheVariants as schema
use Rattle.mr_types.specs.Values.{same_bytes}
use Rattle.mr_spec.specs.declared.world.Table.{Table}
use Rattle.mr_spec.specs.Database.{table_of, changed, with_changes, with_schema, with_body, with_commits}
use Rattle.mr_spec.specs.Lawful.{is_lawful_in, is_lawful_change, are_lawful, LawfulBody, LawfulFrom, IsLawful}
use Rattle.mr_spec.specs.Replay.{reopened, numbers_by_change, numbers_by_changes, numbers_by_schema, numbers_by_body, numbers_after}
use Rattle.mr_spec.specs.World.{at_name}
use Rattle.mr_same_worlds.specs.SameWorld.{IsTidy}
use Rattle.mr_same_worlds.proofs.Absent.{both, name-is, is-name, IsAbsent, none-some, absent-changed, absent-indexed}

-- an absent table begins with 1
abbrev pub Begins : (List ℕ → ℕ) → List Table → Type 0
Begins f ts = (name : List ℕ) → IsAbsent name ts → f name ≡ 1

-- a lawful change is of a table that is there
is-there : (moment : ℕ) (c : Change) (o : Option Table) → option_map_or (λ t. is_lawful_in moment t c) o false ≡ true → (t : Table) × (o ≡ Some t)
is-there moment c None e = absurd (true≢false (sym e))
is-there moment c (Some t) e = (t, refl)

elsewhere : (ts : List Table) (n : List ℕ) (t : Table) (k : ℕ) (f : List ℕ → ℕ) (name : List ℕ) → table_of n ts ≡ Some t → IsAbsent name ts → at_name n k f name ≡ f name
elsewhere ts n t k f name there e = (elim (same_bytes name n) as (λ b. same_bytes name n ≡ b → (if b then k else f name) ≡ f name) [
  | true ↦ λ g. none-some (table_of n ts) t (subst (λ m. IsAbsent m ts) (name-is name n g) e) there
  | false ↦ λ g. refl
]) refl

by-hidden : (ts : List Table) (n : List ℕ) (t : Table) (o : Option ℕ) (f : List ℕ → ℕ) (name : List ℕ) → table_of n ts ≡ Some t → IsAbsent name ts → option_map_or (λ h. at_name n (max (f n) (h + 1)) f) o f name ≡ f name
by-hidden ts n t None f name there e = refl
by-hidden ts n t (Some h) f name there e = elsewhere ts n t (max (f n) (h + 1)) f name there e

begins-change : (moment : ℕ) (f : List ℕ → ℕ) (ts : List Table) (c : Change) → is_lawful_change moment ts c ≡ true → Begins f ts → Begins (numbers_by_change f c) (changed ts c)
begins-change moment f ts (change.Insert n new) e h = λ name a.
    let t = is-there moment (change.Insert n new) (table_of n ts) e in
    let before : IsAbsent name ts = absent-changed name (change.Insert n new) ts a in
    by-hidden ts n t.0 new.hidden f name t.1 before ∙ h name before
begins-change moment f ts (change.Update n old new) e h = λ name a. h name (absent-changed name (change.Update n old new) ts a)
begins-change moment f ts (change.Delete n old) e h = λ name a. h name (absent-changed name (change.Delete n old) ts a)

begins-changes : (moment : ℕ) (f : List ℕ → ℕ) (ts : List Table) (cs : List Change) → are_lawful moment ts cs ≡ true → Begins f ts → Begins (numbers_by_changes f cs) (with_changes ts cs)
begins-changes moment f ts [] e h = h
begins-changes moment f ts (c ∷ cs) e h =
    let p = both (is_lawful_change moment ts c) (are_lawful moment (changed ts c) cs) e in
    begins-changes moment (numbers_by_change f c) (changed ts c) cs p.1 (begins-change moment f ts c p.0 h)

drop-name : (m n : List ℕ) → schema.DropTable m ≡ schema.DropTable n → m ≡ n
drop-name m n e = cc

begins-dropped : (f : List ℕ → ℕ) (n name : List ℕ) (ts : List Table) → Begins f ts → IsAbsent name ts ⊎ (schema.DropTable n ≡ schema.DropTable name) → at_name n 1 f name ≡ 1
begins-dropped f n name ts h (inl a) = elim (same_bytes name n) as (λ b. (if b then 1 else f name) ≡ 1) [ true ↦ refl | false ↦ h name a ]
begins-dropped f n name ts h (inr e) = ap (λ b. if b then 1 else f name) (ap (λ m. same_bytes m n) (sym (drop-name n name e)) ∙ is-name n)

not-drop : (s : Schema) (name : List ℕ) (ts : List Table) → (s ≡ schema.DropTable name → ⊥) → IsAbsent name ts ⊎ (s ≡ schema.DropTable name) → IsAbsent name ts
not-drop s name ts k (inl a) = a
not-drop s name ts k (inr e) = absurd (k e)

begins-schema : (f : List ℕ → ℕ) (ts : List Table) (s : Schema) → Begins f ts → Begins (numbers_by_schema f s) (with_schema ts s)
begins-schema f ts (schema.CreateTable def) h = λ name a. h name (not-drop (schema.CreateTable def) name ts (λ e. cc) (absent-indexed name (schema.CreateTable def) ts a))
begins-schema f ts (schema.DropTable n) h = λ name a. begins-dropped f n name ts h (absent-indexed name (schema.DropTable n) ts a)
begins-schema f ts (schema.CreateIndex n key) h = λ name a. h name (not-drop (schema.CreateIndex n key) name ts (λ e. cc) (absent-indexed name (schema.CreateIndex n key) ts a))
begins-schema f ts (schema.DropIndex n key) h = λ name a. h name (not-drop (schema.DropIndex n key) name ts (λ e. cc) (absent-indexed name (schema.DropIndex n key) ts a))

begins-body : (moment : ℕ) (f : List ℕ → ℕ) (ts : List Table) (b : CommitBody) → LawfulBody moment ts b → Begins f ts → Begins (numbers_by_body f b) (with_body ts b)
begins-body moment f ts (body.Rows cs) l h = begins-changes moment f ts cs l.1 h
begins-body moment f ts (body.Schema s) l h = begins-schema f ts s h

pub begins-commits : (moment : ℕ) (f : List ℕ → ℕ) (ts : List Table) (cs : List Commit) → LawfulFrom moment ts cs → Begins f ts → Begins (numbers_after f cs) (with_commits ts cs)
begins-commits moment f ts [] l h = h
begins-commits moment f ts (c ∷ cs) l h = begins-commits c.moment (numbers_by_body f c.body) (with_body ts c.body) cs l.2 (begins-body c.moment f ts c.body l.1 h)

pub opening-tidy : (commits : List Commit) → IsLawful commits → IsTidy (reopened commits)
opening-tidy commits l = record { number = begins-commits 0 (λ name. 1) [] commits l (λ name a. refl); key = λ name a. refl }
