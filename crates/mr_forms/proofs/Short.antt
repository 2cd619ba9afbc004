-- The bytes of a lawful commit are short.
use Rattle.std.proofs.Common.{◌≡◌, inl, inr, ℕ, suc, ◌^◌, ◌<◌, ◌≤◌, Bool, true, false, cond, true≢false, List, [], ◌∷◌, ◌++◌, length, map, filter, Option, Some, None, option_map, Result, IfOk, refl, ap, sym, subst, ◌∙◌, arith, length-append, leb-false}
use Rattle.std.specs.Prelude.{if◌then◌else◌, ◌&&◌, not, nat_le, nat_lt}
use Rattle.std.specs.List.{list_any, AllByRecursion, list_all}
use Rattle.std.proofs.lemmas.Option.{none-some}
use Rattle.std.proofs.lemmas.Bool.{leb-true}
use Rattle.std.proofs.lemmas.List.{length-map}
use Rattle.byteorder.specs.Endian.{big_bytes}
use Rattle.mr_lanes.specs.Kernels.{upper, is_low}
use Rattle.mr_spec.specs.declared.world.Table.{Table}
use Rattle.mr_types.specs.declared.definition.IndexDef.{IndexDef}
use Rattle.mr_types.specs.declared.definition.TableDef.{TableDef}
use Rattle.mr_types.specs.declared.row.Change.{Change}
use Rattle.mr_types.specs.declared.row.Commit.{Commit}
use Rattle.mr_types.specs.declared.row.CommitBody.{CommitBody}
use Rattle.mr_types.specs.declared.row.CommitBody.TheVariants as body
use Rattle.mr_types.specs.declared.row.Schema.{Schema}
use Rattle.mr_types.specs.declared.row.Schema.TheVariants.{CreateTable, DropTable, CreateIndex, DropIndex}
use Rattle.mr_types.specs.Grammatical.{is_name, is_key_text}
use Rattle.mr_types.specs.Values.{same_bytes}
use Rattle.mr_spec.specs.Rows.{table_name}
use Rattle.mr_spec.specs.KeyChecks.{is_named}
use Rattle.mr_spec.specs.Database.{is_table, table_of, at_table, with_changes, with_schema, with_body, with_commits}
use Rattle.mr_spec.specs.Lawful.{IsLawful, LawfulFrom, LawfulBody, LawfulSchema, IsChecked, IsCheckedKey, are_lawful}
use Rattle.mr_fields.specs.Fields.{name_bytes, listed_bytes}
use Rattle.mr_schema.specs.DefinitionForm.{key_bytes}
use Rattle.mr_schema.specs.DefinitionFitting.{KeyFits, DefinitionFits}
use Rattle.mr_schema.proofs.CheckedDefinitions.{checked_fits, checked_key_fits}
use Rattle.mr_binlog.specs.CommitForm.{change_bytes, body_bytes, commit_bytes}
use Rattle.mr_sound.specs.Sound.{IsIn}
use Rattle.mr_sound.proofs.Basics.{both, tells, any-some}
use Rattle.mr_sound.proofs.Tables.{def-with, name-of, at_its, table-at, table-elsewhere}
use Rattle.mr_sound.proofs.Commits.{def-table}
use Rattle.mr_sound.proofs.Well.{mapped, found-behind, gone-without}
use Rattle.mr_sound.proofs.Schemas.{check-name, where-then, lawful-there, bytes-same}
use Rattle.mr_forms.proofs.Lengths.{recursion-in, definition-short, key-short, changes-light}

-- a definition with a form as bytes, and a name of at most 64 bytes
pub record IsShort (def : TableDef) : Type 0 where
  pub name : length def.name ≤ 64
  pub fits : DefinitionFits def

abbrev pub AreShort : List Table → Type 0
AreShort ts = (n : List ℕ) (t : Table) → table_of n ts ≡ Some t → IsShort t.def

-- ---- what changes of rows and of the schema leave

short-with : (cs : List Change) (ts : List Table) → AreShort ts → AreShort (with_changes ts cs)
short-with cs ts h n t e =
    let k = def-table n ts t.def (sym (def-with n cs ts) ∙ ap (option_map (λ (x : Table). x.def)) e) in
    subst IsShort k.2 (h n k.0 k.1)

name-length : (name : List ℕ) → is_name name ≡ true → length name ≤ 64
name-length name e = leb-true (length name) 64 (both (nat_le (length name) 64) (list_all (λ b. nat_lt 0 b && is_low b) name) (both (nat_lt 0 (length name)) _ e).1).0

pub checked-short : (def : TableDef) → IsChecked def → IsShort def
checked-short def c = record {
  name = subst (λ n. length n ≤ 64) (sym (subst (λ (r : Result TableDef ℕ). IfOk r (λ d. d.name ≡ c.0.name)) c.2 (check-name c.0))) (name-length c.0.name (both (is_name c.0.name) _ c.1).0);
  fits = checked_fits c.0 def c.1 c.2;
}

few-keys : (def : TableDef) (key : IndexDef) → IsCheckedKey def key → length def.secondary < 16
few-keys def key c =
    let p = where-then 1069 (not c.0.primary && nat_le 16 (length def.secondary)) _ key c.2 in
    leb-false 16 (length def.secondary) (second (not c.0.primary) (nat_le 16 (length def.secondary)) (both (not c.0.primary) (is_key_text c.0) c.1).0 p.0)
  where
    second : (a b : Bool) → a ≡ true → (a && b) ≡ false → b ≡ false
    second true b e f = f
    second false b e f = absurd (true≢false (sym e))

all-more : {X : Type 0} (P : X → Type 0) (xs : List X) (x : X) → AllByRecursion P xs → P x → AllByRecursion P (xs ++ x ∷ [])
all-more P [] x h p = (p, tt)
all-more P (y ∷ xs) x h p = (h.0, all-more P xs x h.1 p)

all-filter : {X : Type 0} (P : X → Type 0) (q : X → Bool) (xs : List X) → AllByRecursion P xs → AllByRecursion P (filter q xs)
all-filter P q [] h = tt
all-filter P q (x ∷ xs) h = elim (q x) as (λ b. AllByRecursion P (cond b (x ∷ filter q xs) (filter q xs))) [ true ↦ (h.0, all-filter P q xs h.1) | false ↦ all-filter P q xs h.1 ]

fewer : {X : Type 0} (q : X → Bool) (xs : List X) → length (filter q xs) ≤ length xs
fewer q [] = omega arith
fewer q (x ∷ xs) = let h = fewer q xs in elim (q x) as (λ b. length (cond b (x ∷ filter q xs) (filter q xs)) ≤ suc (length xs)) [ true ↦ omega (arith, h) | false ↦ omega (arith, h) ]

key-more : (def : TableDef) (key : IndexDef) → IsShort def → IsCheckedKey def key → IsShort (record def { secondary = def.secondary ++ key ∷ [] })
key-more def key s c =
    let few = few-keys def key c in
    let more = length-append def.secondary (key ∷ []) in
    let f = s.fits in
    record {
      name = s.name;
      fits = record {
        name = f.name;
        column_count = f.column_count;
        columns = f.columns;
        primary = f.primary;
        key_count = omega (arith, few, more);
        secondary = all-more (KeyFits (length def.columns)) def.secondary key f.secondary (checked_key_fits def [] c.0 key c.1 c.2);
        comment = f.comment;
        ttl = f.ttl;
      };
    }

key-less : (def : TableDef) (q : IndexDef → Bool) → IsShort def → IsShort (record def { secondary = filter q def.secondary })
key-less def q s =
    let less = fewer q def.secondary in
    let f = s.fits in
    record {
      name = s.name;
      fits = record {
        name = f.name;
        column_count = f.column_count;
        columns = f.columns;
        primary = f.primary;
        key_count = let k = f.key_count in omega (arith, less, k);
        secondary = all-filter (KeyFits (length def.columns)) q def.secondary f.secondary;
        comment = f.comment;
        ttl = f.ttl;
      };
    }

short-at : (m : List ℕ) (f : Table → Table) (ts : List Table) → ((t : Table) → (f t).def.name ≡ t.def.name) → AreShort ts → ((t : Table) → table_of m ts ≡ Some t → IsShort (f t).def) → AreShort (at_table m f ts)
short-at m f ts names h k n u e =
    let x = mapped (at_its m f) (table_of n ts) u (sym (table-at n m f names ts) ∙ e) in
    subst (λ (y : Table). IsShort y.def) x.2 (by_name x.0 x.1 (is_table m x.0) refl)
  where
    by_name : (t : Table) → table_of n ts ≡ Some t → (b : Bool) → is_table m t ≡ b → IsShort (if b then f t else t).def
    by_name t e true i = k t (ap (λ y. table_of y ts) (sym (bytes-same t.def.name m i) ∙ name-of n ts t e) ∙ e)
    by_name t e false i = h n t e

same-table : (o : Option Table) (t u : Table) → o ≡ Some t → o ≡ Some u → t ≡ u
same-table o t u e f = let g : Some t ≡ Some u = sym e ∙ f in cc

short-schema : (m : ℕ) (ts : List Table) (s : Schema) → AreShort ts → LawfulSchema m ts s → AreShort (with_schema ts s)
short-schema m ts (CreateTable def) h l = λ n t e. elim (found-behind (is_table n) (record { def = def; rows = [] }) t ts e) [
  | inl f ↦ h n t f
  | inr same ↦ subst (λ (x : Table). IsShort x.def) same (checked-short def l.1)
]
short-schema m ts (DropTable name) h l = λ n t e. elim (tells (same_bytes name n)) [
  | inl f ↦ absurd (none-some t (sym (ap (λ x. Rattle.std.specs.List.find (is_table x) (filter (λ t. not (is_table name t)) ts)) (sym (bytes-same name n f)) ∙ gone-without (is_table name) ts) ∙ e))
  | inr f ↦ h n t (sym (table-elsewhere n (DropTable name) ts f) ∙ e)
]
short-schema m ts (CreateIndex name key) h l = short-at name (λ t. record t { def = record t.def { secondary = t.def.secondary ++ key ∷ [] } }) ts (λ t. refl) h
    (λ t e. key-more t.def key (h name t e) (subst (λ (x : Table). IsCheckedKey x.def key) (same-table (table_of name ts) l.0 t l.1 e) l.2.0))
short-schema m ts (DropIndex name key) h l = short-at name (λ t. record t { def = record t.def { secondary = filter (λ k. not (is_named key k)) t.def.secondary } }) ts (λ t. refl) h (λ t e. key-less t.def (λ k. not (is_named key k)) (h name t e))

pub short-body : (m : ℕ) (ts : List Table) (b : CommitBody) → AreShort ts → LawfulBody m ts b → AreShort (with_body ts b)
short-body m ts (body.Rows changes) h l = short-with changes ts h
short-body m ts (body.Schema s) h l = short-schema m ts s h l

-- ---- one commit

name-of-changes : (m : ℕ) (ts : List Table) (cs : List Change) → AreShort ts → are_lawful m ts cs ≡ true → (c : Change) → IsIn c cs → length (table_name c) ≤ 64
name-of-changes m ts cs h l c i = by_table (table_of (table_name c) ts) refl
  where
    by_table : (o : Option Table) → table_of (table_name c) ts ≡ o → length (table_name c) ≤ 64
    by_table None e = absurd (lawful-there m cs ts c l i e)
    by_table (Some t) e = subst (λ n. length n ≤ 64) (name-of (table_name c) ts t e) (h (table_name c) t e).name

table-name : (n : List ℕ) (ts : List Table) (t : Table) → AreShort ts → table_of n ts ≡ Some t → length n ≤ 64
table-name n ts t h e = subst (λ x. length x ≤ 64) (name-of n ts t e) (h n t e).name

pub named-length : (key : List ℕ) (d : IndexDef) → is_named key d ≡ true → length key ≡ length d.name
named-length key d e = sym (length-map key upper) ∙ sym (ap length (bytes-same (map upper d.name) (map upper key) e)) ∙ length-map d.name upper

body-short : (m : ℕ) (ts : List Table) (b : CommitBody) → AreShort ts → LawfulBody m ts b → length (body_bytes b) ≤ 2 ^ 28
body-short m ts (body.Rows cs) h l =
    let a = changes-light ts cs (name-of-changes m ts cs h l.1) in
    let b = length-append (big_bytes 4 (length cs)) (listed_bytes change_bytes cs) in
    let light = l.2 in
    omega (arith, a, b, light)
body-short m ts (body.Schema (CreateTable def)) h l = let a = definition-short def (checked-short def l.1).fits in omega (arith, a)
body-short m ts (body.Schema (DropTable name)) h l = let a = table-name name ts l.0 h l.1 in omega (arith, a)
body-short m ts (body.Schema (CreateIndex name key)) h l =
    let a = table-name name ts l.0 h l.1 in
    let c : IsCheckedKey l.0.def key = l.2.0 in
    let b = key-short (length l.0.def.columns) key (checked_key_fits l.0.def [] c.0 key c.1 c.2) in
    let d = length-append (name_bytes name) (key_bytes key) in
    omega (arith, a, b, d)
body-short m ts (body.Schema (DropIndex name key)) h l =
    let a = table-name name ts l.0 h l.1 in
    let k = any-some (is_named key) l.0.def.secondary l.2 in
    let e = named-length key k.0 k.2 in
    let f = (recursion-in (KeyFits (length l.0.def.columns)) l.0.def.secondary k.0 (h name l.0 l.1).fits.secondary k.1).name.short in
    let d = length-append (name_bytes name) (name_bytes key) in
    omega (arith, a, e, f, d)

short-in : (m : ℕ) (ts : List Table) (cs : List Commit) (c : Commit) → AreShort ts → LawfulFrom m ts cs → IsIn c cs → length (commit_bytes c) ≤ 2 ^ 29
short-in m ts [] c h l i = absurd i
short-in m ts (x ∷ cs) c h l (inl e) =
    let a = body-short x.moment ts x.body h l.1 in
    let b = length-append (big_bytes 8 x.moment) (body_bytes x.body) in
    subst (λ y. length (commit_bytes y) ≤ 2 ^ 29) e (omega (arith, a, b))
short-in m ts (x ∷ cs) c h l (inr i) = short-in x.moment (with_body ts x.body) cs c (short-body x.moment ts x.body h l.1) l.2 i

pub lawful-short : (commits : List Commit) (c : Commit) → IsLawful commits → IsIn c commits → length (commit_bytes c) ≤ 2 ^ 29
lawful-short commits c l i = short-in 0 [] commits c (λ n t e. absurd (none-some t e)) l i

pub short-commits : (m : ℕ) (cs : List Commit) (ts : List Table) → AreShort ts → LawfulFrom m ts cs → AreShort (with_commits ts cs)
short-commits m [] ts h l = h
short-commits m (c ∷ cs) ts h l = short-commits c.moment cs (with_body ts c.body) (short-body c.moment ts c.body h l.1) l.2
