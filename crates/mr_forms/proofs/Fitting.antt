-- Lawful commits have a form as bytes.
use Rattle.std.proofs.Common.{◌≡◌, inl, inr, ℕ, ◌<◌, ◌≤◌, true, false, true≢false, List, [], ◌∷◌, length, map, Option, Some, None, option_map, Result, Ok, Err, IfOk, refl, ap, sym, subst, ◌∙◌, arith, sum_by}
use Rattle.std.specs.Prelude.{◌&&◌, nat_lt}
use Rattle.std.specs.List.{AllByRecursion, list_all}
use Rattle.std.specs.Option.{option_map_or}
use Rattle.std.proofs.lemmas.Option.{none-some}
use Rattle.std.proofs.lemmas.Bool.Decides.{nat_tests}
use Rattle.mr_lanes.specs.Kernels.{upper}
use Rattle.mr_fields.specs.Fields.{is_name_byte}
use Rattle.std.proofs.lemmas.List.Sums.{sum_by-cons}
use Rattle.mr_spec.specs.declared.world.Table.{Table}
use Rattle.mr_types.specs.declared.value.Value.{Value}
use Rattle.mr_types.specs.declared.definition.ColumnDef.{ColumnDef}
use Rattle.mr_types.specs.declared.definition.IndexDef.{IndexDef}
use Rattle.mr_types.specs.declared.definition.TableDef.{TableDef}
use Rattle.mr_types.specs.declared.row.Row.{Row}
use Rattle.mr_types.specs.declared.row.Change.{Change}
use Rattle.mr_types.specs.declared.row.Change.TheVariants.{Insert, Update, Delete}
use Rattle.mr_types.specs.declared.row.Commit.{Commit}
use Rattle.mr_types.specs.declared.row.CommitBody.{CommitBody}
use Rattle.mr_types.specs.declared.row.CommitBody.TheVariants as body
use Rattle.mr_types.specs.declared.row.Schema.TheVariants.{CreateTable, DropTable, CreateIndex, DropIndex}
use Rattle.mr_types.specs.Values.{assign_to}
use Rattle.mr_spec.specs.Rows.{rows_of, table_name}
use Rattle.mr_spec.specs.KeyChecks.{is_named}
use Rattle.mr_spec.specs.Database.{table_of, changed, with_body, changes_in}
use Rattle.mr_spec.specs.Lawful.{IsLawful, LawfulFrom, LawfulBody, IsCheckedKey, are_lawful, is_lawful_change, is_lawful_in, is_row_of, fits_column, is_assigned, is_value}
use Rattle.mr_spec.specs.Weight.{total_weight, weight_of, secondary_count, row_size}
use Rattle.mr_fields.specs.Fitting.{NameFits, ValueFits, GivenFits, RowFits}
use Rattle.mr_schema.specs.DefinitionFitting.{ColumnFits, KeyFits, DefinitionFits}
use Rattle.mr_schema.proofs.CheckedColumns.{assigned_fits}
use Rattle.mr_schema.proofs.CheckedDefinitions.{checked_key_fits}
use Rattle.mr_binlog.specs.CommitFitting.{NumbersFit, ChangeFits, BodyFits, CommitFits}
use Rattle.mr_sound.specs.Sound.{IsIn}
use Rattle.mr_sound.proofs.Basics.{both, joined, any-some}
use Rattle.mr_sound.proofs.EqualRows.{equal-value}
use Rattle.mr_sound.proofs.Tables.{def-changed, name-of}
use Rattle.mr_sound.proofs.Commits.{def-table}
use Rattle.mr_sound.proofs.Made.{named-good}
use Rattle.mr_sound.proofs.Fits.{fits-literal}
use Rattle.mr_sound.proofs.NewFits.{Fit, row-fit, fit-length}
use Rattle.mr_sound.proofs.Well.{AreWell, well-body, well-changed, lawful-of, well-none}
use Rattle.mr_sound.proofs.Schemas.{bytes-same}
use Rattle.mr_forms.proofs.SmallRows.{in-recursion, row-small}
use Rattle.mr_forms.proofs.Lengths.{recursion-in}
use Rattle.mr_forms.proofs.Short.{AreShort, short-body, checked-short, named-length}

-- ---- rows

value-fits : (c : ColumnDef) (v : Value) → ColumnFits c → fits_column (c, v) ≡ true → ValueFits v
value-fits c v fits e = answer (assign_to c.ty v) (assigned_fits c.ty v fits.kind (fits-literal c v e)) (both (is_value v) (is_assigned (assign_to c.ty v) v) e).1
  where
    answer : (r : Result Value ℕ) → IfOk r ValueFits → is_assigned r v ≡ true → ValueFits v
    answer (Ok w) h f = subst ValueFits (equal-value w v f) h
    answer (Err code) h f = absurd (true≢false (sym f))

pub values-fit : (cs : List ColumnDef) (vs : List Value) → AllByRecursion ColumnFits cs → Fit cs vs → AllByRecursion ValueFits vs
values-fit [] [] all h = tt
values-fit [] (v ∷ vs) all h = absurd h
values-fit (c ∷ cs) [] all h = absurd h
values-fit (c ∷ cs) (v ∷ vs) all h = (value-fits c v all.0 h.0, values-fit cs vs all.1 h.1)

row-fits : (def : TableDef) (r : Row) → DefinitionFits def → is_row_of def r ≡ true → GivenFits r.hidden → GivenFits r.stamp → RowFits r
row-fits def r fits e hidden stamp =
    let fit = row-fit def r e in
    let same = fit-length def.columns r.fields fit in
    let few = fits.column_count in
    record { hidden = hidden; stamp = stamp; count = omega (arith, same, few); fields = values-fit def.columns r.fields fits.columns fit }

-- each row that a lawful change names is one of its table
record IsNamedRow (ts : List Table) (c : Change) (r : Row) : Type 0 where
  pub table : Table
  pub there : table_of (table_name c) ts ≡ Some table
  pub row : is_row_of table.def r ≡ true

named-row : (m : ℕ) (ts : List Table) (c : Change) (r : Row) → AreWell ts → is_lawful_change m ts c ≡ true → IsIn r (rows_of c) → IsNamedRow ts c r
named-row m ts c r w e i = by_table (table_of (table_name c) ts) refl
  where
    by_table : (o : Option Table) → table_of (table_name c) ts ≡ o → IsNamedRow ts c r
    by_table None f = absurd (true≢false (sym e ∙ ap (λ o. option_map_or (λ t. is_lawful_in m t c) o false) f))
    by_table (Some t) f = record { table = t; there = f; row = named-good t.def m t.rows c (w (table_name c) t f).good (lawful-of m c (table_of (table_name c) ts) t f e) r i }

named-in : (m : ℕ) (cs : List Change) (ts : List Table) (c : Change) (r : Row) → AreWell ts → are_lawful m ts cs ≡ true → IsIn c cs → IsIn r (rows_of c) → IsNamedRow ts c r
named-in m [] ts c r w e i j = absurd i
named-in m (d ∷ cs) ts c r w e (inl same) j = subst (λ x. IsIn r (rows_of x) → IsNamedRow ts x r) same (named-row m ts d r w (both (is_lawful_change m ts d) (are_lawful m (changed ts d) cs) e).0) j
named-in m (d ∷ cs) ts c r w e (inr i) j =
    let p = both (is_lawful_change m ts d) (are_lawful m (changed ts d) cs) e in
    let k = named-in m cs (changed ts d) c r (well-changed m ts d w p.0) p.1 i j in
    let t = def-table (table_name c) ts k.table.def (sym (def-changed (table_name c) ts d) ∙ ap (option_map (λ (x : Table). x.def)) k.there) in
    record { table = t.0; there = t.1; row = subst (λ x. is_row_of x r ≡ true) (sym t.2) k.row }

-- ---- changes

name-fits : (n : List ℕ) (ts : List Table) (t : Table) → AreShort ts → table_of n ts ≡ Some t → NameFits n
name-fits n ts t h e = subst NameFits (name-of n ts t e) (h n t e).fits.name

module _ (m : ℕ) (ts : List Table) (cs : List Change) (w : AreWell ts) (h : AreShort ts) (l : are_lawful m ts cs ≡ true)
    (hidden : (d : Change) (r : Row) → IsIn d cs → IsIn r (rows_of d) → GivenFits r.hidden) (stamp : (d : Change) (r : Row) → IsIn d cs → IsIn r (rows_of d) → GivenFits r.stamp) where
  fits-in : (c : Change) (r : Row) → IsIn c cs → IsIn r (rows_of c) → RowFits r
  fits-in c r i j = let k = named-in m cs ts c r w l i j in row-fits k.table.def r (h (table_name c) k.table k.there).fits k.row (hidden c r i j) (stamp c r i j)

  table-fits : (c : Change) (r : Row) → IsIn c cs → IsIn r (rows_of c) → NameFits (table_name c)
  table-fits c r i j = let k = named-in m cs ts c r w l i j in name-fits (table_name c) ts k.table h k.there

  change-fits : (c : Change) → IsIn c cs → ChangeFits c
  change-fits (Insert table new) i = (table-fits (Insert table new) new i (inl refl), fits-in (Insert table new) new i (inl refl))
  change-fits (Update table old new) i = (table-fits (Update table old new) old i (inl refl), fits-in (Update table old new) old i (inl refl), fits-in (Update table old new) new i (inr (inl refl)))
  change-fits (Delete table old) i = (table-fits (Delete table old) old i (inl refl), fits-in (Delete table old) old i (inl refl))

one-each : (k : ℕ) (c : Change) → 1 ≤ weight_of k c
one-each k c = let s = sum_by row_size (rows_of c) in omega arith

count-light : (ts : List Table) (cs : List Change) → length cs ≤ total_weight ts cs
count-light ts [] = omega arith
count-light ts (c ∷ cs) =
    let a = one-each (secondary_count ts (table_name c)) c in
    let b = count-light ts cs in
    let d = sum_by-cons (λ x. weight_of (secondary_count ts (table_name x)) x) c cs in
    omega (arith, a, b, d)

-- ---- keys

all-below : (limit : ℕ) (places : List ℕ) → limit ≤ 256 → AllByRecursion (λ place. place < limit) places → AllByRecursion (λ place. place < 256) places
all-below limit [] most all = tt
all-below limit (p ∷ places) most all = (let h = all.0 in omega (arith, most, h), all-below limit places most all.1)

key-fits : (limit : ℕ) (key : IndexDef) → limit ≤ 256 → KeyFits limit key → KeyFits 256 key
key-fits limit key most fits = record { name = fits.name; columns = record { count = fits.columns.count; each = all-below limit key.columns most fits.columns.each }; comment = fits.comment }

upper-name : (b : ℕ) → is_name_byte (upper b) ≡ is_name_byte b
upper-name b = grind (arith, nat_tests)

uppers-name : (xs : List ℕ) → list_all is_name_byte (map upper xs) ≡ list_all is_name_byte xs
uppers-name [] = refl
uppers-name (x ∷ xs) = ap (λ b. b && list_all is_name_byte (map upper xs)) (upper-name x) ∙ ap (λ b. is_name_byte x && b) (uppers-name xs)

-- a name that is the same but for its case
named-fits : (key : List ℕ) (d : IndexDef) → is_named key d ≡ true → NameFits d.name → NameFits key
named-fits key d e fits =
    let same = named-length key d e in
    let short = fits.short in
    let p = both (nat_lt 0 (length d.name)) (list_all is_name_byte d.name) fits.is_name in
    record {
      short = omega (arith, same, short);
      is_name = joined (nat_lt 0 (length key)) (list_all is_name_byte key) (ap (λ n. nat_lt 0 n) same ∙ p.0)
          (sym (uppers-name key) ∙ ap (list_all is_name_byte) (sym (bytes-same (map upper d.name) (map upper key) e)) ∙ uppers-name d.name ∙ p.1);
    }

-- ---- bodies

body-fits : (m : ℕ) (ts : List Table) (c : Commit) → AreWell ts → AreShort ts → LawfulBody m ts c.body → NumbersFit c → BodyFits c.body
body-fits m ts c w h l n = by_body c.body l (λ d r i j. (row-small c n d r i j).hidden) (λ d r i j. (row-small c n d r i j).stamp)
  where
    by_body : (b : CommitBody) → LawfulBody m ts b → ((d : Change) (r : Row) → IsIn d (changes_in b) → IsIn r (rows_of d) → GivenFits r.hidden) → ((d : Change) (r : Row) → IsIn d (changes_in b) → IsIn r (rows_of d) → GivenFits r.stamp) → BodyFits b
    by_body (body.Rows cs) l hidden stamp = ((let a = l.0 in omega (arith, a)), (let a = count-light ts cs in let b = l.2 in omega (arith, a, b)), in-recursion ChangeFits cs (change-fits m ts cs w h l.1 hidden stamp))
    by_body (body.Schema (CreateTable def)) l hidden stamp = (checked-short def l.1).fits
    by_body (body.Schema (DropTable name)) l hidden stamp = name-fits name ts l.0 h l.1
    by_body (body.Schema (CreateIndex name key)) l hidden stamp =
        let c : IsCheckedKey l.0.def key = l.2.0 in
        let few = (h name l.0 l.1).fits.column_count in
        (name-fits name ts l.0 h l.1, key-fits (length l.0.def.columns) key (omega (arith, few)) (checked_key_fits l.0.def [] c.0 key c.1 c.2))
    by_body (body.Schema (DropIndex name key)) l hidden stamp =
        let k = any-some (is_named key) l.0.def.secondary l.2 in
        (name-fits name ts l.0 h l.1, named-fits key k.0 k.2 (recursion-in (KeyFits (length l.0.def.columns)) l.0.def.secondary k.0 (h name l.0 l.1).fits.secondary k.1).name)

-- ---- commits

fits-in-list : (m : ℕ) (ts : List Table) (cs : List Commit) (c : Commit) → AreWell ts → AreShort ts → LawfulFrom m ts cs → IsIn c cs → NumbersFit c → CommitFits c
fits-in-list m ts [] c w h l i n = absurd i
fits-in-list m ts (x ∷ cs) c w h l (inl e) n = subst CommitFits e (let k : NumbersFit x = subst NumbersFit (sym e) n in record { moment = k.moment; body = body-fits x.moment ts x w h l.1 k })
fits-in-list m ts (x ∷ cs) c w h l (inr i) n = fits-in-list x.moment (with_body ts x.body) cs c (well-body x.moment ts x.body w l.1) (short-body x.moment ts x.body h l.1) l.2 i n

pub lawful-fits : (commits : List Commit) (c : Commit) → IsLawful commits → IsIn c commits → NumbersFit c → CommitFits c
lawful-fits commits c l i n = fits-in-list 0 [] commits c well-none (λ n t e. absurd (none-some t e)) l i n
