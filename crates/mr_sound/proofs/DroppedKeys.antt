-- DROP INDEX and LOCK TABLES keep a world sound.
use Rattle.std.proofs.Common.{◌≡◌, inl, inr, ℕ, Bool, true, false, true≢false, List, [], length, map, find, Option, Some, None, Result, Ok, IfOk, refl, ap, sym, subst, ◌∙◌}
use Rattle.std.specs.Prelude.{◌&&◌, ◌||◌, not, nat_le, nat_lt, codes}
use Rattle.std.specs.List.{list_any}
use Rattle.std.specs.Option.{option_map_or}
use Rattle.std.proofs.lemmas.Option.{none-some}
use Rattle.mr_lanes.specs.Kernels.{upper}
use Rattle.mr_spec.specs.declared.world.Table.{Table}
use Rattle.mr_types.specs.declared.definition.ColumnDef.{ColumnDef}
use Rattle.mr_types.specs.declared.definition.IndexDef.{IndexDef}
use Rattle.mr_types.specs.declared.text.KeyText.{KeyText}
use Rattle.mr_types.specs.declared.row.Schema.TheVariants as schema
use Rattle.mr_types.specs.declared.statement.KeyName.{KeyName}
use Rattle.mr_types.specs.Grammatical.{is_secondary_text, is_key_text}
use Rattle.mr_types.specs.Refusals.{refuse_where, some_or, each}
use Rattle.mr_types.specs.Values.{same_bytes, same_name}
use Rattle.mr_spec.specs.Rows.{table_name}
use Rattle.mr_spec.specs.KeyChecks.{is_named, is_taken, checked_key, places_of, has_repeat, width_of}
use Rattle.mr_spec.specs.Database.{table_of, replay}
use Rattle.mr_spec.specs.Lawful.{IsCheckedKey}
use Rattle.mr_spec.specs.World.{World}
use Rattle.mr_spec.specs.SchemaSteps.{table_in, used_elsewhere, builds_other, free_for_key, drop_index, lock_tables}
use Rattle.mr_sound.specs.Sound.{IsIn, IsSound}
use Rattle.mr_sound.proofs.Basics.{both, neither, tells, false-true, in-any}
use Rattle.mr_sound.proofs.Tables.{name-of}
use Rattle.mr_sound.proofs.Made.{ok-bound, ok-behind, where-ok}
use Rattle.mr_sound.proofs.NewFits.{some-ok}
use Rattle.mr_sound.proofs.Worlds.{sound-schema, sound-number}
use Rattle.mr_sound.proofs.Schemas.{Sounds, IsIdle, same-bytes, bytes-same, unused, sound-with, where-then}

-- ---- DROP INDEX

checked-name : (columns : List ColumnDef) (primary : Bool) (secondary : List IndexDef) (taken : List (List ℕ)) (k : KeyText) → IfOk (checked_key columns primary secondary taken k) (λ d. d.name ≡ k.name)
checked-name columns primary secondary taken k =
    ok-behind (λ (d : IndexDef). d.name ≡ k.name) (refuse_where 1069 (not k.primary && nat_le 16 (length secondary))) _ (λ x f.
    ok-behind (λ (d : IndexDef). d.name ≡ k.name) (refuse_where 1061 (not k.primary && is_taken k.name taken secondary)) _ (λ x f.
    ok-behind (λ (d : IndexDef). d.name ≡ k.name) (refuse_where 1068 (k.primary && primary)) _ (λ x f.
    ok-behind (λ (d : IndexDef). d.name ≡ k.name) (refuse_where 1070 (nat_lt 16 (length k.columns))) _ (λ x f.
    ok-bound (λ (d : IndexDef). d.name ≡ k.name) (places_of columns k.columns) _ (λ places f.
    ok-behind (λ (d : IndexDef). d.name ≡ k.name) (refuse_where 1060 (has_repeat places)) _ (λ x f.
    ok-behind (λ (d : IndexDef). d.name ≡ k.name) (refuse_where 1071 (nat_lt 767 (width_of columns places))) _ (λ x f.
    ok-behind (λ (d : IndexDef). d.name ≡ k.name) (refuse_where 1064 (nat_lt 1024 (length k.comment) || same_bytes k.comment (codes "__system__"))) _ (λ x f. refl))))))))

checked-free : (columns : List ColumnDef) (secondary : List IndexDef) (k : KeyText) (key : IndexDef) → is_secondary_text k ≡ true → checked_key columns true secondary [] k ≡ Ok key → (list_any (λ d. same_name k.name d.name) secondary ≡ false) × (key.name ≡ k.name)
checked-free columns secondary k key ok e =
    let p = where-then 1069 (not k.primary && nat_le 16 (length secondary)) _ key e in
    let q = where-then 1061 (not k.primary && is_taken k.name [] secondary) _ key p.1 in
    (apart (not k.primary) (same_name k.name (codes "PRIMARY")) (list_any (λ d. same_name k.name d.name) secondary) (both (not k.primary) (is_key_text k) ok).0 q.0, subst (λ (r : Result IndexDef ℕ). IfOk r (λ d. d.name ≡ k.name)) e (checked-name columns true secondary [] k))
  where
    apart : (a b d : Bool) → a ≡ true → (a && (b || (false || d))) ≡ false → d ≡ false
    apart false b d f e = absurd (true≢false (sym f))
    apart true true d f e = absurd (true≢false e)
    apart true false d f e = e

found-key : {A : Type 0} (p : A → Bool) (xs : List A) (x : A) → find p xs ≡ Some x → IsIn x xs × (p x ≡ true)
found-key p xs x e = Rattle.mr_sound.proofs.Worlds.found-in p xs x e

name-back : (a b c : List ℕ) → same_name a c ≡ true → same_name b c ≡ true → same_name a b ≡ true
name-back a b c e f = same-bytes (map upper a) (map upper b) (bytes-same (map upper a) (map upper c) e ∙ sym (bytes-same (map upper b) (map upper c) f))

-- no index of the table is building where a key of the name is dropped
none-building : (w : World) (n : KeyName) (t : Table) (key : IndexDef) → IsSound w → table_of n.table (replay w.commits) ≡ Some t → find (is_named n.key) t.def.secondary ≡ Some key → builds_other w n.table n.key ≡ false → w.building n.table ≡ None
none-building w n t key s e f free = by_key (w.building n.table) refl free
  where
    by_key : (o : Option IndexDef) → w.building n.table ≡ o → option_map_or (λ k. not (is_named n.key k)) o false ≡ false → o ≡ None
    by_key None g h = refl
    by_key (Some k) g h =
        let b = s.building n.table k g in
        let same : Some b.0 ≡ Some t = sym b.1 ∙ e in
        let same2 : b.0 ≡ t = cc in
        let is : IsCheckedKey t.def k = subst (λ (y : Table). IsCheckedKey y.def k) same2 b.2 in
        let c = checked-free t.def.columns t.def.secondary is.0 k is.1 is.2 in
        let l = found-key (is_named n.key) t.def.secondary key f in
        let mine : same_name k.name n.key ≡ true = named (is_named n.key k) h in
        false-true (list_any (λ d. same_name is.0.name d.name) t.def.secondary) c.0 (in-any (λ d. same_name is.0.name d.name) key t.def.secondary l.0 (subst (λ x. same_name x key.name ≡ true) c.1 (name-back k.name key.name n.key mine l.1)))
      where
        named : (b : Bool) → not b ≡ false → b ≡ true
        named true e = refl
        named false e = absurd (true≢false e)

pub sound-drop_index : (w : World) (n : KeyName) → IsSound w → IsIdle w → IfOk (drop_index w n) Sounds
sound-drop_index w n s idle =
    ok-bound Sounds (table_in w n.table) _ (λ t e.
    ok-bound Sounds (some_or 1091 (find (is_named n.key) t.def.secondary)) _ (λ key f.
    ok-behind Sounds (free_for_key w n.table n.key) _ (λ x g.
    let there = some-ok 1146 _ t e in
    let found = some-ok 1091 _ key f in
    let free = neither (used_elsewhere w n.table) (builds_other w n.table n.key) (where-ok 1205 _ x g) in
    let name : t.def.name ≡ n.table = name-of n.table (replay w.commits) t there in
    let l = found-key (is_named n.key) t.def.secondary key found in
    let none = none-building w n t key s there found free.1 in
    sound-with w (schema.DropIndex t.def.name key.name) s idle
    (t, ap (λ y. table_of y (replay w.commits)) name ∙ there, in-any (is_named key.name) key t.def.secondary l.0 (same-bytes (map upper key.name) (map upper key.name) refl))
    (λ o c i j. ap (λ y. same_bytes y (table_name c)) name ∙ unused w n.table s free.0 o c i j)
    (λ m k h. elim (tells (same_bytes t.def.name m)) [
      | inl q ↦ absurd (none-some k (sym none ∙ ap w.building (sym name ∙ bytes-same t.def.name m q) ∙ h))
      | inr q ↦ q
    ]))))

pub sound-lock : (w : World) (names : List (List ℕ)) → IsSound w → IfOk (lock_tables w names) Sounds
sound-lock w names s = ok-behind Sounds (each (table_in w) names) _ (λ x e. s)
