-- How a block goes to the front.
use Rattle.std.proofs.Common.{◌≡◌, ◌&&◌, ℕ, ◌+◌, ◌≤◌, Bool, true, false, cond, List, [], ◌∷◌, length, take, Option, Some, None, nat_eq, refl, sym, ◌∙◌, ap, subst, arith, Result, Ok, Err, IfOk, OnOk, OnErr}
use Rattle.std.proofs.lemmas.Bool.{eqb-true}
use Rattle.std.proofs.lemmas.List.{take_all, length-take}
use Rattle.std.specs.Option.{option_map_or}
use Rattle.std.specs.Map.{lookup, lookup_entry, remove_entry}
use Rattle.lru.specs.LruCache.{LruCache, lru_cache, put_entries, promoted}
use Rattle.mr_iter.specs.Versions.{Version}
use Rattle.mr_block_cache.specs.declared.span.FileSpan.{FileSpan}
use Rattle.mr_block_cache.specs.Cache.{CachedBlock, is_same, held, with_block, brought}

both : (a b : Bool) → (a && b) ≡ true → (a ≡ true) × (b ≡ true)
both true true e = (refl, refl)
both true false e = cc
both false b e = cc

pub same_spans : (s t : FileSpan) → is_same s t ≡ true → s ≡ t
same_spans s t e =
    let files = both (nat_eq s.file t.file) (nat_eq s.place t.place && nat_eq s.size t.size) e in
    let rest = both (nat_eq s.place t.place) (nat_eq s.size t.size) files.1 in
    ap (λ (n : ℕ). let u : FileSpan = record { file = n; place = s.place; size = s.size } in u) (eqb-true s.file t.file files.0)
    ∙ ap (λ (n : ℕ). let u : FileSpan = record { file = t.file; place = n; size = s.size } in u) (eqb-true s.place t.place rest.0)
    ∙ ap (λ (n : ℕ). let u : FileSpan = record { file = t.file; place = t.place; size = n } in u) (eqb-true s.size t.size rest.1)

module _ (test : FileSpan → Bool) where
  pub absent : (cs : List CachedBlock) → lookup_entry test cs ≡ None → remove_entry test cs ≡ cs
  absent [] e = refl
  absent (c ∷ cs) e = (elim (test c.0) as (λ b. cond b (Some c) (lookup_entry test cs) ≡ None → cond b cs (c ∷ remove_entry test cs) ≡ c ∷ cs) [
    | true ↦ λ h. cc
    | false ↦ λ h. ap (λ (ds : List CachedBlock). c ∷ ds) (absent cs h)
  ]) e

  pub one_less : (cs : List CachedBlock) (c : CachedBlock) → lookup_entry test cs ≡ Some c → length (remove_entry test cs) + 1 ≡ length cs
  one_less [] c e = cc
  one_less (d ∷ cs) c e = (elim (test d.0) as (λ b. cond b (Some d) (lookup_entry test cs) ≡ Some c → length (cond b cs (d ∷ remove_entry test cs)) + 1 ≡ length (d ∷ cs)) [
    | true ↦ λ h. omega arith
    | false ↦ λ h. omega (arith, one_less cs c h)
  ]) e

  pub passes : (cs : List CachedBlock) (c : CachedBlock) → lookup_entry test cs ≡ Some c → (test c.0 ≡ true) × (lookup test cs ≡ Some c.1)
  passes [] c e = cc
  passes (d ∷ cs) c e = (elim (test d.0) as (λ b. test d.0 ≡ b → cond b (Some d) (lookup_entry test cs) ≡ Some c → (test c.0 ≡ true) × (cond b (Some d.1) (lookup test cs) ≡ Some c.1)) [
    | true ↦ λ t h. let same : d ≡ c = cc in (ap (λ (x : CachedBlock). test x.0) (sym same) ∙ t, ap (λ (x : CachedBlock). Some x.1) same)
    | false ↦ λ t h. passes cs c h
  ]) refl e

  pub fails : (cs : List CachedBlock) → lookup_entry test cs ≡ None → lookup test cs ≡ None
  fails [] e = refl
  fails (d ∷ cs) e = (elim (test d.0) as (λ b. cond b (Some d) (lookup_entry test cs) ≡ None → cond b (Some d.1) (lookup test cs) ≡ None) [
    | true ↦ λ h. cc
    | false ↦ λ h. fails cs h
  ]) e

  pub found_entry : (cs : List CachedBlock) (vs : List Version) → lookup test cs ≡ Some vs → (c : CachedBlock) × (lookup_entry test cs ≡ Some c)
  found_entry [] vs e = cc
  found_entry (d ∷ cs) vs e = (elim (test d.0) as (λ b. cond b (Some d.1) (lookup test cs) ≡ Some vs → (c : CachedBlock) × (cond b (Some d) (lookup_entry test cs) ≡ Some c)) [
    | true ↦ λ h. (d, refl)
    | false ↦ λ h. found_entry cs vs h
  ]) e

-- an entry that is there goes to the front, with a value of its own
pub renewed : (span : FileSpan) (vs : List Version) (cs : List CachedBlock) (c : CachedBlock) → length cs ≤ 1024 → lookup_entry (is_same span) cs ≡ Some c → (c.0, vs) ∷ remove_entry (is_same span) cs ≡ with_block span vs cs
renewed span vs cs c few is =
    let key : span ≡ c.0 = same_spans span c.0 (passes (is_same span) cs c is).0 in
    let fits : length ((span, vs) ∷ remove_entry (is_same span) cs) ≤ 1024 = omega (arith, few, one_less (is_same span) cs c is) in
    ap (λ (s : FileSpan). (s, vs) ∷ remove_entry (is_same span) cs) (sym key) ∙ sym (take_all 1024 ((span, vs) ∷ remove_entry (is_same span) cs) fits)

pub put_is : (span : FileSpan) (vs : List Version) (cs : List CachedBlock) → length cs ≤ 1024 → put_entries is_same (lru_cache cs 1024) span vs ≡ with_block span vs cs
put_is span vs cs few = go (lookup_entry (is_same span) cs) refl
  where
    go : (o : Option CachedBlock) → lookup_entry (is_same span) cs ≡ o → option_map_or (λ (e : CachedBlock). (e.0, vs) ∷ remove_entry (is_same span) cs) o ((span, vs) ∷ take 1023 cs) ≡ with_block span vs cs
    go None e = ap (λ (ds : List CachedBlock). (span, vs) ∷ take 1023 ds) (sym (absent (is_same span) cs e))
    go (Some c) e = renewed span vs cs c few e

pub promoted_is : (span : FileSpan) (vs : List Version) (cs : List CachedBlock) → length cs ≤ 1024 → held span cs ≡ Some vs → promoted (is_same span) cs ≡ with_block span vs cs
promoted_is span vs cs few is =
    let found = found_entry (is_same span) cs vs is in
    let value : found.0.1 ≡ vs = ap (λ (o : Option (List Version)). elim o [ Some x ↦ x | None ↦ vs ]) (sym (passes (is_same span) cs found.0 found.1).1 ∙ is) in
    ap (λ (o : Option CachedBlock). option_map_or (λ (e : CachedBlock). e ∷ remove_entry (is_same span) cs) o cs) found.1
    ∙ ap (λ (x : List Version). (found.0.0, x) ∷ remove_entry (is_same span) cs) value
    ∙ renewed span vs cs found.0 few found.1

pub brought_is : (span : FileSpan) (vs : List Version) (cs : List CachedBlock) → length cs ≤ 1024 → held span cs ≡ Some vs → promoted (is_same span) cs ≡ brought span cs
brought_is span vs cs few is = promoted_is span vs cs few is ∙ sym (ap (λ (o : Option (List Version)). option_map_or (λ (x : List Version). with_block span x cs) o cs) is)

pub few_with : (span : FileSpan) (vs : List Version) (cs : List CachedBlock) → length (with_block span vs cs) ≤ 1024
few_with span vs cs = length_take_le 1024 ((span, vs) ∷ remove_entry (is_same span) cs)
  where
    length_take_le : (n : ℕ) (xs : List CachedBlock) → length (take n xs) ≤ n
    length_take_le n xs = omega (arith, length-take n xs)

-- the cache after the block at a span that it holds went to the front
pub record IsKept (c : LruCache FileSpan (List Version)) (cs : List CachedBlock) : Type 0 where
  pub is : c.entries ≡ cs
  pub capacity : c.cap ≡ 1024
  pub few : length c.entries ≤ 1024

pub after_promote : (span : FileSpan) (vs : List Version) (old new : LruCache FileSpan (List Version)) → old.cap ≡ 1024 → length old.entries ≤ 1024 → held span old.entries ≡ Some vs → new ≡ lru_cache (promoted (is_same span) old.entries) old.cap → IsKept new (brought span old.entries)
after_promote span vs old new cap few is e = record {
  is = ap (λ (x : LruCache FileSpan (List Version)). x.entries) e ∙ brought_is span vs old.entries few is;
  capacity = ap (λ (x : LruCache FileSpan (List Version)). x.cap) e ∙ cap;
  few = subst (λ (xs : List CachedBlock). length xs ≤ 1024) (sym (ap (λ (x : LruCache FileSpan (List Version)). x.entries) e ∙ promoted_is span vs old.entries few is)) (few_with span vs old.entries);
}

pub after_put : (span : FileSpan) (vs : List Version) (old new : LruCache FileSpan (List Version)) → old.cap ≡ 1024 → length old.entries ≤ 1024 → new ≡ lru_cache (put_entries is_same old span vs) old.cap → IsKept new (with_block span vs old.entries)
after_put span vs old new cap few e =
    let same : new.entries ≡ with_block span vs old.entries = ap (λ (x : LruCache FileSpan (List Version)). x.entries) e ∙ ap (λ (n : ℕ). put_entries is_same (lru_cache old.entries n) span vs) cap ∙ put_is span vs old.entries few in
    record {
      is = same;
      capacity = ap (λ (x : LruCache FileSpan (List Version)). x.cap) e ∙ cap;
      few = subst (λ (xs : List CachedBlock). length xs ≤ 1024) (sym same) (few_with span vs old.entries);
    }

pub by_result : {A E : Type 0} (r : Result A E) (P Q G : Type 0) → OnOk r P → OnErr r Q → (P → G) → (Q → G) → G
by_result (Ok x) P Q G p q f g = f p
by_result (Err x) P Q G p q f g = g q

pub shared : {E : Type 0} (r : Result (List Version) E) (o : Option (List Version)) (x : List Version) → o ≡ Some x → IfOk r (λ b. b ≡ x) → IfOk r (λ b. o ≡ Some b)
shared (Ok b) o x e is = e ∙ ap Some (sym is)
shared (Err m) o x e is = tt
