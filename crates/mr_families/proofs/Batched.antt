-- Batches in parts, and the room for them.
use Rattle.std.proofs.Common.{◌≡◌, ◌==◌, ℕ, ◌+◌, ◌<◌, ◌≤◌, if◌then◌else◌, true, false, List, [], ◌∷◌, ◌++◌, set, length, get_or, take, drop, suc, add-one, drop-cons, refl, sym, ◌∙◌, ap, subst, arith}
use Rattle.std.specs.List.{AllByRecursion}
use Rattle.std.proofs.lemmas.Grind.{common_steps}
use Rattle.mr_base.specs.declared.stop.Direction.{Direction}
use Rattle.mr_iter.specs.Versions.{Version, version_cmp, place_in}
use Rattle.mr_wal.specs.declared.operation.Operation.{Operation}
use Rattle.mr_levels.specs.Levels.{LevelsState}
use Rattle.mr_family.specs.Family.{FamilyState, direction}
use Rattle.mr_families.specs.declared.numbered.Numbered.{Numbered}
use Rattle.mr_families.specs.Known.{family_at, numbers, is_listed, one_at, AreAscending, IsAt}
use Rattle.mr_families.specs.Batches.{version_of, with_operations, size_of, entries_for, bytes_for, AreKnown, AreAwaited, Takes, Added}
use Rattle.mr_families.proofs.Numbering.{number_at, itself, numbers-set, each-set}

with_operations-append : (d : Direction) (f sequence : ℕ) (os ps : List Operation) (vs : List Version) → with_operations d f sequence (os ++ ps) vs ≡ with_operations d f sequence ps (with_operations d f sequence os vs)
with_operations-append d f sequence [] ps vs = refl
with_operations-append d f sequence (o ∷ os) ps vs = with_operations-append d f sequence os ps (if o.family == f then place_in (version_cmp d) (version_of sequence o) vs else vs)

pub entries-append : (f : ℕ) (os ps : List Operation) → entries_for f (os ++ ps) ≡ entries_for f os + entries_for f ps
entries-append f [] ps = omega arith
entries-append f (o ∷ os) ps = omega (arith, entries-append f os ps)

pub bytes-append : (f : ℕ) (os ps : List Operation) → bytes_for f (os ++ ps) ≡ bytes_for f os + bytes_for f ps
bytes-append f [] ps = omega arith
bytes-append f (o ∷ os) ps = omega (arith, bytes-append f os ps)

-- ---- one operation

-- an operation of another family changes nothing
pub takes_none : (f sequence : ℕ) (o : Operation) (x : FamilyState) → (o.family == f) ≡ false → Takes f sequence (o ∷ []) x x
takes_none f sequence o x other = record {
  versions_are = λ image. rw other refl;
  in_memory = rw other refl;
  direction_is = refl;
  entries = rw other (omega arith);
  bytes = rw other (omega arith);
  levels = refl;
  cached = refl;
}

pub entries_own : (f : ℕ) (o : Operation) → o.family ≡ f → entries_for f (o ∷ []) ≡ 1
entries_own f o own = let e : (o.family == f) ≡ true = subst (λ (k : ℕ). (o.family == k) ≡ true) own (itself o.family) in rw e refl

pub bytes_own : (f : ℕ) (o : Operation) → o.family ≡ f → bytes_for f (o ∷ []) ≡ size_of o
bytes_own f o own = let e : (o.family == f) ≡ true = subst (λ (k : ℕ). (o.family == k) ≡ true) own (itself o.family) in rw e (omega arith)

pub entries_other : (f : ℕ) (o : Operation) → (o.family == f) ≡ false → entries_for f (o ∷ []) ≡ 0
entries_other f o other = rw other refl

pub bytes_other : (f : ℕ) (o : Operation) → (o.family == f) ≡ false → bytes_for f (o ∷ []) ≡ 0
bytes_other f o other = rw other refl

entry_of_own : (o : Operation) → entries_for o.family (o ∷ []) ≡ 1
entry_of_own o = entries_own o.family o refl

bytes_of_own : (o : Operation) → bytes_for o.family (o ∷ []) ≡ size_of o
bytes_of_own o = bytes_own o.family o refl

-- the family at a place takes an operation of its own
pub added_at : (sequence : ℕ) (o : Operation) (ns : List Numbered) (i : ℕ) (x m : Numbered) → AreAscending ns → IsAt ns o.family i → x ≡ one_at ns i → m.number ≡ x.number → Takes x.number sequence (o ∷ []) x.family m.family → Added sequence (o ∷ []) ns (set ns i m)
added_at sequence o ns i x m rising here read number takes = record {
  listed = numbers-set ns i m same;
  families = each-set (λ f y z. Takes f sequence (o ∷ []) y z) ns i m rising here.in_range same
      (λ f y other. takes_none f sequence o y (subst (λ (n : ℕ). (n == f) ≡ false) (same ∙ here.has_number) other))
      (subst (λ (n : ℕ). Takes n sequence (o ∷ []) (one_at ns i).family m.family) (sym number) (subst (λ (y : Numbered). Takes x.number sequence (o ∷ []) y.family m.family) read takes));
}
  where
    same : m.number ≡ number_at ns i
    same = number ∙ ap (λ (y : Numbered). y.number) read

-- ---- one part after another

takes_then : (f sequence : ℕ) (os ps : List Operation) (x y z : FamilyState) → Takes f sequence os x y → Takes f sequence ps y z → Takes f sequence (os ++ ps) x z
takes_then f sequence os ps x y z first second = record {
  versions_are = λ image.
      second.versions_are image
      ∙ ap (λ (s : LevelsState). with_operations s.direction f sequence ps (Rattle.mr_family.specs.Family.versions y image)) first.levels
      ∙ ap (with_operations (direction x) f sequence ps) (first.versions_are image)
      ∙ sym (with_operations-append (direction x) f sequence os ps _);
  in_memory =
      second.in_memory
      ∙ ap (λ (s : LevelsState). with_operations s.direction f sequence ps y.memtable.versions) first.levels
      ∙ ap (with_operations (direction x) f sequence ps) first.in_memory
      ∙ sym (with_operations-append (direction x) f sequence os ps x.memtable.versions);
  direction_is = second.direction_is ∙ first.direction_is;
  entries = omega (arith, first.entries, second.entries, entries-append f os ps);
  bytes = omega (arith, first.bytes, second.bytes, bytes-append f os ps);
  levels = second.levels ∙ first.levels;
  cached = second.cached ∙ first.cached;
}

pub added_then : (sequence : ℕ) (os ps : List Operation) (a b c : List Numbered) → Added sequence os a b → Added sequence ps b c → Added sequence (os ++ ps) a c
added_then sequence os ps a b c first second = record {
  listed = second.listed ∙ first.listed;
  families = λ f. takes_then f sequence os ps (family_at a f) (family_at b f) (family_at c f) (first.families f) (second.families f);
}

takes_nothing : (f sequence : ℕ) (x : FamilyState) → Takes f sequence [] x x
takes_nothing f sequence x = record { versions_are = λ image. refl; in_memory = refl; direction_is = refl; entries = omega arith; bytes = omega arith; levels = refl; cached = refl }

pub added_nothing : (sequence : ℕ) (ns : List Numbered) → Added sequence [] ns ns
added_nothing sequence ns = record { listed = refl; families = λ f. takes_nothing f sequence (family_at ns f) }

-- ---- what is awaited

pub known_stay : (a b : List Numbered) (os : List Operation) → numbers b ≡ numbers a → AreKnown a os → AreKnown b os
known_stay a b os same all = subst (λ (ks : List ℕ). AllByRecursion (λ (o : Operation). is_listed ks o.family ≡ true) os) (sym same) all

pub first_entry : (ns : List Numbered) (o : Operation) (os : List Operation) → AreAwaited ns (o ∷ os) → 0 < (family_at ns o.family).memtable.entries
first_entry ns o os awaited = let e : entries_for o.family (o ∷ os) ≡ entries_for o.family (o ∷ []) + entries_for o.family os = entries-append o.family (o ∷ []) os in omega (arith, e, entry_of_own o, awaited.entries o.family)

pub first_bytes : (ns : List Numbered) (o : Operation) (os : List Operation) → AreAwaited ns (o ∷ os) → size_of o ≤ (family_at ns o.family).memtable.bytes
first_bytes ns o os awaited = let e : bytes_for o.family (o ∷ os) ≡ bytes_for o.family (o ∷ []) + bytes_for o.family os = bytes-append o.family (o ∷ []) os in omega (arith, e, bytes_of_own o, awaited.bytes o.family)

-- the others are still awaited once the first was added
pub rest_awaited : (sequence : ℕ) (o : Operation) (os : List Operation) (a b : List Numbered) → AreAwaited a (o ∷ os) → Added sequence (o ∷ []) a b → AreAwaited b os
rest_awaited sequence o os a b awaited added = record {
  known = known_stay a b os added.listed awaited.known.1;
  entries = λ f. let e : entries_for f (o ∷ os) ≡ entries_for f (o ∷ []) + entries_for f os = entries-append f (o ∷ []) os in omega (arith, e, awaited.entries f, (added.families f).entries);
  bytes = λ f. let e : bytes_for f (o ∷ os) ≡ bytes_for f (o ∷ []) + bytes_for f os = bytes-append f (o ∷ []) os in omega (arith, e, awaited.bytes f, (added.families f).bytes);
}

-- ---- the operation at a place

pub next_of : (os : List Operation) (i : ℕ) (o : Operation) → i < length os → o ≡ get_or os i o → drop i os ≡ o ∷ drop (i + 1) os
next_of os i o lt is = rw (add-one, drop-cons os i o lt) (ap (λ (p : Operation). p ∷ drop (suc i) os) (sym is))

pub front_more : (os : List Operation) (i : ℕ) (o : Operation) → i < length os → o ≡ get_or os i o → take (i + 1) os ≡ take i os ++ (o ∷ [])
front_more os i o lt is = grind (arith, common_steps)
