-- What stands beside a family stays true of it.
use Rattle.std.proofs.Common.{◌≡◌, ◌==◌, ◌&&◌, ℕ, zero, suc, ◌+◌, ◌<◌, ◌≤◌, Bool, true, false, not, cond, List, [], ◌∷◌, length, drop, length-append, get_or, add-one, refl, sym, ◌∙◌, ap, subst, arith}
use Rattle.std.specs.declared.cmp.Ordering.{Ordering}
use Rattle.std.specs.Ordering.{is_gt}
use Rattle.std.proofs.lemmas.Bool.Decides.{nat_tests}
use Rattle.std.proofs.lemmas.List.{get_or_read}
use Rattle.mr_base.specs.Disk.{State}
use Rattle.mr_base.specs.declared.stop.Direction.{Direction}
use Rattle.mr_iter.specs.declared.run.RunInfo.{RunInfo}
use Rattle.mr_iter.specs.Versions.{place_in, joined}
use Rattle.mr_run_open.specs.Runs.{RunState}
use Rattle.mr_levels.specs.Levels.{LevelsState, runs, changed_at, with_run, newer_first, by_last_key}
use Rattle.mr_levels.specs.Opened.{IsOpened}
use Rattle.mr_family.specs.Family.{FamilyState}
use Rattle.mr_families.specs.declared.numbered.Numbered.{Numbered}
use Rattle.mr_families.specs.Known.{has_versions, has_runs, is_empty, are_out_of_memory, one_at, no_one, AreKept}

one_more : {X : Type 0} (cmp : X → X → Ordering) (x : X) (xs : List X) → length (place_in cmp x xs) ≡ length xs + 1
one_more cmp x [] = refl
one_more cmp x (y ∷ ys) = elim (is_gt (cmp x y)) as (λ b. length (cond b (y ∷ place_in cmp x ys) (x ∷ y ∷ ys)) ≡ length (y ∷ ys) + 1) [
  | true ↦ omega (arith, one_more cmp x ys)
  | false ↦ omega arith
]

pub some_placed : {X : Type 0} (cmp : X → X → Ordering) (x : X) (xs : List X) → not (length (place_in cmp x xs) == 0) ≡ true
some_placed cmp x xs = let n : length (place_in cmp x xs) ≡ length xs + 1 = one_more cmp x xs in grind (arith, nat_tests)

as_many : (i : ℕ) (f : List RunState → List RunState) (rss : List (List RunState)) → length (changed_at i f rss) ≡ length rss
as_many i f [] = refl
as_many zero f (rs ∷ rss) = refl
as_many (suc i) f (rs ∷ rss) = ap suc (as_many i f rss)

pub levels_stay : (level : ℕ) (r : RunState) (s : LevelsState) → length (with_run level r s).deeper ≡ length s.deeper
levels_stay zero r s = refl
levels_stay (suc level) r s = as_many level (place_in (by_last_key s.direction) r) s.deeper

some_below : (d : Direction) (r : RunState) (i : ℕ) (rss : List (List RunState)) → i < length rss → 0 < length (joined (changed_at i (place_in (by_last_key d) r) rss))
some_below d r i [] lt = absurd (omega (arith, lt))
some_below d r zero (rs ∷ rss) lt = omega (arith, one_more (by_last_key d) r rs, length-append (place_in (by_last_key d) r rs) (joined rss))
some_below d r (suc i) (rs ∷ rss) lt = omega (arith, some_below d r i rss (omega (arith, lt)), length-append rs (joined (changed_at i (place_in (by_last_key d) r) rss)))

some_run : (level : ℕ) (r : RunState) (s : LevelsState) → level ≤ length s.deeper → 0 < length (runs (with_run level r s))
some_run zero r s le = omega (arith, one_more newer_first r s.newest, length-append (place_in newer_first r s.newest) (joined s.deeper))
some_run (suc level) r s le = omega (arith, some_below s.direction r level s.deeper (omega (arith, le)), length-append s.newest (joined (changed_at level (place_in (by_last_key s.direction) r) s.deeper)))

and_not : (a b : Bool) → b ≡ true → (a && not b) ≡ false
and_not true b is = rw is refl
and_not false b is = refl

-- a family to which a run was added isn't empty, and has as many levels
pub not_empty_opened : (level : ℕ) (info : RunInfo) (disk : State) (old new : FamilyState) → level ≤ 4 → length old.levels.deeper ≡ 4 → IsOpened level info disk old.levels new.levels → false ≡ is_empty new
not_empty_opened level info disk old new le four is =
    let n : 0 < length (runs new.levels) = subst (λ (s : LevelsState). 0 < length (runs s)) (sym is.added) (some_run level _ old.levels (omega (arith, le, four))) in
    let some : has_runs new ≡ true = grind (arith, nat_tests, n) in
    sym (and_not (not (has_versions new)) (has_runs new) some)

pub four_opened : (level : ℕ) (info : RunInfo) (disk : State) (old new : FamilyState) → length old.levels.deeper ≡ 4 → IsOpened level info disk old.levels new.levels → length new.levels.deeper ≡ 4
four_opened level info disk old new four is = ap (λ (s : LevelsState). length s.deeper) is.added ∙ levels_stay level _ old.levels ∙ four

-- ---- from a place on

out_from : (ns : List Numbered) (i : ℕ) → i < length ns → are_out_of_memory (drop i ns) ≡ (not (has_versions (one_at ns i).family) && are_out_of_memory (drop (suc i) ns))
out_from [] i lt = absurd (omega (arith, lt))
out_from (n ∷ ns) zero lt = refl
out_from (n ∷ ns) (suc i) lt = out_from ns i (omega (arith, lt))

-- the flag of what was read at a place
flag_at : (ns : List Numbered) (i : ℕ) (n : Numbered) → i < length ns → n ≡ get_or ns i n → AreKept ns → has_versions (one_at ns i).family ≡ (get_or ns i n).in_memory
flag_at ns i n lt is kept = sym (kept.told i lt).in_memory ∙ ap (λ (m : Numbered). m.in_memory) (sym (get_or_read ns i n lt is no_one) ∙ is)

pub some_from : (ns : List Numbered) (i : ℕ) (n : Numbered) → i < length ns → n ≡ get_or ns i n → AreKept ns → (get_or ns i n).in_memory ≡ true → are_out_of_memory (drop i ns) ≡ false
some_from ns i n lt is kept flag =
    let has : has_versions (one_at ns i).family ≡ true = flag_at ns i n lt is kept ∙ flag in
    out_from ns i lt ∙ ap (λ (b : Bool). not b && are_out_of_memory (drop (suc i) ns)) has

pub none_from : (ns : List Numbered) (i : ℕ) (n : Numbered) → i < length ns → n ≡ get_or ns i n → AreKept ns → (get_or ns i n).in_memory ≡ false → are_out_of_memory (drop i ns) ≡ are_out_of_memory (drop (i + 1) ns)
none_from ns i n lt is kept flag =
    let has : has_versions (one_at ns i).family ≡ false = flag_at ns i n lt is kept ∙ flag in
    out_from ns i lt ∙ ap (λ (b : Bool). not b && are_out_of_memory (drop (suc i) ns)) has ∙ ap (λ (k : ℕ). are_out_of_memory (drop k ns)) (sym (add-one i))
