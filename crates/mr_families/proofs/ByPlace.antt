-- What a call of the family at a place says of the families, and what a look-up reads.
use Rattle.std.proofs.Common.{◌≡◌, ◌==◌, ℕ, ◌+◌, ◌≤◌, Bool, true, false, cond, List, [], ◌∷◌, ◌++◌, length, length-append, length-take, drop, filter, set, get_or, map, Err, sym, ◌∙◌, ap, subst, inl, inr, arith}
use Rattle.std.specs.List.{AllByRecursion, prefix_len}
use Rattle.mr_base.specs.Disk.{Image}
use Rattle.mr_base.specs.declared.stop.Direction.{Direction}
use Rattle.mr_iter.specs.Children.{AnyOf}
use Rattle.mr_run_file.specs.Reading.{Indexed, versions_at}
use Rattle.mr_run_open.specs.Runs.{RunState, no_block}
use Rattle.mr_run_get.specs.Get.{IsOffenceIn}
use Rattle.mr_levels.specs.Levels.{LevelsState, runs, files}
use Rattle.mr_levels.specs.Looks.{ends_before, can_hold, part_of, parts_of, looked, touched, HasKeyOffence}
use Rattle.mr_levels.proofs.Skipping.{each_looked}
use Rattle.mr_family.specs.Family.{FamilyState, reads_of}
use Rattle.mr_families.specs.declared.numbered.Numbered.{Numbered}
use Rattle.mr_families.specs.Known.{family_at, one_at, AreAscending, IsAt}
use Rattle.mr_families.specs.Changed.{OnlyAt}
use Rattle.mr_families.proofs.Numbering.{number_at, at_place, numbers-set, others-set, own-at}

-- ---- the family at a place

pub both_at : (P : FamilyState → FamilyState → Type 0) (ns : List Numbered) (k i : ℕ) (x m : Numbered) → AreAscending ns → IsAt ns k i → x ≡ one_at ns i → m.number ≡ x.number → P x.family m.family → P (family_at ns k) (family_at (set ns i m) k)
both_at P ns k i x m rising here read number holds =
    let before : family_at ns k ≡ x.family = at_place ns k i rising here ∙ ap (λ (y : Numbered). y.family) (sym read) in
    let same : m.number ≡ k = number ∙ ap (λ (y : Numbered). y.number) read ∙ here.has_number in
    let after : family_at (set ns i m) k ≡ m.family = own-at ns k i m rising here same in
    subst (λ (f : FamilyState). P f (family_at (set ns i m) k)) (sym before) (subst (λ (f : FamilyState). P x.family f) (sym after) holds)

pub old_at : (P : FamilyState → Type 0) (ns : List Numbered) (k i : ℕ) (x : Numbered) → AreAscending ns → IsAt ns k i → x ≡ one_at ns i → P x.family → P (family_at ns k)
old_at P ns k i x rising here read holds = subst P (ap (λ (y : Numbered). y.family) read ∙ sym (at_place ns k i rising here)) holds

pub only_at : (ns : List Numbered) (k i : ℕ) (x m : Numbered) → IsAt ns k i → x ≡ one_at ns i → m.number ≡ x.number → OnlyAt k ns (set ns i m)
only_at ns k i x m here read number = record {
  listed = numbers-set ns i m same;
  others = λ f other. others-set ns i m f same (subst (λ (n : ℕ). (n == f) ≡ false) (sym (same ∙ here.has_number)) other);
}
  where
    same : m.number ≡ number_at ns i
    same = number ∙ ap (λ (y : Numbered). y.number) read

-- ---- how much it reads

few_filtered : {X : Type 0} (p : X → Bool) (xs : List X) → length (filter p xs) ≤ length xs
few_filtered p [] = omega arith
few_filtered p (x ∷ xs) = elim (p x) as (λ b. length (cond b (x ∷ filter p xs) (filter p xs)) ≤ length (x ∷ xs)) [
  | true ↦ omega (arith, few_filtered p xs)
  | false ↦ omega (arith, few_filtered p xs)
]

one_part : (d : Direction) (key : List ℕ) (rs : List RunState) → length (part_of d key rs) ≤ 1
one_part d key rs = omega (arith, length-take 1 (drop (prefix_len (ends_before d key) rs) rs))

one_a_level : (d : Direction) (key : List ℕ) (rss : List (List RunState)) → length (parts_of d key rss) ≤ length rss
one_a_level d key [] = omega arith
one_a_level d key (rs ∷ rss) = omega (arith, one_part d key rs, one_a_level d key rss, length-append (part_of d key rs) (parts_of d key rss))

pub few_read : (key : List ℕ) (f : FamilyState) → length f.levels.deeper ≡ 4 → reads_of key f ≤ length f.levels.newest + 4
few_read key f four =
    let s = f.levels in
    omega (arith, four, few_filtered (can_hold s.direction key) (s.newest ++ parts_of s.direction key s.deeper), length-append s.newest (parts_of s.direction key s.deeper), one_a_level s.direction key s.deeper)

-- ---- what it may meet

offends_alike : (blocks : RunState → List Indexed) (rs : List RunState) (i j : Image) (file at : ℕ) → AllByRecursion (λ (r : RunState). i r.file ≡ j r.file) rs → AnyOf (λ (r : RunState). IsOffenceIn r (blocks r) i file at) rs → AnyOf (λ (r : RunState). IsOffenceIn r (blocks r) j file at) rs
offends_alike blocks [] i j file at same any = any
offends_alike blocks (r ∷ rs) i j file at same (inl here) = inl (here.0, λ gapless. let o = here.1 gapless in (o.0, o.1, subst (λ (bytes : List ℕ). versions_at bytes (get_or (blocks r) o.0 no_block) ≡ Err at) (ap i here.0 ∙ same.0 ∙ sym (ap j here.0)) o.2))
offends_alike blocks (r ∷ rs) i j file at same (inr later) = inr (offends_alike blocks rs i j file at same.1 later)

each_file : (rs : List RunState) (i j : Image) → AllByRecursion (λ file. i file ≡ j file) (map (λ (r : RunState). r.file) rs) → AllByRecursion (λ (r : RunState). i r.file ≡ j r.file) rs
each_file [] i j same = tt
each_file (r ∷ rs) i j same = (same.0, each_file rs i j same.1)

pub key_offends_by : (s : LevelsState) (key : List ℕ) (i j : Image) (file at : ℕ) → AllByRecursion (λ f. i f ≡ j f) (files s) → HasKeyOffence key (looked key s) i file at → HasKeyOffence key (looked key s) j file at
key_offends_by s key i j file at same any =
    offends_alike (touched key) (looked key s) i j file at (each_looked (λ (r : RunState). i r.file ≡ j r.file) s.direction key s.newest s.deeper (each_file (runs s) i j same)) any
