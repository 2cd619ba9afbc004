-- A file is a run of one list at the most.
use Rattle.std.proofs.Common.{◌≡◌, ℕ, ◌+◌, ◌*◌, ◌-◌, List, length, cond, nat_eq, nat_le, refl, sym, ◌∙◌, ap, subst, inl, inr, Result, Ok, Err}
use Rattle.std.proofs.lemmas.Bool.{cases_eq, ne_eqb}
use Rattle.mr_base.specs.declared.stop.Direction.{Direction}
use Rattle.mr_iter.specs.Versions.{Version, version_cmp, IsInOrder}
use Rattle.mr_block.specs.Fields.{◌>>=◌}
use Rattle.mr_run_file.specs.Reading.{demand, footer_in, footer_at, footer_number, key_demand, structure_in, all_versions_in, ends_in, last_size, run_in, IsRunFile, IsRun, Index}
use Rattle.mr_run_file.specs.Format.{last_key}

-- the answer of a first step, where the next one is Ok
pub record Bound {X Y : Type 0} (r : Result X ℕ) (f : X → Result Y ℕ) (y : Y) : Type 0 where
  pub x : X
  pub now : r ≡ Ok x
  pub next : f x ≡ Ok y

pub bound : {X Y : Type 0} → (r : Result X ℕ) (f : X → Result Y ℕ) (y : Y) → (r >>= f) ≡ Ok y → Bound r f y
bound (Ok x) f y is = record { x = x; now = refl; next = is }
bound (Err at) f y is = cc

pub ok_same : {A : Type 0} (r : Result A ℕ) (x y : A) → r ≡ Ok x → r ≡ Ok y → x ≡ y
ok_same r x y e f = cc

held : (m n at : ℕ) (u : Unit {0}) → demand (nat_eq m n) at ≡ Ok u → m ≡ n
held m n at u is = elim (cases_eq m n) [
  | inl same ↦ same
  | inr other ↦ let no : Err at ≡ Ok u = sym (ap (λ t. cond t (Ok tt) (Err at)) (ne_eqb m n other)) ∙ is in cc
]

entries_held : (entries : ℕ) (file : List ℕ) (u : Unit {0}) → footer_in entries file ≡ Ok u → footer_number 3 file ≡ entries
entries_held entries file u is =
    let whole = bound (demand (nat_le 40 (length file)) 0) _ u is in
    let place = bound (demand (nat_le (footer_number 0 file) (footer_at file)) (footer_at file)) _ u whole.next in
    let size = bound (demand (nat_eq (footer_number 0 file + footer_number 1 file) (footer_at file)) (footer_at file + 8)) _ u place.next in
    let blocks = bound (demand (nat_le 1 (footer_number 2 file)) (footer_at file + 16)) _ u size.next in
    let count = bound (demand (nat_eq (footer_number 3 file) entries) (footer_at file + 24)) _ u blocks.next in
    held (footer_number 3 file) entries (footer_at file + 24) count.x count.now

structure_held : (entries : ℕ) (file : List ℕ) (index : Index) → structure_in entries file ≡ Ok index → footer_number 3 file ≡ entries
structure_held entries file index is = let footer = bound (footer_in entries file) _ index is in entries_held entries file footer.x footer.now

number_held : (entries : ℕ) (file : List ℕ) (vs : List Version) → IsRunFile entries file vs → footer_number 3 file ≡ entries
number_held entries file vs is = let index = bound (structure_in entries file) _ vs is in structure_held entries file index.x index.now

pub one_list : (entries others : ℕ) (file : List ℕ) (vs ws : List Version) → IsRunFile entries file vs → IsRunFile others file ws → (entries ≡ others) × (vs ≡ ws)
one_list entries others file vs ws is also =
    let same : entries ≡ others = sym (number_held entries file vs is) ∙ number_held others file ws also in
    (same, ok_same (run_in others file) vs ws (subst (λ (n : ℕ). run_in n file ≡ Ok vs) same is) also)

ends_counted : (entries : ℕ) (file last : List ℕ) (all vs : List Version) → ends_in entries file last all ≡ Ok vs → length vs ≡ entries
ends_counted entries file last all vs is =
    let same = bound (key_demand last (last_key all) (footer_number 0 file - last_size all)) _ vs is in
    let count = bound (demand (nat_eq (length all) entries) (footer_at file + 24)) _ vs same.next in
    let these : all ≡ vs = ok_same (Ok all) all vs refl count.next in
    ap length (sym these) ∙ held (length all) entries (footer_at file + 24) count.x count.now

pub counted : (entries : ℕ) (file : List ℕ) (vs : List Version) → IsRunFile entries file vs → length vs ≡ entries
counted entries file vs is =
    let index = bound (structure_in entries file) _ vs is in
    let all = bound (all_versions_in file index.x.blocks) _ vs index.next in
    ends_counted entries file index.x.last all.x vs all.next

pub one_ordered : (direction : Direction) (entries others : ℕ) (file : List ℕ) (vs ws : List Version) → IsRun direction entries file vs → IsRun direction others file ws → (entries ≡ others) × (vs ≡ ws)
one_ordered direction entries others file vs ws is also = one_list entries others file vs ws is.0 also.0

pub counted_ordered : (direction : Direction) (entries : ℕ) (file : List ℕ) (vs : List Version) → IsRun direction entries file vs → length vs ≡ entries
counted_ordered direction entries file vs is = counted entries file vs is.0

pub ordered : (direction : Direction) (entries : ℕ) (file : List ℕ) (vs : List Version) → IsRun direction entries file vs → IsInOrder (version_cmp direction) vs
ordered direction entries file vs is = is.1
