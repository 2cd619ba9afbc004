-- Batches over lists of versions.
use Rattle.std.proofs.Common.{◌≡◌, ◌==◌, ℕ, false, List, [], ◌∷◌, ◌++◌, refl, ◌∙◌, ap, inl, inr}
use Rattle.std.specs.List.{AllByRecursion}
use Rattle.std.proofs.lemmas.Bool.{cases_Bool}
use Rattle.mr_base.specs.Disk.{Image}
use Rattle.mr_base.specs.declared.stop.Direction.{Direction}
use Rattle.mr_wal.specs.declared.operation.Operation.{Operation}
use Rattle.mr_iter.specs.Versions.{Version, version_cmp, place_in, merged, joined, IsInOrder}
use Rattle.mr_iter.specs.Order.{IsInOrder-place_in, IsInOrder-in_order, version_total}
use Rattle.mr_levels.specs.Levels.{run_lists, runs as runs_by_level}
use Rattle.mr_manifest.specs.declared.live.LiveRun.{LiveRun}
use Rattle.mr_engine_log.specs.declared.batched.Batched.{Batched}
use Rattle.mr_families.specs.Batches.{with_operations, version_of}
use Rattle.mr_stored.specs.Lists.{with_batches, list_of, levels_of}

pub with_batches-append : (d : Direction) (family : ℕ) (bs cs : List Batched) (vs : List Version) → with_batches d family (bs ++ cs) vs ≡ with_batches d family cs (with_batches d family bs vs)
with_batches-append d family [] cs vs = refl
with_batches-append d family (b ∷ bs) cs vs = with_batches-append d family bs cs (with_operations d family b.sequence b.operations vs)

-- ---- order

pub operations_in_order : (d : Direction) (family sequence : ℕ) (os : List Operation) (vs : List Version) → IsInOrder (version_cmp d) vs → IsInOrder (version_cmp d) (with_operations d family sequence os vs)
operations_in_order d family sequence [] vs order = order
operations_in_order d family sequence (o ∷ os) vs order = elim (cases_Bool (o.family == family)) [
  | inl own ↦ rw own (operations_in_order d family sequence os (place_in (version_cmp d) (version_of sequence o) vs) (IsInOrder-place_in (version_cmp d) (version_total d) (version_of sequence o) vs order))
  | inr other ↦ rw other (operations_in_order d family sequence os vs order)
]

pub batches_in_order : (d : Direction) (family : ℕ) (bs : List Batched) (vs : List Version) → IsInOrder (version_cmp d) vs → IsInOrder (version_cmp d) (with_batches d family bs vs)
batches_in_order d family [] vs order = order
batches_in_order d family (b ∷ bs) vs order = batches_in_order d family bs (with_operations d family b.sequence b.operations vs) (operations_in_order d family b.sequence b.operations vs order)

pub list_in_order : (d : Direction) (family : ℕ) (image : Image) (runs : List LiveRun) (bs : List Batched) → IsInOrder (version_cmp d) (list_of d family image runs bs)
list_in_order d family image runs bs = batches_in_order d family bs (merged (version_cmp d) (run_lists (runs_by_level (levels_of d family image runs)) image)) (IsInOrder-in_order (version_cmp d) (version_total d) (joined (run_lists (runs_by_level (levels_of d family image runs)) image)))

-- one batch more
pub list_with_batch : (d : Direction) (family : ℕ) (image : Image) (runs : List LiveRun) (bs : List Batched) (b : Batched) → list_of d family image runs (bs ++ b ∷ []) ≡ with_operations d family b.sequence b.operations (list_of d family image runs bs)
list_with_batch d family image runs bs b = with_batches-append d family bs (b ∷ []) (merged (version_cmp d) (run_lists (runs_by_level (levels_of d family image runs)) image))

-- ---- batches into the first of many lists

module _ (first : (d : Direction) (v : Version) (vs : List Version) (more : List (List Version)) → merged (version_cmp d) (place_in (version_cmp d) v vs ∷ more) ≡ place_in (version_cmp d) v (merged (version_cmp d) (vs ∷ more))) where
  pub operations_first : (d : Direction) (family sequence : ℕ) (os : List Operation) (vs : List Version) (more : List (List Version)) → merged (version_cmp d) (with_operations d family sequence os vs ∷ more) ≡ with_operations d family sequence os (merged (version_cmp d) (vs ∷ more))
  operations_first d family sequence [] vs more = refl
  operations_first d family sequence (o ∷ os) vs more = elim (cases_Bool (o.family == family)) [
    | inl own ↦ rw own (operations_first d family sequence os (place_in (version_cmp d) (version_of sequence o) vs) more ∙ ap (with_operations d family sequence os) (first d (version_of sequence o) vs more))
    | inr other ↦ rw other (operations_first d family sequence os vs more)
  ]

  pub batches_first : (d : Direction) (family : ℕ) (bs : List Batched) (vs : List Version) (more : List (List Version)) → merged (version_cmp d) (with_batches d family bs vs ∷ more) ≡ with_batches d family bs (merged (version_cmp d) (vs ∷ more))
  batches_first d family [] vs more = refl
  batches_first d family (b ∷ bs) vs more =
      batches_first d family bs (with_operations d family b.sequence b.operations vs) more
      ∙ ap (with_batches d family bs) (operations_first d family b.sequence b.operations vs more)

-- ---- families that nothing is of

abbrev pub none_of : ℕ → List Operation → Type 0
none_of family os = AllByRecursion (λ (o : Operation). (o.family == family) ≡ false) os

pub operations_of_none : (d : Direction) (family sequence : ℕ) (os : List Operation) (vs : List Version) → none_of family os → with_operations d family sequence os vs ≡ vs
operations_of_none d family sequence [] vs none = refl
operations_of_none d family sequence (o ∷ os) vs none = rw none.0 (operations_of_none d family sequence os vs none.1)

pub batches_of_none : (d : Direction) (family : ℕ) (bs : List Batched) (vs : List Version) → AllByRecursion (λ (b : Batched). none_of family b.operations) bs → with_batches d family bs vs ≡ vs
batches_of_none d family [] vs none = refl
batches_of_none d family (b ∷ bs) vs none =
    ap (with_batches d family bs) (operations_of_none d family b.sequence b.operations vs none.0)
    ∙ batches_of_none d family bs vs none.1
