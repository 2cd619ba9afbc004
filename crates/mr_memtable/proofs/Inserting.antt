-- A version more.
use Rattle.std.proofs.Common.{◌≡◌, ℕ, ◌+◌, List, [], ◌∷◌, ◌++◌, length, sym, ◌∙◌, ap, subst, Option, None}
use Rattle.std.specs.List.{AllByRecursion, insert}
use Rattle.std.proofs.lemmas.List.Edits.{length-insert}
use Rattle.mr_base.specs.declared.stop.Direction.{Direction}
use Rattle.mr_iter.specs.Versions.{Version, as_version, version_cmp, IsInOrder, place_in}
use Rattle.mr_iter.specs.Order.{version_total, each-append, IsInOrder-place_in}
use Rattle.mr_memtable.specs.declared.piece.Piece.{Piece}
use Rattle.mr_memtable.specs.declared.slot.Slot.{Slot}
use Rattle.mr_memtable.specs.declared.chunk.Chunk.{Chunk}
use Rattle.mr_memtable.specs.Slots.{version_at, versions_at, Fits, GoOn, IsPlace}
use Rattle.mr_memtable.specs.Chunks.{listed, sizes, sum_of, AllFit}
use Rattle.mr_memtable.specs.Tables.{versions_in}
use Rattle.mr_memtable.proofs.Ordered.{versions_on, versions_insert, all_fit_on, all_fit_insert, insert_place}
use Rattle.mr_memtable.proofs.Places.{length-listed}

pub fit_listed : (pieces : List Piece) (cs : List Chunk) → AllFit pieces cs → AllByRecursion (Fits pieces) (listed cs)
fit_listed pieces [] all = tt
fit_listed pieces (c ∷ cs) all = each-append (Fits pieces) c.slots.items (listed cs) all.0 (fit_listed pieces cs all.1)

halves : (pieces : List Piece) (ss ts : List Slot) → AllByRecursion (Fits pieces) (ss ++ ts) → AllByRecursion (Fits pieces) ss × AllByRecursion (Fits pieces) ts
halves pieces [] ts all = (tt, all)
halves pieces (s ∷ ss) ts all = let both = halves pieces ss ts all.1 in ((all.0, both.0), both.1)

listed_fit : (pieces : List Piece) (cs : List Chunk) → AllByRecursion (Fits pieces) (listed cs) → AllFit pieces cs
listed_fit pieces [] all = tt
listed_fit pieces (c ∷ cs) all = let both = halves pieces c.slots.items (listed cs) all in (both.0, listed_fit pieces cs both.1)

module _ (d : Direction) (pieces new : List Piece) (cs ds : List Chunk) (key : List ℕ) (sequence n : ℕ) (put : Option (List ℕ)) (s : Slot) (on : GoOn pieces new) (fit : AllFit pieces cs) (ordered : IsInOrder (version_cmp d) (versions_in pieces cs))
    (place : IsPlace d pieces (as_version key sequence None) (listed cs) n) (fits : Fits new s) (version : version_at new s ≡ as_version key sequence put) (list : listed ds ≡ insert (listed cs) n s) where
  x : Version
  x = as_version key sequence put

  pub inserted : versions_in new ds ≡ place_in (version_cmp d) (as_version key sequence put) (versions_in pieces cs)
  inserted =
      ap (versions_at new) list
      ∙ versions_insert new (listed cs) n s place.within
      ∙ ap (λ (v : Version). insert (versions_at new (listed cs)) n v) version
      ∙ ap (λ (vs : List Version). insert vs n (as_version key sequence put)) (versions_on pieces new (listed cs) on (fit_listed pieces cs fit))
      ∙ insert_place d pieces (as_version key sequence put) (listed cs) n ordered (record { within = place.within; before = place.before; behind = place.behind })

  pub still_ordered : IsInOrder (version_cmp d) (versions_in new ds)
  still_ordered = subst (IsInOrder (version_cmp d)) (sym inserted) (IsInOrder-place_in (version_cmp d) (version_total d) (as_version key sequence put) (versions_in pieces cs) ordered)

  pub still_fit : AllFit new ds
  still_fit = listed_fit new ds (subst (AllByRecursion (Fits new)) (sym list) (all_fit_insert new (listed cs) n s place.within (all_fit_on pieces new (listed cs) on (fit_listed pieces cs fit)) fits))

  pub one_more : sum_of (sizes ds) ≡ sum_of (sizes cs) + 1
  one_more = sym (length-listed ds) ∙ ap length list ∙ length-insert (listed cs) n s place.within ∙ ap (λ m. m + 1) (length-listed cs)

-- pieces that went on under the same slots
module _ (d : Direction) (pieces new : List Piece) (cs : List Chunk) (on : GoOn pieces new) (fit : AllFit pieces cs) where
  pub same_versions : versions_in new cs ≡ versions_in pieces cs
  same_versions = versions_on pieces new (listed cs) on (fit_listed pieces cs fit)

  pub same_order : IsInOrder (version_cmp d) (versions_in pieces cs) → IsInOrder (version_cmp d) (versions_in new cs)
  same_order ordered = subst (IsInOrder (version_cmp d)) (sym same_versions) ordered

  pub same_fit : AllFit new cs
  same_fit = listed_fit new cs (all_fit_on pieces new (listed cs) on (fit_listed pieces cs fit))
