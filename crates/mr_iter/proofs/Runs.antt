-- A run of calls on one cursor: x is the cursor at the start, y the one now, z the one after the next call.
use Rattle.std.proofs.Common.{◌≡◌, ℕ, IsTrue, Bool, Option, sym, subst, List}
use Rattle.mr_base.specs.Disk.{State, Tells, Image, seen}
use Rattle.mr_base.specs.Calls.{Same}
use Rattle.mr_iter.specs.Cursors.{CursorState}
use Rattle.mr_iter.specs.Snapshots.{Passes}
use Rattle.mr_iter.specs.Walks.{image_same}

module _ {K : Type 0} (whole : K → Image → Type 0) (start mid new : State) (x y z : K) (tells : mid.tells ≡ start.tells) (same : Tells start → Same start mid) (stays : Tells start → whole x (seen start) → whole y (seen start)) where
  pub told_on : Tells start → Tells mid
  told_on told = subst (λ b. IsTrue b) (sym tells) told

  pub whole_now : Tells start → whole x (seen start) → whole y (seen mid)
  whole_now told is = subst (whole y) (sym (image_same start mid (same told))) (stays told is)

  pub run_stays : (Tells mid → whole y (seen mid) → whole z (seen mid)) → Tells start → whole x (seen start) → whole z (seen start)
  run_stays next told is = subst (whole z) (image_same start mid (same told)) (next (told_on told) (whole_now told is))

  -- a step over versions, said of the files as they were at the start
  pub run_passes : (number : ℕ) (here : Bool) (skip skip' : Option (List ℕ)) (old now : CursorState) → (Tells mid → whole y (seen mid) → Passes number here skip skip' old now (seen mid)) → Tells start → whole x (seen start) → Passes number here skip skip' old now (seen start)
  run_passes number here skip skip' old now passes told is = subst (Passes number here skip skip' old now) (image_same start mid (same told)) (passes (told_on told) (whole_now told is))

  -- what holds of the files now holds of them as they were
  pub run_image : (P : Image → Type 0) → (Tells mid → whole y (seen mid) → P (seen mid)) → Tells start → whole x (seen start) → P (seen start)
  run_image P now told is = subst P (image_same start mid (same told)) (now (told_on told) (whole_now told is))

  -- and it stays steady
  pub run_steady : (steady : K → Image → Type 0) → (Tells mid → whole y (seen mid) → steady y (seen mid) → steady z (seen mid)) → Tells start → whole x (seen start) → steady y (seen start) → steady z (seen start)
  run_steady steady next told is stands = subst (steady z) (image_same start mid (same told)) (next (told_on told) (whole_now told is) (subst (steady y) (sym (image_same start mid (same told))) stands))
