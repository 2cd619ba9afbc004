-- What one call on a child says of all.
use Rattle.std.proofs.Common.{◌≡◌, ℕ, ◌+◌, ◌<◌, ◌≤◌, IsTrue, List, length, get_or, set, take, sym, ◌∙◌, subst, arith}
use Rattle.mr_base.specs.Disk.{State, Tells, Image, seen}
use Rattle.mr_base.specs.Calls.{Counts, Same}
use Rattle.mr_base.proofs.Moments.{same_then}
use Rattle.mr_base.specs.declared.stop.Stop.{Stop}
use Rattle.mr_base.specs.declared.stop.Stop.TheVariants.{Memory, Disk, Full, Damaged}
use Rattle.mr_iter.specs.Versions.{from_key}
use Rattle.mr_iter.specs.Cursors.{CursorState, SameList, left, MayStop}
use Rattle.mr_iter.specs.Walks.{image_same, same_list}
use Rattle.mr_iter.specs.Children.{Zipped, total, KeepsChild, FoundChild}
use Rattle.mr_iter.proofs.Steps.{DoneTo, counts-then, counts-within, sum-take_more, sum-take, done-set}

-- a stop of a later call, as one since the start
pub stop_since : (start mid new : State) → mid.tells ≡ start.tells → (Tells start → Same start mid) → start.faults ≤ mid.faults → (there all : Image → ℕ → ℕ → Type 0) → ((image : Image) (file at : ℕ) → there image file at → all image file at) →
    (stop : Stop) → MayStop there mid new stop → MayStop all start new stop
stop_since start mid new tells same later there all so Memory may = may
stop_since start mid new tells same later there all so Disk may = omega arith
stop_since start mid new tells same later there all so (Full what at limit) may = may
stop_since start mid new tells same later there all so (Damaged file at) may = record {
  image = may.image;
  told = λ told. may.told (subst (λ b. IsTrue b) (sym tells) told) ∙ image_same start mid (same told);
  offence = so may.image file at may.offence;
}

module _ {K : Type 0} (f : K → CursorState) (whole : K → Image → Type 0) (start mid new : State) (tells : mid.tells ≡ start.tells) (same : Tells start → Same start mid) where
  tells_on : Tells start → Tells mid
  tells_on told = subst (λ b. IsTrue b) (sym tells) told

  pub child_keeps : (x y : K) → SameList (f x) (f y) → (Tells mid → whole x (seen mid) → whole y (seen mid)) → KeepsChild f whole (seen start) (Tells start) x y
  child_keeps x y list stays = record {
    list = list;
    stays_whole = λ told is. subst (whole y) (image_same start mid (same told)) (stays (tells_on told) (subst (whole x) (sym (image_same start mid (same told))) is));
  }

  pub child_found : (steady : K → Image → Type 0) (key : List ℕ) (x y : K) → IsTrue ((f y).sought key) → (Tells mid → whole x (seen mid) → steady y (seen mid)) → (Tells mid → whole x (seen mid) → left (f y) (seen mid) ≡ from_key (f x).direction key ((f x).versions (seen mid))) → FoundChild f whole steady (seen start) (Tells start) key x y
  child_found steady key x y sought stands found = record {
    found = λ told is. subst (λ (image : Image). left (f y) image ≡ from_key (f x).direction key ((f x).versions image)) (image_same start mid (same told))
        (found (tells_on told) (subst (whole x) (sym (image_same start mid (same told))) is));
    sought = sought;
    stands = λ told is. subst (steady y) (image_same start mid (same told)) (stands (tells_on told) (subst (whole x) (sym (image_same start mid (same told))) is));
  }

  pub same_on : (Tells mid → Same mid new) → Tells start → Same start new
  same_on then told = same_then start mid new (same told) (then (tells_on told))

abbrev pub SoughtOne : {K : Type 0} → (K → CursorState) → (K → Image → Type 0) → (K → Image → Type 0) → List ℕ → State → K → K → Type 0
SoughtOne f whole steady key start v w = KeepsChild f whole (seen start) (Tells start) v w × FoundChild f whole steady (seen start) (Tells start) key v w

pub kept_still : {K : Type 0} (f : K → CursorState) (whole : K → Image → Type 0) (start : State) (z : K) → KeepsChild f whole (seen start) (Tells start) z z
kept_still f whole start z = record { list = same_list (f z); stays_whole = λ told is. is }

-- A run of seeks over xs, of which n are done and gave ys; x is the next one, and y what its seek gave.
module _ {K : Type 0} (f : K → CursorState) (whole steady : K → Image → Type 0) (key : List ℕ) (start mid new : State) (xs ys : List K) (n : ℕ) (x y : K) where
  abbrev pub Sought : ℕ → List K → Type 0
  Sought m zs = DoneTo (SoughtOne f whole steady key start) m xs zs

  abbrev pub SoughtCounts : ℕ → List K → State → Type 0
  SoughtCounts m zs now = Counts (total (λ c. (f c).reads) (take m zs)) (total (λ c. (f c).asked) (take m zs)) 0 start now

  pub seek_counts : n < length ys → SoughtCounts n ys mid → Counts (f y).reads (f y).asked 0 mid new → SoughtCounts (n + 1) (set ys n y) new
  seek_counts lt so_far counts = rw (sum-take_more (λ c. (f c).reads) n ys y lt, sum-take_more (λ c. (f c).asked) n ys y lt) (counts-then _ _ _ _ start mid new so_far counts)

  pub all_counts : n < length ys → SoughtCounts n ys mid → Counts (f y).reads (f y).asked 0 mid new → Counts (total (λ c. (f c).reads) (set ys n y)) (total (λ c. (f c).asked) (set ys n y)) 0 start new
  all_counts lt so_far counts = counts-within _ _ _ _ start new (sum-take (λ c. (f c).reads) (n + 1) (set ys n y)) (sum-take (λ c. (f c).asked) (n + 1) (set ys n y)) (seek_counts lt so_far counts)

  pub err_keeps : n < length xs → Sought n ys → x ≡ get_or ys n x → KeepsChild f whole (seen start) (Tells start) x y → Zipped (KeepsChild f whole (seen start) (Tells start)) xs (set ys n y)
  err_keeps lt done is here = done-set (SoughtOne f whole steady key start) (KeepsChild f whole (seen start) (Tells start)) n xs ys x y lt
      (kept_still f whole start) (λ v w both. both.0) done is here
