-- The newest version of a key by a place among slots.
use Rattle.std.proofs.Common.{◌≡◌, ℕ, ◌-◌, ◌<◌, Bool, true, false, List, [], ◌∷◌, length, get_or, drop, suc, zero, Option, Some, None, IfSome, is_none, refl, sym, ◌∙◌, ap, arith}
use Rattle.std.specs.Ordering.{is_gt}
use Rattle.mr_base.specs.declared.stop.Direction.{Direction}
use Rattle.mr_iter.specs.Versions.{Version, as_version, version_cmp, IsInOrder, first}
use Rattle.mr_iter.specs.Newest.{is_of, newest, only_of, IsPlaceOf}
use Rattle.mr_iter.proofs.Bounds.{newest_at}
use Rattle.mr_iter.proofs.Newer.{key_is}
use Rattle.mr_memtable.specs.declared.version.VersionRef.{VersionRef}
use Rattle.mr_memtable.specs.Given.{version_of}
use Rattle.mr_memtable.specs.declared.piece.Piece.{Piece}
use Rattle.mr_memtable.specs.declared.slot.Slot.{Slot}
use Rattle.mr_memtable.specs.Slots.{version_at, versions_at, no_slot, IsPlace}
use Rattle.mr_memtable.proofs.Stands.{length-versions}

get_version : (pieces : List Piece) (ss : List Slot) (i : ℕ) (v : Version) → i < length ss → get_or (versions_at pieces ss) i v ≡ version_at pieces (get_or ss i no_slot)
get_version pieces [] i v lt = absurd (omega arith)
get_version pieces (s ∷ ss) zero v lt = refl
get_version pieces (s ∷ ss) (suc i) v lt = get_version pieces ss i v (omega arith)

place_of : (d : Direction) (pieces : List Piece) (key : List ℕ) (number : ℕ) (ss : List Slot) (n : ℕ) → IsPlace d pieces (as_version key number None) ss n → IsPlaceOf d number key (versions_at pieces ss) n
place_of d pieces key number ss n place = record {
  within = omega (arith, place.within, length-versions pieces ss);
  before = λ v pos. ap (λ (w : Version). is_gt (version_cmp d (as_version key number None) w)) (get_version pieces ss (n - 1) v (omega (arith, place.within, pos))) ∙ place.before pos;
  behind = λ v lt. let less : n < length ss = omega (arith, lt, length-versions pieces ss) in ap (λ (w : Version). is_gt (version_cmp d (as_version key number None) w)) (get_version pieces ss n v less) ∙ place.behind less;
}

pub newest_by : (d : Direction) (pieces : List Piece) (key : List ℕ) (number : ℕ) (ss : List Slot) (n : ℕ) → IsInOrder (version_cmp d) (versions_at pieces ss) → IsPlace d pieces (as_version key number None) ss n → newest number key (versions_at pieces ss) ≡ only_of key (first (drop n (versions_at pieces ss)))
newest_by d pieces key number ss n ordered place = newest_at d number key (versions_at pieces ss) n ordered (place_of d pieces key number ss n place)

pub found_one : (key : List ℕ) (o : Option Version) (r : VersionRef) (b e : Bool) → IfSome o (λ v. version_of v.key r ≡ v) → IfSome o (λ v. b ≡ is_of key v) → b ≡ true → e ≡ is_none o → e ≡ false → Some (version_of key r) ≡ only_of key o
found_one key None r b e same on is ends not_end = cc
found_one key (Some v) r b e same on is ends not_end =
    let here : is_of key v ≡ true = sym on ∙ is in
    rw here (ap (λ (k : List ℕ). Some (version_of k r)) (key_is key v here) ∙ ap Some same)
