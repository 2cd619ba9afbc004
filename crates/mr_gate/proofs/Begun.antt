-- A write or a cut that began on a file at rest.
use Rattle.std.proofs.Common.{ℕ, ◌≤◌, List, length, refl, arith}
use Rattle.mr_base.specs.Disk.{File, MayLeave, IsAtRest, IsWithin, write_begun, cut_begun, Torn, CutShort}
use Rattle.mr_base.proofs.Pending.{torn, cut_short}

within_itself : (f : File) → IsWithin f f
within_itself f = record { stable = refl; written = λ k is. is; least = omega arith; greatest = omega arith }

pub torn_write : (f : File) → IsAtRest f → MayLeave f f.bytes → (at n : ℕ) → at ≤ length f.bytes → (c : List ℕ) → MayLeave (write_begun at n f) c → Torn at n f.bytes c
torn_write f rest itself at n le c left = torn f rest itself at n le (write_begun at n f) (within_itself (write_begun at n f)) c left

pub short_cut : (f : File) → IsAtRest f → MayLeave f f.bytes → (n : ℕ) → n ≤ length f.bytes → (c : List ℕ) → MayLeave (cut_begun n f) c → CutShort n f.bytes c
short_cut f rest itself n le c left = cut_short f rest itself n le (cut_begun n f) (within_itself (cut_begun n f)) c left
