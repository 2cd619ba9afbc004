-- What a block that isn't one says of a disk's files.
use Rattle.std.proofs.Common.{◌≡◌, ℕ, ◌≤◌, List, ◌++◌, length, take, drop, refl, ap, sym, ◌∙◌, Bool, IsTrue, true, false, Err, subst, true≢false}
use Rattle.std.proofs.Math.ListN.{replicate}
use Rattle.std.proofs.Math.Seq.{drop-append_seam}
use Rattle.std.proofs.lemmas.List.{take_all, length-replicate}
use Rattle.mr_base.specs.Disk.{State, Tells, Image, seen}
use Rattle.mr_iter.specs.Cursors.{IsDamage}
use Rattle.mr_run_open.specs.Blocks.{judged, IsOffenceOf}

-- an image whose files have these bytes from a place on
abbrev padded : ℕ → List ℕ → Image
padded place bytes = λ file. replicate place 0 ++ bytes

behind_padding : (place size : ℕ) (bytes : List ℕ) → length bytes ≤ size → take size (drop place (replicate place 0 ++ bytes)) ≡ bytes
behind_padding place size bytes le =
    ap (λ (n : ℕ). take size (drop n (replicate place 0 ++ bytes))) (sym (length-replicate place 0))
    ∙ ap (take size) (drop-append_seam (replicate place 0) bytes)
    ∙ take_all size bytes le

pub block_stops : (file place size : ℕ) (key : List ℕ) (old : State) (bytes : List ℕ) (at : ℕ) → length bytes ≤ size → (Tells old → bytes ≡ take size (drop place (seen old file))) → judged place key bytes ≡ Err at → IsDamage (IsOffenceOf file place size key) old file at
block_stops file place size key old bytes at few told err = by_tells old.tells refl
  where
    by_tells : (t : Bool) → old.tells ≡ t → IsDamage (IsOffenceOf file place size key) old file at
    by_tells true is = record {
      image = seen old;
      told = λ tells. refl;
      offence = (refl, ap (judged place key) (sym (told (subst (λ (b : Bool). IsTrue b) (sym is) refl))) ∙ err);
    }
    by_tells false is = record {
      image = padded place bytes;
      told = λ tells. absurd (true≢false (sym (subst (λ (b : Bool). IsTrue b) is tells)));
      offence = (refl, ap (judged place key) (behind_padding place size bytes few) ∙ err);
    }
