-- Bytes that are held behind those of a file.
use Rattle.std.proofs.Common.{◌≡◌, ℕ, zero, suc, ◌+◌, ◌<◌, List, [], ◌++◌, length, take, sym, ◌∙◌, ap, arith, append_assoc, length-append}
use Rattle.std.proofs.lemmas.List.{append-nil, length-take-le, take_all}
use Rattle.mr_base.specs.Disk.{overwrite}
use Rattle.mr_base.proofs.Moments.{overwrite_end}
use Rattle.mr_run_writer.specs.Buffers.{EndsAt, with_held}

pub length_held : (written : ℕ) (held file : List ℕ) → EndsAt written file → length (with_held written held file) ≡ written + length held
length_held zero held file ends = omega arith
length_held (suc n) held file ends =
    let long : length file ≡ suc n = ends (omega arith) in
    omega (arith, length-append (take (suc n) file) held, length-take-le (suc n) file (omega (arith, long)))

-- before anything is written, and behind it, a file has what was written
pub length_written : (written : ℕ) (file : List ℕ) → EndsAt written file → length (take written file) ≡ written
length_written zero file ends = omega arith
length_written (suc n) file ends = let long : length file ≡ suc n = ends (omega arith) in length-take-le (suc n) file (omega (arith, long))

pub all_written : (written : ℕ) (file : List ℕ) → 0 < written → EndsAt written file → file ≡ take written file
all_written written file some ends = let long : length file ≡ written = ends some in sym (take_all written file (omega (arith, long)))

pub held_more : (written : ℕ) (held piece file : List ℕ) → with_held written (held ++ piece) file ≡ with_held written held file ++ piece
held_more written held piece file = sym (append_assoc (take written file) held piece)

-- what was held is written
pub held_written : (written now : ℕ) (held none file new : List ℕ) → none ≡ [] → length new ≡ now → new ≡ with_held written held file → with_held now none new ≡ with_held written held file
held_written written now held none file new empty long is =
    ap (λ (h : List ℕ). take now new ++ h) empty ∙ append-nil (take now new) ∙ take_all now new (omega (arith, long)) ∙ is

pub written_at : (written : ℕ) (bytes file room new : List ℕ) → length room ≡ written → room ≡ take written file → new ≡ overwrite written bytes room → new ≡ with_held written bytes file
written_at written bytes file room new long is over = over ∙ overwrite_end written bytes room long ∙ ap (λ (l : List ℕ). l ++ bytes) is

-- one piece of the rest
pub piece_on : (now before all rest piece behind whole : List ℕ) → now ≡ before ++ piece → piece ++ behind ≡ rest → before ++ rest ≡ all ++ whole → now ++ behind ≡ all ++ whole
piece_on now before all rest piece behind whole is parts so_far =
    ap (λ (l : List ℕ). l ++ behind) is ∙ append_assoc before piece behind ∙ ap (λ (l : List ℕ). before ++ l) parts ∙ so_far
