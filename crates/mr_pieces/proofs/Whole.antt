-- What the whole pieces of a text and its unpack form say of it.
use Rattle.std.proofs.Common.{◌≡◌, ℕ, ◌+◌, ◌-◌, ◌/◌, ◌%◌, ◌^◌, ◌<◌, ◌≤◌, List, ◌++◌, length, map, replicate, take, drop, get_or, refl, sym, ap, ◌∙◌, arith, length-drop}
use Rattle.std.specs.List.{suffix_len}
use Rattle.std.specs.Int.{w16, from_be_bytes}
use Rattle.std.proofs.lemmas.List.{length-append, length-replicate, length-map, get_or-map, get_or-drop, get_or-replicate, get_or-append_right, get_or_append_left}
use Rattle.std.proofs.lemmas.List.Sums.{suffix_len-le-length}
use Rattle.std.proofs.lemmas.Nat.{from_be_bytes-to_be_bytes_2}
use Rattle.mr_lanes.specs.Kernels.{upper, is_space}
use Rattle.mr_pieces.specs.declared.collation.Collation.{Collation}
use Rattle.mr_pieces.specs.declared.collation.Collation.TheVariants.{Bin, Ci}
use Rattle.mr_pieces.specs.Order.{folded}
use Rattle.mr_pieces.specs.Pieces.{text_from, trimmed, shortened}
use Rattle.mr_pieces.specs.Unpack.{lower_bit, bits_of, unpack_form}
use Rattle.mr_pieces.proofs.Texts.{IsTrimmed-trimmed}
use Rattle.mr_pieces.proofs.Restoring.{spaces_back, trimmed_upper}
use Rattle.mr_pieces.proofs.TextTrip.{trimmed_same}
use Rattle.mr_pieces.proofs.Lengths.{text_at}
use Rattle.mr_pieces.proofs.Bits.{bit_at}

pub count_is : (c : Collation) (t unpack : List ℕ) → unpack ≡ unpack_form c t → length t < 2 ^ 16 → from_be_bytes w16 (take 2 unpack) ≡ suffix_len is_space t
count_is c t unpack is short =
    let small = suffix_len-le-length is_space t in
    rw is (from_be_bytes-to_be_bytes_2 (suffix_len is_space t) (omega arith))

pub unpack_room : (c : Collation) (t unpack : List ℕ) → unpack ≡ unpack_form c t → 2 ≤ length unpack
unpack_room c t unpack is = rw is (omega arith)

pub both_parts : (t : List ℕ) → length (trimmed t) + suffix_len is_space t ≡ length t
both_parts t =
    let whole : length (trimmed t ++ replicate (suffix_len is_space t) 32) ≡ length t = ap (λ (l : List ℕ). length l) (spaces_back t) in
    omega (arith, length-append (trimmed t) (replicate (suffix_len is_space t) 32), length-replicate {A = ℕ} (suffix_len is_space t) 32)

pub shortened_size : (c : Collation) (t : List ℕ) → length (shortened c t) ≡ length (trimmed t)
shortened_size Bin t = refl
shortened_size Ci t = ap (λ (l : List ℕ). length l) (trimmed_upper t) ∙ length-map (trimmed t) upper

pub ends_well : (c : Collation) (t : List ℕ) → trimmed (shortened c t) ≡ shortened c t
ends_well c t = trimmed_same (shortened c t) (IsTrimmed-trimmed (folded c t))

-- a place among the spaces at the end
pub blank_at : (t : List ℕ) (at : ℕ) → length (trimmed t) ≤ at → at < length t → 32 ≡ get_or t at 0
blank_at t at behind within =
    let parts = both_parts t in
    let k = suffix_len is_space t in
    sym (ap (λ (l : List ℕ). get_or l at 0) (sym (spaces_back t)) ∙ get_or-append_right (trimmed t) (replicate k 32) (length (trimmed t)) at 0 refl behind ∙ get_or-replicate k (at - length (trimmed t)) 32 0 (omega arith))

-- a place before them
pub front_at : (t : List ℕ) (at : ℕ) → at < length (trimmed t) → get_or (trimmed t) at 0 ≡ get_or t at 0
front_at t at within =
    let k = suffix_len is_space t in
    sym (get_or_append_left (trimmed t) (replicate k 32) 0 at within) ∙ ap (λ (l : List ℕ). get_or l at 0) (spaces_back t)

pub plain_at : (t pieces : List ℕ) (at : ℕ) → pieces ≡ text_from 8 (shortened Bin t) → at < length (trimmed t) → get_or pieces (at + at / 8) 0 ≡ get_or t at 0
plain_at t pieces at is within = rw is (text_at (trimmed t) at within ∙ front_at t at within)

pub upper_at : (t pieces : List ℕ) (at : ℕ) → pieces ≡ text_from 8 (shortened Ci t) → at < length (trimmed t) → get_or pieces (at + at / 8) 0 ≡ upper (get_or t at 0)
upper_at t pieces at is within =
    let same : shortened Ci t ≡ map upper (trimmed t) = trimmed_upper t in
    let size : at < length (map upper (trimmed t)) = omega (arith, length-map (trimmed t) upper) in
    ap (λ (l : List ℕ). get_or l (at + at / 8) 0) (is ∙ ap (text_from 8) same) ∙ text_at (map upper (trimmed t)) at size
    ∙ get_or-map upper (trimmed t) at 0 0 within ∙ ap upper (front_at t at within)

pub bit_is : (t unpack : List ℕ) (at : ℕ) → unpack ≡ unpack_form Ci t → at < length (trimmed t) → (2 + at / 8 < length unpack) × (get_or unpack (2 + at / 8) 0 / 2 ^ (at % 8) % 2 ≡ lower_bit (get_or t at 0))
bit_is t unpack at is within =
    let b = bit_at at (trimmed t) at (omega arith) within in
    let w = b.within in
    let bits : drop 2 unpack ≡ bits_of (trimmed t) = ap (drop 2) is in
    let there : get_or unpack (2 + at / 8) 0 ≡ get_or (bits_of (trimmed t)) (at / 8) 0 = sym (get_or-drop 2 unpack (at / 8) 0) ∙ ap (λ (l : List ℕ). get_or l (at / 8) 0) bits in
    let size : length (drop 2 unpack) ≡ length (bits_of (trimmed t)) = ap (λ (l : List ℕ). length l) bits in
    (omega (arith, length-drop 2 unpack), ap (λ (n : ℕ). n / 2 ^ (at % 8) % 2) there ∙ b.is ∙ ap lower_bit (front_at t at within))
