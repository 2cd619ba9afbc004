-- An unpack form that was read is that of the text whose pieces stand beside it.
use Rattle.std.proofs.Common.{◌≡◌, ℕ, zero, suc, ◌+◌, ◌-◌, ◌<◌, ◌≤◌, ◌^◌, List, [], ◌∷◌, ◌++◌, length, map, replicate, take, drop, get_or, refl, sym, ap, subst, ◌∙◌, arith, true, inl, inr, Ok, length-drop}
use Rattle.std.specs.Prelude.{nat_le, ◌&&◌}
use Rattle.std.specs.List.{suffix_len}
use Rattle.std.specs.Int.{w16, from_be_bytes, to_be_bytes}
use Rattle.std.proofs.lemmas.List.{length-append, length-replicate, length-map, length-take, take_all, take-append-drop, get_or-take, get_or_past, drop_all, drop-take, drop-drop}
use Rattle.std.proofs.lemmas.Bool.{cases_lt, le-leb, and_from}
use Rattle.std.proofs.lemmas.Nat.{be_bytes_2}
use Rattle.mr_lanes.specs.Kernels.{upper, is_space}
use Rattle.mr_pieces.specs.declared.collation.Collation.{Collation}
use Rattle.mr_pieces.specs.declared.collation.Collation.TheVariants.{Bin, Ci}
use Rattle.mr_pieces.specs.Order.{folded}
use Rattle.mr_pieces.specs.Pieces.{text_from, trimmed, shortened}
use Rattle.mr_pieces.specs.Reading.{Read, text_in, IsShortened}
use Rattle.mr_pieces.specs.Unpack.{bits_of, restored, case_bits, case_back_of, unpack_form}
use Rattle.mr_pieces.specs.Lying.{text_of, HoldsText}
use Rattle.mr_pieces.specs.UnpackReading.{are_bits_of, bits_room, spaces_in, case_read, unpack_read}
use Rattle.mr_pieces.proofs.Texts.{IsTrimmed, IsTrimmed-trimmed}
use Rattle.mr_pieces.proofs.TextTrip.{trimmed_pad}
use Rattle.mr_pieces.proofs.Cutting.{trimmed_is}
use Rattle.mr_pieces.proofs.Restoring.{trimmed_upper}
use Rattle.mr_pieces.proofs.Lengths.{spaces_behind}
use Rattle.mr_pieces.proofs.CaseBits.{bits_fold_back, pointwise_are}

-- a text that folds to one without spaces at its end has none either
keeps_trimmed : (r kept : List ℕ) → map upper r ≡ kept → trimmed kept ≡ kept → trimmed r ≡ r
keeps_trimmed r kept folds ends =
    let same : map upper (trimmed r) ≡ kept = sym (trimmed_upper r) ∙ ap trimmed folds ∙ ends in
    let size : length (trimmed r) ≡ length r = sym (length-map (trimmed r) upper) ∙ ap (λ (l : List ℕ). length l) (same ∙ sym folds) ∙ length-map r upper in
    let cut = trimmed_is r in
    let cut_size : length (trimmed r) ≡ length (take (length r - suffix_len is_space r) r) = ap (λ (l : List ℕ). length l) cut in
    let none : length r ≤ length r - suffix_len is_space r = omega (arith, size, cut_size, length-take (length r - suffix_len is_space r) r) in
    cut ∙ take_all (length r - suffix_len is_space r) r none

short_again : (c : Collation) (r kept : List ℕ) (s : ℕ) → folded c r ≡ kept → trimmed r ≡ r → shortened c (r ++ replicate s 32) ≡ kept
short_again Bin r kept s folds ends = trimmed_pad s r ∙ ends ∙ folds
short_again Ci r kept s folds ends = trimmed_upper (r ++ replicate s 32) ∙ ap (map upper) (trimmed_pad s r ∙ ends) ∙ folds

first_bytes : (form : List ℕ) (i : ℕ) → ((k : ℕ) → get_or form k 0 < 256) → get_or (take 2 form) i 0 < 256
first_bytes form i bytes =
    elim (cases_lt i 2) [
      | inl within ↦ let e = get_or-take 2 form i 0 within in let b = bytes i in rw e b
      | inr past ↦ let e = get_or_past (take 2 form) i 0 (omega (arith, length-take 2 form)) in rw e (omega arith)
    ]

form_again : (c : Collation) (r form : List ℕ) → 2 ≤ length form → ((i : ℕ) → get_or form i 0 < 256) → trimmed r ≡ r → case_bits c r ≡ drop 2 form → unpack_form c (r ++ replicate (spaces_in form) 32) ≡ form
form_again c r form room bytes ends bits =
    let s = spaces_in form in
    let count : suffix_len is_space (r ++ replicate s 32) ≡ s = spaces_behind r s (subst IsTrimmed ends (IsTrimmed-trimmed r)) in
    let front : to_be_bytes w16 s ≡ take 2 form = be_bytes_2 (take 2 form) s (omega (arith, length-take 2 form)) (λ i. first_bytes form i bytes) refl in
    ap (λ (n : ℕ). to_be_bytes w16 n ++ case_bits c (trimmed (r ++ replicate s 32))) count
    ∙ ap (λ (l : List ℕ). to_be_bytes w16 s ++ case_bits c l) (trimmed_pad s r ∙ ends)
    ∙ ap (λ (l : List ℕ). to_be_bytes w16 s ++ l) bits
    ∙ ap (λ (l : List ℕ). l ++ drop 2 form) front ∙ take-append-drop 2 form

pub holds_again : (c : Collation) (pieces form r : List ℕ) → pieces ≡ text_from 8 (text_in c pieces) → case_back_of c (drop 2 form) (text_in c pieces) ≡ r → folded c r ≡ text_in c pieces → trimmed r ≡ r → case_bits c r ≡ drop 2 form
    → 2 ≤ length form → ((i : ℕ) → get_or form i 0 < 256) → length r + spaces_in form < 2 ^ 16 → HoldsText c pieces form
holds_again c pieces form r spelled back folds ends bits room bytes short =
    let s = spaces_in form in
    let whole : text_of c pieces form ≡ r ++ replicate s 32 = ap (λ (l : List ℕ). l ++ replicate s 32) back in
    let size : length (r ++ replicate s 32) < 2 ^ 16 = omega (arith, length-append r (replicate s 32), length-replicate {A = ℕ} s 32) in
    record {
      its_pieces = spelled ∙ ap (text_from 8) (sym (short_again c r (text_in c pieces) s folds ends) ∙ ap (shortened c) (sym whole));
      its_unpack = sym (form_again c r form room bytes ends bits) ∙ ap (unpack_form c) (sym whole);
      not_long = rw whole size;
    }

-- ---- what the reader answers

given : (c : Collation) (width : ℕ) (kept unpack : List ℕ) → 2 ≤ length unpack → spaces_in unpack + length kept ≤ width → unpack_read c width kept unpack ≡ case_read c kept (spaces_in unpack) (drop 2 unpack)
given c width kept unpack room fits = rw (le-leb 2 (length unpack) room, le-leb (spaces_in unpack + length kept) width fits) refl

take_twice : (m n : ℕ) (xs : List ℕ) → m ≤ n → take m (take n xs) ≡ take m xs
take_twice zero n xs less = refl
take_twice (suc m) zero xs less = absurd (omega arith)
take_twice (suc m) (suc n) [] less = refl
take_twice (suc m) (suc n) (x ∷ xs) less = ap (λ (l : List ℕ). x ∷ l) (take_twice m n xs (omega arith))

front_spaces : (n : ℕ) (unpack : List ℕ) → 2 ≤ n → spaces_in (take n unpack) ≡ spaces_in unpack
front_spaces n unpack enough = ap (from_be_bytes w16) (take_twice 2 n unpack enough)

front_bytes : (n : ℕ) (unpack : List ℕ) (i : ℕ) → ((k : ℕ) → get_or unpack k 0 < 256) → get_or (take n unpack) i 0 < 256
front_bytes n unpack i bytes =
    elim (cases_lt i n) [
      | inl within ↦ let e = get_or-take n unpack i 0 within in let b = bytes i in rw e b
      | inr past ↦ let e = get_or_past (take n unpack) i 0 (omega (arith, length-take n unpack)) in rw e (omega arith)
    ]

abbrev read_ok : List ℕ → List ℕ → Read
read_ok text rest = Ok (text, rest)

pub bin_unpacked : (width : ℕ) (pieces unpack front back : List ℕ) → pieces ≡ text_from 8 (text_in Bin pieces) → IsShortened Bin (text_in Bin pieces) → width < 2 ^ 16 → 2 ≤ length unpack → spaces_in unpack + length (text_in Bin pieces) ≤ width
    → ((k : ℕ) → get_or unpack k 0 < 256) → front ≡ take 2 unpack → back ≡ drop 2 unpack
    → (unpack_read Bin width (text_in Bin pieces) unpack ≡ Ok (text_of Bin pieces front, back)) × (unpack ≡ front ++ back) × HoldsText Bin pieces front
bin_unpacked width pieces unpack front back spelled short narrow room fits bytes front_is back_is =
    let kept = text_in Bin pieces in
    let spaces : spaces_in front ≡ spaces_in unpack = ap spaces_in front_is ∙ front_spaces 2 unpack (omega arith) in
    let size : length front ≡ 2 = ap (λ (l : List ℕ). length l) front_is ∙ omega (arith, length-take 2 unpack) in (
      given Bin width kept unpack room fits ∙ ap (λ (n : ℕ). read_ok (kept ++ replicate n 32) (drop 2 unpack)) (sym spaces) ∙ ap (λ (l : List ℕ). read_ok (kept ++ replicate (spaces_in front) 32) l) (sym back_is),
      sym (take-append-drop 2 unpack) ∙ ap (λ (l : List ℕ). l ++ drop 2 unpack) (sym front_is) ∙ ap (λ (l : List ℕ). front ++ l) (sym back_is),
      holds_again Bin pieces front kept spelled refl refl short.without_spaces (sym (drop_all 2 front (omega arith))) (omega arith) (λ i. subst (λ (l : List ℕ). get_or l i 0 < 256) (sym front_is) (front_bytes 2 unpack i bytes)) (omega (arith, spaces)),
    )

pub ci_unpacked : (width n : ℕ) (pieces unpack front back : List ℕ) → pieces ≡ text_from 8 (text_in Ci pieces) → IsShortened Ci (text_in Ci pieces) → width < 2 ^ 16 → 2 ≤ length unpack → spaces_in unpack + length (text_in Ci pieces) ≤ width
    → ((k : ℕ) → get_or unpack k 0 < 256) → n ≡ bits_room (text_in Ci pieces) → n ≤ length (drop 2 unpack) → are_bits_of (text_in Ci pieces) (take n (drop 2 unpack)) ≡ true → front ≡ take (2 + n) unpack → back ≡ drop (2 + n) unpack
    → (unpack_read Ci width (text_in Ci pieces) unpack ≡ Ok (text_of Ci pieces front, back)) × (unpack ≡ front ++ back) × HoldsText Ci pieces front
ci_unpacked width n pieces unpack front back spelled short narrow room fits bytes n_is within are front_is back_is =
    let kept = text_in Ci pieces in
    let bits = take n (drop 2 unpack) in
    let r = restored bits kept in
    let spaces : spaces_in front ≡ spaces_in unpack = ap spaces_in front_is ∙ front_spaces (2 + n) unpack (omega arith) in
    let size : length front ≡ 2 + n = ap (λ (l : List ℕ). length l) front_is ∙ omega (arith, length-take (2 + n) unpack, length-drop 2 unpack) in
    let behind : drop 2 front ≡ bits = ap (drop 2) front_is ∙ drop-take 2 n unpack in
    let folds : map upper r ≡ kept = bits_fold_back bits kept short.in_order are in
    let r_size : length r ≡ length kept = sym (length-map r upper) ∙ ap (λ (l : List ℕ). length l) folds in
    let rest : drop n (drop 2 unpack) ≡ back = drop-drop n 2 unpack ∙ sym back_is in
    let tests : (nat_le (bits_room kept) (length (drop 2 unpack)) && are_bits_of kept (take (bits_room kept) (drop 2 unpack))) ≡ true =
    subst (λ (m : ℕ). (nat_le m (length (drop 2 unpack)) && are_bits_of kept (take m (drop 2 unpack))) ≡ true) n_is (and_from (nat_le n (length (drop 2 unpack))) (are_bits_of kept bits) (le-leb n (length (drop 2 unpack)) within) are) in
    let text : text_of Ci pieces front ≡ r ++ replicate (spaces_in unpack) 32 = ap (λ (l : List ℕ). restored l kept ++ replicate (spaces_in front) 32) behind ∙ ap (λ (m : ℕ). r ++ replicate m 32) spaces in (
      given Ci width kept unpack room fits ∙ rw tests refl ∙ subst (λ (m : ℕ). read_ok (restored (take m (drop 2 unpack)) kept ++ replicate (spaces_in unpack) 32) (drop m (drop 2 unpack)) ≡ read_ok (r ++ replicate (spaces_in unpack) 32) (drop n (drop 2 unpack))) n_is refl
          ∙ ap (λ (l : List ℕ). read_ok l (drop n (drop 2 unpack))) (sym text) ∙ ap (read_ok (text_of Ci pieces front)) rest,
      sym (take-append-drop (2 + n) unpack) ∙ ap (λ (l : List ℕ). l ++ drop (2 + n) unpack) (sym front_is) ∙ ap (λ (l : List ℕ). front ++ l) (sym back_is),
      holds_again Ci pieces front r spelled (ap (λ (l : List ℕ). restored l kept) behind) folds (keeps_trimmed r kept folds short.without_spaces) (pointwise_are (bits_of r) bits are ∙ sym behind) (omega arith) (λ i. subst (λ (l : List ℕ). get_or l i 0 < 256) (sym front_is) (front_bytes (2 + n) unpack i bytes)) (omega (arith, spaces)),
    )

-- ---- at a collation that is known by an equation

abbrev Answer : Collation → ℕ → List ℕ → List ℕ → List ℕ → List ℕ → Type 0
Answer c width pieces unpack front back = (unpack_read c width (text_in c pieces) unpack ≡ Ok (text_of c pieces front, back)) × (unpack ≡ front ++ back) × HoldsText c pieces front

pub bin_for : (c : Collation) (width : ℕ) (pieces unpack front back : List ℕ) → c ≡ Bin → pieces ≡ text_from 8 (text_in c pieces) → IsShortened c (text_in c pieces) → width < 2 ^ 16 → 2 ≤ length unpack → spaces_in unpack + length (text_in c pieces) ≤ width
    → ((k : ℕ) → get_or unpack k 0 < 256) → front ≡ take 2 unpack → back ≡ drop 2 unpack → Answer c width pieces unpack front back
bin_for Ci width pieces unpack front back is spelled short narrow room fits bytes front_is back_is = absurd cc
bin_for Bin width pieces unpack front back is spelled short narrow room fits bytes front_is back_is = bin_unpacked width pieces unpack front back spelled short narrow room fits bytes front_is back_is

pub ci_for : (c : Collation) (width n : ℕ) (pieces unpack front back : List ℕ) → c ≡ Ci → pieces ≡ text_from 8 (text_in c pieces) → IsShortened c (text_in c pieces) → width < 2 ^ 16 → 2 ≤ length unpack → spaces_in unpack + length (text_in c pieces) ≤ width
    → ((k : ℕ) → get_or unpack k 0 < 256) → n ≡ bits_room (text_in c pieces) → n ≤ length (drop 2 unpack) → are_bits_of (text_in c pieces) (take n (drop 2 unpack)) ≡ true → front ≡ take (2 + n) unpack → back ≡ drop (2 + n) unpack → Answer c width pieces unpack front back
ci_for Bin width n pieces unpack front back is spelled short narrow room fits bytes n_is within are front_is back_is = absurd cc
ci_for Ci width n pieces unpack front back is spelled short narrow room fits bytes n_is within are front_is back_is = ci_unpacked width n pieces unpack front back spelled short narrow room fits bytes n_is within are front_is back_is
