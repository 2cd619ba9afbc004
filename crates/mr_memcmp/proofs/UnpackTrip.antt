-- An unpack form that was written is read again, and only such a form is read.
use Rattle.std.proofs.Common.{◌≡◌, ℕ, zero, suc, ◌+◌, ◌-◌, ◌/◌, ◌<◌, ◌≤◌, ◌^◌, List, [], ◌∷◌, ◌++◌, length, map, replicate, take, drop, get_or, refl, sym, ap, subst, ◌∙◌, arith, Bool, true, false, cond, Ok, Err, inl, inr}
use Rattle.std.specs.Prelude.{nat_le, nat_lt, nat_eq, ◌&&◌}
use Rattle.std.specs.List.{suffix_len, list_all}
use Rattle.std.specs.Cmp.Lexicographic.{pointwise}
use Rattle.std.specs.Int.{w16, to_be_bytes}
use Rattle.std.proofs.lemmas.List.{length-append, length-replicate, length-map, length-take, take_all, take-append-drop, take_at, drop_at, get_or-take, get_or_past, append_assoc}
use Rattle.std.proofs.lemmas.List.Sums.{suffix_len-le-length}
use Rattle.std.proofs.lemmas.Bool.{cases_lt, le-leb, leb-true, ltb-true, eq-eqb, and_from, and_parts}
use Rattle.std.proofs.lemmas.Bool.Decides.{nat_tests}
use Rattle.std.proofs.lemmas.Nat.{be_bytes_2, from_be_bytes-to_be_bytes_2}
use Rattle.mr_lanes.specs.Kernels.{upper, is_space}
use Rattle.mr_pieces.specs.declared.collation.Collation.{Collation}
use Rattle.mr_pieces.specs.declared.collation.Collation.TheVariants.{Bin, Ci}
use Rattle.mr_pieces.specs.Order.{IsAscii}
use Rattle.mr_pieces.specs.Pieces.{trimmed, shortened}
use Rattle.mr_pieces.specs.Reading.{Read, is_text_byte, IsShortened}
use Rattle.mr_pieces.specs.Unpack.{bits_of, restored, case_bits, unpack_form}
use Rattle.mr_pieces.specs.UnpackReading.{are_bits_of, bits_room, spaces_in, case_read, unpack_read}
use Rattle.mr_pieces.proofs.Texts.{IsTrimmed, IsTrimmed-trimmed}
use Rattle.mr_pieces.proofs.TextTrip.{trimmed_pad}
use Rattle.mr_pieces.proofs.Cutting.{trimmed_is}
use Rattle.mr_pieces.proofs.Restoring.{case_back, spaces_back, trimmed_upper}
use Rattle.mr_pieces.proofs.Lengths.{spaces_behind}
use Rattle.mr_pieces.proofs.Whole.{both_parts, shortened_size}
use Rattle.mr_pieces.proofs.CaseBits.{bits_fold_back, pointwise_are}

abbrev read_ok : List ℕ → List ℕ → Read
read_ok text rest = Ok (text, rest)

-- ---- forward

size_bits : (t : List ℕ) → length (bits_of t) ≡ (length t + 7) / 8
unfolding bits_of
size_bits (a ∷ b ∷ c ∷ d ∷ e ∷ f ∷ g ∷ h ∷ rest) = let more = size_bits rest in omega arith
size_bits [] = omega arith
size_bits rest = omega arith

pointwise_same : (xs : List ℕ) → pointwise nat_eq xs xs ≡ true
pointwise_same [] = refl
pointwise_same (x ∷ xs) = and_from (nat_eq x x) (pointwise nat_eq xs xs) (eq-eqb x x refl) (pointwise_same xs)

bits_again : (t rest : List ℕ) (s : ℕ) → case_read Ci (map upper t) s (bits_of t ++ rest) ≡ read_ok (t ++ replicate s 32) rest
bits_again t rest s =
    let kept = map upper t in
    let bits = bits_of t in
    let room : length bits ≡ bits_room kept = size_bits t ∙ ap (λ (n : ℕ). (n + 7) / 8) (sym (length-map t upper)) in
    let front = take_at bits rest (bits_room kept) room in
    let back = drop_at bits rest (bits_room kept) room in
    let long : nat_le (bits_room kept) (length (bits ++ rest)) ≡ true = le-leb _ _ (omega (arith, room, length-append bits rest)) in
    let are : are_bits_of kept bits ≡ true = ap (λ (l : List ℕ). pointwise nat_eq (bits_of l) bits) (case_back t) ∙ pointwise_same bits in
    rw (front, back, long, are, case_back t) refl

case_again : (c : Collation) (t rest : List ℕ) → case_read c (shortened c t) (suffix_len is_space t) (case_bits c (trimmed t) ++ rest) ≡ read_ok t rest
case_again Bin t rest = ap (λ (l : List ℕ). read_ok l rest) (spaces_back t)
case_again Ci t rest =
    let s = suffix_len is_space t in
    ap (λ (l : List ℕ). case_read Ci l s (bits_of (trimmed t) ++ rest)) (trimmed_upper t) ∙ bits_again (trimmed t) rest s ∙ ap (λ (l : List ℕ). read_ok l rest) (spaces_back t)

pub unpack_again : (c : Collation) (width : ℕ) (t rest : List ℕ) → length t ≤ width → length t < 2 ^ 16 → unpack_read c width (shortened c t) (unpack_form c t ++ rest) ≡ Ok (t, rest)
unpack_again c width t rest fits short =
    let s = suffix_len is_space t in
    let few = suffix_len-le-length is_space t in
    let parts = both_parts t in
    let size = shortened_size c t in
    let count : spaces_in (unpack_form c t ++ rest) ≡ s = from_be_bytes-to_be_bytes_2 s (omega arith) in
    let long : nat_le 2 (length (unpack_form c t ++ rest)) ≡ true = le-leb _ _ (omega arith) in
    let inside : nat_le (s + length (shortened c t)) width ≡ true = le-leb _ _ (omega arith) in
    rw (long, count, inside) (case_again c t rest)

-- ---- backward

-- a text that folds to one without spaces at its end has none either
keeps_trimmed : (r kept : List ℕ) → map upper r ≡ kept → trimmed kept ≡ kept → trimmed r ≡ r
keeps_trimmed r kept folds ends =
    let same : map upper (trimmed r) ≡ kept = sym (trimmed_upper r) ∙ ap trimmed folds ∙ ends in
    let size : length (trimmed r) ≡ length r = sym (length-map (trimmed r) upper) ∙ ap (λ (l : List ℕ). length l) (same ∙ sym folds) ∙ length-map r upper in
    let cut = trimmed_is r in
    let cut_size : length (trimmed r) ≡ length (take (length r - suffix_len is_space r) r) = ap (λ (l : List ℕ). length l) cut in
    let none : length r ≤ length r - suffix_len is_space r = omega (arith, size, cut_size, length-take (length r - suffix_len is_space r) r) in
    cut ∙ take_all (length r - suffix_len is_space r) r none

-- what an unpack form that was read says of the text
pub record TextTaken (c : Collation) (width : ℕ) (kept unpack t more : List ℕ) : Type 0 where
  pub form : unpack ≡ unpack_form c t ++ more
  pub keeps : shortened c t ≡ kept
  pub fits : length t ≤ width
  pub ascii : IsAscii t

ascii-append : (a b : List ℕ) → IsAscii a → IsAscii b → IsAscii (a ++ b)
ascii-append [] b p q = q
ascii-append (x ∷ a) b p q = (p.0, ascii-append a b p.1 q)

ascii-spaces : (n : ℕ) → IsAscii (replicate n 32)
ascii-spaces zero = tt
ascii-spaces (suc n) = (omega arith, ascii-spaces n)

bin_ascii : (t : List ℕ) → list_all (is_text_byte Bin) t ≡ true → IsAscii t
bin_ascii [] h = tt
bin_ascii (b ∷ t) h =
    let parts = and_parts (nat_lt b 128) (list_all (is_text_byte Bin) t) h in
    (ltb-true b 128 parts.0, bin_ascii t parts.1)

low_upper : (b : ℕ) → is_text_byte Ci (upper b) ≡ true → b < 128
low_upper b h = grind (arith, nat_tests)

ci_ascii : (t : List ℕ) → list_all (is_text_byte Ci) (map upper t) ≡ true → IsAscii t
ci_ascii [] h = tt
ci_ascii (b ∷ t) h =
    let parts = and_parts (is_text_byte Ci (upper b)) (list_all (is_text_byte Ci) (map upper t)) h in
    (low_upper b parts.0, ci_ascii t parts.1)

first_bytes : (form : List ℕ) (i : ℕ) → ((k : ℕ) → get_or form k 0 < 256) → get_or (take 2 form) i 0 < 256
first_bytes form i bytes =
    elim (cases_lt i 2) [
      | inl within ↦ let e = get_or-take 2 form i 0 within in let b = bytes i in rw e b
      | inr past ↦ let e = get_or_past (take 2 form) i 0 (omega (arith, length-take 2 form)) in rw e (omega arith)
    ]

-- the count of spaces in front
count_again : (unpack : List ℕ) (s : ℕ) → 2 ≤ length unpack → ((k : ℕ) → get_or unpack k 0 < 256) → s ≡ spaces_in unpack → to_be_bytes w16 s ++ drop 2 unpack ≡ unpack
count_again unpack s room bytes is =
    let front : to_be_bytes w16 s ≡ take 2 unpack = be_bytes_2 (take 2 unpack) s (omega (arith, length-take 2 unpack)) (λ i. first_bytes unpack i bytes) is in
    ap (λ (l : List ℕ). l ++ drop 2 unpack) front ∙ take-append-drop 2 unpack

-- the form of a text that ends in s spaces
form_is : (c : Collation) (r : List ℕ) (s : ℕ) → trimmed r ≡ r → unpack_form c (r ++ replicate s 32) ≡ to_be_bytes w16 s ++ case_bits c r
form_is c r s ends =
    let count : suffix_len is_space (r ++ replicate s 32) ≡ s = spaces_behind r s (subst IsTrimmed ends (IsTrimmed-trimmed r)) in
    ap (λ (n : ℕ). to_be_bytes w16 n ++ case_bits c (trimmed (r ++ replicate s 32))) count
    ∙ ap (λ (l : List ℕ). to_be_bytes w16 s ++ case_bits c l) (trimmed_pad s r ∙ ends)

size_spaces : (r : List ℕ) (s : ℕ) → length (r ++ replicate s 32) ≡ length r + s
size_spaces r s = omega (arith, length-append r (replicate s 32), length-replicate {A = ℕ} s 32)

same_pair : (x y : List ℕ × List ℕ) → let a : Read = Ok x in let b : Read = Ok y in a ≡ b → x ≡ y
same_pair x y e = cc

read_parts : (a b c d : List ℕ) → read_ok a b ≡ read_ok c d → (a ≡ c) × (b ≡ d)
read_parts a b c d e =
    let same = same_pair (a, b) (c, d) e in
    (ap (λ (x : List ℕ × List ℕ). x.0) same, ap (λ (x : List ℕ × List ℕ). x.1) same)

-- a test that was passed
passed : (test : Bool) (left : ℕ) (a b c d : List ℕ) → cond test (read_ok a b) (Err left) ≡ read_ok c d → (test ≡ true) × (a ≡ c) × (b ≡ d)
passed true left a b c d e = let parts = read_parts a b c d e in (refl, parts.0, parts.1)
passed false left a b c d e = absurd cc

case_takes : (c : Collation) (width s : ℕ) (kept unpack t more : List ℕ) → IsShortened c kept → 2 ≤ length unpack → ((k : ℕ) → get_or unpack k 0 < 256) → s ≡ spaces_in unpack → s + length kept ≤ width → case_read c kept s (drop 2 unpack) ≡ read_ok t more → TextTaken c width kept unpack t more
case_takes Bin width s kept unpack t more short room bytes is fits e =
    let parts = read_parts (kept ++ replicate s 32) (drop 2 unpack) t more e in
    let taken : TextTaken Bin width kept unpack (kept ++ replicate s 32) (drop 2 unpack) = record {
      form = sym (ap (λ (l : List ℕ). l ++ drop 2 unpack) (form_is Bin kept s short.without_spaces) ∙ count_again unpack s room bytes is);
      keeps = trimmed_pad s kept ∙ short.without_spaces;
      fits = omega (arith, size_spaces kept s);
      ascii = ascii-append kept (replicate s 32) (bin_ascii kept short.in_order) (ascii-spaces s);
    } in
    subst (λ (l : List ℕ). TextTaken Bin width kept unpack l more) parts.0 (subst (λ (l : List ℕ). TextTaken Bin width kept unpack (kept ++ replicate s 32) l) parts.1 taken)
case_takes Ci width s kept unpack t more short room bytes is fits e =
    let rest = drop 2 unpack in
    let n = bits_room kept in
    let bits = take n rest in
    let r = restored bits kept in
    let test = passed (nat_le n (length rest) && are_bits_of kept bits) (length rest) (r ++ replicate s 32) (drop n rest) t more e in
    let tests = and_parts (nat_le n (length rest)) (are_bits_of kept bits) test.0 in
    let folds : map upper r ≡ kept = bits_fold_back bits kept short.in_order tests.1 in
    let ends : trimmed r ≡ r = keeps_trimmed r kept folds short.without_spaces in
    let r_size : length r ≡ length kept = sym (length-map r upper) ∙ ap (λ (l : List ℕ). length l) folds in
    let again : bits_of r ≡ bits = pointwise_are (bits_of r) bits tests.1 in
    let written : to_be_bytes w16 s ++ bits_of r ++ drop n rest ≡ unpack = ap (λ (l : List ℕ). to_be_bytes w16 s ++ l ++ drop n rest) again ∙ append_assoc (to_be_bytes w16 s) bits (drop n rest) ∙ ap (λ (l : List ℕ). to_be_bytes w16 s ++ l) (take-append-drop n rest) ∙ count_again unpack s room bytes is in
    let taken : TextTaken Ci width kept unpack (r ++ replicate s 32) (drop n rest) = record {
      form = sym (ap (λ (l : List ℕ). l ++ drop n rest) (form_is Ci r s ends) ∙ written);
      keeps = trimmed_upper (r ++ replicate s 32) ∙ ap (map upper) (trimmed_pad s r ∙ ends) ∙ folds;
      fits = omega (arith, size_spaces r s);
      ascii = ascii-append r (replicate s 32) (ci_ascii r (subst (λ (l : List ℕ). list_all (is_text_byte Ci) l ≡ true) (sym folds) short.in_order)) (ascii-spaces s);
    } in
    subst (λ (l : List ℕ). TextTaken Ci width kept unpack l more) test.1 (subst (λ (l : List ℕ). TextTaken Ci width kept unpack (r ++ replicate s 32) l) test.2 taken)

tried : (test : Bool) (left : ℕ) (read : Read) (x : List ℕ × List ℕ) → let ok : Read = Ok x in cond test read (Err left) ≡ ok → (test ≡ true) × (read ≡ ok)
tried true left read x e = (refl, e)
tried false left read x e = absurd cc

pub unpack_takes : (c : Collation) (width : ℕ) (kept unpack t more : List ℕ) → IsShortened c kept → ((k : ℕ) → get_or unpack k 0 < 256) → unpack_read c width kept unpack ≡ Ok (t, more) → TextTaken c width kept unpack t more
unpack_takes c width kept unpack t more short bytes e =
    let s = spaces_in unpack in
    let test = tried (nat_le 2 (length unpack) && nat_le (s + length kept) width) (length unpack) (case_read c kept s (drop 2 unpack)) (t, more) e in
    let tests = and_parts (nat_le 2 (length unpack)) (nat_le (s + length kept) width) test.0 in
    case_takes c width s kept unpack t more short (leb-true 2 (length unpack) tests.0) bytes refl (leb-true (s + length kept) width tests.1) test.1
