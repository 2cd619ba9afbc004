-- What was cut off the front of a key is the pieces of what was read.
use Rattle.std.proofs.Common.{◌≡◌, ℕ, List, [], length, refl, sym, ap, subst, ◌∙◌, arith, inl, true, Bor, Result, Ok, Err}
use Rattle.std.proofs.lemmas.List.{append_cancel_right, append-nil}
use Rattle.mr_pieces.specs.declared.collation.Collation.{Collation}
use Rattle.mr_pieces.specs.Pieces.{bytes_from, text_from}
use Rattle.mr_pieces.specs.Reading.{Read, rest_of, bytes_read, text_read, read_value, bytes_in, text_in, IsShortened, Splits, TakesBytes, TakesText}
use Rattle.mr_pieces.proofs.Texts.{IsTrimmed, IsTrimmed-trimmed}
use Rattle.mr_pieces.proofs.TextTrip.{text_again, trimmed_same}
use Rattle.mr_pieces.proofs.TextTakes.{text_takes}
use Rattle.mr_pieces.proofs.RoundTrip.{done, bytes_again, bytes_takes}

abbrev rest_ok : List ℕ → Result (List ℕ) ℕ
rest_ok rest = Ok rest

abbrev left_err : ℕ → Result (List ℕ) ℕ
left_err left = Err left

rest_is : (a b : List ℕ) → rest_ok a ≡ rest_ok b → a ≡ b
rest_is a b e = cc

read_of : (r : Read) (rest : List ℕ) → rest_of r ≡ rest_ok rest → (xs : List ℕ) × (r ≡ done xs rest)
read_of (Ok x) rest e = (x.0, ap (done x.0) (rest_is x.1 rest e))
read_of (Err left) rest e = absurd cc

err_of : (r : Read) (left : ℕ) → rest_of r ≡ left_err left → r ≡ Err left
err_of (Ok x) left e = absurd cc
err_of (Err other) left e = cc

pub bytes_are : (pieces xs : List ℕ) → pieces ≡ bytes_from 8 xs → bytes_in pieces ≡ xs
bytes_are pieces xs e =
    let again = bytes_again (length xs) true xs [] (omega arith) (inl refl) in
    let read = rw (append-nil (bytes_from 8 xs)) at again in
    ap bytes_in e ∙ ap read_value read

pub takes_bytes : (key : List ℕ) (result : Result (Bor (List ℕ) × Bor (List ℕ)) ℕ) → Splits key result (bytes_read true key) → TakesBytes key result
takes_bytes key (Ok parts) h =
    let rest = parts.1.now in
    let r = read_of (bytes_read true key) rest h.0 in
    let spelled = bytes_takes (length key) true key r.0 rest (omega arith) r.1 in
    let same : parts.0.now ≡ bytes_from 8 r.0 = append_cancel_right parts.0.now (bytes_from 8 r.0) rest (sym h.1 ∙ spelled.0) in
    let held = bytes_are parts.0.now r.0 same in
    (r.1 ∙ ap (λ (l : List ℕ). done l rest) (sym held), h.1, same ∙ ap (bytes_from 8) (sym held))
takes_bytes key (Err left) h = (err_of (bytes_read true key) left h.0, h.1)

pub ends_well : (c : Collation) (t : List ℕ) → IsShortened c t → IsTrimmed t
ends_well c t short = subst IsTrimmed short.without_spaces (IsTrimmed-trimmed t)

pub text_is : (c : Collation) (pieces t : List ℕ) → pieces ≡ text_from 8 t → IsShortened c t → text_in c pieces ≡ t
text_is c pieces t e short =
    let again = text_again (length t) c t [] (omega arith) (ends_well c t short) short.in_order in
    let read = rw (append-nil (text_from 8 t)) at again in
    ap (text_in c) e ∙ ap read_value read

pub takes_text : (c : Collation) (key : List ℕ) (result : Result (Bor (List ℕ) × Bor (List ℕ)) ℕ) → Splits key result (text_read c key) → TakesText c key result
takes_text c key (Ok parts) h =
    let rest = parts.1.now in
    let r = read_of (text_read c key) rest h.0 in
    let cut = text_takes (length key) c key r.0 rest (omega arith) r.1 in
    let same : parts.0.now ≡ text_from 8 r.0 = append_cancel_right parts.0.now (text_from 8 r.0) rest (sym h.1 ∙ cut.spelled) in
    let short : IsShortened c r.0 = record { without_spaces = trimmed_same r.0 cut.trim; in_order = cut.good } in
    let held = text_is c parts.0.now r.0 same short in
    (r.1 ∙ ap (λ (l : List ℕ). done l rest) (sym held), h.1, same ∙ ap (text_from 8) (sym held), subst (IsShortened c) (sym held) short)
takes_text c key (Err left) h = (err_of (text_read c key) left h.0, h.1)
