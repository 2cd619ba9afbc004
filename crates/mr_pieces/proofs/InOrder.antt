-- Texts that are folded and shortened are as pieces keep them.
use Rattle.std.proofs.Common.{◌≡◌, ℕ, ◌<◌, List, [], ◌∷◌, map, refl, arith, inl, inr, true}
use Rattle.std.specs.List.{list_all}
use Rattle.std.specs.Prelude.{nat_lt}
use Rattle.std.proofs.lemmas.Bool.{lt-ltb, cases_eq, eq-eqb, ne_eqb, and_from, and_parts}
use Rattle.std.proofs.lemmas.Bool.Decides.{nat_tests}
use Rattle.mr_lanes.specs.Kernels.{upper}
use Rattle.mr_pieces.specs.declared.collation.Collation.{Collation}
use Rattle.mr_pieces.specs.declared.collation.Collation.TheVariants.{Bin, Ci}
use Rattle.mr_pieces.specs.Order.{IsAscii, folded}
use Rattle.mr_pieces.specs.Pieces.{trimmed, trim_onto, shortened}
use Rattle.mr_pieces.specs.Reading.{is_text_byte, IsShortened}
use Rattle.mr_pieces.proofs.Texts.{IsTrimmed-trimmed}
use Rattle.mr_pieces.proofs.TextTrip.{trimmed_same}

good_upper : (b : ℕ) → b < 128 → is_text_byte Ci (upper b) ≡ true
good_upper b h = grind (arith, nat_tests)

good_folded : (c : Collation) (text : List ℕ) → IsAscii text → list_all (is_text_byte c) (folded c text) ≡ true
good_folded Bin [] h = refl
good_folded Bin (b ∷ text) h = and_from (nat_lt b 128) (list_all (is_text_byte Bin) text) (lt-ltb b 128 h.0) (good_folded Bin text h.1)
good_folded Ci [] h = refl
good_folded Ci (b ∷ text) h = and_from (is_text_byte Ci (upper b)) (list_all (is_text_byte Ci) (map upper text)) (good_upper b h.0) (good_folded Ci text h.1)

good_onto : (c : Collation) (x : ℕ) (t : List ℕ) → is_text_byte c x ≡ true → list_all (is_text_byte c) t ≡ true → list_all (is_text_byte c) (trim_onto x t) ≡ true
good_onto c x [] p q =
    elim (cases_eq x 32) [
      | inl space ↦ rw (eq-eqb x 32 space) refl
      | inr other ↦ rw (ne_eqb x 32 other) (and_from (is_text_byte c x) true p refl)
    ]
good_onto c x (y ∷ t) p q = and_from (is_text_byte c x) (list_all (is_text_byte c) (y ∷ t)) p q

good_trimmed : (c : Collation) (text : List ℕ) → list_all (is_text_byte c) text ≡ true → list_all (is_text_byte c) (trimmed text) ≡ true
good_trimmed c [] h = refl
good_trimmed c (x ∷ text) h =
    let parts = and_parts (is_text_byte c x) (list_all (is_text_byte c) text) h in
    good_onto c x (trimmed text) parts.0 (good_trimmed c text parts.1)

pub is_shortened : (c : Collation) (text : List ℕ) → IsAscii text → IsShortened c (shortened c text)
is_shortened c text ascii =
    record {
      without_spaces = trimmed_same (shortened c text) (IsTrimmed-trimmed (folded c text));
      in_order = good_trimmed c (folded c text) (good_folded c text ascii);
    }
