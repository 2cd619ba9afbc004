-- The first record of a manifest, beside that of a new folder.
use Rattle.std.proofs.Common.{◌≡◌, ℕ, ◌+◌, Bool, false, if◌then◌else◌, nat_eq, List, [], ◌∷◌, sym, ◌∙◌, ap, subst, Ok, Err}
use Rattle.std.specs.List.{common_prefix_len}
use Rattle.std.specs.Cmp.Lexicographic.{pointwise}
use Rattle.mr_manifest.specs.Edits.{first_record, edits_bytes}
use Rattle.mr_stored.specs.Said.{first_fields, last_upto, differs_at}
use Rattle.mr_store_reading.specs.ReadBack.{judged_first}

-- a body that differs
pub differs : (body first : List ℕ) (place : ℕ) → first ≡ edits_bytes first_record → pointwise nat_eq body first ≡ false → place ≡ last_upto (common_prefix_len nat_eq body first) 0 first_fields
    → judged_first (body ∷ []) ≡ Err (5 + place)
differs body first place is unlike at =
    ap (λ (b : Bool). if b then Ok (tt {0}) else Err (5 + differs_at body)) (subst (λ (l : List ℕ). pointwise nat_eq body l ≡ false) is unlike)
    ∙ ap (λ n. Err (5 + n)) (ap (λ (l : List ℕ). last_upto (common_prefix_len nat_eq body l) 0 first_fields) (sym is) ∙ sym at)
