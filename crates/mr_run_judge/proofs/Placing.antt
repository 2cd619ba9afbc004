-- One record more of the manifest is read.
use Rattle.std.proofs.Common.{◌≡◌, ◌+◌, ℕ, Bool, true, false, List, ◌∷◌, refl, sym, ◌∙◌, ap, arith, drop, length, Ok, Err, Result}
use Rattle.std.specs.Prelude.{if◌then◌else◌}
use Rattle.mr_gate.specs.Log.{span, is_bad_end, records_from, end_from, is_damaged_from}
use Rattle.mr_manifest.specs.declared.edit.Edit.{Edit}
use Rattle.mr_manifest.specs.Edits.{read_edits}
use Rattle.mr_manifest.specs.Manifest.{records_in, in_front}
use Rattle.mr_stored.specs.Offences.{add}
use Rattle.mr_run_judge.specs.Adding.{added_behind, read_from}

front : (file place at : ℕ) (es : List Edit) (rs : Result (List (ℕ × List Edit)) ℕ) → added_behind file place (in_front at (Ok es) rs) ≡ added_behind file (if add file es then at else place) rs
front file place at es (Ok rs) = refl
front file place at es (Err p) = refl

judged : (file place at next end end2 : ℕ) (es : List Edit) (rs : Result (List (ℕ × List Edit)) ℕ) (b : Bool)
    → added_behind file place (if b then Err end else in_front at (Ok es) rs) ≡ added_behind file (if add file es then at else place) (if b then Err end2 else rs)
judged file place at next end end2 es rs true = refl
judged file place at next end end2 es rs false = front file place at es rs

pub place_step : (file place at next : ℕ) (bytes body : List ℕ) (es : List Edit) → read_edits body ≡ Ok es → records_from at bytes ≡ body ∷ records_from next bytes → next ≡ at + (5 + length body) → is_damaged_from at bytes ≡ is_damaged_from next bytes
    → added_behind file place (read_from at bytes) ≡ added_behind file (if add file es then at else place) (read_from next bytes)
place_step file place at next bytes body es read records behind damage =
    ap (λ r. added_behind file place (if is_damaged_from at bytes then Err (end_from at bytes) else records_in at r)) records
    ∙ ap (λ r. added_behind file place (if is_damaged_from at bytes then Err (end_from at bytes) else in_front at r (records_in (at + (5 + length body)) (records_from next bytes)))) read
    ∙ ap (λ n. added_behind file place (if is_damaged_from at bytes then Err (end_from at bytes) else in_front at (Ok es) (records_in n (records_from next bytes)))) (sym behind)
    ∙ ap (λ b. added_behind file place (if b then Err (end_from at bytes) else in_front at (Ok es) (records_in next (records_from next bytes)))) damage
    ∙ judged file place at next (end_from at bytes) (end_from next bytes) es (records_in next (records_from next bytes)) (is_damaged_from next bytes)

-- the end of the records is the same from the next one on, and so is what follows it
pub damage_step : (at next : ℕ) (bytes body : List ℕ) → records_from at bytes ≡ body ∷ records_from next bytes → next ≡ at + (5 + length body) → is_damaged_from at bytes ≡ is_damaged_from next bytes
damage_step at next bytes body records behind =
    let e : end_from at bytes ≡ at + span (body ∷ records_from next bytes) = ap (λ rs. at + span rs) records in
    let f : end_from at bytes ≡ end_from next bytes = omega (arith, e, behind) in
    ap (λ n. is_bad_end n (drop n bytes)) f
