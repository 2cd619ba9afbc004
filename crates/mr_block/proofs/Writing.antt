-- An entry, written field by field.
use Rattle.std.proofs.Common.{◌≡◌, ℕ, List, [], ◌∷◌, ◌++◌, length, Bool, ◌∙◌, ap, append_assoc, Result, Ok, Err, OnOk, Option, is_some, unwrap_or}
use Rattle.byteorder.specs.Endian.{big_bytes}
use Rattle.mr_iter.specs.Versions.{as_version}
use Rattle.mr_block.specs.Block.{entry_bytes, kind_byte}

pieces : (old a b c d e f : List ℕ) → (((old ++ (a ++ b)) ++ c) ++ d) ++ (e ++ f) ≡ old ++ (a ++ (b ++ (c ++ (d ++ (e ++ f)))))
pieces old a b c d e f = simp append_assoc

pub entry_written : {T E : Type 0} (r : Result T E) (old x y z w key value : List ℕ) (sequence : ℕ) (is_put : Bool) (put : Option (List ℕ)) → is_put ≡ is_some put → value ≡ unwrap_or put [] →
    x ≡ old ++ (big_bytes 4 (length key) ++ key) → y ≡ x ++ big_bytes 8 sequence → z ≡ y ++ kind_byte is_put ∷ [] → OnOk r (w ≡ z ++ (big_bytes 4 (length value) ++ value)) → OnOk r (w ≡ old ++ entry_bytes (as_version key sequence put))
entry_written (Err e) old x y z w key value sequence is_put put p v a b c h = h
entry_written (Ok u) old x y z w key value sequence is_put put p v a b c h =
    h
    ∙ ap (λ (s : List ℕ). s ++ (big_bytes 4 (length value) ++ value)) (c ∙ ap (λ (s : List ℕ). s ++ kind_byte is_put ∷ []) (b ∙ ap (λ (s : List ℕ). s ++ big_bytes 8 sequence) a))
    ∙ pieces old (big_bytes 4 (length key)) key (big_bytes 8 sequence) (kind_byte is_put ∷ []) (big_bytes 4 (length value)) value
    ∙ ap (λ (t : Bool). old ++ (big_bytes 4 (length key) ++ (key ++ (big_bytes 8 sequence ++ (kind_byte t ∷ (big_bytes 4 (length value) ++ value)))))) p
    ∙ ap (λ (s : List ℕ). old ++ (big_bytes 4 (length key) ++ (key ++ (big_bytes 8 sequence ++ (kind_byte (is_some put) ∷ (big_bytes 4 (length s) ++ s)))))) v
