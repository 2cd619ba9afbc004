-- The laws of pieces, put together.
use Rattle.std.proofs.Common.{◌≡◌, ℕ, ◌<◌, ◌^◌, List, length, refl, sym, ap, ◌∙◌, arith, inl, true}
use Rattle.std.specs.Cmp.{IsTotalOrder}
use Rattle.mr_pieces.specs.declared.collation.Collation.{Collation}
use Rattle.mr_pieces.specs.Order.{folded, text_cmp, IsAscii}
use Rattle.mr_pieces.specs.Pieces.{shortened, text_pieces, bytes_pieces}
use Rattle.mr_pieces.specs.Reading.{bytes_in}
use Rattle.mr_pieces.specs.Unpack.{unpack_form, original}
use Rattle.mr_pieces.specs.Lying.{text_of, HoldsText}
use Rattle.mr_pieces.specs.Promises.{PiecesDecideFirst, PiecesComeBack, TextsInOrder}
use Rattle.mr_pieces.proofs.Texts.{text_lead, IsTrimmed-trimmed}
use Rattle.mr_pieces.proofs.BytePieces.{bytes_lead}
use Rattle.mr_pieces.proofs.RoundTrip.{bytes_again}
use Rattle.mr_pieces.proofs.TextTrip.{text_again}
use Rattle.mr_pieces.proofs.Held.{bytes_are, text_is}
use Rattle.mr_pieces.proofs.InOrder.{is_shortened}
use Rattle.mr_pieces.proofs.Restoring.{text_back}
use Rattle.mr_pieces.proofs.Totality.{texts_total, filled_is_padded}

pub decide_first : PiecesDecideFirst
decide_first =
    record {
      of_bytes = λ x y a b. bytes_lead 8 x y a b (omega arith);
      of_texts = λ collation x y a b. text_lead (folded collation x) (folded collation y) a b;
    }

lying_text : (c : Collation) (text : List ℕ) → IsAscii text → length text < 2 ^ 16 → text_of c (text_pieces c text) (unpack_form c text) ≡ text
lying_text c text ascii short =
    ap (λ (l : List ℕ). original c l (unpack_form c text)) (text_is c (text_pieces c text) (shortened c text) refl (is_shortened c text ascii)) ∙ text_back c text short

holds_text : (c : Collation) (text : List ℕ) → IsAscii text → length text < 2 ^ 16 → HoldsText c (text_pieces c text) (unpack_form c text)
holds_text c text ascii short =
    let same = lying_text c text ascii short in
    record {
      its_pieces = ap (text_pieces c) (sym same);
      its_unpack = ap (unpack_form c) (sym same);
      not_long = rw same short;
    }

lying_bytes_are : (bytes : List ℕ) → bytes_in (bytes_pieces bytes) ≡ bytes
lying_bytes_are bytes = bytes_are (bytes_pieces bytes) bytes refl

pub come_back : PiecesComeBack
come_back =
    record {
      of_bytes = λ bytes rest. bytes_again (length bytes) true bytes rest (omega arith) (inl refl);
      of_texts = λ collation text rest ascii. text_again (length (shortened collation text)) collation (shortened collation text) rest (omega arith) (IsTrimmed-trimmed (folded collation text)) (is_shortened collation text ascii).in_order;
      whole_texts = text_back;
      lying_texts = λ collation text ascii short. (lying_text collation text ascii short, holds_text collation text ascii short);
      lying_bytes = λ bytes. (lying_bytes_are bytes, ap bytes_pieces (sym (lying_bytes_are bytes)));
    }

folded_total : (collation : Collation) → IsTotalOrder (text_cmp collation)
folded_total collation =
    record {
      antisymm = λ x y. texts_total.antisymm (folded collation x) (folded collation y);
      trans = λ x y z. texts_total.trans (folded collation x) (folded collation y) (folded collation z);
      congr = λ x y z. texts_total.congr (folded collation x) (folded collation y) (folded collation z);
    }

pub in_order : TextsInOrder
in_order = record { total = folded_total; is_padded = λ filler size xs ys p q. sym (filled_is_padded filler size xs ys p q) }
