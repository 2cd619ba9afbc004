use Rattle.std.proofs.Common.{arith, ap, ◌∙◌, ◌++◌, List, ℕ}
use Rattle.mr_pieces.specs.Pieces.{text_from}
use Rattle.mr_pieces.proofs.Folded.{folded_behind}
use Rattle.mr_pieces.proofs.writer.push_text.Goals as goal

pub returns-in-Ci : goal.returns-in-Ci
returns-in-Ci c =
    let old = c.args.out.now.items in
    rw c.in-Ci.is
    (folded_behind old c.args.text.now _ _ _ (omega arith)
    (c.in_ok-push_pieces.ensures ∙ ap (λ (t : List ℕ). old ++ text_from 8 t) c.without_spaces.ensures)
    c.fold_behind.ensures)
