use Rattle.std.proofs.Common.{arith, sym, ◌∙◌, ap, ◌-◌, length, take, ℕ}
use Rattle.std.proofs.lemmas.List.Sums.{suffix_len-le-length}
use Rattle.mr_lanes.specs.Kernels.{is_space}
use Rattle.mr_pieces.proofs.Cutting.{trimmed_is}
use Rattle.mr_pieces.proofs.unpack_form.split_spaces.Goals as goal

pub slice_bounds-result-count : goal.slice_bounds-result-count
slice_bounds-result-count c = omega (arith, suffix_len-le-length is_space c.args.text.now)

pub returns-clause-shortened : goal.returns-clause-shortened
returns-clause-shortened c =
    let text = c.args.text.now in
    ap (λ (n : ℕ). take (length text - n) text) c.trailing_spaces-spaces.ensures ∙ sym (trimmed_is text)

pub returns-clause-within : goal.returns-clause-within
returns-clause-within c = omega (arith, suffix_len-le-length is_space c.args.text.now)
