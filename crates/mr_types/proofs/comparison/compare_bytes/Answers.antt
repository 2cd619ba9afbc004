use Rattle.std.proofs.Common.{◌≤◌, ◌⊎◌, ◌∙◌, sym, ap, arith, inl, inr, length, ℕ}
use Rattle.std.specs.Ordering.{nat_cmp}
use Rattle.std.proofs.lemmas.Bool.{cases_lt}
use Rattle.mr_types.specs.FieldValues.{bytes_of}
use Rattle.mr_types.proofs.Comparing.{start_bytes, bytes_end}
use Rattle.mr_types.proofs.comparison.compare_bytes.Goals as goal

pub loop-at-init : goal.loop-at-init
loop-at-init c =
    let common = c.common_front-at.ensures in
    record {
      first = common.1;
      second = common.2;
      so_far = start_bytes (bytes_of c.args.left.now) (bytes_of c.args.right.now) c.common_front-at.result common;
    }

pub returns : goal.returns
returns c =
    let a = bytes_of c.args.left.now in
    let b = bytes_of c.args.right.now in
    let at = c.loop-at.at in
    let gone : (length a ≤ at) ⊎ (length b ≤ at) = elim (cases_lt at (length a)) [ inl h ↦ inr (omega arith) | inr h ↦ inl h ] in
    c.cmp-2.ensures ∙ ap (λ (n : ℕ). nat_cmp n c.length_of-4.result) c.length_of-3.ensures ∙ ap (nat_cmp (length a)) c.length_of-4.ensures
    ∙ sym (bytes_end a b at c.loop-at.invariant.first c.loop-at.invariant.second gone) ∙ c.loop-at.invariant.so_far
