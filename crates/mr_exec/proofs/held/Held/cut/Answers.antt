use Rattle.std.proofs.Common.{◌≡◌, ◌∙◌, ◌≤◌, List, Some, length, ap, sym, subst, take, arith}
use Rattle.std.proofs.lemmas.Bool.{ltb-true}
use Rattle.mr_types.specs.declared.row.Row.{Row}
use Rattle.mr_bound.specs.BoundSelects.{reply_by}
use Rattle.mr_spec.specs.Select.{sorted}
use Rattle.mr_exec.specs.Holding.{IsBound}
use Rattle.mr_exec.proofs.Behind.{stands-for-first, bound-cut}
use Rattle.mr_exec.proofs.Replying.{reply-total}
use Rattle.mr_exec.proofs.held.Held.cut.Goals as goal

pub returns-in_ok-sort_rows-clause-holds : goal.returns-in_ok-sort_rows-clause-holds
returns-in_ok-sort_rows-clause-holds c = λ seen h.
    let cmp = reply_by c.args.def.now c.args.order.now in
    let total = reply-total c.args.def.now c.args.order.now in
    let rows = c.args.self.now.rows.items in
    let most = c.args.most in
    let front : c.truncate.new.self.items ≡ take most (sorted cmp rows) = c.truncate.ensures.items ∙ ap (take most) c.in_ok-sort_rows.ensures in
    let enough : most ≤ length rows = omega (arith, c.if-len-most.true, c.len.ensures) in (
      ap (λ l. take most (sorted cmp l)) front ∙ stands-for-first cmp total most rows ∙ h.0,
      λ e. subst (λ (l : List Row). IsBound cmp (Some most) l) (sym front) (bound-cut cmp total most rows (ltb-true 0 most e) enough),
    )
