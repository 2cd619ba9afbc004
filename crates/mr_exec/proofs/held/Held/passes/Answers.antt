use Rattle.std.proofs.Common.{◌≡◌, ◌∙◌, ◌-◌, ℕ, List, true, false, get_or, ap, sym}
use Rattle.std.specs.Ordering.{is_lt}
use Rattle.mr_types.specs.declared.row.Row.{Row}
use Rattle.mr_bound.specs.BoundSelects.{reply_by}
use Rattle.mr_exec.proofs.Behind.{passes-over, if-on, same-number}
use Rattle.mr_exec.proofs.Replying.{reply-total}
use Rattle.mr_exec.proofs.held.Held.passes.Goals as goal

pub returns-then-self : goal.returns-then-self
returns-then-self g c =
    let cmp = reply_by c.args.def.now c.args.order.now in
    let total = reply-total c.args.def.now c.args.order.now in
    let rows = c.args.self.now.rows.items in
    let at = c.in-Some-checked_sub.at in
    if-on (g.S.Fields.current c.args.source.now)
    (λ r. c.is_behind.result ≡ true → (d : Row) → is_lt (cmp r (get_or c.as_slice.result.now at d)) ≡ false)
    _
    (λ r behind is seen h. (
      passes-over cmp total c.args.reach rows seen r h.0 (h.1 c.if-self.true)
          (λ k d e.
          let place : at ≡ k - 1 = c.in-Some-checked_sub.ensures.1 ∙ ap (λ (n : ℕ). n - 1) (same-number c.in-Some.most k (sym c.in-Some.is ∙ e)) in
          ap (λ (n : ℕ). is_lt (cmp r (get_or rows n d))) (sym place) ∙ ap (λ (l : List Row). is_lt (cmp r (get_or l at d))) (sym c.as_slice.ensures.value) ∙ behind is d),
      h.1,
    ))
    c.is_behind.ensures
