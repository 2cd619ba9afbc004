use Rattle.std.proofs.Common.{rules}
use Rattle.mr_bound.specs.BoundSelects.{reply_by}
use Rattle.mr_exec.proofs.OneOrder.{sorted-by-closure}
use Rattle.mr_exec.proofs.Replying.{reply-total}
use Rattle.mr_exec.proofs.sorting.sort_rows.Goals as goal

pub returns-in-Ok : goal.returns-in-Ok
returns-in-Ok c =
    sorted-by-closure (reply_by c.args.def.now c.args.order.now) (reply-total c.args.def.now c.args.order.now) c.args.rows.now.items c.sort_by.new.self.items c.in-Ok.ensures.sorted c.sort_by.ensures.stable (λ a r f' k. search rules)
