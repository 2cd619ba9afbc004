use Rattle.std.proofs.Common.{◌++◌, ◌∷◌, [], List, sym, subst}
use Rattle.mr_types.specs.declared.row.Row.{Row}
use Rattle.mr_bound.specs.BoundSelects.{reply_by}
use Rattle.mr_exec.specs.Gathering.{StandsFor}
use Rattle.mr_exec.specs.Holding.{IsBound}
use Rattle.mr_exec.proofs.Behind.{stands-for-more, bound-more}
use Rattle.mr_exec.proofs.Replying.{reply-total}
use Rattle.mr_exec.proofs.held.Held.add.Goals as goal

pub returns-clause-holds : goal.returns-clause-holds
returns-clause-holds c = λ seen h.
    let cmp = reply_by c.args.def.now c.args.order.now in
    let total = reply-total c.args.def.now c.args.order.now in
    let rows = c.make_room.new.self.rows.items in
    let room = c.in_ok-make_room.ensures.holds seen h in (
      subst (λ (l : List Row). StandsFor cmp c.args.reach l (seen ++ c.args.row ∷ [])) (sym c.in_ok-push_row.ensures) (stands-for-more cmp total c.args.reach rows seen c.args.row room.0),
      λ e. subst (λ (l : List Row). IsBound cmp c.args.reach l) (sym c.in_ok-push_row.ensures) (bound-more cmp total c.args.reach rows c.args.row (room.1 e)),
    )
