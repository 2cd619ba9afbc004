use Rattle.mr_orders.proofs.Tables.{views-ascend}
use Rattle.mr_orders.proofs.views.tables_ascend.Goals as goal

pub returns : goal.returns
returns c = views-ascend
