use Rattle.std.proofs.Common.{sym}
use Rattle.mr_run_open.proofs.Ranges.{run_parts, run_order, in_order, first_is}
use Rattle.mr_run_open.proofs.laws.runs_are_their_blocks.Goals as goal

pub returns-clause-blocks : goal.returns-clause-blocks
returns-clause-blocks c = λ entries file vs index is structure. let parts = run_parts entries file vs index is structure in (parts.lists.blocks, parts.lists.list)

pub returns-clause-first : goal.returns-clause-first
returns-clause-first c = λ entries file vs index is structure. let parts = run_parts entries file vs index is structure in first_is file index.blocks vs parts.lists

pub returns-clause-last : goal.returns-clause-last
returns-clause-last c = λ entries file vs index is structure. let parts = run_parts entries file vs index is structure in sym parts.last

pub returns-clause-order : goal.returns-clause-order
returns-clause-order c = λ d entries file vs index is structure. let parts = run_parts entries file vs index is.0 structure in in_order d file index.blocks (run_order d file index.blocks vs parts.lists is.1) parts.lists.begin
