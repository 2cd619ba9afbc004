use Rattle.std.proofs.Common.{◌∙◌, ap}
use Rattle.mr_iter.specs.Versions.{from_key}
use Rattle.mr_iter.specs.Newest.{newest}
use Rattle.mr_run_open.proofs.Ranges.{run_parts, run_order, newest_in_blocks, from_blocks}
use Rattle.mr_run_open.proofs.laws.keys_stand_in_their_blocks.Goals as goal

pub returns-clause-newest : goal.returns-clause-newest
returns-clause-newest c = λ d entries number key file vs index is structure.
    let parts = run_parts entries file vs index is.0 structure in
    ap (newest number key) parts.lists.list ∙ newest_in_blocks d number key file index.blocks (run_order d file index.blocks vs parts.lists is.1) parts.lists.begin

pub returns-clause-from : goal.returns-clause-from
returns-clause-from c = λ d entries key file vs index is structure.
    let parts = run_parts entries file vs index is.0 structure in
    ap (from_key d key) parts.lists.list ∙ from_blocks d key file index.blocks (run_order d file index.blocks vs parts.lists is.1) parts.lists.begin
