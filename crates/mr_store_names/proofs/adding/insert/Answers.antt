use Rattle.std.proofs.Common.{◌∙◌, ap}
use Rattle.mr_base.specs.declared.stop.Direction.{Direction}
use Rattle.mr_wal.specs.declared.operation.Operation.{Operation}
use Rattle.mr_wal.specs.Operations.{operation_of}
use Rattle.mr_iter.specs.Versions.{version_cmp, place_in}
use Rattle.mr_families.specs.Batches.{version_of}
use Rattle.mr_store_names.specs.Adding.{with_own}
use Rattle.mr_store_names.proofs.adding.insert.Goals as goal

pub returns-clause-versions : goal.returns-clause-versions
returns-clause-versions c =
    let vs = c.args.family.now.memtable.versions in
    c.insert.ensures.in_memory
    ∙ ap (λ (d : Direction). place_in (version_cmp d) (version_of c.args.sequence (operation_of c.lend-item.result)) vs) c.requires.forward
    ∙ ap (λ (o : Operation). with_own c.args.sequence o vs) c.lend-item.ensures
