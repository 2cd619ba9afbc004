use Rattle.std.proofs.Common.{take, map}
use Rattle.std.specs.Option.{option_map}
use Rattle.mr_block.specs.Held.{version_held}
use Rattle.mr_levels.specs.Looks.{with_key, parts_of}
use Rattle.mr_levels.proofs.Looking.{Looked}
use Rattle.mr_levels.proofs.look_up.find_deeper.Given as goal

abbrev pub invariant-looking : goal.invariant-looking
invariant-looking g l = Looked l.number l.key (with_key l.direction l.key (parts_of l.direction l.key (map (λ rs. rs.items) (take l.i l.levels)))) (g.D.Disk.disk l.fn.disk) (g.D.Disk.disk l.disk) l.fn.cache l.cache (option_map version_held l.fn.best) (option_map version_held l.latest)
