use Rattle.std.proofs.Common.{sym, arith}
use Rattle.mr_chain.proofs.Reading.{below_children, current_of}
use Rattle.mr_chain.proofs.chain.child.Goals as goal

pub offset_bounds-children-here : goal.offset_bounds-children-here
offset_bounds-children-here g c = omega (arith, below_children g.C.Listed.cursor c.args.children.now c.args.here c.requires)

pub bounds-children-here : goal.bounds-children-here
bounds-children-here g c = below_children g.C.Listed.cursor c.args.children.now c.args.here c.requires

pub returns : goal.returns
returns g c = sym (current_of g.C.Listed.cursor c.args.children.now c.args.here c.index-children-here.result (below_children g.C.Listed.cursor c.args.children.now c.args.here c.requires) c.index-children-here.is)
