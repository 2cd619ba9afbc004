use Rattle.std.proofs.Common.{◌∙◌, [], length, drop, ap, arith, refl, length-drop}
use Rattle.mr_memtable.proofs.ChunkLaws.{rest_of}
use Rattle.mr_memtable.proofs.chunk.move_fronts.Goals.{in-Ok, in-Err}
use Rattle.mr_memtable.proofs.chunk.move_fronts.Goals as goal

pub returns-clause-high : goal.returns-clause-high
returns-clause-high c =
    let v = ap length c.deref.ensures.value in
    let n = ap length (rest_of [] c.deref.result.now 128 refl) ∙ length-drop 128 c.deref.result.now in
    let z = ap length c.requires.empty in
    elim c.match-extend_from_slice.branch [
      | in-Ok w ↦ w.in-Ok.ensures.items ∙ rest_of c.args.empty.now.items c.deref.result.now 128 c.requires.empty ∙ ap (drop 128) c.deref.ensures.value
      | in-Err w ↦ absurd (omega (arith, w.in-Err.ensures.full, n, v, z, c.requires.full, c.requires.fits, c.args.empty.now.ok.0, c.args.full.now.ok.0))
    ]
