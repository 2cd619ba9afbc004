use Rattle.std.proofs.Common.{◌<◌, ◌+◌, ◌*◌, ◌^◌, ◌++◌, List, ℕ, length, ◌∙◌, ap, subst, arith, Ok}
use Rattle.std.specs.List.{AllByRecursion}
use Rattle.mr_iter.specs.Versions.{Version}
use Rattle.mr_block.specs.Block.{block_bytes, block_in}
use Rattle.mr_block.specs.Built.{placed, FitsEntry, versions_in}
use Rattle.mr_block.proofs.Building.{finished, block_length, block_back}
use Rattle.mr_block.proofs.builder.BlockBuilder.finish.Goals as goal

pub returns-clause-written : goal.returns-clause-written
returns-clause-written c =
    let vs = versions_in (length c.self.inside.offsets.items) c.self.inside.entries.items in
    c.from_vec.ensures ∙ finished c.self.inside.entries.items c.self.inside.offsets.items c.in_ok-out.out.items c.write_u32.new.out.items c.write_places.new.out.items c.extend_from_slice.new.self.items c.in-Ok.number vs c.self.invariant
    (omega (arith, c.in-Ok.ensures, c.len-count.ensures, c.self.inside.offsets.ok.0)) c.in_ok-out.ensures.items c.in_ok-write_u32.ensures
    (c.in_ok-write_places.ensures ∙ ap (λ (os : List ℕ). c.write_u32.new.out.items ++ placed (4 + 4 * c.in-Ok.number) os) c.deref.ensures.value)
    (c.in_ok-extend_from_slice.ensures.items ∙ ap (λ (es : List ℕ). c.write_places.new.out.items ++ es) c.deref-2.ensures.value)
    ∙ ap block_bytes c.self.view_is

pub returns-clause-reads_back : goal.returns-clause-reads_back
returns-clause-reads_back c =
    let vs = versions_in (length c.self.inside.offsets.items) c.self.inside.entries.items in
    let written = finished c.self.inside.entries.items c.self.inside.offsets.items c.in_ok-out.out.items c.write_u32.new.out.items c.write_places.new.out.items c.extend_from_slice.new.self.items c.in-Ok.number vs c.self.invariant
    (omega (arith, c.in-Ok.ensures, c.len-count.ensures, c.self.inside.offsets.ok.0)) c.in_ok-out.ensures.items c.in_ok-write_u32.ensures
    (c.in_ok-write_places.ensures ∙ ap (λ (os : List ℕ). c.write_u32.new.out.items ++ placed (4 + 4 * c.in-Ok.number) os) c.deref.ensures.value)
    (c.in_ok-extend_from_slice.ensures.items ∙ ap (λ (es : List ℕ). c.write_places.new.out.items ++ es) c.deref-2.ensures.value) in
    let small : length (block_bytes vs) < 2 ^ 32 = omega (arith, block_length c.self.inside.entries.items c.self.inside.offsets.items vs c.self.invariant, c.in-Ok.ensures, c.len-count.ensures, c.len.ensures, c.saturating_add-total.ensures, c.if-total-ge4294967296.false, c.self.inside.offsets.ok.0, c.self.inside.entries.ok.0) in
    ap block_in (c.from_vec.ensures ∙ written) ∙ block_back vs c.self.invariant.fits small ∙ ap (λ (us : List Version). Ok us) c.self.view_is

pub returns-clause-fits : goal.returns-clause-fits
returns-clause-fits c = subst (AllByRecursion FitsEntry) c.self.view_is c.self.invariant.fits
