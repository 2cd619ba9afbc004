use Rattle.std.specs.Prelude.{◌≡◌, ℕ, List, ◌++◌}
use Rattle.std.proofs.Common.{ap, sym, subst, ◌∙◌}
use Rattle.mr_types.specs.declared.definition.ColumnDef.{ColumnDef}
use Rattle.mr_rowval.specs.Decoded.{held_in}
use Rattle.mr_entry.specs.Held.{HeldEntry}
use Rattle.mr_entry.specs.Primary.{parts_in, primary_key_held}
use Rattle.mr_entry.proofs.PrimaryKeys.{added}
use Rattle.mr_entry.proofs.entry_ref.primary_key_of_entry.Goals as goal

pub returns : goal.returns
returns c =
    let e = c.entry.inside in
    let parts = c.in_ok-push_parts.ensures ∙ ap (λ (columns : List ColumnDef). c.push_number.new.out.items ++ parts_in columns e.places.now e.body.now c.as_slice-2.result.now) c.as_slice.ensures ∙ ap (λ (wanted : List ℕ). c.push_number.new.out.items ++ parts_in e.def.now.columns e.places.now e.body.now wanted) c.as_slice-2.ensures in
    subst (λ (h : HeldEntry). c.push_stamp.new.out.items ≡ c.args.out.now.items ++ primary_key_held c.args.number h) c.entry.view_is (added e.def.now.columns e.places.now e.body.now e.unpack.now e.def.now.primary.columns (held_in e.def.now.columns e.places.now e.body.now e.unpack.now) c.args.out.now.items c.push_number.new.out.items c.push_parts.new.out.items c.push_stamp.new.out.items c.args.number e.hidden c.are_bytes.ensures c.are_bytes-2.ensures c.entry.invariant c.in_ok-push_number.ensures parts c.in_ok-push_stamp.ensures)
