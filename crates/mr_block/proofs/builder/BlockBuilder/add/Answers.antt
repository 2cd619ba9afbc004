use Rattle.std.proofs.Common.{◌≡◌, ◌<◌, ◌^◌, ◌∷◌, ◌++◌, [], ℕ, List, true, length, unwrap_or, nat_lt, ◌∙◌, ap, arith, rules}
use Rattle.std.specs.Option.{option_map}
use Rattle.std.proofs.lemmas.Bool.{ltb-true}
use Rattle.mr_iter.specs.Versions.{Version, as_version}
use Rattle.mr_block.specs.Block.{entry_bytes}
use Rattle.mr_block.specs.Built.{FitsEntry, versions_in}
use Rattle.mr_block.proofs.Building.{added, versions_built, is_built}
use Rattle.mr_block.proofs.builder.BlockBuilder.add.Goals as goal

pub returns-in-Ok-extend_from_slice-clause-added : goal.returns-in-Ok-extend_from_slice-clause-added
returns-in-Ok-extend_from_slice-clause-added c =
    let put = option_map (λ v. v.now) c.args.put in
    let v = as_version c.args.key.now c.args.sequence put in
    let value : c.unwrap_or.result.now ≡ unwrap_or (option_map (λ v. v.now) c.args.put) [] = search rules in
    let key_fits : nat_lt (length c.args.key.now) (2 ^ 32) ≡ true = search rules in
    let value_fits : nat_lt (length c.unwrap_or.result.now) (2 ^ 32) ≡ true = search rules in
    let small : length c.unwrap_or.result.now < 2 ^ 32 = ltb-true (length c.unwrap_or.result.now) (2 ^ 32) value_fits in
    let fits : FitsEntry v = record { key = ltb-true (length c.args.key.now) (2 ^ 32) key_fits; sequence = omega arith; value = omega (arith, small, ap length value) } in
    let entries : c.extend_from_slice.new.self.items ≡ c.self.inside.entries.items ++ entry_bytes v =
    c.in-Ok-extend_from_slice.ensures.items ∙ ap (λ (x : List ℕ). c.self.inside.entries.items ++ x) (c.deref.ensures.value ∙ c.in_ok-write_entry.ensures ∙ ap (λ (x : List ℕ). x ++ entry_bytes v) c.clear.ensures.items) in
    let vs = versions_in (length c.self.inside.offsets.items) c.self.inside.entries.items in
    let more = added c.self.inside.entries.items c.self.inside.offsets.items c.extend_from_slice.new.self.items c.push.new.self.items vs v c.len.result c.self.invariant fits (omega (arith, c.len.ensures, c.self.inside.entries.ok.0)) entries c.in-Ok.ensures.items in
    versions_built c.extend_from_slice.new.self.items c.push.new.self.items (vs ++ v ∷ []) more ∙ ap (λ (us : List Version). us ++ v ∷ []) c.self.view_is

pub invariant_of-self-in-Ok-extend_from_slice : goal.invariant_of-self-in-Ok-extend_from_slice
invariant_of-self-in-Ok-extend_from_slice c =
    let put = option_map (λ v. v.now) c.args.put in
    let v = as_version c.args.key.now c.args.sequence put in
    let value : c.unwrap_or.result.now ≡ unwrap_or (option_map (λ v. v.now) c.args.put) [] = search rules in
    let key_fits : nat_lt (length c.args.key.now) (2 ^ 32) ≡ true = search rules in
    let value_fits : nat_lt (length c.unwrap_or.result.now) (2 ^ 32) ≡ true = search rules in
    let small : length c.unwrap_or.result.now < 2 ^ 32 = ltb-true (length c.unwrap_or.result.now) (2 ^ 32) value_fits in
    let fits : FitsEntry v = record { key = ltb-true (length c.args.key.now) (2 ^ 32) key_fits; sequence = omega arith; value = omega (arith, small, ap length value) } in
    let entries : c.extend_from_slice.new.self.items ≡ c.self.inside.entries.items ++ entry_bytes v =
    c.in-Ok-extend_from_slice.ensures.items ∙ ap (λ (x : List ℕ). c.self.inside.entries.items ++ x) (c.deref.ensures.value ∙ c.in_ok-write_entry.ensures ∙ ap (λ (x : List ℕ). x ++ entry_bytes v) c.clear.ensures.items) in
    let vs = versions_in (length c.self.inside.offsets.items) c.self.inside.entries.items in
    let more = added c.self.inside.entries.items c.self.inside.offsets.items c.extend_from_slice.new.self.items c.push.new.self.items vs v c.len.result c.self.invariant fits (omega (arith, c.len.ensures, c.self.inside.entries.ok.0)) entries c.in-Ok.ensures.items in
    is_built c.extend_from_slice.new.self.items c.push.new.self.items (vs ++ v ∷ []) more

pub returns-in-Ok-extend_from_slice-clause-fits : goal.returns-in-Ok-extend_from_slice-clause-fits
returns-in-Ok-extend_from_slice-clause-fits c =
    let value : c.unwrap_or.result.now ≡ unwrap_or (option_map (λ v. v.now) c.args.put) [] = search rules in
    let key_fits : nat_lt (length c.args.key.now) (2 ^ 32) ≡ true = search rules in
    let value_fits : nat_lt (length c.unwrap_or.result.now) (2 ^ 32) ≡ true = search rules in
    let small : length c.unwrap_or.result.now < 2 ^ 32 = ltb-true (length c.unwrap_or.result.now) (2 ^ 32) value_fits in
    record { key = ltb-true (length c.args.key.now) (2 ^ 32) key_fits; sequence = omega arith; value = omega (arith, small, ap length value) }
