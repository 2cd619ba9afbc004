use Rattle.std.proofs.Common.{◌≡◌, ◌<◌, ◌+◌, ◌-◌, ◌++◌, ◌∙◌, ℕ, List, [], unwrap_or, length, sym, ap, subst, arith, length-append, set}
use Rattle.std.specs.Option.{option_map}
use Rattle.std.proofs.lemmas.List.{length-set}
use Rattle.mr_iter.specs.Versions.{Version}
use Rattle.mr_memtable.specs.Slots.{text_in, version_from, IsWithin, AreBytes, part}
use Rattle.mr_memtable.proofs.Fronts.{all_bytes}
use Rattle.mr_memtable.proofs.Pieces.{room_is, room_set, text_set, longer_piece}
use Rattle.mr_memtable.proofs.slot.store.Goals as goal

pub store_in-requires : goal.store_in-requires
store_in-requires c =
    let last : (c.len-last.result - 1) + 1 ≡ length c.args.pieces.now.items = omega (arith, c.len-last.ensures, c.requires.some, c.args.pieces.now.ok.0) in
    let room = room_is c.args.pieces.now.items (c.len-last.result - 1) c.index_mut.result.now last c.index_mut.ensures.value in
    record { room = omega (arith, room, c.requires.room, c.index_mut.result.now.bytes.ok.0, c.index_mut.result.now.bytes.ok.1) }

pub returns-clause-fits : goal.returns-clause-fits
returns-clause-fits c =
    let ps = set c.args.pieces.now.items (c.len-last.result - 1) c.store_in.new.piece in
    let s = c.store_in.result in
    let below : c.len-last.result - 1 < length c.args.pieces.now.items = omega (arith, c.len-last.ensures, c.requires.some, c.args.pieces.now.ok.0) in
    let e : text_in (set c.args.pieces.now.items (c.len-last.result - 1) c.store_in.new.piece) c.store_in.result.piece ≡ c.store_in.new.piece.bytes.items = ap (text_in (set c.args.pieces.now.items (c.len-last.result - 1) c.store_in.new.piece)) c.store_in.ensures.number ∙ text_set c.args.pieces.now.items (c.len-last.result - 1) c.store_in.new.piece below in
    let key = ap (λ (v : Version). v.key) c.store_in.ensures.version in
    record {
      piece = omega (arith, below, c.store_in.ensures.number, length-set c.args.pieces.now.items (c.len-last.result - 1) c.store_in.new.piece);
      places = subst (λ (text : List ℕ). IsWithin text c.store_in.result) (sym e) c.store_in.ensures.within;
      bytes = subst (λ (text : List ℕ). AreBytes (part text c.store_in.result.start c.store_in.result.middle)) (sym e) (subst AreBytes (sym key) (all_bytes c.args.key.now (λ i. omega (arith, c.type_inv.key i))));
    }

pub returns-clause-version : goal.returns-clause-version
returns-clause-version c =
    let below : c.len-last.result - 1 < length c.args.pieces.now.items = omega (arith, c.len-last.ensures, c.requires.some, c.args.pieces.now.ok.0) in
    let e : text_in (set c.args.pieces.now.items (c.len-last.result - 1) c.store_in.new.piece) c.store_in.result.piece ≡ c.store_in.new.piece.bytes.items = ap (text_in (set c.args.pieces.now.items (c.len-last.result - 1) c.store_in.new.piece)) c.store_in.ensures.number ∙ text_set c.args.pieces.now.items (c.len-last.result - 1) c.store_in.new.piece below in
    ap (λ (text : List ℕ). version_from text c.store_in.result) e ∙ c.store_in.ensures.version

pub returns-clause-pieces : goal.returns-clause-pieces
returns-clause-pieces c = longer_piece c.args.pieces.now.items (c.len-last.result - 1) c.index_mut.result.now c.store_in.new.piece (c.args.key.now ++ unwrap_or (option_map (λ v. v.now) c.args.put) []) c.index_mut.ensures.value c.store_in.ensures.bytes

pub returns-clause-room : goal.returns-clause-room
returns-clause-room c =
    let last : (c.len-last.result - 1) + 1 ≡ length c.args.pieces.now.items = omega (arith, c.len-last.ensures, c.requires.some, c.args.pieces.now.ok.0) in
    let before = room_is c.args.pieces.now.items (c.len-last.result - 1) c.index_mut.result.now last c.index_mut.ensures.value in
    let after = room_set c.args.pieces.now.items (c.len-last.result - 1) c.store_in.new.piece last in
    let value = unwrap_or (option_map (λ v. v.now) c.args.put) [] in
    let more = ap length c.store_in.ensures.bytes ∙ length-append c.index_mut.result.now.bytes.items (c.args.key.now ++ value) ∙ ap (λ (n : ℕ). length c.index_mut.result.now.bytes.items + n) (length-append c.args.key.now value) in
    omega (arith, before, after, more, c.store_in.ensures.capacity)
