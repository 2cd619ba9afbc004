use Rattle.std.proofs.Common.{◌≡◌, ◌<◌, ◌+◌, ◌-◌, ℕ, List, get_or, set, take, length, ◌∙◌, sym, ap, subst, arith}
use Rattle.std.specs.List.{insert}
use Rattle.mr_memtable.specs.Chunks.{listed, sizes, sum_of, AreSpare, AreFilled}
use Rattle.mr_memtable.proofs.ChunkLaws.{last_spare, spare_empty, length-sizes}
use Rattle.mr_memtable.proofs.Filling.{halved, before_halves, between_halves, first_half, second_half, filled-split}
use Rattle.mr_memtable.proofs.chunks.put_full.Goals as goal

pub split_chunk-requires-clause-empty : goal.split_chunk-requires-clause-empty
split_chunk-requires-clause-empty c = spare_empty c.pop.new.self.items c.in-Some.spare (subst AreSpare c.in-Some.ensures.items c.requires.spare)

pub split_chunk-requires-clause-fits : goal.split_chunk-requires-clause-fits
split_chunk-requires-clause-fits c = (last_spare c.pop.new.self.items c.in-Some.spare (subst AreSpare c.in-Some.ensures.items c.requires.spare)).0

pub returns-then-place-le-HALF-clause-filled : goal.returns-then-place-le-HALF-clause-filled
returns-then-place-le-HALF-clause-filled c =
    let ns = sizes c.args.chunks.now.items in
    let lt : c.args.i < length (sizes c.args.chunks.now.items) = omega (arith, c.requires.within, c.args.chunks.now.ok.0, length-sizes c.args.chunks.now.items) in
    let e : sizes c.insert_at.new.chunks.items ≡ set (halved ns c.args.i) c.args.i 129 =
    c.insert_at.ensures.sizes ∙ ap (λ (ms : List ℕ). set ms c.args.i (get_or ms c.args.i 0 + 1)) c.split_chunk.ensures.sizes ∙ ap (λ (n : ℕ). set (halved ns c.args.i) c.args.i (n + 1)) (first_half ns c.args.i lt) in
    subst AreFilled (sym e) (filled-split ns c.args.i c.args.i c.requires.filled lt c.requires.full)

pub returns-then-place-le-HALF-clause-list : goal.returns-then-place-le-HALF-clause-list
returns-then-place-le-HALF-clause-list c =
    let ns = sizes c.args.chunks.now.items in
    let lt : c.args.i < length (sizes c.args.chunks.now.items) = omega (arith, c.requires.within, c.args.chunks.now.ok.0, length-sizes c.args.chunks.now.items) in
    let at : sum_of (take c.args.i (sizes c.split_chunk.new.chunks.items)) ≡ sum_of (take c.args.i ns) = ap (λ (ms : List ℕ). sum_of (take c.args.i ms)) c.split_chunk.ensures.sizes ∙ before_halves ns c.args.i lt in
    c.insert_at.ensures.list ∙ ap (λ (n : ℕ). insert (listed c.split_chunk.new.chunks.items) (n + c.args.place) c.args.slot) at ∙ ap (λ ss. insert ss (sum_of (take c.args.i ns) + c.args.place) c.args.slot) c.split_chunk.ensures.list

pub returns-else-place-le-HALF-clause-filled : goal.returns-else-place-le-HALF-clause-filled
returns-else-place-le-HALF-clause-filled c =
    let ns = sizes c.args.chunks.now.items in
    let lt : c.args.i < length (sizes c.args.chunks.now.items) = omega (arith, c.requires.within, c.args.chunks.now.ok.0, length-sizes c.args.chunks.now.items) in
    let e : sizes c.insert_at-else-place-le-HALF.new.chunks.items ≡ set (halved ns c.args.i) (c.args.i + 1) 129 =
    c.insert_at-else-place-le-HALF.ensures.sizes ∙ ap (λ (ms : List ℕ). set ms (c.args.i + 1) (get_or ms (c.args.i + 1) 0 + 1)) c.split_chunk.ensures.sizes ∙ ap (λ (n : ℕ). set (halved ns c.args.i) (c.args.i + 1) (n + 1)) (second_half ns c.args.i lt) in
    subst AreFilled (sym e) (filled-split ns c.args.i (c.args.i + 1) c.requires.filled lt c.requires.full)

pub returns-else-place-le-HALF-clause-list : goal.returns-else-place-le-HALF-clause-list
returns-else-place-le-HALF-clause-list c =
    let ns = sizes c.args.chunks.now.items in
    let lt : c.args.i < length (sizes c.args.chunks.now.items) = omega (arith, c.requires.within, c.args.chunks.now.ok.0, length-sizes c.args.chunks.now.items) in
    let at : sum_of (take (c.args.i + 1) (sizes c.split_chunk.new.chunks.items)) ≡ sum_of (take c.args.i ns) + 128 = ap (λ (ms : List ℕ). sum_of (take (c.args.i + 1) ms)) c.split_chunk.ensures.sizes ∙ between_halves ns c.args.i lt in
    let there : sum_of (take (c.args.i + 1) (sizes c.split_chunk.new.chunks.items)) + (c.args.place - 128) ≡ sum_of (take c.args.i ns) + c.args.place = omega (arith, at, c.if-place-le-HALF.false) in
    c.insert_at-else-place-le-HALF.ensures.list ∙ ap (λ (n : ℕ). insert (listed c.split_chunk.new.chunks.items) n c.args.slot) there ∙ ap (λ ss. insert ss (sum_of (take c.args.i ns) + c.args.place) c.args.slot) c.split_chunk.ensures.list
