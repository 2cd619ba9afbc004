use Rattle.std.proofs.Common.{◌≡◌, ◌+◌, ◌-◌, ◌++◌, ◌∷◌, [], ℕ, List, map, sym, ◌∙◌, ap, arith}
use Rattle.std.proofs.lemmas.List.{length-map}
use Rattle.mr_run_file.specs.Reading.{Indexed, all_indexed_in, indexed_in}
use Rattle.mr_run_open.specs.Given.{indexed_of, indexed_ref}
use Rattle.mr_run_open.specs.Parts.{with_blocks}
use Rattle.mr_run_open.proofs.Indexing.{good_block, bad_block, block_stands, all_read, all_stand}
use Rattle.mr_run_open.proofs.index.entries_in.Goals as goal

pub returns-in-Err-clause-err : goal.returns-in-Err-clause-err
returns-in-Err-clause-err c =
    c.reading.invariant.same ∙ bad_block c.args.end (c.args.blocks - c.reading.i) (c.args.blocks - 1 - c.reading.i) c.reading.at c.in-Err.left c.reading.rest.now (map indexed_of c.reading.kept.items) (omega (arith, c.reading-test.true)) (sym c.in-Err.ensures)

pub reading-preserved : goal.reading-preserved
reading-preserved c =
    let more = c.args.blocks - 1 - c.reading.i in
    let read : indexed_in c.args.end (c.args.blocks - 1 - c.reading.i) c.reading.at c.reading.rest.now ≡ Rattle.std.proofs.Common.Ok (indexed_ref c.in-Ok.entry, c.in-Ok.behind.now) = sym c.in-Ok.ensures in
    let stands = block_stands c.args.end (c.args.blocks - 1 - c.reading.i) c.reading.at c.reading.rest.now (indexed_ref c.in-Ok.entry, c.in-Ok.behind.now) read in
    let next : c.args.blocks - 1 - c.reading.i ≡ c.args.blocks - (c.reading.i + 1) = omega arith in
    record {
      within = stands.1;
      same = c.reading.invariant.same
          ∙ good_block c.args.end (c.args.blocks - c.reading.i) (c.args.blocks - 1 - c.reading.i) c.reading.at c.reading.rest.now (map indexed_of c.reading.kept.items) (indexed_ref c.in-Ok.entry, c.in-Ok.behind.now) (omega (arith, c.reading-test.true)) read
          ∙ ap (λ (bs : List Indexed). with_blocks bs (all_indexed_in c.args.end (c.args.blocks - 1 - c.reading.i) (c.reading.at + c.in-Ok.entry.size) c.in-Ok.behind.now)) (sym c.in-Ok-keep.ensures)
          ∙ ap (λ (n : ℕ). with_blocks (map indexed_of c.keep.new.kept.items) (all_indexed_in c.args.end n (c.reading.at + c.in-Ok.entry.size) c.in-Ok.behind.now)) next;
    }

pub returns-clause-count : goal.returns-clause-count
returns-clause-count c =
    let all : all_indexed_in c.args.end c.args.blocks 0 c.args.bytes.now ≡ Rattle.std.proofs.Common.Ok (map indexed_of c.reading.kept.items, c.reading.rest.now) = c.reading.invariant.same ∙ all_read c.args.end (c.args.blocks - c.reading.i) c.reading.at c.reading.rest.now (map indexed_of c.reading.kept.items) (omega (arith, c.reading-test.false)) in
    let stand = all_stand c.args.end c.args.blocks 0 c.args.bytes.now (map indexed_of c.reading.kept.items, c.reading.rest.now) (omega (arith, c.ranges.end)) all in
    sym (length-map c.reading.kept.items indexed_of) ∙ stand.1

pub returns-clause-within : goal.returns-clause-within
returns-clause-within c =
    let all : all_indexed_in c.args.end c.args.blocks 0 c.args.bytes.now ≡ Rattle.std.proofs.Common.Ok (map indexed_of c.reading.kept.items, c.reading.rest.now) = c.reading.invariant.same ∙ all_read c.args.end (c.args.blocks - c.reading.i) c.reading.at c.reading.rest.now (map indexed_of c.reading.kept.items) (omega (arith, c.reading-test.false)) in
    let stand = all_stand c.args.end c.args.blocks 0 c.args.bytes.now (map indexed_of c.reading.kept.items, c.reading.rest.now) (omega (arith, c.ranges.end)) all in
    stand.0
