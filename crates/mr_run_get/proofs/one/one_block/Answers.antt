use Rattle.std.proofs.Common.{◌≡◌, List, Ok, ap, sym, subst, ◌∙◌}
use Rattle.std.specs.Map.{keys_of}
use Rattle.mr_base.specs.Disk.{seen}
use Rattle.mr_block.specs.Block.{block_in}
use Rattle.std.specs.Prelude.{take, drop, get_or}
use Rattle.mr_iter.specs.Versions.{Version}
use Rattle.mr_block_cache.specs.declared.span.FileSpan.{FileSpan}
use Rattle.mr_block_cache.specs.Cache.{held, with_span}
use Rattle.mr_run_open.specs.Runs.{no_block}
use Rattle.mr_run_get.proofs.Fronts.{missed, order_hit, order_put, agrees_found, agrees_read, agrees_same, agrees_other, read_held}
use Rattle.mr_run_get.proofs.Spans.{read_of}
use Rattle.mr_run_get.proofs.one.one_block.Goals as goal

pub returns-in-Some-clause-order : goal.returns-in-Some-clause-order
returns-in-Some-clause-order g c =
    subst (λ (s : FileSpan). keys_of c.find.new.self ≡ with_span s (keys_of c.args.cache.now)) c.span_of-span.ensures
    (order_hit c.span_of-span.result c.in-Some.block c.args.cache.now c.find.new.self (sym c.in-Some.is ∙ c.in_ok-block.ensures.found) c.in_ok-block.ensures.front)

pub returns-in-Some-clause-read : goal.returns-in-Some-clause-read
returns-in-Some-clause-read g c = λ tells agrees.
    read_held c.args.run.now.file (seen (g.D.Disk.disk c.args.disk.now) c.args.run.now.file) (get_or c.args.run.now.index.blocks c.args.i no_block) c.in-Some.block c.args.cache.now agrees
    (ap (λ (s : FileSpan). held s c.args.cache.now) (sym c.span_of-span.ensures) ∙ sym c.in_ok-block.ensures.found ∙ c.in-Some.is)

pub returns-in-Some-clause-agrees : goal.returns-in-Some-clause-agrees
returns-in-Some-clause-agrees g c = λ tells agrees. agrees_found c.args.run.now.file (seen (g.D.Disk.disk c.args.disk.now) c.args.run.now.file) c.span_of-span.result c.args.cache.now c.find.new.self c.in_ok-block.ensures.front agrees

pub returns-in-Some-clause-others : goal.returns-in-Some-clause-others
returns-in-Some-clause-others g c = λ file bytes other agrees. agrees_found file bytes c.span_of-span.result c.args.cache.now c.find.new.self c.in_ok-block.ensures.front agrees

pub returns-clause-order : goal.returns-clause-order
returns-clause-order g c =
    subst (λ (s : FileSpan). keys_of c.put.new.self ≡ with_span s (keys_of c.args.cache.now)) c.span_of-span.ensures
    (order_put c.span_of-span.result c.in_ok-share.field-0 c.args.cache.now c.find.new.self c.put.new.self
    (missed c.span_of-span.result c.args.cache.now c.find.new.self (sym c.in_default.is ∙ c.in_ok-block.ensures.found) c.in_ok-block.ensures.front) c.in_ok-put.ensures.put)

pub returns-clause-agrees : goal.returns-clause-agrees
returns-clause-agrees g c = λ tells agrees.
    let bytes = seen (g.D.Disk.disk c.args.disk.now) c.args.run.now.file in
    let b = get_or c.args.run.now.index.blocks c.args.i no_block in
    agrees_read c.args.run.now.file (seen (g.D.Disk.disk c.args.disk.now) c.args.run.now.file) c.span_of-span.result c.in_ok-share.field-0 c.find.new.self c.put.new.self c.in_ok-put.ensures.put
    (λ same. subst (λ (s : FileSpan). block_in (take s.size (drop s.place (seen (g.D.Disk.disk c.args.disk.now) c.args.run.now.file))) ≡ Ok c.in_ok-share.field-0) (sym c.span_of-span.ensures)
    (read_of (seen (g.D.Disk.disk c.args.disk.now) c.args.run.now.file) (get_or c.args.run.now.index.blocks c.args.i no_block) c.in_ok-share.field-0
    (c.in-Ok.ensures.read tells ∙ ap (λ (vs : List Version). Ok vs) (sym c.in_ok-share.ensures))))
    (agrees_same c.args.run.now.file (seen (g.D.Disk.disk c.args.disk.now) c.args.run.now.file) c.args.cache.now c.find.new.self
    (missed c.span_of-span.result c.args.cache.now c.find.new.self (sym c.in_default.is ∙ c.in_ok-block.ensures.found) c.in_ok-block.ensures.front) agrees)

pub returns-clause-others : goal.returns-clause-others
returns-clause-others g c = λ file bytes other agrees.
    agrees_other c.args.run.now (get_or c.args.run.now.index.blocks c.args.i no_block) file bytes c.span_of-span.result c.in_ok-share.field-0 c.find.new.self c.put.new.self other c.span_of-span.ensures c.in_ok-put.ensures.put
    (agrees_same file bytes c.args.cache.now c.find.new.self
    (missed c.span_of-span.result c.args.cache.now c.find.new.self (sym c.in_default.is ∙ c.in_ok-block.ensures.found) c.in_ok-block.ensures.front) agrees)
