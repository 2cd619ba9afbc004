use Rattle.std.proofs.Common.{◌≡◌, ◌-◌, ◌∙◌, [], get_or, sym, arith}
use Rattle.mr_run_open.specs.Runs.{no_block}
use Rattle.mr_run_get.proofs.Fronts.{order_next, agrees_next, agrees_other, agrees_same}
use Rattle.mr_run_get.proofs.Joining.{item_at}
use Rattle.mr_run_get.proofs.fetch.put_blocks.Goals as goal

pub returns-in_err-put-clause-others : goal.returns-in_err-put-clause-others
returns-in_err-put-clause-others c = λ file bytes other agrees. agrees_same file bytes c.putting.cache c.put.new.self c.in_err-put.ensures.same (c.putting.invariant.others file bytes other agrees)

pub putting-preserved : goal.putting-preserved
putting-preserved c =
    let at : get_or c.args.blocks.now (c.putting.i - c.args.first) [] ≡ c.index-blocks-i.result =
    item_at (c.putting.i - c.args.first) c.index-blocks-i.result c.args.blocks.now (omega (arith, c.requires.count, c.putting-test.true, c.putting.auto.i)) c.index-blocks-i.is in
    record {
      order = order_next c.args.run.now c.args.first c.putting.i c.span_of.result c.in_ok-share.field-0 c.args.cache.now c.putting.cache c.put.new.self c.putting.auto.i (omega (arith, c.putting-test.true, c.requires.within))
          c.putting.invariant.order c.span_of.ensures c.in_ok-put.ensures.put;
      agrees = λ bytes are agrees. agrees_next c.args.run.now bytes c.args.first c.args.behind c.putting.i c.span_of.result c.in_ok-share.field-0 c.args.blocks.now c.putting.cache c.put.new.self c.putting.auto.i c.putting-test.true c.requires.within
          are c.span_of.ensures (c.in_ok-share.ensures ∙ sym at) c.in_ok-put.ensures.put (c.putting.invariant.agrees bytes are agrees);
      others = λ file bytes other agrees. agrees_other c.args.run.now (get_or c.args.run.now.index.blocks c.putting.i no_block) file bytes c.span_of.result c.in_ok-share.field-0 c.putting.cache c.put.new.self other c.span_of.ensures c.in_ok-put.ensures.put
          (c.putting.invariant.others file bytes other agrees);
    }
