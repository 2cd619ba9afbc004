use Rattle.std.proofs.Common.{◌∙◌, ap}
use Rattle.mr_families.specs.Changed.{without_room}
use Rattle.mr_store_memory.proofs.Named.{readied_kept, turned_kept}
use Rattle.mr_store_memory.proofs.readying.make_ready.Goals as goal

pub returns-clause-readied : goal.returns-clause-readied
returns-clause-readied c =
    readied_kept c.args.batch.now c.args.families.now c.learn_names.new.families c.reserve.new.self c.learn_names.ensures.readied
    (λ f. c.reserve.ensures.same.families f ∙ ap without_room (c.learn_others.ensures.same f))

pub returns-clause-turned : goal.returns-clause-turned
returns-clause-turned c =
    turned_kept c.reserve.result c.args.batch.now c.args.families.now c.learn_names.new.families c.reserve.new.self
    (λ f. c.reserve.ensures.same.families f ∙ ap without_room (c.learn_others.ensures.same f)) c.in_ok-learn_names.ensures.turned

pub returns-in_err-learn_others-clause-readied : goal.returns-in_err-learn_others-clause-readied
returns-in_err-learn_others-clause-readied c =
    readied_kept c.args.batch.now c.args.families.now c.learn_names.new.families c.learn_others.new.families c.learn_names.ensures.readied (λ f. ap without_room (c.learn_others.ensures.same f))
