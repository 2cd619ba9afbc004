use Rattle.mr_family.proofs.Gathering.{Offends, level_live, level_apart, level_any, split_or, or_then, on_ok}
use Rattle.mr_family.proofs.parts.add_levels.Goals as goal

pub returns-clause-whole : goal.returns-clause-whole
returns-clause-whole c = λ image all live apart.
    let s = c.args.levels.now in
    let d = c.direction-direction.result in
    let e = c.direction-direction.ensures.direction in
    let one = c.in_ok-add_level.ensures.whole image all (level_live image s.deeper 0 c.level.result.now live c.level.ensures) (level_apart s.direction d s.deeper 0 c.level.result.now apart e c.level.ensures) in
    let two = c.in_ok-add_level-2.ensures.whole image one (level_live image s.deeper 1 c.level-2.result.now live c.level-2.ensures) (level_apart s.direction d s.deeper 1 c.level-2.result.now apart e c.level-2.ensures) in
    let three = c.in_ok-add_level-3.ensures.whole image two (level_live image s.deeper 2 c.level-3.result.now live c.level-3.ensures) (level_apart s.direction d s.deeper 2 c.level-3.result.now apart e c.level-3.ensures) in
    c.add_level-4.ensures.whole image three (level_live image s.deeper 3 c.level-4.result.now live c.level-4.ensures) (level_apart s.direction d s.deeper 3 c.level-4.result.now apart e c.level-4.ensures)

pub returns-clause-offends : goal.returns-clause-offends
returns-clause-offends c = λ image file at.
    let rss = c.args.levels.now.deeper in
    on_ok c.add_level-4.result (λ law any. split_or (λ early. split_or (λ sooner. split_or (λ soonest. or_then (level_any (Offends image file at) rss 0 c.level.result.now c.level.ensures) (c.in_ok-add_level.ensures.offends image file at soonest))
    (level_any (Offends image file at) rss 1 c.level-2.result.now c.level-2.ensures) (c.in_ok-add_level-2.ensures.offends image file at sooner))
    (level_any (Offends image file at) rss 2 c.level-3.result.now c.level-3.ensures) (c.in_ok-add_level-3.ensures.offends image file at early))
    (level_any (Offends image file at) rss 3 c.level-4.result.now c.level-4.ensures) (law any)) (c.add_level-4.ensures.offends image file at)
