use Rattle.std.proofs.Common.{◌≡◌, true, List, ℕ, sym, subst}
use Rattle.std.specs.List.{AllByRecursion, list_all}
use Rattle.mr_iter.specs.Cursors.{CursorState}
use Rattle.mr_chain.specs.Chains.{ascend}
use Rattle.mr_family.proofs.Following.{follow_as, ascending, one_direction, all_anew}
use Rattle.mr_family.proofs.parts.level_cursor.Goals as goal

pub new-requires-clause-direction : goal.new-requires-clause-direction
new-requires-clause-direction c = subst (AllByRecursion (λ (s : CursorState). s.direction ≡ c.args.direction)) (sym c.in_ok-children.ensures.state) (one_direction c.args.direction c.args.runs.now c.requires.one)

pub new-requires-clause-anew : goal.new-requires-clause-anew
new-requires-clause-anew c = subst (λ (ss : List CursorState). list_all (λ (s : CursorState). s.anew) ss ≡ true) (sym c.in_ok-children.ensures.state) (all_anew c.args.runs.now)

pub new-requires-clause-ascending : goal.new-requires-clause-ascending
new-requires-clause-ascending c = subst (λ (ls : List (List ℕ)). ascend c.args.direction ls ≡ true) (sym c.in_ok-lasts.ensures) (ascending c.args.direction c.args.runs.now c.requires.ordered)

pub returns-clause-whole : goal.returns-clause-whole
returns-clause-whole c = λ image live apart. c.new.ensures.whole image (c.in_ok-children.ensures.whole image live) (follow_as c.args.direction image c.args.runs.now _ _ c.in_ok-lasts.ensures c.in_ok-children.ensures.state c.requires.one live apart)

pub returns-clause-offends : goal.returns-clause-offends
returns-clause-offends c = λ image file at any. c.in_ok-children.ensures.offends image file at (c.new.ensures.offends image file at any)
