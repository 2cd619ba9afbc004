use Rattle.std.proofs.Common.{◌≡◌, ◌∙◌, ℕ, Bool, true, false, not, List, Option, Some, None, is_some, ap, sym, refl}
use Rattle.std.specs.Option.{is_none}
use Rattle.mr_iter.specs.Versions.{Version, first}
use Rattle.mr_run_open.specs.Runs.{RunState}
use Rattle.mr_run_cursor.specs.Pinned.{current_of, stands}
use Rattle.mr_run_cursor.specs.Laws.{on_block, stands_on}
use Rattle.mr_run_cursor.proofs.cursor.PinnedCursorListed.at_end.Goals as goal

none_there : (r : RunState) (start end at : ℕ) (block : Option (List Version)) (a : Bool) → stands r start end at block ≡ true → not a ≡ is_some block → a ≡ is_none (current_of block at)
none_there r start end at None true is e = refl
none_there r start end at None false is e = cc
none_there r start end at (Some vs) true is e = cc
none_there r start end at (Some vs) false is e = let on = on_block r start end at vs is in let v = stands_on vs at on.entry in sym (ap (λ (xs : List Version). is_none (first xs)) v.2)

pub returns : goal.returns
returns c = none_there c.args.self.now.run.now c.args.self.now.start c.args.self.now.end c.args.self.now.at c.args.self.now.block c.is_none.result c.args.self.now.standing (sym c.is_none.ensures)
