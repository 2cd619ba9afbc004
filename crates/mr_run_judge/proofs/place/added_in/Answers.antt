use Rattle.std.proofs.Common.{rules, ◌+◌, ◌∷◌, length, Ok, ◌≡◌, ◌∙◌, ap}
use Rattle.mr_base.specs.Disk.{file_of}
use Rattle.mr_gate.specs.Log.{records_from}
use Rattle.mr_manifest.specs.Edits.{read_edits}
use Rattle.mr_run_judge.specs.Adding.{added_behind, read_from}
use Rattle.mr_run_judge.proofs.Placing.{place_step, damage_step}
use Rattle.mr_run_judge.proofs.place.added_in.Goals as goal

pub walking-preserved : goal.walking-preserved
walking-preserved g c = record {
  rises = search rules;
  file = search rules;
  near = search rules;
  same = λ tells. search rules;
  walks = λ tells. search rules;
  place = λ tells.
      let bytes = (file_of (g.D.Disk.disk c.args.disk.now) 0).bytes in
      let at = c.walking.walk.place in
      let next = c.next_record.new.self.place in
      let records : records_from at bytes ≡ c.in-Ok-Some.body ∷ records_from next bytes = search rules in
      let behind : next ≡ at + (5 + length c.in-Ok-Some.body) = search rules in
      let read : read_edits c.in-Ok-Some.body ≡ Ok c.in-Ok-read_edits.edits = search rules in
      c.walking.invariant.place tells
      ∙ place_step c.args.file c.walking.place at next bytes c.in-Ok-Some.body c.in-Ok-read_edits.edits read records behind (damage_step at next bytes c.in-Ok-Some.body records behind)
      ∙ ap (λ n. added_behind c.args.file n (read_from next bytes)) (search rules);
}
