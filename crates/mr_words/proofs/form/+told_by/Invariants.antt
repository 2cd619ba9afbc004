use Rattle.std.proofs.Common.{length}
use Rattle.mr_words.proofs.form.+told_by.Given as goal

abbrev pub decreases-told_by : goal.decreases-told_by
decreases-told_by l = length l.words.now
