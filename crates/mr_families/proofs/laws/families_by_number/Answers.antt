use Rattle.mr_families.specs.Known.{family_at}
use Rattle.mr_families.proofs.laws.families_by_number.Goals as goal

pub returns-clause-whole : goal.returns-clause-whole
returns-clause-whole c = λ ns f i j same is. c.families_are_their_files.ensures.whole (family_at ns f) i j same is

pub returns-clause-held : goal.returns-clause-held
returns-clause-held c = λ ns f i j same is. c.families_are_their_files.ensures.held (family_at ns f) i j same is

pub returns-clause-viewed : goal.returns-clause-viewed
returns-clause-viewed c = λ ns f image number key. c.look_ups_are_views.ensures (family_at ns f) image number key
