use Rattle.mr_flush.proofs.Kept.{kept_versions, kept_whole, kept_held}
use Rattle.mr_flush.proofs.laws.flushes_keep_families.Goals as goal

pub returns-clause-versions : goal.returns-clause-versions
returns-clause-versions c = λ file info s t m n l k flushed keeps tells before. kept_versions file info s t m n l k flushed keeps tells before

pub returns-clause-whole : goal.returns-clause-whole
returns-clause-whole c = λ file info s t m n l k flushed keeps tells before whole. kept_whole file info s t m n l k flushed keeps tells before whole

pub returns-clause-held : goal.returns-clause-held
returns-clause-held c = λ file info s t m n l k cached flushed keeps tells before none agree. kept_held file info s t m n l k flushed keeps tells before cached none agree
