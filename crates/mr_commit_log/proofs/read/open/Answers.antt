use Rattle.mr_base.proofs.Counting.{rises_tells}
use Rattle.mr_commit_log.proofs.Replaying.{opening_kept, then_nothing, opening_silent, opening_records, silent_then, records_then}
use Rattle.mr_commit_log.proofs.read.open.Goals as goal

pub returns-in_err-log-clause-any_moment : goal.returns-in_err-log-clause-any_moment
returns-in_err-log-clause-any_moment g c = λ tells commits output settled. opening_kept _ _ commits output settled (c.in_err-log.ensures.any_moment tells)

pub returns-in_err-commits-clause-any_moment : goal.returns-in_err-commits-clause-any_moment
returns-in_err-commits-clause-any_moment g c = λ tells commits output settled.
    then_nothing _ _ _ commits output (opening_kept _ _ commits output settled (c.in_ok-log.ensures.any_moment tells)) (c.in_err-commits.ensures.same (rises_tells 2 _ _ c.in_ok-log.ensures.rises tells))

pub returns-clause-any_moment : goal.returns-clause-any_moment
returns-clause-any_moment g c = λ tells commits output settled.
    then_nothing _ _ _ commits output (opening_kept _ _ commits output settled (c.in_ok-log.ensures.any_moment tells)) (c.in_ok-commits.ensures.same (rises_tells 2 _ _ c.in_ok-log.ensures.rises tells))

pub returns-in_err-log-clause-silent : goal.returns-in_err-log-clause-silent
returns-in_err-log-clause-silent g c = λ tells. opening_silent _ _ (c.in_err-log.ensures.any_moment tells)

pub returns-in_err-commits-clause-silent : goal.returns-in_err-commits-clause-silent
returns-in_err-commits-clause-silent g c = λ tells. silent_then _ _ _ (opening_silent _ _ (c.in_ok-log.ensures.any_moment tells)) (c.in_err-commits.ensures.same (rises_tells 2 _ _ c.in_ok-log.ensures.rises tells))

pub returns-clause-silent : goal.returns-clause-silent
returns-clause-silent g c = λ tells. silent_then _ _ _ (opening_silent _ _ (c.in_ok-log.ensures.any_moment tells)) (c.in_ok-commits.ensures.same (rises_tells 2 _ _ c.in_ok-log.ensures.rises tells))

pub returns-in_err-log-clause-records_stay : goal.returns-in_err-log-clause-records_stay
returns-in_err-log-clause-records_stay g c = λ tells. opening_records (g.H.Disk.disk c.args.host.now) (g.H.Disk.disk c.open_from.new.disk) (c.in_err-log.ensures.any_moment tells)

pub returns-in_err-commits-clause-records_stay : goal.returns-in_err-commits-clause-records_stay
returns-in_err-commits-clause-records_stay g c = λ tells.
    let old = g.H.Disk.disk c.args.host.now in
    let mid = g.H.Disk.disk c.open_from.new.disk in
    records_then old mid (g.H.Disk.disk c.read_all.new.host) (opening_records old mid (c.in_ok-log.ensures.any_moment tells)) (c.in_err-commits.ensures.same (rises_tells 2 _ _ c.in_ok-log.ensures.rises tells))

pub returns-clause-records_stay : goal.returns-clause-records_stay
returns-clause-records_stay g c = λ tells.
    let old = g.H.Disk.disk c.args.host.now in
    let mid = g.H.Disk.disk c.open_from.new.disk in
    records_then old mid (g.H.Disk.disk c.read_all.new.host) (opening_records old mid (c.in_ok-log.ensures.any_moment tells)) (c.in_ok-commits.ensures.same (rises_tells 2 _ _ c.in_ok-log.ensures.rises tells))
