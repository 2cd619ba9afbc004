use Rattle.std.proofs.Common.{◌≡◌, ◌++◌, ◌∷◌, [], true, subst}
use Rattle.std.specs.List.{list_all}
use Rattle.mr_fields.specs.Fields.{is_byte}
use Rattle.mr_commit_log.proofs.LogCommits.{read_bytes}
use Rattle.mr_commit_log.proofs.Lawful.{last_in}
use Rattle.mr_commit_log.proofs.append.body_of.Goals as goal

pub returns-then-is_short-clause-read : goal.returns-then-is_short-clause-read
returns-then-is_short-clause-read c = λ before lawful.
    let commit = c.args.commit.now in
    let fits = c.lawful_commits_have_a_form.ensures (before ++ commit ∷ []) commit lawful (last_in before commit) c.in_ok-body.ensures.numbers in
    let all : list_all is_byte c.in_ok-body.body ≡ true = subst (λ b. list_all is_byte b ≡ true) c.as_slice.ensures c.is_short.ensures.bytes in
    read_bytes c.in_ok-body.body commit all (c.in_ok-body.ensures.reads_back fits)
