use Rattle.mr_parse_rows.proofs.conditions.+neg.Given as goal

abbrev pub decreases-neg : goal.decreases-neg
decreases-neg l = l.depth
