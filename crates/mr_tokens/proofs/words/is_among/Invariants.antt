use Rattle.std.proofs.Common.{◌≡◌, map, drop}
use Rattle.mr_spec.specs.Words.{is_among}
use Rattle.mr_tokens.proofs.words.is_among.Given as goal

abbrev pub invariant-loop-reserved : goal.invariant-loop-reserved
invariant-loop-reserved l = is_among (map (λ w. w.now) (drop l.reserved-index l.words)) l.word ≡ is_among (map (λ w. w.now) l.words) l.word
