use Rattle.std.proofs.Common.{rules, sym}
use Rattle.std.proofs.lemmas.List.Sorted.{list_any-IsPermutation}
use Rattle.mr_ranges.specs.Ranges.{is_in}
use Rattle.mr_ranges.proofs.Sweeping.{sorted-rising}
use Rattle.mr_ranges.proofs.joining.in_order.Goals as goal

pub returns-clause-rising : goal.returns-clause-rising
returns-clause-rising c = sorted-rising c.sort_unstable_by.new.self.items c.sort_unstable_by.ensures.sorted (λ a r f' k. search rules)

pub returns-clause-same : goal.returns-clause-same
returns-clause-same c = λ key. sym (list_any-IsPermutation (is_in key) c.args.ranges.items c.sort_unstable_by.new.self.items c.sort_unstable_by.ensures.permutation)
