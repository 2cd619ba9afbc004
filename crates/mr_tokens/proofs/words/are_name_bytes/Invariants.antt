use Rattle.std.proofs.Common.{◌≡◌, nat_lt, ◌&&◌, drop}
use Rattle.std.specs.List.{list_all}
use Rattle.mr_lanes.specs.Kernels.{is_low}
use Rattle.mr_tokens.proofs.words.are_name_bytes.Given as goal

abbrev pub invariant-loop-byte : goal.invariant-loop-byte
invariant-loop-byte l = list_all (λ b. nat_lt 0 b && is_low b) (drop l.byte-index l.name) ≡ list_all (λ b. nat_lt 0 b && is_low b) l.name
