use Rattle.std.proofs.Common.{◌≡◌, ◌++◌, drop}
use Rattle.std.specs.List.{flat_map}
use Rattle.mr_types.specs.declared.row.Reply.TheVariants as reply
use Rattle.mr_spec.specs.ReplyText.{line_of, text_of}
use Rattle.mr_print.proofs.replies.rows_text.Given as goal

abbrev pub invariant-loop-row : goal.invariant-loop-row
invariant-loop-row l = l.text.items ++ flat_map line_of (drop l.row-index l.rows) ≡ text_of (reply.Rows l.rows)
