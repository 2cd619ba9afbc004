use Rattle.std.proofs.Common.{◌∙◌, ap, take}
use Rattle.std.specs.List.{list_all}
use Rattle.mr_lex.specs.Bytes.{is_digit}
use Rattle.mr_lex.proofs.Munch.{all_prefix_of}
use Rattle.mr_lex.proofs.front.digits.Goals as goal

pub fits-requires : goal.fits-requires
fits-requires c = ap (list_all is_digit) (c.split_at.ensures.front ∙ ap (λ n. take n c.args.text.now) c.digits_len-len.ensures.len) ∙ all_prefix_of is_digit c.args.text.now
