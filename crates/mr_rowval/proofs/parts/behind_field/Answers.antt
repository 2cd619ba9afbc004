use Rattle.mr_rowval.proofs.SpotWalk.{looked}
use Rattle.mr_rowval.proofs.parts.behind_field.Goals as goal

pub returns : goal.returns
returns c = λ held x e. (c.plain_look.ensures x.0 x.1 (looked c.args.in_key c.args.is_null held c.args.kind c.args.bytes.now x c.if-in_key.false c.if-is_null.false e)).1
