use Rattle.mr_key_claims.proofs.Forms.{forms-are-one}
use Rattle.mr_key_claims.proofs.values.same_values_have_one_form.Goals as goal

pub returns : goal.returns
returns c = forms-are-one
