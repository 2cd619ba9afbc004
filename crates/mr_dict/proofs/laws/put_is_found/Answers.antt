use Rattle.mr_dict.proofs.Finding.{put_finds}
use Rattle.mr_dict.proofs.laws.put_is_found.Goals as goal

pub returns : goal.returns
returns c = put_finds
