use Rattle.fsck.proofs.WordBits.{member_new}
use Rattle.fsck.proofs.block_set.BlockSet.new.Goals as goal

pub returns : goal.returns
returns c = member_new
