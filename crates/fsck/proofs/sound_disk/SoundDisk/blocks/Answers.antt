use Rattle.std.proofs.Common.{refl}
use Rattle.fsck.specs.Blocks.{size}
use Rattle.fsck.proofs.sound_disk.SoundDisk.blocks.Goals as goal

pub returns : goal.returns
unfolding size
returns c = refl
