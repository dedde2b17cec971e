use Rattle.std.proofs.Common.{◌≡◌, ◌+◌, ◌-◌, length, arith}
use Rattle.layout.proofs.Slices.{put_mid-replaced}
use Rattle.layout.proofs.entry.replace_at.Goals as goal

pub returns : goal.returns
returns c = put_mid-replaced c.args.at _ c.args.bytes.now _ c.args.part.now c.copy_from_slice.ensures.after (let k : (c.args.at + length c.args.part.now) - c.args.at ≡ length c.args.part.now = omega arith in k)
