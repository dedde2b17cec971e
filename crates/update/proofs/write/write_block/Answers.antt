use Rattle.std.proofs.Common.{◌≡◌, ◌+◌, ◌-◌, ◌*◌, length, ap, ◌∙◌, mul_comm, arith, rules}
use Rattle.layout.specs.Parts.{replaced}
use Rattle.layout.proofs.Slices.{put_mid-replaced}
use Rattle.update.specs.Writes.{after_write}
use Rattle.update.proofs.write.write_block.Goals as goal

pub returns : goal.returns
unfolding after_write
returns c =
    let d = c.args.disk.now in
    let b = c.args.write.now.to in
    let bytes = c.args.write.now.bytes in
    let long : length bytes ≡ 64 = search rules in
    let size : (b * 64 + 64) - b * 64 ≡ length bytes = omega arith in
    put_mid-replaced (b * 64) _ d _ bytes c.fill.ensures size ∙ ap (λ at. replaced d at bytes) (mul_comm b 64)
