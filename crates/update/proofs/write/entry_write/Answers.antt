use Rattle.std.proofs.Common.{◌≡◌, ◌+◌, ◌-◌, ◌*◌, ◌/◌, ◌%◌, ℕ, Bor, List, length, take, drop, ap, ◌∙◌, mul_comm, arith, rules}
use Rattle.fsck.proofs.Contents.{sound_long}
use Rattle.fsck.proofs.Deciding.{sound_to_rules}
use Rattle.layout.specs.Files.{block}
use Rattle.layout.specs.Parts.{replaced}
use Rattle.layout.proofs.Slices.{put_mid-replaced}
use Rattle.update.specs.Writes.{entry_write}
use Rattle.update.proofs.write.entry_write.Goals as goal

pub slice_bounds-copy_from_slice-end-2 : goal.slice_bounds-copy_from_slice-end-2
slice_bounds-copy_from_slice-end-2 c = omega (arith, sound_long c.args.disk.bytes.now 16 (sound_to_rules c.args.disk.bytes.now c.args.disk.sound), ap (λ (b : Bor (List ℕ)). length b.now) c.bytes.ensures)

pub returns : goal.returns
unfolding entry_write block
returns c =
    let d = c.args.disk.bytes.now in
    let i = c.args.i in
    let e = c.args.entry.now in
    let long : length e ≡ 32 = search rules in
    let half : (i % 2 * 32 + 32) - i % 2 * 32 ≡ length e = omega arith in
    let whole : (i / 2 * 64 + 64) - i / 2 * 64 ≡ 64 = omega arith in
    let copied : c.copy_from_slice.new.self ≡ block d (i / 2) = c.copy_from_slice.ensures.after ∙ (λ j. take (whole j) (drop (mul_comm (i / 2) 64 j) (c.bytes.ensures j).now)) in
    let written = put_mid-replaced (i % 2 * 32) _ _ _ e c.copy_from_slice-2.ensures.after half ∙ (λ j. replaced (copied j) (mul_comm (i % 2) 32 j) e) in
    λ j. record { to = i / 2; bytes = written j }
