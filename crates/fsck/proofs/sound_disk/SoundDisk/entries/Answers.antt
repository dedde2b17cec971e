use Rattle.std.proofs.Common.{◌≡◌, rules, cond, Some, None, ◌∙◌}
use Rattle.std.proofs.lemmas.Bool.{cond-true}
use Rattle.layout.specs.Files.{has_entries, entries}
use Rattle.fsck.proofs.Contents.{sound_has_entries}
use Rattle.fsck.proofs.Deciding.{sound_to_rules}
use Rattle.fsck.proofs.sound_disk.SoundDisk.entries.Goals as goal

pub unwrap-requires : goal.unwrap-requires
unwrap-requires c =
    let d = c.args.self.now.bytes.now in
    let there = sound_has_entries d 16 (sound_to_rules d c.args.self.now.sound) in
    let some : c.entries.result ≡ Some (entries d) = c.entries.ensures ∙ (λ j. cond (has_entries (c.view.ensures j).now) (Some (entries (c.view.ensures j).now)) None) ∙ cond-true _ _ _ there in
    search (rules, some)
