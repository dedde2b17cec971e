use Rattle.std.proofs.Common.{◌≡◌, rules, ℕ, true, false, List, map, Some, None, Option, IsSome, MatchOption, ◌∙◌}
use Rattle.std.specs.Borrow.{Bor}
use Rattle.std.proofs.lemmas.Bool.{both_ways}
use Rattle.layout.specs.Entries.{decoded}
use Rattle.layout.specs.Files.{has_entries, entries}
use Rattle.fsck.proofs.Contents.{sound_has_entries}
use Rattle.fsck.proofs.Deciding.{sound_to_rules}
use Rattle.fsck.proofs.sound_disk.SoundDisk.table.Goals as goal

-- a disk that is long enough has a table
is_there : (d : List ℕ) (o : Option (Bor (List (List ℕ)))) → has_entries d ≡ true → MatchOption o (has_entries d ≡ false) (λ t. (has_entries d ≡ true) × (map decoded t.now ≡ entries d)) → IsSome o
is_there d None there gone = absurd (both_ways _ gone there)
is_there d (Some t) there known = search rules

pub unwrap-requires : goal.unwrap-requires
unwrap-requires c =
    let there = sound_has_entries c.args.self.now.bytes.now 16 (sound_to_rules c.args.self.now.bytes.now c.args.self.now.sound) in
    is_there c.view.result.bytes.now c.table.result ((λ j. has_entries (c.view.ensures j).now) ∙ there) c.table.ensures
