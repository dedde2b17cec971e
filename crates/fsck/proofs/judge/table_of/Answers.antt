use Rattle.std.proofs.Common.{◌≡◌, ℕ, true, false, List, map, Some, None, Option, MatchOption, sym, ap, ◌∙◌, arith}
use Rattle.std.specs.Borrow.{Bor}
use Rattle.std.proofs.lemmas.Bool.{both_ways}
use Rattle.layout.specs.Entries.{decoded}
use Rattle.layout.specs.Files.{has_entries, entries}
use Rattle.fsck.specs.Sound.{size_ok}
use Rattle.fsck.proofs.Contents.{sound_has_entries}
use Rattle.fsck.proofs.Deciding.{sound_decides}
use Rattle.fsck.proofs.Judging.{sound_to_none}
use Rattle.fsck.proofs.judge.table_of.Goals as goal

-- a disk of the right size has a table
sized : (d e : List ℕ) (o : Option (Bor (List (List ℕ)))) → e ≡ d → size_ok d ≡ true → has_entries d ≡ true → MatchOption o (has_entries e ≡ false) (λ t. (has_entries e ≡ true) × (map decoded t.now ≡ entries e))
    → MatchOption o (size_ok d ≡ false) (λ t. (size_ok d ≡ true) × (map decoded t.now ≡ entries d))
sized d e None same fits there gone = absurd (both_ways _ gone (ap has_entries same ∙ there))
sized d e (Some t) same fits there known = (fits, known.1 ∙ ap entries same)

pub returns-then-has_size : goal.returns-then-has_size
returns-then-has_size c =
    let d = c.args.disk.now in
    let fits = sym c.has_size.ensures ∙ c.if-has_size.true in
    let there = sound_has_entries d 0 ((sound_decides d 0 (omega arith)).0 (sound_to_none d fits)) in
    sized d _ c.table.result (λ j. (c.new.ensures j).now) fits there c.table.ensures
