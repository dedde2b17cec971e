use Rattle.std.proofs.Common.{◌≡◌, ℕ, suc, ◌+◌, ◌<◌, true, map, ◌&&◌, ◌||◌, sym, ap, ◌∙◌, add-one, arith}
use Rattle.layout.specs.declared.entry.Entry.{Entry}
use Rattle.layout.specs.Entries.{decoded, blocks_of}
use Rattle.layout.specs.Files.{has_entries, entries, entry_at}
use Rattle.layout.proofs.Searching.{length-table, decoded-table}
use Rattle.fsck.specs.Sets.{member}
use Rattle.fsck.specs.Blocks.{blocks_to, has, in_use}
use Rattle.fsck.proofs.Membership.{has-blocks_to_unused, has-blocks_to_used}
use Rattle.fsck.proofs.Counting.{counts_in_use}
use Rattle.fsck.proofs.usage.blocks_in_use.Goals as goal
use Rattle.fsck.proofs.usage.blocks_in_use.Goals.{In-Some, then-entry, else-entry}

pub returns-in_default-clause-counts : goal.returns-in_default-clause-counts
returns-in_default-clause-counts c =
    let d = c.args.disk.now in
    let none = sym (λ j. has_entries (c.new.ensures j).now) ∙ c.in_default.ensures in
    counts_in_use d _ (λ b. c.new-set.ensures b ∙ ap (λ t. t && in_use d b) (sym none))

-- the table spells the entries of the disk
spells : (c : In-Some) → (has_entries c.args.disk.now ≡ true) × (map decoded c.in-Some.table.now ≡ entries c.args.disk.now)
spells c = (sym (λ j. has_entries (c.new.ensures j).now) ∙ c.in-Some.ensures.0, c.in-Some.ensures.1 ∙ (λ j. entries (c.new.ensures j).now))

pub loop-part-init : goal.loop-part-init
unfolding blocks_to
loop-part-init c k = c.new-set.ensures k

pub loop-part-preserved : goal.loop-part-preserved
loop-part-preserved c k =
    let d = c.args.disk.now in
    let i = c.loop-part.part-index in
    let known = spells (goal.at.loop-part-preserved c).In-Some in
    let lt : i < 16 = c.loop-part-test.true in
    let same : c.decode-entry.result ≡ entry_at d i = c.decode-entry.ensures.fields ∙ decoded-table d c.in-Some.table.now i _ known.1 lt in
    let before = c.loop-part.invariant k in
    let next : has (blocks_to d (suc i)) k ≡ has (blocks_to d (i + 1)) k = ap (λ n. has (blocks_to d n) k) (sym (add-one i)) in
    elim c.if-entry.branch [
      | then-entry w ↦
          let used = ap (λ (x : Entry). x.used) (sym same) ∙ w.if-entry.true in
          let blocks : w.file_blocks.result.now ≡ blocks_of (entry_at d i) = w.file_blocks.ensures ∙ ap blocks_of same in
          ap (λ s. member s k) w.set-is ∙ w.insert_all.ensures k ∙ (λ j. has (blocks j) k || before j) ∙ sym (has-blocks_to_used d i k used) ∙ next
      | else-entry w ↦
          let unused = ap (λ (x : Entry). x.used) (sym same) ∙ w.if-entry.false in
          ap (λ s. member s k) w.set-is ∙ before ∙ sym (has-blocks_to_unused d i k unused) ∙ next
    ]

pub returns : goal.returns
unfolding in_use
returns c =
    let d = c.args.disk.now in
    let known = spells (goal.at.returns c).In-Some in
    let all : c.loop-part.part-index ≡ 16 = omega (arith, length-table d c.in-Some.table.now known.1) in
    let members : (b : ℕ) → member c.loop-part.set b ≡ (has_entries d && in_use d b) = λ b. c.loop-part.invariant b ∙ (λ j. sym known.0 j && has (blocks_to d (all j)) b) in
    record { members = members; counts = counts_in_use d (member c.loop-part.set) members }
