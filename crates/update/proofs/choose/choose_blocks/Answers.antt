use Rattle.std.proofs.Common.{◌≡◌, ◌-◌, ℕ, Bool, ◌&&◌, length, take, not, sym, refl, ap, ◌∙◌, arith, length-take, rules, tests}
use Rattle.std.specs.List.{filter, range_with_len}
use Rattle.std.proofs.lemmas.List.{map-id}
use Rattle.std.proofs.lemmas.Iterator.{YieldsList-from_range, YieldsList-from_take}
use Rattle.std.proofs.lemmas.Iterator.Consumers.{YieldsList-at, YieldsList-from_filter, YieldsList-end}
use Rattle.layout.specs.Files.{has_entries}
use Rattle.fsck.specs.Sets.{member}
use Rattle.fsck.specs.Blocks.{size, in_use, free_from, free}
use Rattle.fsck.proofs.Deciding.{sound_to_rules}
use Rattle.fsck.proofs.Contents.{sound_has_entries}
use Rattle.update.specs.Listed.{listed}
use Rattle.update.proofs.Choosing.{filter-free_from}
use Rattle.update.proofs.choose.choose_blocks.Goals as goal
use Rattle.update.proofs.choose.choose_blocks.Goals.{In-None}

pub overflow_cast-size : goal.overflow_cast-size
unfolding size
overflow_cast-size c = omega (arith, (sound_to_rules c.args.disk.bytes.now c.args.disk.sound).most)

-- the loop took the lowest free blocks, as many as are needed or as there are
all_taken : (c : In-None) → listed c.loop-b.chosen ≡ take c.args.needed (free c.args.disk.bytes.now)
unfolding free
all_taken c =
    let d = c.args.disk.bytes.now in
    let used = c.blocks_in_use-used in
    let test : ℕ → Bool = λ b. not (member used.result b) in
    let n = c.blocks-size.result in
    let free_ones : filter test (range_with_len 8 (n - 8)) ≡ free d = filter-free_from d test 8 (n - 8) (λ k. ap not (used.ensures.members k ∙ (λ j. has_entries (c.bytes.ensures j).now && in_use (c.bytes.ensures j).now k) ∙ ap (λ t. t && in_use d k) (sound_has_entries d 16 (sound_to_rules d c.args.disk.sound)))) ∙ ap (λ m. free_from d 8 (m - 8)) c.blocks-size.ensures in
    let all = YieldsList-end
    (YieldsList-at c.into_iter-b-iterator.ensures.into_iter_gives (YieldsList-from_take c.args.needed
    (YieldsList-at c.take-b-items.ensures.source (YieldsList-from_filter _ test (YieldsList-at c.filter-free.ensures.source (YieldsList-from_range 8 n (n - 8) refl refl)) c.filter-free.ensures.closure (λ x r q k. search (rules, tests))))
    c.take-b-items.ensures.count))
    c.loop-b.yielded c.loop-b.b-iterator c.loop-b.yielded_by c.next.result c.next.new.self c.in-None.is c.next.ensures.steps in
    c.loop-b.invariant.2 ∙ sym (map-id c.loop-b.yielded) ∙ all.0 ∙ ap (take c.args.needed) free_ones

pub returns-then-as_slice-needed : goal.returns-then-as_slice-needed
returns-then-as_slice-needed c =
    let all = all_taken (goal.at.returns-then-as_slice-needed c).In-None in
    omega (arith, ap length all, length-take c.args.needed (free c.args.disk.bytes.now), ap length c.as_slice.ensures)

pub returns : goal.returns
returns c =
    let all = all_taken (goal.at.returns c).In-None in
    (omega (arith, ap length all, length-take c.args.needed (free c.args.disk.bytes.now), ap length c.as_slice.ensures), all)
