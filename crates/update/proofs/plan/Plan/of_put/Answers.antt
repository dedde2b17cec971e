use Rattle.std.proofs.Common.{◌≡◌, ℕ, true, cond, ltb, leb, List, [], ◌∷◌, ◌++◌, length, take, Some, None, sym, ap, ◌∙◌, subst, arith}
use Rattle.std.proofs.lemmas.Bool.{and_left, and_right, and_from, le-leb, lt-leb}
use Rattle.layout.specs.Entries.{encoded}
use Rattle.layout.proofs.Finding.{some_from_cond, none_from_cond}
use Rattle.fsck.specs.Blocks.{free}
use Rattle.update.specs.Listed.{listed}
use Rattle.update.specs.Writes.{entry_write}
use Rattle.update.specs.Putting.{padded, data_writes, chosen, place_for, new_entry, put_writes, room_for}
use Rattle.update.specs.Plans.{plan_writes, PutPlan}
use Rattle.update.proofs.plan.Plan.of_put.Goals as goal

pub returns-in_err-i : goal.returns-in_err-i
unfolding room_for
returns-in_err-i c =
    let d = c.args.disk.bytes.now in
    let x = c.args.name.bytes in
    let full = none_from_cond (ltb (place_for d x) 16) (place_for d x) c.in_err-i.ensures in
    subst (PutPlan d x c.args.content.now) (sym c.from_residual.ensures) (and_left _ _ full)

pub choose_blocks-requires : goal.choose_blocks-requires
choose_blocks-requires c = c.blocks_needed-needed.ensures.fewest.least 16 (omega (arith, c.requires))

pub returns-in_err-blocks : goal.returns-in_err-blocks
unfolding room_for
returns-in_err-blocks c =
    let d = c.args.disk.bytes.now in
    let x = c.args.name.bytes in
    let full = lt-leb c.blocks_needed-needed.result (length (free d)) c.in_err-blocks.ensures in
    subst (PutPlan d x c.args.content.now) (sym c.from_residual-in_err-blocks.ensures)
    (and_right (ltb (place_for d x) 16) _ (ap (λ n. leb n (length (free d))) (sym c.blocks_needed-needed.ensures.value) ∙ full))

-- the place that was chosen
here : (d x : List ℕ) (i : ℕ) → Some i ≡ cond (ltb (place_for d x) 16) (Some (place_for d x)) None → (ltb (place_for d x) 16 ≡ true) × (i ≡ place_for d x)
here d x i is = some_from_cond (ltb (place_for d x) 16) i (place_for d x) is

pub returns : goal.returns
unfolding room_for plan_writes put_writes new_entry chosen
returns c =
    let d = c.args.disk.bytes.now in
    let x = c.args.name.bytes in
    let xs = c.args.content.now in
    let n = c.blocks_needed-needed.result in
    let i = c.in_ok-i.i in
    let count = c.blocks_needed-needed.ensures.value in
    let place = here d x i c.in_ok-i.ensures in
    let blocks : listed c.in_ok-blocks.blocks ≡ chosen d xs = c.in_ok-blocks.ensures.1 ∙ ap (λ k. take k (free d)) count in
    let numbers = c.in_entry.ensures ∙ ap (padded 16) blocks in
    let entry : c.encode.result ≡ encoded (new_entry x xs (chosen d xs)) = c.encode.ensures.bytes ∙ (λ j. encoded (record { used = true; name = c.args.name; len = length xs; blocks = numbers j; unread = 0 ∷ (0 ∷ []) })) in
    let last = c.entry_write-last.ensures ∙ (λ j. entry_write d (place.1 j) (entry j)) in (
      and_from _ _ place.0 (ap (λ k. leb k (length (free d))) (sym count) ∙ le-leb n (length (free d)) c.in_ok-blocks.ensures.0),
      (λ j. data_writes (blocks j) xs ++ (last j ∷ [])),
    )
