use Rattle.std.proofs.Common.{◌≡◌, ◌<◌, ◌≤◌, List, ◌++◌, length, get_or, drop, Some, sym, ap, ◌∙◌, mul_comm, arith}
use Rattle.std.specs.Option.{option_to_list}
use Rattle.std.proofs.lemmas.Bool.{ltb-false}
use Rattle.update.specs.declared.plan.Plan.{Plan}
use Rattle.update.specs.Listed.{listed}
use Rattle.update.specs.Writes.{Write}
use Rattle.update.specs.Putting.{padded, data_writes}
use Rattle.update.specs.Plans.{plan_writes, nth_write}
use Rattle.update.proofs.NewFile.{length-data_writes}
use Rattle.update.proofs.PlanWrites.{nth_front, nth_last, nth_past, nth_data, length_with_last}
use Rattle.update.proofs.plan.Plan.write.Goals as goal

-- the writes before the last
abbrev data_first : Plan → List Write
data_first p = data_writes (listed p.blocks) p.content.now

pub returns-then-k-entries : goal.returns-then-k-entries
unfolding plan_writes
returns-then-k-entries c =
    let p = c.args.self.now in
    let at : length (data_first p) ≡ c.args.k = length-data_writes (listed p.blocks) p.content.now ∙ sym (c.if-k-entries.true ∙ ap length c.as_slice-blocks.ensures) in
    sym (nth_last (data_first p) p.last) ∙ ap (nth_write (data_first p ++ option_to_list p.last)) at

pub returns-in_err-block : goal.returns-in_err-block
unfolding plan_writes
returns-in_err-block c =
    let p = c.args.self.now in
    let k = c.args.k in
    let past : length c.as_slice-blocks.result.now ≤ k = ltb-false k _ (sym c.in_err-block.ensures.lookup.0) in
    let count = length-data_writes (listed p.blocks) p.content.now in
    c.from_residual.ensures ∙ sym (nth_past (data_first p ++ option_to_list p.last) k (omega (arith, count, length_with_last (data_first p) p.last, ap length c.as_slice-blocks.ensures)))

pub returns : goal.returns
unfolding plan_writes
returns c =
    let p = c.args.self.now in
    let xs = p.content.now in
    let bs = listed p.blocks in
    let k = c.args.k in
    let there = c.in_ok-block.ensures.lookup.3 in
    let before : k < length bs = omega (arith, there.0, ap length c.as_slice-blocks.ensures) in
    let here : c.from.result ≡ get_or bs k 0 = c.from.ensures ∙ there.1 0 ∙ ap (λ l. get_or l k 0) c.as_slice-blocks.ensures in
    (λ j. Some (record { to = here j; bytes = (c.chunk.ensures ∙ ap (λ n. padded 64 (drop n xs)) (mul_comm k 64)) j }))
    ∙ sym (nth_front (data_first p) (option_to_list p.last) k (omega (arith, length-data_writes bs xs)) ∙ nth_data bs xs k before)
