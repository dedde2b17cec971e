use Rattle.std.proofs.Common.{◌≡◌, ◌-◌, ◌≤◌, length, take, ap, ◌∙◌, arith, rules}
use Rattle.layout.specs.Entries as entries
use Rattle.layout.specs.Entries.{blocks_of}
use Rattle.layout.proofs.Slices.{take_min}
use Rattle.layout.proofs.entry.Entry.file_blocks.Goals as goal

pub returns : goal.returns
unfolding blocks_of
returns c =
    let blocks = c.args.self.now.blocks in
    let long : length blocks ≤ 16 = search rules in
    ap (λ k. take k blocks) (let e : c.min.result - 0 ≡ c.min.result = omega arith in e ∙ c.min.ensures)
    ∙ take_min _ 16 blocks long ∙ ap (λ k. take k blocks) (c.blocks_needed-needed.ensures.value ∙ ap entries.needs c.from.ensures)
