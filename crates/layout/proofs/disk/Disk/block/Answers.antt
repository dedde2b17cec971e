use Rattle.std.proofs.Common.{◌*◌, min, length, ap, ◌∙◌}
use Rattle.layout.specs.Files.{held}
use Rattle.layout.proofs.Copying.{block_cut}
use Rattle.layout.proofs.disk.Disk.block.Goals as goal

pub returns : goal.returns
returns c = block_cut (held c.args.self.now) c.args.b c.min-from.result c.min-to.result (c.min-from.ensures ∙ ap (λ b. min (b * 64) (length (held c.args.self.now))) c.from.ensures) c.min-to.ensures
