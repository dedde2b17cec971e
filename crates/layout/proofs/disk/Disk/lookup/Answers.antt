use Rattle.std.proofs.Common.{◌∙◌}
use Rattle.layout.specs.Files.{held}
use Rattle.layout.proofs.Finding.{no_file, lookup_some, lookup_none}
use Rattle.layout.proofs.disk.Disk.lookup.Goals as goal

pub returns-in_err-place : goal.returns-in_err-place
returns-in_err-place c =
    record { value = c.from_residual.ensures ∙ lookup_none (held c.args.self.now) c.args.name.now.bytes c.in_err-place.ensures.value; none = no_file _ _ }

pub returns : goal.returns
returns c =
    record { value = c.entry.ensures ∙ lookup_some (held c.args.self.now) c.args.name.now.bytes c.in_ok-place.place c.in_ok-place.ensures.value; none = no_file _ _ }
