use Rattle.std.proofs.Common.{length, Some, sym, ap, ◌∙◌, arith}
use Rattle.std.proofs.lemmas.Bool.{cond-true}
use Rattle.layout.specs.Entries.{decoded}
use Rattle.layout.specs.Files.{entry_at}
use Rattle.layout.proofs.Finding.{length-entry_bytes}
use Rattle.layout.proofs.disk.Disk.entry.Goals as goal

pub array-requires : goal.array-requires
array-requires c =
    let known = c.in_ok-bytes.ensures in
    (omega arith, ap length known.1.bytes ∙ length-entry_bytes _ _ known.0)

pub returns : goal.returns
unfolding entry_at
returns c =
    let known = c.in_ok-bytes.ensures in
    ap Some (c.decode.ensures.fields ∙ ap decoded (c.array.ensures ∙ known.1.bytes)) ∙ sym (cond-true _ _ _ known.0)
