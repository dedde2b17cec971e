use Rattle.std.proofs.Common.{◌&&◌, cond, ltb, position, Some, None, sym, ap, ◌∙◌}
use Rattle.std.specs.Str.{bytes_eq}
use Rattle.std.proofs.lemmas.Bool.{cond-false}
use Rattle.layout.specs.declared.entry.Entry.{Entry}
use Rattle.layout.specs.Files.{held, find}
use Rattle.layout.proofs.Finding.{find_first}
use Rattle.layout.proofs.Searching.{position-find}
use Rattle.layout.proofs.disk.Disk.find.Goals as goal

pub returns-in_err-table-clause-first : goal.returns-in_err-table-clause-first
returns-in_err-table-clause-first c = find_first _ _

pub returns-clause-value : goal.returns-clause-value
returns-clause-value c =
    let d = held c.args.self.now in
    let x = c.args.name.now.bytes in
    let known = c.in_ok-table.ensures in
    c.position_named.ensures ∙ ap (position (λ (e : Entry). e.used && bytes_eq e.name.bytes x)) known.1 ∙ position-find d x ∙ ap (λ b. cond (b && ltb (find d x) 16) (Some (find d x)) None) (sym known.0)

pub returns-clause-first : goal.returns-clause-first
returns-clause-first c = find_first _ _
