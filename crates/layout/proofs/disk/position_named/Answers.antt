use Rattle.std.proofs.Common.{◌≡◌, ℕ, List, Bool, ◌&&◌, rules, tests, map, position, ◌∙◌}
use Rattle.std.specs.Str.{bytes_eq}
use Rattle.std.proofs.lemmas.Iterator.{YieldsList-from_slice}
use Rattle.std.proofs.lemmas.Iterator.Search.{position_from_yields_List}
use Rattle.layout.specs.declared.entry.Entry.{Entry}
use Rattle.layout.specs.Entries.{decoded}
use Rattle.layout.proofs.Searching.{position-map}
use Rattle.layout.proofs.disk.position_named.Goals as goal

pub returns : goal.returns
returns c =
    let named : Entry → Bool = λ e. e.used && bytes_eq e.name.bytes c.args.name.now.bytes in
    let test : List ℕ → Bool = λ part. named (decoded part) in
    let all : c.position.result ≡ position test c.args.table.now = position_from_yields_List test _ _ _ c.position.ensures.ran (YieldsList-from_slice c.args.table.now cc) (λ x r q k. search (rules, tests)) in
    all ∙ position-map named decoded c.args.table.now
