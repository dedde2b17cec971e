use Rattle.std.proofs.Common.{◌≡◌, Bool, not, map, position, ap, ◌∙◌, rules, tests}
use Rattle.std.proofs.lemmas.Iterator.{YieldsList-from_slice, YieldsList-from_map}
use Rattle.std.proofs.lemmas.Iterator.Consumers.{YieldsList-at}
use Rattle.std.proofs.lemmas.Iterator.Search.{position_from_yields_List}
use Rattle.layout.specs.declared.entry.Entry.{Entry}
use Rattle.layout.specs.Entries.{decoded}
use Rattle.update.proofs.choose.first_unused.Goals as goal

pub returns : goal.returns
returns c =
    let table = c.table.result.now in
    let test : Entry → Bool = λ e. not e.used in
    let all : c.position.result ≡ position test (map decoded table) = position_from_yields_List test _ _ _ c.position.ensures.ran
    (YieldsList-from_map _ decoded (YieldsList-at c.map.ensures.source (YieldsList-from_slice table cc)) c.map.ensures.closure (λ x r q k. search (rules, tests)))
    (λ x r q k. search (rules, tests)) in
    all ∙ ap (position test) c.table.ensures
