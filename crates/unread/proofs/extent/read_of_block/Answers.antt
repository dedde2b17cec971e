use Rattle.std.proofs.Common.{List, map, max, unwrap_or, rules, ap, ◌∙◌}
use borrow.Author.Tests.{tests}
use Rattle.std.specs.List.{fold, filter}
use Rattle.std.proofs.lemmas.Iterator.{YieldsList-from_slice, YieldsList-from_map}
use Rattle.std.proofs.lemmas.Iterator.Consumers.{YieldsList-at, YieldsList-from_filter, reduce_from_yields_List}
use Rattle.std.proofs.lemmas.List.Folds.{max_of_map}
use Rattle.layout.specs.declared.entry.Entry.{Entry}
use Rattle.layout.specs.Entries.{decoded, blocks_of}
use Rattle.layout.specs.Files.{entries}
use Rattle.unread.specs.Unread.{read_by_file}
use Rattle.unread.proofs.Extents.{most_read_all}
use Rattle.unread.proofs.extent.read_of_block.Goals as goal

pub returns : goal.returns
unfolding entries
returns c =
    let d = c.args.disk.bytes.now in
    let table = c.table.result.now in
    let read = λ (e : Entry). read_by_file c.args.b (blocks_of e) e.len in
    let used = λ (e : Entry). e.used in
    c.unwrap_or.ensures ∙ ap (λ o. unwrap_or o 0) (reduce_from_yields_List _ c.map-2.result c.max.result c.max.ensures.ran
    (YieldsList-from_map _ read
    (YieldsList-at c.map-2.ensures.source (YieldsList-from_filter _ used
    (YieldsList-at c.filter.ensures.source (YieldsList-from_map _ decoded (YieldsList-at c.map.ensures.source (YieldsList-from_slice table cc)) c.map.ensures.closure (λ x r q k. search (rules, tests))))
    c.filter.ensures.closure (λ x r q k. search (rules, tests))))
    c.map-2.ensures.closure (λ x r q k. search (rules, tests)))) ∙ max_of_map read (filter used (map decoded table)) ∙ ap (λ (es : List Entry). fold (λ m (f : Entry). max m (read_by_file c.args.b (blocks_of f) f.len)) 0 (filter used es)) c.table.ensures ∙ most_read_all d c.args.b 16
