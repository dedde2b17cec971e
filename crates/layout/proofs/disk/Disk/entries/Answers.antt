use Rattle.std.proofs.Common.{rules, [], Some, sym, ap, ◌∙◌}
use Rattle.std.proofs.lemmas.Bool.{cond-true}
use Rattle.layout.specs.Entries.{decoded}
use Rattle.layout.specs.Files.{held, entries, entry_at}
use Rattle.layout.proofs.Chunks.{map-range_with_len_from_map}
use Rattle.layout.proofs.Searching.{decoded-table}
use Rattle.layout.proofs.disk.Disk.entries.Goals as goal

pub returns : goal.returns
unfolding entries
returns c =
    let d = held c.args.self.now in
    let known = c.in_ok-table.ensures in
    let parts = c.in_ok-table.table.now in
    ap Some (map-range_with_len_from_map parts c.map.result 16 c.map.ensures.items decoded (λ p x y q k. search rules) [] (entry_at d 0) (entry_at d) (λ k lt. decoded-table d parts k [] known.1 lt))
    ∙ sym (cond-true _ _ _ known.0)
