use Rattle.std.proofs.Common.{◌≡◌, ◌-◌, ◌*◌, min, eqb, sym, ap, ◌∙◌, arith, length-take}
use Rattle.std.proofs.lemmas.List.Quantifiers.{position-Some}
use Rattle.layout.specs.Entries.{blocks_of, needs}
use Rattle.unread.proofs.Extents.{read_at, read_by_position}
use Rattle.unread.proofs.extent.read_by_file.Goals as goal

pub overflow_mul-k : goal.overflow_mul-k
unfolding blocks_of needs
overflow_mul-k c =
    let e = c.args.entry.now in
    let first = position-Some (λ x. eqb x c.args.b) (blocks_of e) c.in-Some.k 0 (sym c.place_in_file.ensures ∙ c.in-Some.is) in
    omega (arith, first.0, length-take (needs e.len) e.blocks)

pub returns-in-Some : goal.returns-in-Some
returns-in-Some c =
    let e = c.args.entry.now in
    let read : c.min.result ≡ min (e.len - c.in-Some.k * 64) 64 = omega arith in
    read ∙ ap (read_at e.len) (sym c.in-Some.is ∙ c.place_in_file.ensures) ∙ read_by_position c.args.b (blocks_of e) e.len

pub returns-in-None : goal.returns-in-None
returns-in-None c =
    let e = c.args.entry.now in
    ap (read_at e.len) (sym c.in-None.is ∙ c.place_in_file.ensures) ∙ read_by_position c.args.b (blocks_of e) e.len
