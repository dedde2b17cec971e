use Rattle.std.proofs.Common.{◌≡◌, ◌/◌, ◌%◌, cond, [], ◌∷◌, length, refl, ap, ◌∙◌, rules}
use Rattle.layout.specs.Entries.{decoded}
use Rattle.layout.proofs.Codec.{fields_in_place, decoded-encoded}
use Rattle.layout.proofs.entry.Entry.encode.Goals as goal

pub returns : goal.returns
returns c =
    let e = c.args.self.now in
    let n : length e.name.bytes ≡ 11 = search rules in
    let b : length e.blocks ≡ 16 = search rules in
    let u : length e.unread ≡ 2 = search rules in
    let flag : c.from.result ≡ cond e.used 1 0 = search rules in
    let high : e.len / 256 % 256 ≡ e.len / 256 = search rules in
    let pair : c.to_le_bytes.result ≡ e.len % 256 ∷ (e.len / 256 ∷ []) = c.to_le_bytes.ensures ∙ ap (λ x. e.len % 256 ∷ (x ∷ [])) high in
    let is = fields_in_place e _ _ _ _ _ _ n b u refl (ap (λ x. x ∷ []) flag) pair c.replace_at.ensures c.replace_at-2.ensures c.replace_at-3.ensures c.replace_at-4.ensures in
    record { bytes = is; back = ap decoded is ∙ decoded-encoded e n b u }
