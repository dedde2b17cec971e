use Rattle.std.proofs.Common.{◌≡◌, ◌++◌, length, vec_items, sym, ap, ◌∙◌, subst, rules}
use Rattle.std.proofs.lemmas.Bool.{eqb-true, eqb-false}
use Rattle.reader.specs.Answered.{EntrySays}
use Rattle.session.proofs.Named.{no_entry_shown, entry_shown}
use Rattle.session.proofs.listing.push_entry.Goals as goal

pub returns-then-is_empty : goal.returns-then-is_empty
returns-then-is_empty c =
    let x = c.args.name.now.bytes in
    let eleven : length x ≡ 11 = search rules in
    let part = c.entry_of-entry.result in
    let says = subst (λ disk. EntrySays disk x part) c.bytes.ensures c.entry_of-entry.ensures in
    let empty = eqb-true (length part.now) 0 (sym c.is_empty.ensures ∙ c.if-is_empty.true) in
    let shown = no_entry_shown c.args.disk.bytes x part c.args.disk.sound eleven says empty in
    record { text = c.in_ok-extend_from_slice.ensures.items ∙ ap (λ t. vec_items c.args.out.now ++ t) shown.text; answer = shown.answer }

pub returns : goal.returns
returns c =
    let x = c.args.name.now.bytes in
    let eleven : length x ≡ 11 = search rules in
    let part = c.entry_of-entry.result in
    let says = subst (λ disk. EntrySays disk x part) c.bytes.ensures c.entry_of-entry.ensures in
    let some = eqb-false (length part.now) 0 (sym c.is_empty.ensures ∙ c.if-is_empty.false) in
    let shown = entry_shown c.args.disk.bytes x part c.args.disk.sound eleven says some in
    record { text = c.in_ok-push_bytes.ensures.text ∙ ap (λ t. vec_items c.args.out.now ++ t) shown.text; answer = shown.answer }
