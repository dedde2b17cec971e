use Rattle.std.proofs.Common.{cond, ltb, Some, None, sym, ap, ◌∙◌}
use Rattle.layout.specs.Files.{found}
use Rattle.update.proofs.Choosing.{position-unused, place_named, place_unnamed}
use Rattle.update.proofs.choose.choose_entry.Goals as goal

pub returns-in-Some : goal.returns-in-Some
returns-in-Some c =
    let x = c.args.name.now.bytes in
    place_named c.args.disk.bytes.now x c.in-Some.place (c.in-Some.ensures.value ∙ (λ j. found (c.view.ensures j).now x))

pub returns : goal.returns
returns c =
    let x = c.args.name.now.bytes in
    let place = place_unnamed c.args.disk.bytes.now x c.args.disk.sound (c.in_default.ensures.value ∙ (λ j. found (c.view.ensures j).now x)) in
    c.first_unused.ensures ∙ position-unused c.args.disk.bytes.now ∙ ap (λ p. cond (ltb p 16) (Some p) None) (sym place)
