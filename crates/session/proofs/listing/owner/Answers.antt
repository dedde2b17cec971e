use Rattle.std.proofs.Common.{◌≡◌, Bool, ◌&&◌, eqb, position, ◌∙◌, rules, tests}
use Rattle.std.specs.List.{list_any}
use Rattle.std.proofs.lemmas.Iterator.{YieldsList-from_slice}
use Rattle.std.proofs.lemmas.Iterator.Search.{position_from_yields_List}
use Rattle.layout.specs.declared.entry.Entry.{Entry}
use Rattle.layout.specs.Entries.{blocks_of}
use Rattle.session.proofs.Entries.{list_any-has}
use Rattle.session.proofs.listing.owner.Goals as goal

pub returns : goal.returns
returns c =
    let b = c.args.block in
    let test : Entry → Bool = λ e. e.used && list_any (λ y. eqb y b) (blocks_of e) in
    let all : c.position.result ≡ position test c.args.entries.now = position_from_yields_List test _ _ _ c.position.ensures.ran (YieldsList-from_slice c.args.entries.now cc) (λ x r q k. search (rules, tests)) in
    all ∙ (λ j. position (λ (e : Entry). e.used && list_any-has b (blocks_of e) j) c.args.entries.now)
