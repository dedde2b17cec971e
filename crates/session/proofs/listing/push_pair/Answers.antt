use Rattle.std.proofs.Common.{vec_items}
use Rattle.console.specs.Shown.{shown_number}
use Rattle.session.proofs.Texts.{pair_behind, made_behind}
use Rattle.session.proofs.listing.push_pair.Goals as goal

pub returns : goal.returns
returns c =
    made_behind c.extend_from_slice-2.result _ _ _ _ c.extend_from_slice-2.ensures.items
    (pair_behind (vec_items c.args.out.now) (shown_number c.args.first) (shown_number c.args.last) c.in_ok-push_number.ensures.text c.in_ok-extend_from_slice.ensures.items c.in_ok-push_number-2.ensures.text)
