use Rattle.std.proofs.Common.{vec_items}
use Rattle.console.specs.Shown.{shown_number, shown_name}
use Rattle.session.specs.Printed.{file_line}
use Rattle.session.proofs.Texts.{pair_behind, made_behind}
use Rattle.session.proofs.listing.push_file_line.Goals as goal

pub returns : goal.returns
unfolding file_line
returns c =
    made_behind c.extend_from_slice-2.result _ _ _ _ c.extend_from_slice-2.ensures.items
    (pair_behind (vec_items c.args.out.now) (shown_name c.args.name.now.bytes) (shown_number c.args.len) c.in_ok-push_name.ensures.text c.in_ok-extend_from_slice.ensures.items c.in_ok-push_number.ensures.text)
