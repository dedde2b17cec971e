use Rattle.std.proofs.Common.{vec_items}
use Rattle.session.specs.Printed.{files_from}
use Rattle.session.proofs.Texts.{PutTo}
use Rattle.session.proofs.listing.push_files.Given as goal

abbrev pub invariant-loop-part : goal.invariant-loop-part
invariant-loop-part l = PutTo (files_from l.fn.disk.bytes.now) (vec_items l.initial.out) (vec_items l.out) 16 l.part-index
