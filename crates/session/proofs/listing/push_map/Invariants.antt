use Rattle.std.proofs.Common.{vec_items}
use Rattle.fsck.specs.Blocks.{size}
use Rattle.session.specs.Printed.{blocks_from}
use Rattle.session.proofs.Texts.{PutTo}
use Rattle.session.proofs.listing.push_map.Given as goal

abbrev pub invariant-loop-block : goal.invariant-loop-block
invariant-loop-block l = PutTo (blocks_from l.fn.disk.bytes.now) (vec_items l.initial.out) (vec_items l.out) (size l.fn.disk.bytes.now) l.block
