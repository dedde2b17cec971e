use Rattle.std.proofs.Common.{position, sym, ap, ◌∙◌, arith}
use Rattle.std.proofs.lemmas.Bool.{cond-true, lt-ltb}
use Rattle.session.specs.Printed.{block_char}
use Rattle.session.proofs.Entries.{has_block, letter-block_char}
use Rattle.session.proofs.listing.block_char.Goals as goal

pub returns-then-from-lt-ENTRY_BLOCKS : goal.returns-then-from-lt-ENTRY_BLOCKS
unfolding block_char
returns-then-from-lt-ENTRY_BLOCKS c d same = sym (cond-true _ _ _ (lt-ltb c.args.block 8 (omega arith)))

pub returns-in-Some : goal.returns-in-Some
returns-in-Some c d same = letter-block_char d c.args.block _ (omega arith) (c.in-Some.ensures ∙ ap (position (has_block c.args.block)) same)

pub returns-in-None : goal.returns-in-None
returns-in-None c d same = letter-block_char d c.args.block _ (omega arith) (c.in-None.ensures ∙ ap (position (has_block c.args.block)) same)
