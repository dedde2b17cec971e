-- The blocks of a list, in their order. Assumes nothing.
use Rattle.std.specs.Prelude.{ℕ, List, take}
use Rattle.update.specs.declared.block_list.BlockList.{BlockList}

abbrev pub listed : BlockList → List ℕ
listed b = take b.len b.numbers
