use Rattle.std.proofs.Common.{◌≡◌, ◌≤◌, ◌++◌, length, drop}
use Rattle.layout.specs.Entries.{blocks_of}
use Rattle.layout.specs.Files.{held, block}
use Rattle.layout.proofs.Copying.{front}
use Rattle.layout.proofs.disk.Disk.copy_file.Given as goal

abbrev pub invariant-loop-b : goal.invariant-loop-b
invariant-loop-b l =
    (l.at ≤ l.len)
    × (l.at ≡ length (front (block (held l.self)) (blocks_of l.file) l.len l.b-index))
    × (l.room ≡ front (block (held l.self)) (blocks_of l.file) l.len l.b-index ++ drop l.at l.initial.room)
