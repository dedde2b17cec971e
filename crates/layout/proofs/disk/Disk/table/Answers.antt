use Rattle.layout.specs.Files.{held}
use Rattle.layout.proofs.Chunks.{table_of_parts}
use Rattle.layout.proofs.disk.Disk.table.Goals as goal

pub returns : goal.returns
returns c = table_of_parts (held c.args.self.now) c.as_chunks.result.0.now c.first_chunk.result c.as_chunks.ensures.front c.as_chunks.ensures.front_len c.first_chunk.ensures.cases
