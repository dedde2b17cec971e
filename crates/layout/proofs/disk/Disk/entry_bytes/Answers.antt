use Rattle.std.proofs.Common.{◌≡◌, ◌+◌, ◌-◌, ◌*◌, length, take, drop, ap, mul_comm, arith}
use borrow.Rule.Slice.Shared.{by_byte}
use Rattle.std.proofs.lemmas.Bool.{and_from, le-leb, lt-ltb}
use Rattle.layout.specs.Files.{entry_bytes, held}
use Rattle.layout.proofs.disk.Disk.entry_bytes.Goals as goal

pub returns : goal.returns
unfolding entry_bytes
returns c =
    let d = held c.args.self.now in
    let i = c.args.i in
    let disk = c.args.self.now.bytes in
    let at : by_byte (i * 32) disk.ref_ptr.1 ≡ 32 * i + disk.ref_ptr.1 = omega arith in
    let size : (i * 32 + 32) - i * 32 ≡ 32 = omega arith in (
      and_from _ _ (le-leb 512 (length d) (omega arith)) (lt-ltb i 16 (omega arith)),
      record {
        bytes = λ j. take (size j) (drop (mul_comm i 32 j) d);
        lies = ap (λ n. (disk.ref_ptr.0, n)) at;
      },
    )
