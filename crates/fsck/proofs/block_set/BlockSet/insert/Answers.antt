use Rattle.std.proofs.Common.{◌≡◌, ◌*◌, ◌/◌, ◌%◌, ◌^◌, ◌<◌, length, arith, rules}
use Rattle.std.proofs.lemmas.Nat.{one_shl}
use Rattle.fsck.proofs.WordBits.{member_insert}
use Rattle.fsck.proofs.block_set.BlockSet.insert.Goals as goal

pub returns : goal.returns
returns c k =
    let s = c.args.self.now in
    let b = c.from-b.result in
    let within : b / 64 < length s.words = search rules in
    let shifted : (1 * 2 ^ (b % 64)) % 2 ^ 64 ≡ 2 ^ (b % 64) = one_shl (b % 64) 64 (omega arith) in
    simp (shifted, ← c.from-b.ensures) (member_insert s b k within)
