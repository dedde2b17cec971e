use Rattle.std.proofs.Common.{◌≡◌, ◌+◌, ◌*◌, ◌/◌, ◌≤◌, leb, length, sym, ap, ◌∙◌, subst, arith}
use Rattle.layout.specs.Files.{entry_at}
use Rattle.layout.proofs.Searching.{decoded-table}
use Rattle.fsck.proofs.Contents.{sound_long}
use Rattle.fsck.proofs.Deciding.{sound_to_rules}
use Rattle.unread.specs.Unread.{read_of_entry}
use Rattle.unread.proofs.Extents.{read_of_entry_most, read_of_block_most}
use Rattle.unread.proofs.Behind.{unread-behind_entry, unread-behind-block}
use Rattle.unread.proofs.extent.unread_rest.Goals as goal

-- so much is read of the entry that has the place
read : (c : goal.After-read_of_entry) → c.read_of_entry.result ≡ read_of_entry (entry_at c.args.disk.bytes.now (c.args.place / 32))
read c =
    let i = c.args.place / 32 in
    c.read_of_entry.ensures ∙ ap read_of_entry (c.decode-entry.ensures.fields ∙ decoded-table c.args.disk.bytes.now c.table.result.now i _ c.table.ensures c.if-i-lt-ENTRIES.true)

most : (c : goal.After-read_of_entry) → c.read_of_entry.result ≤ 30
most c = subst (λ n. n ≤ 30) (sym (read c)) (read_of_entry_most c.args.disk.bytes.now (c.args.place / 32) (sound_to_rules c.args.disk.bytes.now c.args.disk.sound) c.if-i-lt-ENTRIES.true)

pub overflow_add-result : goal.overflow_add-result
overflow_add-result c = omega (arith, most c)

pub returns-then-i-lt-ENTRIES : goal.returns-then-i-lt-ENTRIES
returns-then-i-lt-ENTRIES c =
    let d = c.args.disk.bytes.now in
    let place = c.args.place in
    let long = sound_long d 16 (sound_to_rules d c.args.disk.sound) in
    record {
      behind = (omega arith, omega (arith, most c), omega arith);
      unread = λ k from to. unread-behind_entry d place k from c.if-i-lt-ENTRIES.true (omega arith) to ∙ ap (λ r. leb (place / 32 * 32 + r) k) (sym (read c));
    }

pub overflow_cast-b : goal.overflow_cast-b
overflow_cast-b c =
    let rules = sound_to_rules c.args.disk.bytes.now c.args.disk.sound in
    omega (arith, rules.whole, rules.most)

pub overflow_add-result-2 : goal.overflow_add-result-2
overflow_add-result-2 c = omega (arith, c.read_of_block.ensures, read_of_block_most c.args.disk.bytes.now (c.args.place / 64) 16)

pub returns : goal.returns
returns c =
    let d = c.args.disk.bytes.now in
    let place = c.args.place in
    let rules = sound_to_rules d c.args.disk.sound in
    let on_disk : place / 64 * 64 + 64 ≤ length d = omega (arith, rules.whole) in
    record {
      behind = (omega arith, omega (arith, c.read_of_block.ensures, read_of_block_most d (place / 64) 16), on_disk);
      unread = λ k from to. unread-behind-block d place k from (omega arith) on_disk to ∙ ap (λ r. leb (place / 64 * 64 + r) k) (sym c.read_of_block.ensures);
    }
