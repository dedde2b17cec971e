use Rattle.std.proofs.Common.{◌≡◌, ℕ, List, length, sym, ap, codes, rules}
use Rattle.std.proofs.lemmas.Slice.Eq.{HasBytesAt, text_from_reads}
use Rattle.console.specs.Verbs.{verb}
use Rattle.console.proofs.verb.Verb.of.Goals as goal

-- the word that was read, byte by byte
read_as : (w p : List ℕ) → length w ≡ length p → HasBytesAt w 0 p → verb p ≡ verb w
read_as w p len bytes = ap verb (sym (text_from_reads w p len bytes))

pub returns-in-away : goal.returns-in-away
returns-in-away c = read_as c.args.word.now (codes "away") (search rules) (search rules)

pub returns-in-check : goal.returns-in-check
returns-in-check c = read_as c.args.word.now (codes "check") (search rules) (search rules)

pub returns-in-disk : goal.returns-in-disk
returns-in-disk c = read_as c.args.word.now (codes "disk") (search rules) (search rules)

pub returns-in-entry : goal.returns-in-entry
returns-in-entry c = read_as c.args.word.now (codes "entry") (search rules) (search rules)

pub returns-in-power : goal.returns-in-power
returns-in-power c = read_as c.args.word.now (codes "power") (search rules) (search rules)

pub returns-in-read : goal.returns-in-read
returns-in-read c = read_as c.args.word.now (codes "read") (search rules) (search rules)

pub returns-in-unread : goal.returns-in-unread
returns-in-unread c = read_as c.args.word.now (codes "unread") (search rules) (search rules)
