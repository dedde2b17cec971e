use Rattle.unread.proofs.Agreeing.{kinds_decide}
use Rattle.unread.proofs.place.is_unread.Goals as goal

pub returns-in_err-disk-clause-kinds : goal.returns-in_err-disk-clause-kinds
returns-in_err-disk-clause-kinds c ok = kinds_decide c.args.disk.now ok c.args.place

pub returns-then-place-bytes-clause-kinds : goal.returns-then-place-bytes-clause-kinds
returns-then-place-bytes-clause-kinds c ok = kinds_decide c.args.disk.now ok c.args.place

pub returns-clause-kinds : goal.returns-clause-kinds
returns-clause-kinds c ok = kinds_decide c.args.disk.now ok c.args.place
