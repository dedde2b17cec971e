-- The list of unread places is complete. Assumes nothing.
use Rattle.std.proofs.Common.{ℕ, List}
use Rattle.unread.specs.Complete.{Complete}
use Rattle.unread.proofs.Unseen.{unseen, steady}
use Rattle.unread.proofs.Others.{no_others}

pub complete : (d : List ℕ) → Complete d
complete d = record { unseen = unseen d; no_others = no_others d; steady = steady d }
