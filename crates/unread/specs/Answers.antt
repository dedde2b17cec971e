-- What a question about a disk answers. Assumes nothing.
use Rattle.std.specs.Prelude.{ℕ, List, Some, None, Ok, Err, Option, Result}
use Rattle.fsck.specs.declared.fault.Fault.{Fault}
use Rattle.fsck.specs.Sound.{first_fault}
use Rattle.fsck.specs.Faults.{fault_of_place}

-- the answer, unless there is a fault, which stands for its number
abbrev pub unless : {A : Type 0} → Option ℕ → A → Result A Fault
unless None a = Ok a
unless (Some p) a = Err (fault_of_place p)

-- the answer for a sound disk; the first fault of one that isn't
abbrev pub answered : {A : Type 0} → List ℕ → A → Result A Fault
answered d a = unless (first_fault d) a
