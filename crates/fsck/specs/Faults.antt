-- Faults and the numbers that stand for them. Assumes nothing.
use Rattle.std.specs.Prelude.{ℕ, if◌then◌else◌, nat_lt}
use Rattle.fsck.specs.declared.fault.Fault.{Fault}
use Rattle.fsck.specs.declared.fault.Fault.TheVariants.{Size, Entry}

-- the number of the entry that has the fault, or sixteen for the size
abbrev pub place : Fault → ℕ
place Size = 16
place (Entry i) = i

-- the fault that a number from 0 to 16 stands for
abbrev pub fault_of_place : ℕ → Fault
fault_of_place n = if nat_lt n 16 then Entry n else Size
