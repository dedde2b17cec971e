-- A disk and the power for the next request, as a command leaves them. Assumes nothing.
use Rattle.std.specs.Prelude.{ℕ, ◌*◌, Bool, true, false, cond, ◌&&◌, List, [], take, replicate, Some, None, Option, nat_le}
use Rattle.fsck.specs.Sound.{sound, first_fault}
use Rattle.update.specs.declared.write.Write.{Write}
use Rattle.update.specs.Asking.{begun}
use Rattle.update.specs.Requests as r
use Rattle.console.specs.declared.verb.Verb.{Verb}
use Rattle.console.specs.declared.verb.Verb.TheVariants as v
use Rattle.console.specs.Commands.{Said, disk, power, put, away, read, entry, list, check, unread, map_of, bad}

-- for how many writes power lasts: for all, unless it was said
abbrev pub lasting : Option ℕ → ℕ
lasting None = 18446744073709551615
lasting (Some n) = n

-- whether a line begins with a command that writes, which uses up the power
abbrev pub writing : Option Verb → Bool
writing None = false
writing (Some v.Put) = true
writing (Some v.Away) = true
writing (Some v.Check) = false
writing (Some v.Disk) = false
writing (Some v.Entry) = false
writing (Some v.List) = false
writing (Some v.Map) = false
writing (Some v.Power) = false
writing (Some v.Read) = false
writing (Some v.Unread) = false

abbrev pub uses_power : Said → Bool
uses_power (put x c) = true
uses_power (away x) = true
uses_power (bad o q l) = writing o
uses_power (disk n l) = false
uses_power (power n) = false
uses_power (read x) = false
uses_power (entry x) = false
uses_power list = false
uses_power check = false
uses_power unread = false
uses_power map_of = false

-- whether the disk is judged before the line is looked at: not for a new disk, for power, or where no command's word is there
abbrev pub judging : Option Verb → Bool
judging None = false
judging (Some v.Disk) = false
judging (Some v.Power) = false
judging (Some v.Put) = true
judging (Some v.Away) = true
judging (Some v.Check) = true
judging (Some v.Entry) = true
judging (Some v.List) = true
judging (Some v.Map) = true
judging (Some v.Read) = true
judging (Some v.Unread) = true

abbrev pub judges : Said → Bool
judges (disk n l) = false
judges (power n) = false
judges (bad o q l) = judging o
judges (put x c) = true
judges (away x) = true
judges (read x) = true
judges (entry x) = true
judges list = true
judges check = true
judges unread = true
judges map_of = true

-- the first fault of a disk, where it is judged
abbrev pub fault_of : List ℕ → Said → Option ℕ
fault_of d s = cond (judges s) (first_fault d) None

-- a disk may have so many blocks
abbrev pub size_fits : ℕ → Bool
size_fits n = nat_le 9 n && nat_le n 250

-- a new disk of zeros, where it may
unfoldable pub new_disk : List ℕ → ℕ → List ℕ
new_disk d n = cond (size_fits n) (replicate (64 * n) 0) d

-- the writes that a request makes: of those that it has, as many as power lasts for
unfoldable pub made_writes : List ℕ → r.Asked → List Write
made_writes d a = cond (begun d a) (take (r.lasts a) (r.writes d a)) []

-- a disk that isn't sound is left as it is
abbrev pub asked_of : List ℕ → r.Asked → List ℕ
asked_of d a = cond (sound d) (r.step d a) d

-- the disk after a command
unfoldable pub disk_after : List ℕ → (power : Option ℕ) → Said → List ℕ
disk_after d p (disk n l) = new_disk d n
disk_after d p (power n) = d
disk_after d p (put x c) = asked_of d (r.put x.bytes c (lasting p))
disk_after d p (away x) = asked_of d (r.away x.bytes (lasting p))
disk_after d p (read x) = d
disk_after d p (entry x) = d
disk_after d p list = d
disk_after d p check = d
disk_after d p unread = d
disk_after d p map_of = d
disk_after d p (bad v q l) = d

-- and the power for the next request
unfoldable pub power_after : Option ℕ → Said → Option ℕ
power_after p (power n) = Some n
power_after p (put x c) = None
power_after p (away x) = None
power_after p (bad o q l) = cond (writing o) None p
power_after p (disk n l) = p
power_after p (read x) = p
power_after p (entry x) = p
power_after p list = p
power_after p check = p
power_after p unread = p
power_after p map_of = p

-- the writes that a command makes, in their order
unfoldable pub writes_of : List ℕ → (power : Option ℕ) → Said → List Write
writes_of d p (put x c) = made_writes d (r.put x.bytes c (lasting p))
writes_of d p (away x) = made_writes d (r.away x.bytes (lasting p))
writes_of d p (disk n l) = []
writes_of d p (power n) = []
writes_of d p (read x) = []
writes_of d p (entry x) = []
writes_of d p list = []
writes_of d p check = []
writes_of d p unread = []
writes_of d p map_of = []
writes_of d p (bad o q l) = []
