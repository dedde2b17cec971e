-- What requests answer, and when they are refused. Assumes nothing.
use Rattle.std.specs.Prelude.{◌≡◌, ℕ, Bool, cond, List, length, Ok, Err, Result, ◌==◌, nat_le}
use Rattle.layout.specs.declared.name.Name.{Name}
use Rattle.layout.specs.Entries.{as_name}
use Rattle.fsck.specs.Sound.{sound}
use Rattle.update.specs.declared.answer.Refusal.{Refusal}
use Rattle.update.specs.declared.answer.Refusal.TheVariants.{Unsound, BadName, TooLong, Unreadable}
use Rattle.update.specs.declared.answer.Done.{Done}
use Rattle.update.specs.declared.answer.Done.TheVariants.{Finished, Cut, Full, Read, Absent, Short, Refused}

-- the number under which a refusal is known
abbrev pub number : Refusal → ℕ
number Unsound = 1
number BadName = 2
number TooLong = 3
number Unreadable = 4

-- the number that goes with an answer: a length, or a refusal's number
abbrev pub value : Done → ℕ
value Finished = 0
value Cut = 0
value Full = 0
value (Read n) = n
value Absent = 0
value (Short n) = n
value (Refused q) = number q

-- the answer is a refusal with this number
abbrev pub RefusedWith : ℕ → Done → Type 0
RefusedWith n Finished = ⊥
RefusedWith n Cut = ⊥
RefusedWith n Full = ⊥
RefusedWith n (Read k) = ⊥
RefusedWith n Absent = ⊥
RefusedWith n (Short k) = ⊥
RefusedWith n (Refused q) = number q ≡ n

-- a name is eleven bytes, and a file at most 1,024
abbrev pub good_name : List ℕ → Bool
good_name x = length x == 11

abbrev pub good_file : List ℕ → Bool
good_file c = nat_le (length c) 1024

-- the number with which a request on a name is refused, or 0: the disk is judged first
unfoldable pub ask_refusal : (disk name : List ℕ) → ℕ
ask_refusal d x = cond (sound d) (cond (good_name x) 0 (number BadName)) (number Unsound)

-- the number with which putting is refused, or 0: after the disk and the name, the file's length
unfoldable pub put_refusal : (disk name content : List ℕ) → ℕ
put_refusal d x c = cond (sound d) (cond (good_name x) (cond (good_file c) 0 (number TooLong)) (number BadName)) (number Unsound)

-- the name of a request that isn't refused, or why it is
unfoldable pub admitted : (disk name : List ℕ) → Result Name Refusal
admitted d x = cond (sound d) (cond (good_name x) (Ok (as_name x)) (Err BadName)) (Err Unsound)
