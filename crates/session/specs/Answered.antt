-- What a command answers. Assumes nothing.
use Rattle.std.specs.Prelude.{◌≡◌, ℕ, if◌then◌else◌, List, length, Some, None, Option, nat_lt}
use Rattle.layout.specs.Files.{find, file}
use Rattle.update.specs.declared.answer.Refusal.TheVariants.{Unsound}
use Rattle.update.specs.declared.answer.Done.{Done}
use Rattle.update.specs.declared.answer.Done.TheVariants.{Finished, Read, Absent, Refused}
use Rattle.update.specs.Asking.{refusal, roomy}
use Rattle.update.specs.Requests as r
use Rattle.update.specs.Said.{Says}
use Rattle.console.specs.Commands.{Said, disk, power, put, away, read, entry, list, check, unread, map_of, bad}
use Rattle.session.specs.Obeyed.{lasting, fault_of, size_fits, asked_of}

-- a file that is read: its length, or that there is none
abbrev pub read_answer : Option (List ℕ) → Done
read_answer None = Absent
read_answer (Some bs) = Read (length bs)

-- the entry of a name: whether there is one
abbrev pub entry_answer : (disk name : List ℕ) → Done
entry_answer d x = if nat_lt (find d x) 16 then Finished else Absent

-- a request: what it answers
abbrev pub RequestAnswers : List ℕ → r.Asked → Done → Type 0
RequestAnswers d a answer = Says (refusal d a) d a (roomy d a) answer (asked_of d a)

-- a command, on a disk that was judged if it has to be
abbrev pub AnswersOf : (disk : List ℕ) → (power : Option ℕ) → Said → Done → Type 0
AnswersOf d p (disk n l) answer = answer ≡ (if size_fits n then Finished else Refused Unsound)
AnswersOf d p (power n) answer = answer ≡ Finished
AnswersOf d p (put x c) answer = RequestAnswers d (r.put x.bytes c (lasting p)) answer
AnswersOf d p (away x) answer = RequestAnswers d (r.away x.bytes (lasting p)) answer
AnswersOf d p (read x) answer = answer ≡ read_answer (file d x.bytes)
AnswersOf d p (entry x) answer = answer ≡ entry_answer d x.bytes
AnswersOf d p list answer = answer ≡ Finished
AnswersOf d p check answer = answer ≡ Finished
AnswersOf d p unread answer = answer ≡ Finished
AnswersOf d p map_of answer = answer ≡ Finished
AnswersOf d p (bad o q l) answer = answer ≡ Refused q

-- where it has to be and the disk isn't sound, it is refused for that
abbrev pub AnswersIf : Option ℕ → Done → Type 0 → Type 0
AnswersIf (Some f) answer answers = answer ≡ Refused Unsound
AnswersIf None answer answers = answers

abbrev pub Answers : (disk : List ℕ) → (power : Option ℕ) → Said → Done → Type 0
Answers d p s answer = AnswersIf (fault_of d s) answer (AnswersOf d p s answer)
