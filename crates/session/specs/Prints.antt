-- What a command prints. Assumes nothing.
use Rattle.std.specs.Prelude.{◌≡◌, ℕ, cond, List, [], ◌++◌, length, Some, None, codes, Option}
use Rattle.std.specs.declared.ops.Range.{Range}
use Rattle.layout.specs.Files.{file}
use Rattle.unread.specs.Unread as u
use Rattle.unread.specs.Runs.{Listed}
use Rattle.update.specs.declared.answer.Refusal.TheVariants.{Unsound}
use Rattle.update.specs.declared.answer.Done.{Done}
use Rattle.update.specs.Asking.{refusal, roomy}
use Rattle.update.specs.Requests as r
use Rattle.update.specs.Said.{Says}
use Rattle.console.specs.Commands.{Said, disk, power, put, away, read, entry, list, check, unread, map_of, bad}
use Rattle.session.specs.Obeyed.{lasting, fault_of, size_fits, asked_of}
use Rattle.session.specs.Printed.{line, refused_line, answer_line, read_text, entry_text, files_from, shown_ranges, map_text}

-- a request: the line of the answer that it gives; a refusal, with this place
pub record RequestPrints (d : List ℕ) (a : r.Asked) (place : ℕ) (t : List ℕ) : Type 0 where
  pub answer : Done
  pub says : Says (refusal d a) d a (roomy d a) answer (asked_of d a)
  pub text : t ≡ answer_line answer place

-- unread places: the line of each range
pub record RangesPrinted (d t : List ℕ) : Type 0 where
  pub ranges : List (Range ℕ)
  pub listed : Listed (u.unread d) 0 ranges
  pub text : t ≡ shown_ranges ranges

-- a command, on a disk that was judged if it has to be
abbrev pub Shows : (disk : List ℕ) → (power : Option ℕ) → Said → List ℕ → Type 0
Shows d p (disk n l) t = t ≡ cond (size_fits n) [] (refused_line Unsound 16)
Shows d p (power n) t = t ≡ []
Shows d p (put x c) t = RequestPrints d (r.put x.bytes c (lasting p)) (length c) t
Shows d p (away x) t = RequestPrints d (r.away x.bytes (lasting p)) 11 t
Shows d p (read x) t = t ≡ read_text x.bytes (file d x.bytes)
Shows d p (entry x) t = t ≡ entry_text d x.bytes
Shows d p list t = t ≡ files_from d 0 16
Shows d p check t = t ≡ line (codes "sound")
Shows d p unread t = RangesPrinted d t
Shows d p map_of t = t ≡ map_text d
Shows d p (bad o q l) t = t ≡ refused_line q l

-- where it has to be and the disk isn't sound, that alone is said, with the first fault
abbrev pub ShowsIf : Option ℕ → (text : List ℕ) → Type 0 → Type 0
ShowsIf (Some f) t shows = t ≡ refused_line Unsound f
ShowsIf None t shows = shows

abbrev pub Prints : (disk : List ℕ) → (power : Option ℕ) → Said → List ℕ → Type 0
Prints d p s t = ShowsIf (fault_of d s) t (Shows d p s t)

-- a text with these properties is put behind what was printed before
pub record Behind (before after : List ℕ) (P : List ℕ → Type 0) : Type 0 where
  pub text : List ℕ
  pub fits : P text
  pub put_behind : after ≡ before ++ text
