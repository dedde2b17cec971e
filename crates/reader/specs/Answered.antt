-- What reading answers, and what it leaves in the room. Assumes nothing.
use Rattle.std.specs.Prelude.{◌≡◌, ℕ, zero, suc, ◌<◌, ◌≤◌, Bool, true, false, ◌&&◌, ◌⊎◌, List, ◌++◌, length, drop, Some, None, Ok, Err, MatchOption, Option, Result, nat_lt}
use Rattle.std.specs.Borrow.{Bor}
use Rattle.layout.specs.Files.{find, file, EntryPart}
use Rattle.fsck.specs.Sound.{sound}
use Rattle.update.specs.declared.answer.Done.{Done}
use Rattle.update.specs.declared.answer.Done.TheVariants.{Read, Absent, Short}
use Rattle.update.specs.Answers.{good_name, RefusedWith}

-- a file read into a room: none; or one for which the room is too short; or its bytes in front, and the rest of the room as it was
abbrev pub Got : Option (List ℕ) → (room : List ℕ) → Done → (room₁ : List ℕ) → Type 0
Got None room r room₁ = (r ≡ Absent) × (room₁ ≡ room)
Got (Some c) room r room₁ =
    ((length room < length c) × (r ≡ Short (length c)) × (room₁ ≡ room)) ⊎ ((length c ≤ length room) × (r ≡ Read (length c)) × (room₁ ≡ c ++ drop (length c) room))

-- by the number with which the request is refused, or 0
abbrev pub ReadSays : ℕ → (disk name room : List ℕ) → Done → (room₁ : List ℕ) → Type 0
ReadSays zero d x room r room₁ = Got (file d x) room r room₁
ReadSays (suc n) d x room r room₁ = RefusedWith (suc n) r × (room₁ ≡ room)

-- what a reading's result answers: the number of bytes that were read, or the answer that it gave in place
abbrev pub answer : Result ℕ Done → Done
answer (Ok n) = Read n
answer (Err r) = r

-- the disk is sound and has an entry of the name
abbrev pub has_file_entry : (disk name : List ℕ) → Bool
has_file_entry d x = sound d && (good_name x && nat_lt (find d x) 16)

-- the entry of a name as a part of the disk, or none
abbrev pub EntryFound : (disk : Bor (List ℕ)) (name : List ℕ) → Option (Bor (List ℕ)) → Type 0
EntryFound disk x r = MatchOption r (has_file_entry disk.now x ≡ false) (λ p. (has_file_entry disk.now x ≡ true) × EntryPart disk (find disk.now x) p)

-- the entry of a name as a part of the disk, or a part of no bytes
pub record EntrySays (disk : Bor (List ℕ)) (x : List ℕ) (p : Bor (List ℕ)) : Type 0 where
  pub gone : has_file_entry disk.now x ≡ false → length p.now ≡ 0
  pub there : has_file_entry disk.now x ≡ true → EntryPart disk (find disk.now x) p
