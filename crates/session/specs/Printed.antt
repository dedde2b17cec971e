-- What is printed. Assumes nothing.
use Rattle.std.specs.Prelude.{ℕ, zero, suc, ◌+◌, ◌-◌, ◌%◌, cond, ◌||◌, List, [], ◌∷◌, ◌++◌, length, Some, None, codes, Option, ◌==◌, nat_lt}
use Rattle.std.specs.declared.ops.Range.{Range}
use Rattle.layout.specs.Files.{entry_bytes, entry_at, find}
use Rattle.fsck.specs.Blocks.{size, blocks_at, has}
use Rattle.update.specs.declared.answer.Refusal.{Refusal}
use Rattle.update.specs.declared.answer.Done.{Done}
use Rattle.update.specs.declared.answer.Done.TheVariants.{Finished, Cut, Full, Read, Absent, Short, Refused}
use Rattle.update.specs.Answers.{number}
use Rattle.console.specs.Shown.{shown_number, shown_bytes, shown_name}

-- a line of text
abbrev pub line : List ℕ → List ℕ
line t = t ++ (10 ∷ [])

-- a refusal: its number and the place
unfoldable pub refused_line : Refusal → ℕ → List ℕ
refused_line q p = codes "refused " ++ (shown_number (number q) ++ (codes " at " ++ line (shown_number p)))

-- what came of a request that writes
unfoldable pub answer_line : Done → (place : ℕ) → List ℕ
answer_line Finished p = line (codes "done")
answer_line Cut p = line (codes "cut")
answer_line Full p = line (codes "full")
answer_line (Refused q) p = refused_line q p
answer_line (Read n) p = line (codes "none")
answer_line Absent p = line (codes "none")
answer_line (Short n) p = line (codes "none")

-- two things on a line, a blank between them
abbrev pub pair_line : List ℕ → List ℕ → List ℕ
pair_line s t = s ++ (32 ∷ line t)

-- a file: its name and its length
unfoldable pub file_line : List ℕ → ℕ → List ℕ
file_line x n = pair_line (shown_name x) (shown_number n)

-- the files of n entries from i on, of those in use
unfoldable pub files_from : List ℕ → ℕ → ℕ → List ℕ
files_from d i zero = []
files_from d i (suc n) = cond (entry_at d i).used (file_line (entry_at d i).name.bytes (entry_at d i).len) [] ++ files_from d (suc i) n

-- a file that is read: its line, and its bytes
unfoldable pub read_text : List ℕ → Option (List ℕ) → List ℕ
read_text x None = line (codes "none")
read_text x (Some bs) = file_line x (length bs) ++ shown_bytes bs

-- the entry of a name
unfoldable pub entry_text : (disk name : List ℕ) → List ℕ
entry_text d x = cond (nat_lt (find d x) 16) (shown_bytes (entry_bytes d (find d x))) (line (codes "none"))

-- ranges: the first and the last place of each
unfoldable pub shown_ranges : List (Range ℕ) → List ℕ
shown_ranges [] = []
shown_ranges (r ∷ rs) = pair_line (shown_number r.start) (shown_number (r.end - 1)) ++ shown_ranges rs

-- a block: the letter of the first of n entries from i on that has it, or a dot
unfoldable pub owner_from : List ℕ → (block : ℕ) → ℕ → ℕ → ℕ
owner_from d b i zero = 46
owner_from d b i (suc n) = cond (has (blocks_at d i) b) (97 + i) (owner_from d b (suc i) n)

-- or a sign for the blocks of the entries
unfoldable pub block_char : List ℕ → ℕ → ℕ
block_char d b = cond (nat_lt b 8) 35 (owner_from d b 0 16)

-- n blocks from b on, with a line feed behind every 64 and behind the last
unfoldable pub blocks_from : List ℕ → ℕ → ℕ → List ℕ
blocks_from d b zero = []
blocks_from d b (suc n) = block_char d b ∷ (cond (b % 64 == 63 || n == 0) (10 ∷ []) [] ++ blocks_from d (suc b) n)

unfoldable pub map_text : List ℕ → List ℕ
map_text d = blocks_from d 0 (size d)
