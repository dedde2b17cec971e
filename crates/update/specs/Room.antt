-- What room there is on a disk, counted from its entries, and what a put that is finished leaves. Each is a statement; functions' contracts name it. Assumes nothing.
use Rattle.std.specs.Prelude.{◌≡◌, ℕ, zero, suc, ◌+◌, ◌-◌, ◌<◌, ◌≤◌, true, cond, ◌⊎◌, List, [], length, Some, Decides, ◌≢◌}
use Rattle.layout.specs.Entries.{needs}
use Rattle.layout.specs.Files.{entry_at, find, file}
use Rattle.fsck.specs.Sets.{counted}
use Rattle.fsck.specs.Blocks.{size}
use Rattle.fsck.specs.Sound.{sound}
use Rattle.update.specs.Answers.{good_name, good_file}
use Rattle.update.specs.Putting.{put_writes, room_for}
use Rattle.update.specs.Requests.{put, step, done}

-- how many of the sixteen entries are in use
abbrev pub used_count : List ℕ → ℕ
used_count d = counted (λ i. (entry_at d i).used) 0 16

-- the blocks that the files of the first n entries need in all, of those in use
unfoldable pub needed_to : List ℕ → ℕ → ℕ
needed_to d zero = 0
needed_to d (suc i) = needed_to d i + cond (entry_at d i).used (needs (entry_at d i).len) 0

-- there is room exactly if an entry has the name or fewer than sixteen are in use, and the blocks needed are at most the size less 8 less what the files in use need
pub record RoomCounted (d x c : List ℕ) : Type 0 where
  pub counted_room : sound d ≡ true → Decides (room_for d x c) (((find d x < 16) ⊎ (used_count d < 16)) × (needs (length c) ≤ size d - 8 - needed_to d 16))

-- a put of a good file is finished exactly if there is room and power lasts for the blocks needed and one write more; then the old machine reads exactly this file under exactly this name, and every other as before
pub record PutFinished (d x c : List ℕ) (n : ℕ) : Type 0 where
  pub finished : sound d ≡ true → good_name x ≡ true → good_file c ≡ true → Decides (done d (put x c n)) ((room_for d x c ≡ true) × (needs (length c) + 1 ≤ n))
  pub under_name : sound d ≡ true → done d (put x c n) ≡ true → file (step d (put x c n)) x ≡ Some c
  pub others : sound d ≡ true → done d (put x c n) ≡ true → (y : List ℕ) → (x ≢ y) → file (step d (put x c n)) y ≡ file d y

-- a file of no bytes needs no block, and one write
pub record EmptyFile (d x : List ℕ) : Type 0 where
  pub no_block : needs 0 ≡ 0
  pub one_write : length (put_writes d x []) ≡ 1
