-- What is promised of every sequence of requests. Each is a statement; functions' contracts name it. Assumes nothing.
use Rattle.std.specs.Prelude.{◌≡◌, ℕ, ◌<◌, ◌≤◌, true, List, [], ◌∷◌, ◌++◌, length}
use Rattle.layout.specs.Files.{file}
use Rattle.fsck.specs.Blocks.{free}
use Rattle.fsck.specs.Sound.{sound}
use Rattle.update.specs.Writes.{after_writes}
use Rattle.update.specs.Putting.{put_writes}
use Rattle.update.specs.Requests.{Asked, put, writes, may, after, changed, should}

-- THE PROMISE. Whatever is asked of a sound disk, one request after the other, and wherever power fails, the disk is sound afterwards, and under every name the old machine reads the file of what was done, or none
pub record AsDone (d : List ℕ) (rs : List Asked) (d₁ : List ℕ) : Type 0 where
  pub sound_still : sound d ≡ true → sound d₁ ≡ true
  pub files : sound d ≡ true → (y : List ℕ) → file d₁ y ≡ should d (file d) rs y

-- the same, one request at a time: whatever was asked of a sound disk before, the promise holds with this request too
abbrev pub AsDoneNext : List ℕ → Asked → List ℕ → Type 0
AsDoneNext d a d₁ = (d₀ : List ℕ) (rs : List Asked) → sound d₀ ≡ true → d ≡ after d₀ rs → AsDone d₀ (rs ++ a ∷ []) d₁

-- before the last write of a request nothing is seen of it, and with the last all of it
abbrev pub AllOrNothing : List ℕ → Asked → Type 0
AllOrNothing d a =
    sound d ≡ true → may d a ≡ true → (n : ℕ) (y : List ℕ) →
    (n < length (writes d a) → file (after_writes n d (writes d a)) y ≡ file d y)
    × (length (writes d a) ≤ n → file (after_writes n d (writes d a)) y ≡ changed (file d) a y)

-- a request has at most seventeen writes
abbrev pub FewWrites : List ℕ → Asked → Type 0
FewWrites d a = may d a ≡ true → length (writes d a) ≤ 17

-- what was cut off keeps no room
abbrev pub RoomBack : (disk name content : List ℕ) → Type 0
RoomBack d x c = sound d ≡ true → (m : ℕ) → may d (put x c m) ≡ true → (n : ℕ) → n < length (put_writes d x c) → free (after_writes n d (put_writes d x c)) ≡ free d
