-- What a sound disk is, rule by rule. Assumes nothing.
use Rattle.std.specs.Prelude.{◌≡◌, ℕ, suc, ◌*◌, ◌<◌, ◌≤◌, true, false, List, length, Some, None, Option, slice_index}
use Rattle.layout.specs.Entries.{blocks_of}
use Rattle.layout.specs.Files.{entry_bytes, entry_at}
use Rattle.fsck.specs.Blocks.{size}
use Rattle.fsck.specs.Sound.{sound, sound_to, first_fault}

-- entry i is in use
abbrev pub Used : List ℕ → ℕ → Type 0
Used d i = (entry_at d i).used ≡ true

-- of the first n entries, entry i is in use and has a block in place k
pub record Place (d : List ℕ) (n i k : ℕ) : Type 0 where
  pub entry : i < n
  pub used : Used d i
  pub within : k < length (blocks_of (entry_at d i))

-- the number of that block
abbrev pub block_of : List ℕ → ℕ → ℕ → ℕ
block_of d i k = slice_index (blocks_of (entry_at d i)) k

-- the disk is sound as far as its size and its first n entries go
pub record SoundTo (d : List ℕ) (n : ℕ) : Type 0 where
  pub whole : length d ≡ 64 * size d
  pub least : 9 ≤ size d
  pub most : size d ≤ 250
  pub flag : (i : ℕ) → i < n → slice_index (entry_bytes d i) 0 ≤ 1
  pub short : (i : ℕ) → i < n → Used d i → (entry_at d i).len ≤ 1024
  pub from_8 : (i k : ℕ) → Place d n i k → 8 ≤ block_of d i k
  pub on_disk : (i k : ℕ) → Place d n i k → block_of d i k < size d
  pub one_block : (i k j l : ℕ) → Place d n i k → Place d n j l → block_of d i k ≡ block_of d j l → (i ≡ j) × (k ≡ l)
  pub one_name : (i j : ℕ) → i < n → j < n → Used d i → Used d j → (entry_at d i).name ≡ (entry_at d j).name → i ≡ j

-- a sound disk
abbrev pub Sound : List ℕ → Type 0
Sound d = SoundTo d 16

-- what a judgement says: nothing of a sound disk; sixteen where the size is wrong; else an entry that has a fault, where those before it have none among themselves
abbrev pub Judged : List ℕ → Option ℕ → Type 0
Judged d None = Sound d
Judged d (Some p) = (p ≤ 16) × (p < 16 → SoundTo d p) × (p < 16 → SoundTo d (suc p) → ⊥) × (p ≡ 16 → SoundTo d 0 → ⊥)

-- two entries in use with one name, the first of them without a fault: the disk isn't sound, at the second
pub record Twins (d : List ℕ) : Type 0 where
  pub used : Used d 0 × Used d 1
  pub named : (entry_at d 0).name ≡ (entry_at d 1).name

abbrev pub TwinsFound : List ℕ → Type 0
TwinsFound d = Twins d → (sound d ≡ false) × (sound_to d 1 ≡ true → first_fault d ≡ Some 1)
