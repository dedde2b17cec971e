-- What the list of unread places is good for, and that nothing is missing from it. Assumes nothing.
use Rattle.std.specs.Prelude.{◌≡◌, ℕ, ◌<◌, true, false, ◌⊎◌, List, [], ◌∷◌, length, ◌≢◌, slice_index}
use Rattle.layout.specs.Parts.{replaced}
use Rattle.layout.specs.Files.{file}
use Rattle.fsck.specs.Sound.{sound}
use Rattle.unread.specs.Unread.{unread}

-- the other bytes are those of the disk, except perhaps in unread places
pub record SameElsewhere (d e : List ℕ) : Type 0 where
  pub long : length e ≡ length d
  pub same : (k : ℕ) → unread d k ≡ false → slice_index e k ≡ slice_index d k

-- the disk with byte c in place k
abbrev pub with_byte : List ℕ → ℕ → ℕ → List ℕ
with_byte d k c = replaced d k (c ∷ [])

-- what the old machine reads under the name x is not what it was
abbrev pub Changed : List ℕ → List ℕ → List ℕ → Type 0
Changed d e x = (length x ≡ 11) × (file e x ≢ file d x)

-- some byte in place k alone makes the disk unsound, or changes what is read under some name
abbrev pub Noticed : List ℕ → ℕ → Type 0
Noticed d k = (c : ℕ) × (c < 256) × ((sound (with_byte d k c) ≡ false) ⊎ ((x : List ℕ) × Changed d (with_byte d k c) x))

-- of a sound disk
pub record Complete (d : List ℕ) : Type 0 where
  -- whatever is written into unread places, the disk stays sound and has the same file, or none, under every name
  pub unseen : sound d ≡ true → (e : List ℕ) → SameElsewhere d e → (sound e ≡ true) × ((x : List ℕ) → file e x ≡ file d x)
  -- every other place is read
  pub no_others : sound d ≡ true → (k : ℕ) → k < length d → unread d k ≡ false → Noticed d k
  -- and the list stays the same
  pub steady : sound d ≡ true → (e : List ℕ) → SameElsewhere d e → (k : ℕ) → unread e k ≡ unread d k
