-- What is promised of a disk on which commands are obeyed. Assumes nothing.
use Rattle.std.specs.Prelude.{◌≡◌, ℕ, true, ◌⊎◌, List, length, None, Option}
use Rattle.layout.specs.Files.{file}
use Rattle.fsck.specs.Sound.{sound}
use Rattle.update.specs.declared.write.Write.{Write}
use Rattle.update.specs.Writes.{after_writes}
use Rattle.update.specs.Requests as r
use Rattle.update.specs.Promise.{AsDoneNext}
use Rattle.console.specs.Commands.{Said, disk, power, put, away, read, entry, list, check, unread, map_of, bad}
use Rattle.session.specs.Obeyed.{lasting, size_fits}

-- THE PROMISE, command by command: whatever was asked of a sound disk before, it holds with what is asked by this command too; a new disk is sound and has no file; no other command changes the disk
abbrev pub Kept : (disk : List ℕ) → (power : Option ℕ) → Said → (disk₁ : List ℕ) → Type 0
Kept d p (put x c) d₁ = AsDoneNext d (r.put x.bytes c (lasting p)) d₁
Kept d p (away x) d₁ = AsDoneNext d (r.away x.bytes (lasting p)) d₁
Kept d p (disk n l) d₁ = size_fits n ≡ true → (sound d₁ ≡ true) × ((y : List ℕ) → file d₁ y ≡ None)
Kept d p (power n) d₁ = d₁ ≡ d
Kept d p (read x) d₁ = d₁ ≡ d
Kept d p (entry x) d₁ = d₁ ≡ d
Kept d p list d₁ = d₁ ≡ d
Kept d p check d₁ = d₁ ≡ d
Kept d p unread d₁ = d₁ ≡ d
Kept d p map_of d₁ = d₁ ≡ d
Kept d p (bad o q l) d₁ = d₁ ≡ d

-- another medium with the same disk, on which these writes are made one after the other, stopped after any number of them: it is a sound disk, and has under every name the file from before the command or the one from after it; with all writes made it is the disk from after it
pub record Stopped (d : List ℕ) (ws : List Write) (d₁ : List ℕ) : Type 0 where
  pub sound_there : sound d ≡ true → (k : ℕ) → sound (after_writes k d ws) ≡ true
  pub either : sound d ≡ true → (k : ℕ) (y : List ℕ) → (file (after_writes k d ws) y ≡ file d y) ⊎ (file (after_writes k d ws) y ≡ file d₁ y)
  pub all : after_writes (length ws) d ws ≡ d₁

-- so it is with the writes of every command but one for a new disk
abbrev pub StoppedAt : Said → (disk : List ℕ) → List Write → (disk₁ : List ℕ) → Type 0
StoppedAt (disk n l) d ws d₁ = Unit {0}
StoppedAt (put x c) d ws d₁ = Stopped d ws d₁
StoppedAt (away x) d ws d₁ = Stopped d ws d₁
StoppedAt (power n) d ws d₁ = Stopped d ws d₁
StoppedAt (read x) d ws d₁ = Stopped d ws d₁
StoppedAt (entry x) d ws d₁ = Stopped d ws d₁
StoppedAt list d ws d₁ = Stopped d ws d₁
StoppedAt check d ws d₁ = Stopped d ws d₁
StoppedAt unread d ws d₁ = Stopped d ws d₁
StoppedAt map_of d ws d₁ = Stopped d ws d₁
StoppedAt (bad o q l) d ws d₁ = Stopped d ws d₁
