-- What a request that writes answers, and the disk that it leaves. Assumes nothing.
use Rattle.std.specs.Prelude.{◌≡◌, ℕ, zero, suc, Bool, true, false, cond, List}
use Rattle.fsck.specs.Sound.{sound}
use Rattle.update.specs.declared.answer.Done.{Done}
use Rattle.update.specs.declared.answer.Done.TheVariants.{Finished, Cut, Full}
use Rattle.update.specs.Answers.{RefusedWith}
use Rattle.update.specs.Requests.{Asked, step, done, after}

-- by the number with which the request is refused, or 0, and by whether there is room for it
abbrev pub Says : ℕ → (disk : List ℕ) → Asked → (room : Bool) → Done → (disk₁ : List ℕ) → Type 0
Says zero d a true r d₁ = (d₁ ≡ step d a) × (r ≡ cond (done d a) Finished Cut)
Says zero d a false r d₁ = (r ≡ Full) × (d₁ ≡ d)
Says (suc n) d a room r d₁ = RefusedWith (suc n) r × (d₁ ≡ d)

-- a sequence of requests leaves a sound disk as the definitions say, and one that isn't sound as it was
pub record AllSays (d : List ℕ) (rs : List Asked) (d₁ : List ℕ) : Type 0 where
  pub after_all : sound d ≡ true → d₁ ≡ after d rs
  pub untouched : sound d ≡ false → d₁ ≡ d
