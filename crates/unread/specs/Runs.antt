-- Places in runs, each as long as it can be. Assumes nothing.
use Rattle.std.specs.Prelude.{◌≡◌, ℕ, ◌<◌, ◌≤◌, Bool, true, false, not, ◌&&◌, ◌||◌, List, [], ◌∷◌, length, Option, MatchOption, nat_le, nat_lt}
use Rattle.std.specs.declared.ops.Range.{Range}
use Rattle.fsck.specs.Sound.{sound}

-- a sound disk, and a place on it or its end
pub record Ready (d : List ℕ) (at : ℕ) : Type 0 where
  pub is_sound : sound d ≡ true
  pub within : at ≤ length d

-- the test has the answer b of all places from `at` up to r, and another of r, unless that is the end
pub record Until (p : ℕ → Bool) (b : Bool) (at r end : ℕ) : Type 0 where
  pub from : at ≤ r
  pub within : r ≤ end
  pub before : (k : ℕ) → at ≤ k → k < r → p k ≡ b
  pub here : r < end → p r ≡ not b

-- the first run of places from `at` on that pass the test: none before it does, all in it do, and the next behind it doesn't
pub record NextRun (p : ℕ → Bool) (at : ℕ) (r : Range ℕ) : Type 0 where
  pub from : at ≤ r.start
  pub before : (k : ℕ) → at ≤ k → k < r.start → p k ≡ false
  pub holds : r.start < r.end
  pub within : (k : ℕ) → r.start ≤ k → k < r.end → p k ≡ true
  pub behind : p r.end ≡ false

-- a step from one place to another: the next run, behind which it goes on; or none, where no place passes any more
abbrev pub Step : (ℕ → Bool) → ℕ → Option (Range ℕ) → ℕ → Type 0
Step p at r then = MatchOption r ((k : ℕ) → at ≤ k → p k ≡ false) (λ run. NextRun p at run × (then ≡ run.end))

-- the ranges that steps from `at` on give, up to the last
abbrev pub Listed : (ℕ → Bool) → ℕ → List (Range ℕ) → Type 0
Listed p at [] = (k : ℕ) → at ≤ k → p k ≡ false
Listed p at (r ∷ rs) = NextRun p at r × Listed p r.end rs

-- a range has the place
abbrev pub covered : List (Range ℕ) → ℕ → Bool
covered [] k = false
covered (r ∷ rs) k = (nat_le r.start k && nat_lt k r.end) || covered rs k

-- such ranges have just the places that pass
abbrev pub JustThese : (ℕ → Bool) → Type 0
JustThese p = (rs : List (Range ℕ)) → Listed p 0 rs → (k : ℕ) → covered rs k ≡ p k
