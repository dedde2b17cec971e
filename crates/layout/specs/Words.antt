-- The reading of a disk in the subject's words, beside the definitions that compute it. Assumes nothing.
use Rattle.std.specs.Prelude.{◌≡◌, ℕ, ◌*◌, ◌<◌, ◌≤◌, true, List, None}
use Rattle.layout.specs.Files.{entry_at, file}

-- k blocks hold n bytes, and no fewer do
pub record FewestBlocks (n k : ℕ) : Type 0 where
  pub enough : n ≤ 64 * k
  pub least : (m : ℕ) → n ≤ 64 * m → k ≤ m

-- entry i is in use and has the name x
abbrev pub Named : List ℕ → List ℕ → ℕ → Type 0
Named d x i = ((entry_at d i).used ≡ true) × ((entry_at d i).name.bytes ≡ x)

-- i is the least index of an entry in use with the name x, or sixteen if there is none
pub record First (d x : List ℕ) (i : ℕ) : Type 0 where
  pub within : i ≤ 16
  pub here : i < 16 → Named d x i
  pub before : (k : ℕ) → k < i → Named d x k → ⊥

-- there is no file under the name x exactly where no entry in use has it
pub record NoFile (d x : List ℕ) : Type 0 where
  pub none : ((k : ℕ) → k < 16 → Named d x k → ⊥) → file d x ≡ None
  pub unnamed : file d x ≡ None → (k : ℕ) → k < 16 → Named d x k → ⊥
