-- A text that is read byte after byte spells what it spells at once. Assumes nothing.
use Rattle.std.proofs.Common.{◌≡◌, ℕ, List, [], ◌++◌, Some, None, Option, sym, refl, ap, append_assoc}
use Rattle.std.specs.Option.{option_map}

-- of all, these were read, and what is left is read as this
abbrev pub ReadTo : Option (List ℕ) → List ℕ → Option (List ℕ) → Type 0
ReadTo all done left = option_map (λ bs. done ++ bs) left ≡ all

pub mapped_same : (o : Option (List ℕ)) → option_map (λ bs. [] ++ bs) o ≡ o
mapped_same None = refl
mapped_same (Some bs) = refl

pub mapped_twice : (xs ys : List ℕ) (o : Option (List ℕ)) → option_map (λ bs. xs ++ bs) (option_map (λ bs. ys ++ bs) o) ≡ option_map (λ bs. (xs ++ ys) ++ bs) o
mapped_twice xs ys None = refl
mapped_twice xs ys (Some bs) = ap Some (sym (append_assoc xs ys bs))
