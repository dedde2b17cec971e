-- What lines ask, by their first line. Assumes nothing.
use Rattle.std.proofs.Common.{◌≡◌, ℕ, suc, ◌+◌, Bool, true, false, List, [], ◌∷◌, length, is_some, Some, None, Option, Result, sym, refl, ap, ◌∙◌, true≢false, arith}
use Rattle.std.proofs.lemmas.List.{nil_from_length}
use Rattle.std.proofs.lemmas.Bool.{cond-true, cond-false}
use Rattle.update.specs.declared.answer.Refusal.TheVariants.{Unreadable}
use Rattle.console.specs.declared.verb.Verb.{Verb}
use Rattle.console.specs.declared.verb.Verb.TheVariants.{Away, Check, Disk, Entry, List as Listing, Map, Power, Put, Read, Unread}
use Rattle.console.specs.Lines.{lines}
use Rattle.console.specs.Words.{behind}
use Rattle.console.specs.Commands.{Said, bad, passed_over, verb_of, body, asks, is_put, onward, commands, clean_lines, text_asks, BodyRead}

-- where lines begin with a command, it doesn't matter whether a put stands in front
same_behind_put : (rest : Bool → List Said) (n : ℕ) (l : List ℕ) (ls : List (List ℕ)) (o : Option Verb) → is_some o ≡ true → onward rest true n l ls o ≡ onward rest false n l ls o
same_behind_put rest n l ls None some = absurd (true≢false (sym some))
same_behind_put rest n l ls (Some v) some = refl

none_from_is_some : {X : Type 0} (o : Option X) → is_some o ≡ false → o ≡ None
none_from_is_some None none = refl
none_from_is_some (Some x) none = absurd (true≢false none)

module _ (n : ℕ) (l : List ℕ) (ls : List (List ℕ)) where
  pub commands_passed : (behind_put : Bool) → passed_over l ≡ true → commands behind_put n (l ∷ ls) ≡ commands behind_put (suc n) ls
  unfolding commands
  commands_passed p is = cond-true (passed_over l) _ _ is

  commands-onward : (behind_put : Bool) → passed_over l ≡ false → commands behind_put n (l ∷ ls) ≡ onward (λ q. commands q (suc n) ls) behind_put n l ls (verb_of l)
  unfolding commands
  commands-onward p counts = cond-false (passed_over l) _ _ counts

  -- behind a put, a line of bytes asks nothing itself
  pub commands_bytes : passed_over l ≡ false → is_some (verb_of l) ≡ false → commands true n (l ∷ ls) ≡ commands true (suc n) ls
  commands_bytes counts none = commands-onward true counts ∙ ap (onward (λ q. commands q (suc n) ls) true n l ls) (none_from_is_some (verb_of l) none)

  pub commands-behind_put : passed_over l ≡ false → is_some (verb_of l) ≡ true → commands true n (l ∷ ls) ≡ commands false n (l ∷ ls)
  commands-behind_put counts some = commands-onward true counts ∙ same_behind_put (λ q. commands q (suc n) ls) n l ls (verb_of l) some ∙ sym (commands-onward false counts)

  commands_no_verb : passed_over l ≡ false → verb_of l ≡ None → commands false n (l ∷ ls) ≡ bad None Unreadable n ∷ commands false (suc n) ls
  commands_no_verb counts none = commands-onward false counts ∙ ap (onward (λ q. commands q (suc n) ls) false n l ls) none

  commands-verb : (v : Verb) → passed_over l ≡ false → verb_of l ≡ Some v → commands false n (l ∷ ls) ≡ asks v n (behind l) (body (suc n) ls) ∷ commands (is_put v) (suc n) ls
  commands-verb v counts is = commands-onward false counts ∙ ap (onward (λ q. commands q (suc n) ls) false n l ls) is

-- a command that is no put asks the same with any bytes behind it
other_than_put : (v : Verb) → (v ≡ Put → ⊥) → (is_put v ≡ false) × ((n : ℕ) (r : List ℕ) (b d : Result (List ℕ) ℕ) → asks v n r b ≡ asks v n r d)
other_than_put Put other = absurd (other refl)
other_than_put Away other = (refl, λ n r b d. refl)
other_than_put Check other = (refl, λ n r b d. refl)
other_than_put Disk other = (refl, λ n r b d. refl)
other_than_put Entry other = (refl, λ n r b d. refl)
other_than_put Listing other = (refl, λ n r b d. refl)
other_than_put Map other = (refl, λ n r b d. refl)
other_than_put Power other = (refl, λ n r b d. refl)
other_than_put Read other = (refl, λ n r b d. refl)
other_than_put Unread other = (refl, λ n r b d. refl)

pub asks_nothing : (n : ℕ) (t : List ℕ) → length t ≡ 0 → text_asks n t ≡ []
unfolding text_asks commands lines
asks_nothing n t none = ap (text_asks n) (nil_from_length t none)

-- a text t whose first line is l, and the text u behind it
module _ (n : ℕ) (t l u : List ℕ) (first : clean_lines t ≡ l ∷ clean_lines u) where
  one : suc n ≡ n + 1
  one = omega arith

  pub asks_passed : passed_over l ≡ true → text_asks n t ≡ text_asks (n + 1) u
  unfolding text_asks
  asks_passed is = ap (commands false n) first ∙ commands_passed n l (clean_lines u) false is ∙ ap (λ k. commands false k (clean_lines u)) one

  module _ (counts : passed_over l ≡ false) where
    pub asks_no_verb : verb_of l ≡ None → text_asks n t ≡ bad None Unreadable n ∷ text_asks (n + 1) u
    unfolding text_asks
    asks_no_verb none = ap (commands false n) first ∙ commands_no_verb n l (clean_lines u) counts none ∙ ap (λ k. bad None Unreadable n ∷ commands false k (clean_lines u)) one

    asks_verb : (v : Verb) → verb_of l ≡ Some v → text_asks n t ≡ asks v n (behind l) (body (n + 1) (clean_lines u)) ∷ commands (is_put v) (n + 1) (clean_lines u)
    unfolding text_asks
    asks_verb v is = ap (commands false n) first ∙ commands-verb n l (clean_lines u) v counts is ∙ ap (λ k. asks v n (behind l) (body k (clean_lines u)) ∷ commands (is_put v) k (clean_lines u)) one

    pub asks_put : {b : Result (List ℕ) ℕ} {m : ℕ} {w : List ℕ} → verb_of l ≡ Some Put → BodyRead (n + 1) u b m w → text_asks n t ≡ asks Put n (behind l) b ∷ text_asks m w
    asks_put {b = b} is read = asks_verb Put is ∙ ap (λ d. asks Put n (behind l) d ∷ commands true (n + 1) (clean_lines u)) (sym read.bytes) ∙ ap (λ ss. asks Put n (behind l) b ∷ ss) read.rest

    pub asks_other : (v : Verb) (b : Result (List ℕ) ℕ) → verb_of l ≡ Some v → (v ≡ Put → ⊥) → text_asks n t ≡ asks v n (behind l) b ∷ text_asks (n + 1) u
    unfolding text_asks
    asks_other v b is other =
        let so = other_than_put v other in
        asks_verb v is ∙ ap (λ s. s ∷ commands (is_put v) (n + 1) (clean_lines u)) (so.1 n (behind l) _ b) ∙ ap (λ p. asks v n (behind l) b ∷ commands p (n + 1) (clean_lines u)) so.0
