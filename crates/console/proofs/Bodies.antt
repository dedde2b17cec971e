-- The bytes of a put, line by line. Assumes nothing.
use Rattle.std.proofs.Common.{◌≡◌, ℕ, suc, ◌+◌, true, false, List, [], ◌∷◌, ◌++◌, length, is_some, Some, None, Ok, Err, Option, Result, sym, refl, ap, ◌∙◌, subst, append_assoc, append-nil, arith}
use Rattle.std.proofs.lemmas.List.{nil_from_length}
use Rattle.std.proofs.lemmas.Bool.{cond-true, cond-false}
use Rattle.console.specs.declared.verb.Verb.{Verb}
use Rattle.console.specs.Lines.{lines}
use Rattle.console.specs.Bytes.{line_bytes}
use Rattle.console.specs.Commands.{passed_over, verb_of, line_in_front, body, commands, clean_lines, text_asks, BodyRead}
use Rattle.console.proofs.Commands.{commands_passed, commands_bytes, commands-behind_put}

-- the bytes so far, or the first line so far that is no line of bytes, with those of the lines behind
abbrev pub together : Result (List ℕ) ℕ → Result (List ℕ) ℕ → Result (List ℕ) ℕ
together (Err n) rest = Err n
together (Ok done) (Ok bs) = Ok (done ++ bs)
together (Ok done) (Err n) = Err n

-- of the lines ls from n on, this was read, and the lines ks from m on are left
pub record Read (n : ℕ) (ls : List (List ℕ)) (so_far : Result (List ℕ) ℕ) (m : ℕ) (ks : List (List ℕ)) : Type 0 where
  pub bytes : together so_far (body m ks) ≡ body n ls
  pub rest : commands true n ls ≡ commands true m ks

-- no line is left, or the first that is left begins with a command's word
pub record Ended (m : ℕ) (ks : List (List ℕ)) : Type 0 where
  pub none : body m ks ≡ Ok []
  pub same : commands true m ks ≡ commands false m ks

together_more : (done : List ℕ) (n : ℕ) (bs : List ℕ) (r : Result (List ℕ) ℕ) → together (Ok (done ++ bs)) r ≡ together (Ok done) (line_in_front n (Some bs) r)
together_more done n bs (Ok cs) = ap Ok (append_assoc done bs cs)
together_more done n bs (Err m) = refl

together_none : (r : Result (List ℕ) ℕ) → together r (Ok []) ≡ r
together_none (Ok done) = ap Ok (append-nil done)
together_none (Err n) = refl

body_passed : (n : ℕ) (l : List ℕ) (ls : List (List ℕ)) → passed_over l ≡ true → body n (l ∷ ls) ≡ body (suc n) ls
unfolding body
body_passed n l ls is = cond-true (passed_over l) _ _ is

body_line : (n : ℕ) (l : List ℕ) (ls : List (List ℕ)) → passed_over l ≡ false → is_some (verb_of l) ≡ false → body n (l ∷ ls) ≡ line_in_front n (line_bytes l) (body (suc n) ls)
unfolding body
body_line n l ls counts none = cond-false (passed_over l) _ _ counts ∙ cond-false (is_some (verb_of l)) _ _ none

body_ends : (n : ℕ) (l : List ℕ) (ls : List (List ℕ)) → passed_over l ≡ false → is_some (verb_of l) ≡ true → body n (l ∷ ls) ≡ Ok []
unfolding body
body_ends n l ls counts some = cond-false (passed_over l) _ _ counts ∙ cond-true (is_some (verb_of l)) _ _ some

pub ended_empty : (m : ℕ) (u : List ℕ) → length u ≡ 0 → Ended m (clean_lines u)
unfolding body commands lines
ended_empty m u none = subst (λ t. Ended m (clean_lines t)) (sym (nil_from_length u none)) (record { none = refl; same = refl })

pub ended_verb : (m : ℕ) (u l : List ℕ) (ks : List (List ℕ)) → clean_lines u ≡ l ∷ ks → passed_over l ≡ false → is_some (verb_of l) ≡ true → Ended m (clean_lines u)
ended_verb m u l ks is counts some = subst (Ended m) (sym is) (record { none = body_ends m l ks counts some; same = commands-behind_put m l ks counts some })

one_on : {n : ℕ} {ls : List (List ℕ)} {so_far : Result (List ℕ) ℕ} (m : ℕ) {ks : List (List ℕ)} → Read n ls so_far (suc m) ks → Read n ls so_far (m + 1) ks
one_on {n = n} {ls = ls} {so_far = so_far} m {ks = ks} h = let one : suc m ≡ m + 1 = omega arith in subst (λ k. Read n ls so_far k ks) one h

module _ (n : ℕ) (ls : List (List ℕ)) (m : ℕ) (l : List ℕ) (ks : List (List ℕ)) where
  pub read_passed : (so_far : Result (List ℕ) ℕ) → Read n ls so_far m (l ∷ ks) → passed_over l ≡ true → Read n ls so_far (m + 1) ks
  read_passed so_far h is = one_on m (record { bytes = ap (together so_far) (sym (body_passed m l ks is)) ∙ h.bytes; rest = h.rest ∙ commands_passed m l ks true is })

  -- a line that counts, on which no command was found
  module _ {found : Option Verb} (counts : false ≡ passed_over l) (found-is : found ≡ verb_of l) (none : false ≡ is_some found) where
    no_verb : is_some (verb_of l) ≡ false
    no_verb = ap is_some (sym found-is) ∙ sym none

    on_from : {done : List ℕ} {o : Option (List ℕ)} → Read n ls (Ok done) m (l ∷ ks) → o ≡ line_bytes l → together (Ok done) (line_in_front m o (body (suc m) ks)) ≡ body n ls
    on_from {done = done} h is = ap (λ p. together (Ok done) (line_in_front m p (body (suc m) ks))) is ∙ ap (together (Ok done)) (sym (body_line m l ks (sym counts) no_verb)) ∙ h.bytes

    pub read_line : (done bs : List ℕ) → Read n ls (Ok done) m (l ∷ ks) → Some bs ≡ line_bytes l → Read n ls (Ok (done ++ bs)) (m + 1) ks
    read_line done bs h is = one_on m (record { bytes = together_more done m bs (body (suc m) ks) ∙ on_from h is; rest = h.rest ∙ commands_bytes m l ks (sym counts) no_verb })

    pub read_bad : (done : List ℕ) → Read n ls (Ok done) m (l ∷ ks) → None ≡ line_bytes l → Read n ls (Err m) (m + 1) ks
    read_bad done h is = one_on m (record { bytes = on_from h is; rest = h.rest ∙ commands_bytes m l ks (sym counts) no_verb })

    -- a line behind a bad one
    pub read_behind : (k : ℕ) → Read n ls (Err k) m (l ∷ ks) → Read n ls (Err k) (m + 1) ks
    read_behind k h = one_on m (record { bytes = h.bytes; rest = h.rest ∙ commands_bytes m l ks (sym counts) no_verb })

-- where the body ends, what was read is all of it
pub all_read : (n : ℕ) (t : List ℕ) (b : Result (List ℕ) ℕ) (m : ℕ) (u : List ℕ) → Ended m (clean_lines u) → Read n (clean_lines t) b m (clean_lines u) → BodyRead n t b m u
unfolding text_asks
all_read n t b m u end h = record { bytes = sym (together_none b) ∙ ap (together b) (sym end.none) ∙ h.bytes; rest = h.rest ∙ end.same }
