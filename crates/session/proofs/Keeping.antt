-- The promise holds of every command, and a new disk is sound and has no file. Assumes nothing.
use Rattle.std.proofs.Common.{◌≡◌, ℕ, ◌-◌, ◌*◌, ◌<◌, ◌≤◌, true, List, length, get_or, take, replicate, None, Option, sym, ap, ◌∙◌, subst, arith}
use Rattle.std.proofs.lemmas.List.{take-replicate, drop-replicate, length-replicate}
use Rattle.std.proofs.lemmas.Bool.{cond-true, false≢true, and_parts, leb-true}
use Rattle.layout.specs.Entries.{decoded}
use Rattle.layout.specs.Files.{entry_bytes, entry_at, file}
use Rattle.layout.proofs.Finding.{no_file}
use Rattle.fsck.specs.Blocks.{size}
use Rattle.fsck.specs.Sound.{sound}
use Rattle.fsck.specs.Rules.{Used}
use Rattle.fsck.proofs.Deciding.{rules_to_sound}
use Rattle.update.specs.Requests as r
use Rattle.update.specs.Promise.{AsDoneNext}
use Rattle.update.proofs.Sequences.{as_done_next}
use Rattle.update.proofs.Performing.{lawful}
use Rattle.console.specs.Commands.{Said, disk, power, put, away, read, entry, list, check, unread, map_of, bad}
use Rattle.session.specs.Obeyed.{size_fits, new_disk, asked_of, disk_after}
use Rattle.session.specs.Kept.{Kept}

module _ (n : ℕ) (fits : size_fits n ≡ true) where
  least : 9 ≤ n
  least = leb-true 9 n (and_parts _ _ fits).0

  most : n ≤ 250
  most = leb-true n 250 (and_parts _ _ fits).1

  zero_entry : (i : ℕ) → i < 16 → entry_bytes (replicate (64 * n) 0) i ≡ replicate 32 0
  unfolding entry_bytes
  zero_entry i lt = ap (take 32) (drop-replicate (32 * i) (64 * n) 0) ∙ take-replicate 32 (64 * n - 32 * i) 0 (omega (arith, least))

  unused : (i : ℕ) → i < 16 → Used (replicate (64 * n) 0) i → ⊥
  unfolding entry_at decoded
  unused i lt used = false≢true (sym (ap (λ bs. (decoded bs).used) (zero_entry i lt)) ∙ used)

  blocks : size (replicate (64 * n) 0) ≡ n
  unfolding size
  blocks =
      let long : length (replicate {A = ℕ} (64 * n) 0) ≡ 64 * n = length-replicate (64 * n) 0 in
      omega arith

  pub zeros_sound : sound (replicate (64 * n) 0) ≡ true
  zeros_sound = rules_to_sound _ (record {
    whole = length-replicate (64 * n) 0 ∙ ap (λ k. 64 * k) (sym blocks);
    least = subst (λ k. 9 ≤ k) (sym blocks) least;
    most = subst (λ k. k ≤ 250) (sym blocks) most;
    flag = λ i lt. subst (λ bs. get_or bs 0 0 ≤ 1) (sym (zero_entry i lt)) (omega arith);
    short = λ i lt used. absurd (unused i lt used);
    from_8 = λ i k p. absurd (unused i p.entry p.used);
    on_disk = λ i k p. absurd (unused i p.entry p.used);
    one_block = λ i k j l p q same. absurd (unused i p.entry p.used);
    one_name = λ i j i_in j_in used used₁ same. absurd (unused i i_in used);
  })

  pub zeros_empty : (y : List ℕ) → file (replicate (64 * n) 0) y ≡ None
  zeros_empty y = (no_file (replicate (64 * n) 0) y).none (λ k lt named. unused k lt named.0)

-- a request, on a disk that may not be sound
asked_kept : (d : List ℕ) (a : r.Asked) (d₁ : List ℕ) → d₁ ≡ asked_of d a → AsDoneNext d a d₁
asked_kept d a d₁ is = as_done_next lawful d a d₁ (λ ok. is ∙ cond-true (sound d) _ _ ok)

pub kept : (d : List ℕ) (p : Option ℕ) (s : Said) (d₁ : List ℕ) → d₁ ≡ disk_after d p s → Kept d p s d₁
unfolding disk_after new_disk
kept d p (put x c) d₁ is = asked_kept d _ d₁ is
kept d p (away x) d₁ is = asked_kept d _ d₁ is
kept d p (disk n l) d₁ is =
    λ fits.
    let new : d₁ ≡ replicate (64 * n) 0 = is ∙ cond-true (size_fits n) _ _ fits in
    (ap sound new ∙ zeros_sound n fits, λ y. ap (λ e. file e y) new ∙ zeros_empty n fits y)
kept d p (power n) d₁ is = is
kept d p (read x) d₁ is = is
kept d p (entry x) d₁ is = is
kept d p list d₁ is = is
kept d p check d₁ is = is
kept d p unread d₁ is = is
kept d p map_of d₁ is = is
kept d p (bad o q l) d₁ is = is
