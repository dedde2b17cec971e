-- What a command leaves, kind by kind. Assumes nothing.
use Rattle.std.proofs.Common.{◌≡◌, ℕ, false, cond, ◌&&◌, eqb, List, [], ◌++◌, Some, None, Option, sym, refl, ap, ◌∙◌, subst, append-nil}
use Rattle.std.proofs.lemmas.Bool.{cond-false}
use Rattle.layout.specs.declared.name.Name.{Name}
use Rattle.fsck.specs.Sound.{sound, first_fault}
use Rattle.update.specs.declared.answer.Done.{Done}
use Rattle.update.specs.declared.answer.Refusal.{Refusal}
use Rattle.update.specs.declared.answer.Refusal.TheVariants.{Unsound}
use Rattle.update.specs.declared.write.Write.{Write}
use Rattle.update.specs.Asking.{begun, refusal, roomy}
use Rattle.update.specs.Requests as r
use Rattle.update.proofs.Performing.{ask_unsound, put_unsound}
use Rattle.console.specs.declared.command.Question.{Question}
use Rattle.console.specs.declared.command.Question.TheVariants as q
use Rattle.console.specs.declared.verb.Verb.{Verb}
use Rattle.console.specs.Commands.{Said, disk, put, away, bad, said_of}
use Rattle.session.specs.Printed.{refused_line}
use Rattle.session.specs.Prints.{Behind, ShowsIf}
use Rattle.session.specs.Answered.{AnswersIf}
use Rattle.session.specs.Obeyed.{lasting, uses_power, fault_of, made_writes, asked_of, new_disk, disk_after, power_after, writes_of}

-- a request on a disk that isn't sound writes nothing
begun_unsound : (d : List ℕ) (a : r.Asked) → refusal d a ≡ 1 → begun d a ≡ false
begun_unsound d a why = ap (λ n. eqb n 0 && roomy d a) why

refused_unsound : (d : List ℕ) (a : r.Asked) → sound d ≡ false → refusal d a ≡ 1
refused_unsound d (r.put x c n) bad' = put_unsound d x c bad'
refused_unsound d (r.away x n) bad' = ask_unsound d x bad'

pub nothing_made : (d : List ℕ) (a : r.Asked) → sound d ≡ false → made_writes d a ≡ []
unfolding made_writes
nothing_made d a bad' = cond-false _ _ _ (begun_unsound d a (refused_unsound d a bad'))

-- nothing is left of a disk's power by a command that uses it
abbrev pub power_left : Option ℕ → Said → Option ℕ
power_left p s = cond (uses_power s) None p

-- a text that is put behind another, with what is known of it
pub behind_as : {was now : List ℕ} {P Q : List ℕ → Type 0} → ((t : List ℕ) → P t → Q t) → Behind was now P → Behind was now Q
behind_as f b = record { text = b.text; fits = f b.text b.fits; put_behind = b.put_behind }

-- where the disk has no fault
pub printed : (o : Option ℕ) (t : List ℕ) (shows : Type 0) → o ≡ None → shows → ShowsIf o t shows
printed o t shows none it = subst (λ f. ShowsIf f t shows) (sym none) it

pub answered : (o : Option ℕ) (answer : Done) (answers : Type 0) → o ≡ None → answers → AnswersIf o answer answers
answered o answer answers none it = subst (λ f. AnswersIf f answer answers) (sym none) it

-- and where it has one
pub printed_fault : (o : Option ℕ) (f : ℕ) (shows : List ℕ → Type 0) (was now : List ℕ) → o ≡ Some f → now ≡ was ++ refused_line Unsound f → Behind was now (λ t. ShowsIf o t (shows t))
printed_fault o f shows was now found is = record { text = refused_line Unsound f; fits = subst (λ g. ShowsIf g (refused_line Unsound f) (shows (refused_line Unsound f))) (sym found) refl; put_behind = is }

-- the disk is judged for every question
pub fault_asked : (d : List ℕ) (k : Question) → fault_of d (said_of k) ≡ first_fault d
fault_asked d (q.Read x) = refl
fault_asked d (q.Entry x) = refl
fault_asked d q.List = refl
fault_asked d q.Check = refl
fault_asked d q.Unread = refl
fault_asked d q.Map = refl

-- a command leaves the disk, and makes no write
pub record Idle (d : List ℕ) (p : Option ℕ) (s : Said) : Type 0 where
  pub same_disk : d ≡ disk_after d p s
  pub same_power : power_left p s ≡ power_after p s
  pub no_write : [] ≡ writes_of d p s

pub idle_asked : (d : List ℕ) (p : Option ℕ) (k : Question) → Idle d p (said_of k)
unfolding disk_after power_after writes_of
idle_asked d p (q.Read x) = record { same_disk = refl; same_power = refl; no_write = refl }
idle_asked d p (q.Entry x) = record { same_disk = refl; same_power = refl; no_write = refl }
idle_asked d p q.List = record { same_disk = refl; same_power = refl; no_write = refl }
idle_asked d p q.Check = record { same_disk = refl; same_power = refl; no_write = refl }
idle_asked d p q.Unread = record { same_disk = refl; same_power = refl; no_write = refl }
idle_asked d p q.Map = record { same_disk = refl; same_power = refl; no_write = refl }

pub idle_bad : (d : List ℕ) (p : Option ℕ) (o : Option Verb) (q : Refusal) (l : ℕ) → Idle d p (bad o q l)
unfolding disk_after power_after writes_of
idle_bad d p o q l = record { same_disk = refl; same_power = refl; no_write = refl }

-- what a command leaves, of a kind that is known
module _ (d : List ℕ) (p : Option ℕ) (s t : Said) (is : s ≡ t) where
  pub disk_left : (d₁ : List ℕ) → d₁ ≡ disk_after d p t → d₁ ≡ disk_after d p s
  disk_left d₁ left = left ∙ sym (ap (disk_after d p) is)

  pub power_kept : (p₁ : Option ℕ) → p₁ ≡ power_left p s → power_left p t ≡ power_after p t → p₁ ≡ power_after p s
  power_kept p₁ taken kept = taken ∙ ap (power_left p) is ∙ kept ∙ sym (ap (power_after p) is)

  pub log_kept : (log : List Write) → [] ≡ writes_of d p t → log ≡ log ++ writes_of d p s
  log_kept log none = sym (append-nil log) ∙ ap (λ ws. log ++ ws) (none ∙ sym (ap (writes_of d p) is))

  pub log_more : (log : List Write) (log₁ : List Write) → log₁ ≡ log ++ writes_of d p t → log₁ ≡ log ++ writes_of d p s
  log_more log log₁ more = more ∙ ap (λ ws. log ++ ws) (sym (ap (writes_of d p) is))

-- a new disk
module _ (d : List ℕ) (p : Option ℕ) (n l : ℕ) where
  pub new_left : (d₀ d₁ : List ℕ) → d₀ ≡ d → d₁ ≡ new_disk d₀ n → d₁ ≡ disk_after d p (disk n l)
  unfolding disk_after
  new_left d₀ d₁ same made' = made' ∙ ap (λ e. new_disk e n) same

  pub new_power : power_left p (disk n l) ≡ power_after p (disk n l)
  unfolding power_after
  new_power = refl

  pub new_write : [] ≡ writes_of d p (disk n l)
  unfolding writes_of
  new_write = refl

-- a request
module _ (d : List ℕ) (p : Option ℕ) (x : Name) where
  pub put_left : (c : List ℕ) (d₁ : List ℕ) → d₁ ≡ asked_of d (r.put x.bytes c (lasting p)) → d₁ ≡ disk_after d p (put x c)
  unfolding disk_after
  put_left c d₁ is = is

  pub put_power : (c : List ℕ) → power_left p (put x c) ≡ power_after p (put x c)
  unfolding power_after
  put_power c = refl

  pub put_writes : (c : List ℕ) → made_writes d (r.put x.bytes c (lasting p)) ≡ writes_of d p (put x c)
  unfolding writes_of
  put_writes c = refl

  pub away_left : (d₁ : List ℕ) → d₁ ≡ asked_of d (r.away x.bytes (lasting p)) → d₁ ≡ disk_after d p (away x)
  unfolding disk_after
  away_left d₁ is = is

  pub away_power : power_left p (away x) ≡ power_after p (away x)
  unfolding power_after
  away_power = refl

  pub away_writes : made_writes d (r.away x.bytes (lasting p)) ≡ writes_of d p (away x)
  unfolding writes_of
  away_writes = refl
