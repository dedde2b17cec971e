-- What is planned of a request, and what comes of it once it is begun. Assumes nothing.
use Rattle.std.proofs.Common.{◌≡◌, ℕ, zero, suc, ◌+◌, ◌*◌, ◌≤◌, Bool, true, false, cond, ◌&&◌, eqb, leb, List, [], ◌∷◌, length, Some, None, Ok, Err, Option, Result, sym, refl, ap, ◌∙◌, subst, ⊎_elim, arith}
use Rattle.std.specs.Option.{ok_or}
use Rattle.std.specs.Result.{IsErrAnd}
use Rattle.std.proofs.lemmas.Bool.{cases_lt, cond-true, and_from, and_parts, and_left, and_right, eqb-true, eq-eqb}
use Rattle.layout.specs.Files.{find}
use Rattle.fsck.specs.Sound.{sound}
use Rattle.fsck.proofs.Contents.{sound_long}
use Rattle.fsck.proofs.Deciding.{sound_to_rules}
use Rattle.update.specs.declared.answer.Refusal.{Refusal}
use Rattle.update.specs.declared.answer.Refusal.TheVariants.{Unsound, BadName, TooLong, Unreadable}
use Rattle.update.specs.declared.answer.Done.{Done}
use Rattle.update.specs.declared.answer.Done.TheVariants.{Finished, Cut, Full, Refused}
use Rattle.update.specs.declared.plan.Plan.{Plan}
use Rattle.update.specs.Answers.{number, good_name, good_file, ask_refusal, put_refusal}
use Rattle.update.specs.Writes.{Write, after_writes, entry_write}
use Rattle.update.specs.Putting.{room_for}
use Rattle.update.specs.Requests.{Asked, put, away, lasts, writes, may, step, done}
use Rattle.update.specs.Asking.{refusal, roomy, begun}
use Rattle.update.specs.Plans.{plan_writes, nth_write, OnDisk, PutPlan, PlanSays}
use Rattle.update.specs.Promise.{FewWrites}
use Rattle.update.specs.Said.{Says}
use Rattle.update.proofs.Admission.{refused_says}
use Rattle.update.proofs.Performing.{ask_unsound, ask_bad, put_unsound, put_bad, put_long}
use Rattle.update.proofs.PuttingLaw.{put_fits, put_few}
use Rattle.update.proofs.TakingAway.{unused_bytes, writes_absent, writes_present, away_few}

-- no refusal has the number 0
numbered : (q : Refusal) → eqb (number q) 0 ≡ false
numbered Unsound = refl
numbered BadName = refl
numbered TooLong = refl
numbered Unreadable = refl

pub plan_refused : (d : List ℕ) (a : Asked) (q : Refusal) → refusal d a ≡ number q → PlanSays d a (Err (Refused q))
plan_refused d a q why = (
  ap (λ n. eqb n 0 && roomy d a) why ∙ and_left _ _ (numbered q),
  subst (λ n. Says n d a (roomy d a) (Refused q) d) (sym why) (refused_says q d a (roomy d a)),
)

pub plan_full : (d : List ℕ) (a : Asked) → refusal d a ≡ 0 → roomy d a ≡ false → PlanSays d a (Err Full)
plan_full d a fine full =
    let left : Says 0 d a false Full d = (refl, refl) in
    (and_right (eqb (refusal d a) 0) _ full, subst (λ n. Says n d a (roomy d a) Full d) (sym fine) (subst (λ r. Says 0 d a r Full d) (sym full) left))

pub plan_made : (d : List ℕ) (a : Asked) (p : Plan) → refusal d a ≡ 0 → roomy d a ≡ true → plan_writes p ≡ writes d a → PlanSays d a (Ok p)
plan_made d a p fine room ws = (and_from _ _ (eq-eqb (refusal d a) 0 fine) room, ws)

-- a refusal that is passed on
pub plan_passed : (d : List ℕ) (a : Asked) (r : Result Plan Done) (q : Refusal) → IsErrAnd r (λ e. e ≡ Refused q) → refusal d a ≡ number q → PlanSays d a r
plan_passed d a (Ok p) q is why = absurd is
plan_passed d a (Err e) q is why = subst (λ e. PlanSays d a (Err e)) (sym is) (plan_refused d a q why)

-- a put that isn't refused, with a plan or with no room
pub plan_put : (d x c : List ℕ) (n : ℕ) (o : Option Plan) → put_refusal d x c ≡ 0 → PutPlan d x c o → PlanSays d (put x c n) (ok_or o Full)
unfolding writes
plan_put d x c n None fine full = plan_full d (put x c n) fine full
plan_put d x c n (Some p) fine made = plan_made d (put x c n) p fine made.0 made.1

-- a request that is begun
pub record Accepted (d : List ℕ) (a : Asked) : Type 0 where
  pub is_sound : sound d ≡ true
  pub may_be : may d a ≡ true
  pub fine : refusal d a ≡ 0
  pub room : roomy d a ≡ true

-- it is not refused, so none of the reasons holds
not_refused : (b : Bool) (n m : ℕ) → (b ≡ false → n ≡ suc m) → n ≡ 0 → b ≡ true
not_refused true n m why fine = refl
not_refused false n m why fine = absurd (let k : n ≡ suc m = why refl in omega arith)

pub accepted : (d : List ℕ) (a : Asked) → begun d a ≡ true → Accepted d a
unfolding may
accepted d (put x c n) is =
    let parts = and_parts (eqb (put_refusal d x c) 0) (room_for d x c) is in
    let fine = eqb-true (put_refusal d x c) 0 parts.0 in
    let ok = not_refused (sound d) _ 0 (put_unsound d x c) fine in
    let good = not_refused (good_name x) _ 1 (put_bad d x c ok) fine in
    let short = not_refused (good_file c) _ 2 (put_long d x c ok good) fine in
    record { is_sound = ok; may_be = and_from _ _ good (and_from _ _ short parts.1); fine = fine; room = parts.1 }
accepted d (away x n) is =
    let fine = eqb-true (ask_refusal d x) 0 (and_parts (eqb (ask_refusal d x) 0) true is).0 in
    let ok = not_refused (sound d) _ 0 (ask_unsound d x) fine in
    record { is_sound = ok; may_be = not_refused (good_name x) _ 1 (ask_bad d x ok) fine; fine = fine; room = refl }

pub few_writes : (d : List ℕ) (a : Asked) → FewWrites d a
few_writes d (put x c n) = put_few d x c n
few_writes d (away x n) = away_few d x n

-- its writes are all on the disk
pub on_disk : (d : List ℕ) (a : Asked) → Accepted d a → OnDisk d (writes d a)
unfolding may writes entry_write
on_disk d (put x c n) in' k w is =
    let named = and_parts (good_name x) _ in'.may_be in
    let rest = and_parts (good_file c) _ named.1 in
    put_fits d x c (sound_to_rules d in'.is_sound) named.0 rest.0 rest.1 k w is
on_disk d (away x n) in' k w is =
    let long = sound_long d 16 (sound_to_rules d in'.is_sound) in
    ⊎_elim
    (λ lt. one (entry_write d (find d x) (unused_bytes d (find d x))) k (is ∙ ap (λ ws. nth_write ws k) (writes_present d x n lt)) (omega arith))
    (λ ge. let no : Some w ≡ None = is ∙ ap (λ ws. nth_write ws k) (writes_absent d x n ge) in let z : ◌≡◌ {A = ℕ} 0 1 = cc in absurd (let b : ⊥ = omega arith in b))
    (cases_lt (find d x) 16)
  where
    one : (v : Write) (m : ℕ) → Some w ≡ nth_write (v ∷ []) m → 64 * v.to + 64 ≤ length d → 64 * w.to + 64 ≤ length d
    one v zero same fits = let to : w.to ≡ v.to = cc in omega arith
    one v (suc m) same fits = let z : ◌≡◌ {A = ℕ} 0 1 = cc in absurd (let b : ⊥ = omega arith in b)

-- the disk after it, and the answer, by whether power lasted for all writes
pub says_begun : (d : List ℕ) (a : Asked) (r : Done) (d₁ : List ℕ) → Accepted d a → d₁ ≡ after_writes (lasts a) d (writes d a) → r ≡ cond (leb (length (writes d a)) (lasts a)) Finished Cut → Says (refusal d a) d a (roomy d a) r d₁
unfolding step done
says_begun d a r d₁ in' left answer =
    let made : Says 0 d a true r d₁ = (
      left ∙ sym (cond-true _ _ d in'.may_be),
      answer ∙ ap (λ b. cond (b && leb (length (writes d a)) (lasts a)) Finished Cut) (sym in'.may_be),
    ) in
    subst (λ n. Says n d a (roomy d a) r d₁) (sym in'.fine) (subst (λ b. Says 0 d a b r d₁) (sym in'.room) made)
