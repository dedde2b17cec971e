-- Room counted from the entries, and what a put that is finished leaves. Assumes nothing.
use Rattle.std.proofs.Common.{◌≡◌, ℕ, zero, suc, ◌+◌, ◌-◌, ◌<◌, ◌≤◌, Bool, true, ltb, ◌⊎◌, List, length, refl, ap, ◌∙◌, inl, inr, ⊎_elim, arith, length-append}
use Rattle.std.specs.Str.{bytes_eq}
use Rattle.std.proofs.lemmas.Slice.Eq.{bytes_eq-Decides}
use Rattle.std.proofs.lemmas.Bool.{cases_Bool, cases_lt, cond-true, cond-false, and_parts, and_from, leb-true, ltb-true, le-leb, lt-ltb, le-ltb}
use Rattle.layout.specs.Entries.{needs}
use Rattle.layout.specs.Files.{entry_at, find, file}
use Rattle.fsck.specs.Sets.{counted}
use Rattle.fsck.specs.Blocks.{size, blocks_at, blocks_to, free}
use Rattle.fsck.specs.Sound.{sound}
use Rattle.fsck.specs.Rules.{Sound}
use Rattle.fsck.proofs.Membership.{blocks_at_used, blocks_at_unused}
use Rattle.fsck.proofs.Deciding.{sound_to_rules}
use Rattle.fsck.proofs.Contents.{length-blocks_at}
use Rattle.fsck.proofs.Counting.{free-length, in_use-length}
use Rattle.update.specs.Answers.{good_name, good_file}
use Rattle.update.specs.Writes.{after_writes}
use Rattle.update.specs.Putting.{data_writes, chosen, unused_from, place_for, put_writes, room_for}
use Rattle.update.specs.Requests.{put, writes, may, step, done, changed}
use Rattle.update.specs.Room.{used_count, needed_to, RoomCounted, PutFinished, EmptyFile}
use Rattle.update.proofs.PuttingLaw.{put_lawful, length_put, put_done}

-- of n numbers at most n pass a test
counted_at_most : (p : ℕ → Bool) (i n : ℕ) → counted p i n ≤ n
unfolding counted
counted_at_most p i zero = omega arith
counted_at_most p i (suc n) =
    let rest = counted_at_most p (suc i) n in
    ⊎_elim
    (λ passes. let one = cond-true {A = ℕ} (p i) 1 0 passes in omega arith)
    (λ fails. let none = cond-false {A = ℕ} (p i) 1 0 fails in omega arith)
    (cases_Bool (p i))

-- one of n entries is not in use exactly if fewer than n are
unused_counted : (d : List ℕ) (i n : ℕ) → (unused_from d i n < i + n → counted (λ k. (entry_at d k).used) i n < n) × (counted (λ k. (entry_at d k).used) i n < n → unused_from d i n < i + n)
unfolding unused_from counted
unused_counted d i zero = (λ lt. omega arith, λ lt. omega arith)
unused_counted d i (suc n) =
    let used? = (entry_at d i).used in
    let rest = unused_counted d (suc i) n in
    ⊎_elim
    (λ used.
    let on = cond-true used? (unused_from d (suc i) n) i used in
    let one = cond-true {A = ℕ} used? 1 0 used in (
      λ lt. let less = rest.0 (omega arith) in omega arith,
      λ lt. let less = rest.1 (omega arith) in omega arith,
    ))
    (λ unused.
    let here = cond-false used? (unused_from d (suc i) n) i unused in
    let none = cond-false {A = ℕ} used? 1 0 unused in
    let most = counted_at_most (λ k. (entry_at d k).used) (suc i) n in
    (λ lt. omega arith, λ lt. omega arith))
    (cases_Bool used?)

-- there is a place exactly if an entry has the name or one is not in use
place_counted : (d x : List ℕ) → (place_for d x < 16 → (find d x < 16) ⊎ (used_count d < 16)) × ((find d x < 16) ⊎ (used_count d < 16) → place_for d x < 16)
unfolding place_for
place_counted d x =
    let both = unused_counted d 0 16 in
    ⊎_elim
    (λ named.
    let at = cond-true (ltb (find d x) 16) (find d x) (unused_from d 0 16) (lt-ltb (find d x) 16 named) in
    (λ _. inl named, λ _. omega arith))
    (λ unnamed.
    let at = cond-false (ltb (find d x) 16) (find d x) (unused_from d 0 16) (le-ltb (find d x) 16 unnamed) in (
      λ lt. inr (both.0 (omega arith)),
      ⊎_elim (λ named. absurd (let b : ⊥ = omega arith in b)) (λ few. let less = both.1 few in omega arith),
    ))
    (cases_lt (find d x) 16)

-- the files of the first n entries have as many blocks as they need
length-blocks_to : (d : List ℕ) → Sound d → (n : ℕ) → n ≤ 16 → length (blocks_to d n) ≡ needed_to d n
unfolding blocks_to needed_to
length-blocks_to d s zero le = refl
length-blocks_to d s (suc i) le =
    let before = length-blocks_to d s i (omega arith) in
    let both = length-append (blocks_to d i) (blocks_at d i) in
    ⊎_elim
    (λ used.
    let more : length (blocks_at d i) ≡ needs (entry_at d i).len = ap length (blocks_at_used d i used) ∙ length-blocks_at d 16 i s (omega arith) (omega arith) used in
    let all = cond-true {A = ℕ} (entry_at d i).used (needs (entry_at d i).len) 0 used in
    omega arith)
    (λ unused.
    let more : length (blocks_at d i) ≡ 0 = ap length (blocks_at_unused d i unused) in
    let none = cond-false {A = ℕ} (entry_at d i).used (needs (entry_at d i).len) 0 unused in
    omega arith)
    (cases_Bool (entry_at d i).used)

-- the free blocks of a sound disk are those that the files in use leave
free-counted : (d : List ℕ) → sound d ≡ true → length (free d) ≡ size d - 8 - needed_to d 16
free-counted d ok =
    let used : length (blocks_to d 16) ≡ needed_to d 16 = length-blocks_to d (sound_to_rules d ok) 16 (omega arith) in
    omega (arith, free-length d ok, in_use-length d ok)

pub room_counted : (d x c : List ℕ) → RoomCounted d x c
unfolding room_for
room_counted d x c =
    let place = place_counted d x in
    record {
      counted_room = λ ok. let left = free-counted d ok in (
        λ room.
            let parts = and_parts (ltb (place_for d x) 16) _ room in
            let enough = leb-true (needs (length c)) (length (free d)) parts.1 in
            (place.0 (ltb-true (place_for d x) 16 parts.0), omega arith),
        λ so. let enough = so.1 in and_from _ _ (lt-ltb (place_for d x) 16 (place.1 so.0)) (le-leb (needs (length c)) (length (free d)) (omega arith)),
      );
    }

-- what a put that is done has
module _ (d x c : List ℕ) (n : ℕ) (finished : done d (put x c n) ≡ true) where
  done-may : may d (put x c n) ≡ true
  unfolding done
  done-may = (and_parts (may d (put x c n)) _ finished).0

  done_room : room_for d x c ≡ true
  unfolding may
  done_room = (and_parts (good_file c) _ (and_parts (good_name x) _ done-may).1).1

  done_power : length (writes d (put x c n)) ≤ n
  unfolding done
  done_power = leb-true (length (writes d (put x c n))) n (and_parts (may d (put x c n)) _ finished).1

  -- the files are then changed as was asked
  done_files : sound d ≡ true → (y : List ℕ) → file (step d (put x c n)) y ≡ changed (file d) (put x c n) y
  unfolding step
  done_files ok y =
      ap (λ e. file e y) (cond-true (may d (put x c n)) (after_writes n d (writes d (put x c n))) d done-may)
      ∙ ((put_lawful d x c n).whole ok done-may n y).1 done_power

pub put_finished : (d x c : List ℕ) (n : ℕ) → PutFinished d x c n
unfolding writes changed
put_finished d x c n = record {
  finished = λ ok good fits. (
    λ finished.
        let room = done_room d x c n finished in
        let power = done_power d x c n finished in
        let many = length_put d x c (sound_to_rules d ok) good fits room in
        (room, omega arith),
    λ so.
        let power = so.1 in
        let many = length_put d x c (sound_to_rules d ok) good fits so.0 in
        put_done d x c n good fits so.0 true (le-leb (length (put_writes d x c)) n (omega arith)),
  );
  under_name = λ ok finished. done_files d x c n finished ok x ∙ cond-true _ _ _ ((bytes_eq-Decides x x).1 refl);
  others = λ ok finished y other. done_files d x c n finished ok y ∙ ⊎_elim (λ same. absurd (other ((bytes_eq-Decides x y).0 same))) (cond-false _ _ _) (cases_Bool (bytes_eq x y));
}

pub empty_file : (d x : List ℕ) → EmptyFile d x
unfolding needs put_writes chosen data_writes
empty_file d x = record { no_block = refl; one_write = refl }
