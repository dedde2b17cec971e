-- A list of data writes, of which any number was made, shows nothing, and one entry write behind them puts all of it in sight. Assumes nothing.
use Rattle.std.proofs.Common.{◌≡◌, ℕ, zero, suc, ◌*◌, ◌/◌, ◌%◌, ◌<◌, ◌≤◌, true, false, List, [], ◌∷◌, ◌++◌, length, get_or, Some, sym, refl, ap, ◌∙◌, subst, ⊎_elim, arith}
use Rattle.std.proofs.lemmas.Bool.{cases_lt}
use Rattle.layout.specs.declared.entry.Entry.{Entry}
use Rattle.layout.specs.Parts.{replaced}
use Rattle.layout.specs.Entries.{decoded, blocks_of}
use Rattle.layout.specs.Files.{entry_bytes, entry_at, block, content, file}
use Rattle.layout.specs.Words.{Named}
use Rattle.fsck.specs.Blocks.{in_use}
use Rattle.fsck.specs.Sound.{sound}
use Rattle.fsck.specs.Rules.{Sound}
use Rattle.fsck.proofs.Deciding.{sound_to_rules, rules_to_sound}
use Rattle.fsck.proofs.Agreement.{SameRead, same_bytes_read, same_sound, same_size}
use Rattle.update.specs.Writes.{Write, after_write, after_writes, entry_write}
use Rattle.update.proofs.Places.{Fits, length-after, block_kept, after_none}
use Rattle.update.proofs.DataLaw.{entries_after_data, read_after_data, in_use-after_data, file-after_data}
use Rattle.update.proofs.EntryLaw.{Fit, EntryReplaced, entry_replaced, at_here, sound-after_entry, file_other, file_new}

-- each write puts 64 bytes into a block from 8 on, on the disk, that no entry in use has
abbrev pub DataAll : List ℕ → List Write → Type 0
DataAll d [] = Unit {0}
DataAll d (w ∷ ws) = (Fits d w × (8 ≤ w.to) × (in_use d w.to ≡ false)) × DataAll d ws

-- block b is the target of none of the writes
abbrev pub Misses : ℕ → List Write → Type 0
Misses b [] = Unit {0}
Misses b (w ∷ ws) = (b ≡ w.to → ⊥) × Misses b ws

-- what any number of them leaves as it was
pub record Unseen (d e : List ℕ) : Type 0 where
  pub read : SameRead d e
  pub entries : (i : ℕ) → i < 16 → entry_bytes e i ≡ entry_bytes d i
  pub files : (x : List ℕ) → file e x ≡ file d x

pub unseen_refl : (d : List ℕ) → Unseen d d
unseen_refl d = record { read = same_bytes_read d d refl (λ i lt. refl); entries = λ i lt. refl; files = λ x. refl }

pub unseen_trans : (a b c : List ℕ) → Unseen a b → Unseen b c → Unseen a c
unseen_trans a b c p q =
    let entries : (i : ℕ) → i < 16 → entry_bytes c i ≡ entry_bytes a i = λ i lt. q.entries i lt ∙ p.entries i lt in
    record {
      read = same_bytes_read a c (q.read.long ∙ p.read.long) entries;
      entries = entries;
      files = λ x. q.files x ∙ p.files x;
    }

-- one write that shows nothing
unseen_after_one : (d : List ℕ) (w : Write) → Fits d w → 8 ≤ w.to → in_use d w.to ≡ false → Unseen d (after_write d w)
unseen_after_one d w f low unused = record {
  read = read_after_data d w f low unused;
  entries = entries_after_data d w f low unused;
  files = file-after_data d w f low unused;
}

-- the writes are data writes of every disk that is as long and has the same blocks in use
data_all_same : (d e : List ℕ) → length e ≡ length d → ((b : ℕ) → in_use e b ≡ in_use d b) → (ws : List Write) → DataAll d ws → DataAll e ws
data_all_same d e long same [] all = tt
data_all_same d e long same (w ∷ ws) ((f, low, unused), rest) =
    ((record { on_disk = omega arith; whole = f.whole }, low, same w.to ∙ unused), data_all_same d e long same ws rest)

-- the writes behind the first are data writes of the disk after it
data_all_after : (d : List ℕ) (w : Write) (ws : List Write) → DataAll d (w ∷ ws) → DataAll (after_write d w) ws
data_all_after d w ws ((f, low, unused), rest) = data_all_same d (after_write d w) (length-after d w f) (in_use-after_data d w f low unused) ws rest

pub unseen_after_data : (d : List ℕ) (ws : List Write) → DataAll d ws → (n : ℕ) → Unseen d (after_writes n d ws)
unfolding after_writes
unseen_after_data d ws all zero = unseen_refl d
unseen_after_data d [] all (suc n) = unseen_refl d
unseen_after_data d (w ∷ ws) all (suc n) =
    unseen_trans d (after_write d w) _ (unseen_after_one d w all.0.0 all.0.1 all.0.2) (unseen_after_data (after_write d w) ws (data_all_after d w ws all) n)

pub blocks_after_data : (d : List ℕ) (ws : List Write) → DataAll d ws → (n b : ℕ) → Misses b ws → block (after_writes n d ws) b ≡ block d b
unfolding after_writes
blocks_after_data d ws all zero b miss = refl
blocks_after_data d [] all (suc n) b miss = refl
blocks_after_data d (w ∷ ws) all (suc n) b miss =
    blocks_after_data (after_write d w) ws (data_all_after d w ws all) n b miss.1 ∙ block_kept d w all.0.0 b miss.0

-- no data write has a block of the table as its target
pub data_misses_table : (d : List ℕ) (ws : List Write) → DataAll d ws → (b : ℕ) → b < 8 → Misses b ws
data_misses_table d [] all b lt = tt
data_misses_table d (w ∷ ws) ((f, low, unused), rest) b lt = (λ same. omega arith, data_misses_table d ws rest b lt)

-- a split of the writes
pub after-append : (n : ℕ) (d : List ℕ) (vs : List Write) (w : Write) → length vs < n → after_writes n d (vs ++ w ∷ []) ≡ after_write (after_writes (length vs) d vs) w
unfolding after_writes
after-append zero d vs w lt = absurd (omega arith)
after-append (suc n) d [] w lt = after_none n (after_write d w)
after-append (suc n) d (v ∷ vs) w lt = after-append n (after_write d v) vs w (omega arith)

pub after_front : (n : ℕ) (d : List ℕ) (vs : List Write) (w : Write) → n ≤ length vs → after_writes n d (vs ++ w ∷ []) ≡ after_writes n d vs
unfolding after_writes
after_front zero d vs w le = refl
after_front (suc n) d [] w le = absurd (omega arith)
after_front (suc n) d (v ∷ vs) w le = after_front n (after_write d v) vs w (omega arith)

-- the entry write that was prepared before the data writes is the one that would be prepared after them
pub entry_write-after_data : (d : List ℕ) (ws : List Write) → DataAll d ws → (n i : ℕ) (bs : List ℕ) → i < 16 → entry_write (after_writes n d ws) i bs ≡ entry_write d i bs
unfolding entry_write
entry_write-after_data d ws all n i bs lt =
    let same = blocks_after_data d ws all n (i / 2) (data_misses_table d ws all (i / 2) (omega arith)) in
    (λ j. record { to = i / 2; bytes = replaced (same j) (32 * (i % 2)) bs })

-- an entry is read alike on both disks
unseen_entry : (d e : List ℕ) → Unseen d e → (i : ℕ) → i < 16 → entry_at e i ≡ entry_at d i
unfolding entry_at
unseen_entry d e u i lt = ap decoded (u.entries i lt)

-- fitness is the same on both
pub fit_unseen : (d e : List ℕ) → Unseen d e → (i : ℕ) (bs : List ℕ) → Fit d i bs → Fit e i bs
fit_unseen d e u i bs fit =
    let at = unseen_entry d e u in
    record {
      flag = fit.flag;
      short = fit.short;
      low = fit.low;
      high = λ used k lt. subst (λ n. get_or (blocks_of (decoded bs)) k 0 < n) (sym (same_size d e u.read)) (fit.high used k lt);
      once = fit.once;
      apart = λ used j k l p other l_in same.
          let here = at j p.entry in
          fit.apart used j k l (record {
            entry = p.entry;
            used = ap (λ (x : Entry). x.used) (sym here) ∙ p.used;
            within = subst (λ (x : Entry). k < length (blocks_of x)) here p.within;
          }) other l_in (ap (λ (x : Entry). get_or (blocks_of x) k 0) (sym here) ∙ same);
      new_name = λ used j lt other is same.
          let here = sym (at j lt) in
          fit.new_name used j lt other (ap (λ (x : Entry). x.used) here ∙ is) (ap (λ (x : Entry). x.name) here ∙ same);
    }

-- data writes and, behind them, the write of an entry that is fit
pub record Planned (d : List ℕ) (vs : List Write) (i : ℕ) (e : List ℕ) : Type 0 where
  pub data_first : DataAll d vs
  pub in_table : i < 16
  pub whole : length e ≡ 32
  pub fit : Fit d i e

module _ (d : List ℕ) (vs : List Write) (i : ℕ) (e : List ℕ) (s : Sound d) (p : Planned d vs i e) where
  unseen_data : (n : ℕ) → Unseen d (after_writes n d vs)
  unseen_data n = unseen_after_data d vs p.data_first n

  sound_unseen : (c : List ℕ) → Unseen d c → sound c ≡ true
  sound_unseen c u = same_sound d c u.read ∙ rules_to_sound d s

  sound_data : Sound (after_writes (length vs) d vs)
  sound_data = sound_to_rules _ (sound_unseen _ (unseen_data (length vs)))

  fit_data : Fit (after_writes (length vs) d vs) i e
  fit_data = fit_unseen d _ (unseen_data (length vs)) i e p.fit

  -- the last write is the entry write to the disk with all data written
  after_all : (n : ℕ) → length vs < n → after_writes n d (vs ++ entry_write d i e ∷ []) ≡ after_write (after_writes (length vs) d vs) (entry_write (after_writes (length vs) d vs) i e)
  after_all n lt =
      after-append n d vs (entry_write d i e) lt
      ∙ ap (after_write (after_writes (length vs) d vs)) (sym (entry_write-after_data d vs p.data_first (length vs) i e p.in_table))

  pub planned_unseen : (n : ℕ) → n ≤ length vs → Unseen d (after_writes n d (vs ++ entry_write d i e ∷ []))
  planned_unseen n le = subst (Unseen d) (sym (after_front n d vs (entry_write d i e) le)) (unseen_data n)

  pub planned_replaced : (n : ℕ) → length vs < n → EntryReplaced (after_writes (length vs) d vs) i e (after_writes n d (vs ++ entry_write d i e ∷ []))
  planned_replaced n lt = subst (EntryReplaced (after_writes (length vs) d vs) i e) (sym (after_all n lt)) (entry_replaced _ i e sound_data p.in_table p.whole)

  pub planned_sound : (n : ℕ) → sound (after_writes n d (vs ++ entry_write d i e ∷ [])) ≡ true
  planned_sound n =
      ⊎_elim
      (λ all. rules_to_sound _ (sound-after_entry _ i e _ p.in_table sound_data fit_data (planned_replaced n all)))
      (λ cut. sound_unseen _ (planned_unseen n cut))
      (cases_lt (length vs) n)

  -- under a name that the entry neither had nor gets, the file is as it was
  pub planned_other : (n : ℕ) → length vs < n → (x : List ℕ) → (Named d x i → ⊥) → ((decoded e).used ≡ true → (decoded e).name.bytes ≡ x → ⊥) → file (after_writes n d (vs ++ entry_write d i e ∷ [])) x ≡ file d x
  planned_other n lt x not-before not_new =
      let u = unseen_data (length vs) in
      let r = planned_replaced n lt in
      let before = sym (unseen_entry d _ u i p.in_table) in
      let now = sym (at_here _ i e _ p.in_table sound_data fit_data r) in
      file_other _ i e _ p.in_table sound_data fit_data r x
      (λ named. not-before (ap (λ (y : Entry). y.used) before ∙ named.0, ap (λ (y : Entry). y.name.bytes) before ∙ named.1))
      (λ named. not_new (ap (λ (y : Entry). y.used) now ∙ named.0) (ap (λ (y : Entry). y.name.bytes) now ∙ named.1))
      ∙ u.files x

  -- under the new name there is what the new entry describes, read with all data written
  pub planned_new : (n : ℕ) → length vs < n → (decoded e).used ≡ true → file (after_writes n d (vs ++ entry_write d i e ∷ [])) (decoded e).name.bytes ≡ Some (content (after_writes (length vs) d vs) (decoded e))
  planned_new n lt used = file_new _ i e _ p.in_table sound_data fit_data (planned_replaced n lt) used
