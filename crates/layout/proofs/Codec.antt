-- An entry's bytes and its fields: each is got back from the other. Assumes nothing.
use Rattle.std.proofs.Common.{◌≡◌, ℕ, ◌+◌, ◌*◌, ◌/◌, ◌%◌, ◌<◌, ◌≤◌, Bool, true, false, cond, eqb, List, [], ◌∷◌, ◌++◌, length, get_or, take, drop, sym, refl, ap, ◌∙◌, append_assoc, arith}
use Rattle.std.proofs.lemmas.List.{drop_more, drop-drop, take-append-drop, take_all, length-drop, take_at, drop_at, get_or_at, get_or-append_right}
use Rattle.std.proofs.lemmas.Bool.Decides.{nat_tests}
use Rattle.layout.specs.declared.entry.Entry.{Entry}
use Rattle.layout.specs.Entries.{decoded, encoded}
use Rattle.layout.specs.Parts.{replaced}
use Rattle.layout.proofs.Slices.{length-replaced, take-replaced}

-- a byte that is 0 or 1 is got back from whether it is 1
flag_back : (b : ℕ) → b ≤ 1 → cond (eqb b 1) 1 0 ≡ b
flag_back b h = grind (arith, nat_tests)

flag_kept : (b : Bool) → eqb (cond b 1 0) 1 ≡ b
flag_kept true = refl
flag_kept false = refl

-- a number of two bytes
low_byte : (x y : ℕ) → x < 256 → (x + 256 * y) % 256 ≡ x
low_byte x y h = omega arith

high_byte : (x y : ℕ) → x < 256 → (x + 256 * y) / 256 ≡ y
high_byte x y h = omega arith

both_bytes : (n : ℕ) → n % 256 + 256 * (n / 256) ≡ n
both_bytes n = omega arith

-- the bytes from 14 on, from 12 on, and from 1 on, by their fields
tail_fields : (bs : List ℕ) → length bs ≡ 32 → take 16 (drop 14 bs) ++ take 2 (drop 30 bs) ≡ drop 14 bs
tail_fields bs n =
    let short : length (drop 30 bs) ≤ 2 = simp length-drop (omega arith) in
    ap (λ t. take 16 (drop 14 bs) ++ t) (take_all 2 (drop 30 bs) short ∙ sym (drop-drop 16 14 bs)) ∙ take-append-drop 16 (drop 14 bs)

pub encoded-decoded : (bs : List ℕ) → length bs ≡ 32 → get_or bs 12 0 < 256 → get_or bs 0 0 ≤ 1 → encoded (decoded bs) ≡ bs
unfolding encoded decoded
encoded-decoded bs n low first =
    let from_12 : (get_or bs 12 0 + 256 * get_or bs 13 0) % 256 ∷ ((get_or bs 12 0 + 256 * get_or bs 13 0) / 256 ∷ (take 16 (drop 14 bs) ++ take 2 (drop 30 bs))) ≡ drop 12 bs =
    rw (low_byte _ _ low, high_byte _ _ low, tail_fields bs n) (ap (λ t. get_or bs 12 0 ∷ t) (sym (drop_more bs 13 0 (omega arith))) ∙ sym (drop_more bs 12 0 (omega arith))) in
    let from_1 : take 11 (drop 1 bs) ++ drop 12 bs ≡ drop 1 bs =
    ap (λ t. take 11 (drop 1 bs) ++ t) (sym (drop-drop 11 1 bs)) ∙ take-append-drop 11 (drop 1 bs) in
    rw (flag_back _ first, from_12, from_1) (sym (drop_more bs 0 0 (omega arith)))

-- the bytes behind the name, by place
module _ (x rest : List ℕ) (n : length x ≡ 11) where
  behind_name : (k : ℕ) → drop (11 + k) (x ++ rest) ≡ drop k rest
  behind_name k = sym (drop-drop k 11 (x ++ rest)) ∙ ap (drop k) (drop_at x rest 11 n)

pub decoded-encoded : (e : Entry) → length e.name.bytes ≡ 11 → length e.blocks ≡ 16 → length e.unread ≡ 2 → decoded (encoded e) ≡ e
unfolding encoded decoded
decoded-encoded e n b u =
    let x = e.name.bytes in
    let fields : List ℕ = e.blocks ++ e.unread in
    let rest : List ℕ = e.len % 256 ∷ (e.len / 256 ∷ fields) in
    let low : get_or (x ++ rest) 11 0 ≡ e.len % 256 = get_or_at x _ _ 0 11 n in
    let high : get_or (x ++ rest) 12 0 ≡ e.len / 256 = get_or-append_right x rest 11 12 0 n (omega arith) in
    let blocks : take 16 (drop 13 (x ++ rest)) ≡ e.blocks = ap (take 16) (behind_name x rest n 2) ∙ take_at e.blocks _ 16 b in
    let unread : take 2 (drop 29 (x ++ rest)) ≡ e.unread =
    ap (take 2) (behind_name x rest n 18 ∙ drop_at e.blocks e.unread 16 b) ∙ take_all 2 e.unread (omega arith) in
    λ i. record {
      used = flag_kept e.used i;
      name = record { bytes = take_at x rest 11 n i };
      len = ((λ j. low j + 256 * high j) ∙ both_bytes e.len) i;
      blocks = blocks i;
      unread = unread i;
    }

-- an entry's fields, put one behind the other into 32 bytes
pub fields_in_place : (e : Entry) (at_1 at_12 at_14 at_30 bytes pair : List ℕ) →
    length e.name.bytes ≡ 11 → length e.blocks ≡ 16 → length e.unread ≡ 2 →
    length at_1 ≡ 32 → take 1 at_1 ≡ cond e.used 1 0 ∷ [] → pair ≡ e.len % 256 ∷ (e.len / 256 ∷ []) →
    at_12 ≡ replaced at_1 1 e.name.bytes → at_14 ≡ replaced at_12 12 pair → at_30 ≡ replaced at_14 14 e.blocks → bytes ≡ replaced at_30 30 e.unread →
    bytes ≡ encoded e
unfolding encoded
fields_in_place e at_1 at_12 at_14 at_30 bytes pair n b u long first two name len blocks unread =
    let p : length pair ≡ 2 = ap length two in
    let long_12 : length at_12 ≡ 32 = ap length name ∙ length-replaced at_1 1 e.name.bytes (omega arith) ∙ long in
    let long_14 : length at_14 ≡ 32 = ap length len ∙ length-replaced at_12 12 pair (omega arith) ∙ long_12 in
    let long_30 : length at_30 ≡ 32 = ap length blocks ∙ length-replaced at_14 14 e.blocks (omega arith) ∙ long_14 in
    let all : length bytes ≡ 32 = ap length unread ∙ length-replaced at_30 30 e.unread (omega arith) ∙ long_30 in
    let to_12 = ap (take 12) name ∙ take-replaced at_1 _ 1 e.name.bytes 12 first (omega arith) (omega arith) in
    let to_14 = ap (take 14) len ∙ take-replaced at_12 _ 12 pair 14 to_12 (omega arith) (omega arith) in
    let to_30 = ap (take 30) blocks ∙ take-replaced at_14 _ 14 e.blocks 30 to_14 (omega arith) (omega arith) in
    let to_32 = ap (take 32) unread ∙ take-replaced at_30 _ 30 e.unread 32 to_30 (omega arith) (omega arith) in
    sym (take_all 32 bytes (omega arith)) ∙ to_32
    ∙ append_assoc (cond e.used 1 0 ∷ (e.name.bytes ++ pair)) e.blocks e.unread
    ∙ append_assoc (cond e.used 1 0 ∷ e.name.bytes) pair (e.blocks ++ e.unread)
    ∙ ap (λ p. cond e.used 1 0 ∷ (e.name.bytes ++ (p ++ (e.blocks ++ e.unread)))) two
