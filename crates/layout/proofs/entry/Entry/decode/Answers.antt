use Rattle.std.proofs.Common.{◌≡◌, ℕ, ◌+◌, ◌*◌, List, get_or, take, drop, ap, ◌∙◌, arith, rules}
use Rattle.layout.specs.declared.entry.Entry.{Entry}
use Rattle.layout.specs.Entries.{decoded, encoded}
use Rattle.std.proofs.lemmas.List.{get_or-take, get_or-drop}
use Rattle.layout.proofs.Codec.{encoded-decoded}
use Rattle.layout.proofs.entry.Entry.decode.Goals as goal

-- a number of two bytes, read where they lie
two_bytes : (bs pair : List ℕ) (at n : ℕ) → pair ≡ take 2 (drop at bs) → n ≡ get_or pair 0 0 + get_or pair 1 0 * 256 → n ≡ get_or bs (at + 0) 0 + 256 * get_or bs (at + 1) 0
two_bytes bs pair at n is sum =
    let low : get_or (take 2 (drop at bs)) 0 0 ≡ get_or bs (at + 0) 0 = get_or-take 2 (drop at bs) 0 0 (omega arith) ∙ get_or-drop at bs 0 0 in
    let high : get_or (take 2 (drop at bs)) 1 0 ≡ get_or bs (at + 1) 0 = get_or-take 2 (drop at bs) 1 0 (omega arith) ∙ get_or-drop at bs 1 0 in
    let sum' : n ≡ get_or (take 2 (drop at bs)) 0 0 + get_or (take 2 (drop at bs)) 1 0 * 256 = rw is at sum in
    omega arith

pub returns : goal.returns
unfolding decoded
returns c =
    let bs = c.args.bytes.now in
    let fields : ◌≡◌ {A = Entry} (record {
      used = _;
      name = record { bytes = c.array-name.result };
      len = c.from_le_bytes.result;
      blocks = c.array.result;
      unread = c.array-2.result;
    }) (decoded bs) =
    λ i. record {
      used = (decoded bs).used;
      name = record { bytes = c.array-name.ensures i };
      len = two_bytes bs _ 12 _ c.array-len.ensures c.from_le_bytes.ensures i;
      blocks = c.array.ensures i;
      unread = c.array-2.ensures i;
    } in
    record {
      fields = fields;
      back = λ first. ap encoded fields ∙ encoded-decoded bs (search rules) (search rules) first;
    }
