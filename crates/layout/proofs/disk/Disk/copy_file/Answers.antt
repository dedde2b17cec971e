use Rattle.std.proofs.Common.{◌≡◌, ◌+◌, ◌-◌, ◌<◌, min, ◌++◌, length, get_or, take, drop, Ok, sym, ap, ◌∙◌, arith}
use Rattle.std.specs.List.{flat_map}
use Rattle.std.proofs.lemmas.List.{length-take}
use Rattle.layout.specs.Entries.{blocks_of}
use Rattle.layout.specs.Files.{held, block, content}
use Rattle.layout.proofs.Slices.{put_mid-replaced}
use Rattle.layout.proofs.Copying.{front, length_front_more, copied_more, front_none, front_all, copies_all}
use Rattle.layout.proofs.disk.Disk.copy_file.Goals as goal

pub loop-b-init : goal.loop-b-init
loop-b-init c =
    let none = front_none (block (held c.args.self.now)) (blocks_of c.args.file.now) c.from-len.result in
    (omega arith, sym (ap length none), sym (ap (λ l. l ++ c.args.room.now) none))

pub loop-b-preserved : goal.loop-b-preserved
loop-b-preserved c =
    let f = block (held c.args.self.now) in
    let bs = blocks_of c.args.file.now in
    let len = c.from-len.result in
    let k = c.loop-b.b-index in
    let at = c.loop-b.at in
    let n = c.min-n.result in
    let items = c.file_blocks-b-items.ensures in
    let lt : k < length bs = omega (arith, ap length items) in
    let bytes : c.block-bytes.result.now ≡ f (get_or bs k 0) = c.block-bytes.ensures ∙ ap (λ l. f (get_or l k 0)) items in
    let some : n ≡ min (length (f (get_or bs k 0))) (len - at) = c.min-n.ensures ∙ ap (λ l. min (length l) (len - at)) bytes in
    let is = c.loop-b.invariant.1 in
    let all : n - 0 ≡ n = omega arith in
    let copied : c.copy_from_slice.new.self ≡ take n (f (get_or bs k 0)) = c.copy_from_slice.ensures.after ∙ (λ i. take (all i) (bytes i)) in
    let long : length (take n (f (get_or bs k 0))) ≡ n = simp length-take (omega arith) in
    let size : at + n - at ≡ length (take n (f (get_or bs k 0))) = omega arith in (
      omega (arith, c.loop-b.invariant.0),
      length_front_more f bs len k at n lt is some,
      put_mid-replaced at _ c.loop-b.room _ (take n (f (get_or bs k 0))) copied size ∙ copied_more f bs len c.args.room.now k at n c.loop-b.room lt is some c.loop-b.invariant.2,
    )

pub returns : goal.returns
unfolding content
returns c =
    let d = held c.args.self.now in
    let e = c.args.file.now in
    let all : front (block d) (blocks_of e) c.from-len.result c.loop-b.b-index ≡ content d e =
    front_all (block d) (blocks_of e) c.from-len.result _ (omega (arith, ap length c.file_blocks-b-items.ensures)) ∙ ap (λ n. take n (flat_map (block d) (blocks_of e))) c.from-len.ensures in
    let at : c.loop-b.at ≡ length (content d e) = c.loop-b.invariant.1 ∙ ap length all in
    copies_all e.len (content d e) c.args.room.now _ _ (omega (arith, c.from-len.ensures)) (ap Ok at)
    (c.loop-b.invariant.2 ∙ (λ i. all i ++ drop (at i) c.args.room.now))
