use Rattle.std.proofs.Common.{◌≡◌, ◌+◌, ◌%◌, ◌<◌, ◌≤◌, ◌⊎◌, [], ◌∷◌, ◌++◌, vec_items, refl, sym, ap, ◌∙◌, inl, inr, arith}
use Rattle.fsck.specs.Blocks.{size}
use Rattle.fsck.proofs.Deciding.{sound_to_rules}
use Rattle.session.specs.Printed.{block_char, blocks_from, map_text}
use Rattle.session.proofs.Entries.{blocks_from_feed, blocks_from_on}
use Rattle.session.proofs.Texts.{behind, put_more, put_all}
use Rattle.session.proofs.listing.push_map.Goals as goal
use Rattle.session.proofs.listing.push_map.Goals.{then-block+in_ok-push-2, then-block-via-then-block, then-block-via-else-block+then-block-blocks, else-block+else-block-blocks}

pub overflow_cast-block : goal.overflow_cast-block
unfolding size
overflow_cast-block c = omega (arith, c.blocks-blocks.ensures, (sound_to_rules c.args.disk.bytes.now c.args.disk.sound).most)

pub loop-block-preserved : goal.loop-block-preserved
loop-block-preserved c =
    let d = c.args.disk.bytes.now in
    let b = c.loop-block.block in
    let out = vec_items c.loop-block.out in
    let all = c.blocks-blocks.ensures in
    let lt : b < size d = omega (arith, all) in
    let more = put_more (blocks_from d) _ out (size d) b c.loop-block.invariant (vec_items c.if-block.out) in
    let put = c.in_ok-push.ensures.items ∙ ap (λ x. out ++ (x ∷ [])) (c.block_char.ensures d c.entries-entries.ensures) in
    elim c.if-block.branch [
      | then-block+in_ok-push-2 w ↦
          let last : (b % 64 ≡ 63) ⊎ (b + 1 ≡ size d) = elim w.then-block.branch [ then-block-via-then-block w' ↦ inl w'.if-block.true | then-block-via-else-block+then-block-blocks w' ↦ inr (w'.if-block-blocks.true ∙ all) ] in
          more _ lt (blocks_from_feed d b (size d) lt last) (ap vec_items w.out-is ∙ w.in_ok-push-2.ensures.items ∙ behind out (block_char d b ∷ []) (10 ∷ []) put)
      | else-block+else-block-blocks w ↦
          more _ lt (blocks_from_on d b (size d) lt w.if-block.false (λ end. w.if-block-blocks.false (end ∙ sym all))) (ap vec_items w.out-is ∙ put)
    ]

pub returns : goal.returns
unfolding map_text blocks_from
returns c =
    let d = c.args.disk.bytes.now in
    let done : size d ≤ c.loop-block.block = omega (arith, c.blocks-blocks.ensures) in
    put_all (blocks_from d) _ _ (size d) c.loop-block.block c.loop-block.invariant done refl
