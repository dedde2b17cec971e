use Rattle.std.proofs.Common.{◌||◌, eqb, get_or, sym, ap, ◌∙◌}
use Rattle.std.proofs.lemmas.List.{at_drop_all, take_all}
use Rattle.std.proofs.lemmas.Bool.{false≢true}
use Rattle.fsck.specs.Sets.{member}
use Rattle.fsck.specs.Blocks.{has}
use Rattle.fsck.specs.Sound.{blocks_ok}
use Rattle.fsck.proofs.Judging.{blocks_ok_none, blocks_ok_stop, blocks_ok_more, has-take_more}
use Rattle.fsck.proofs.judge.take_blocks.Goals as goal

pub returns-then-not-is_fresh : goal.returns-then-not-is_fresh
returns-then-not-is_fresh c = record {
  value = sym (blocks_ok_stop c.args.size (member c.loop-b.taken) c.args.blocks.now c.loop-b.b-index c.loop-b-test.true (sym c.is_fresh.ensures ∙ c.if-not-is_fresh.true)) ∙ c.loop-b.invariant.0;
  taken = λ e. absurd (false≢true e);
}

pub loop-b-preserved : goal.loop-b-preserved
loop-b-preserved c =
    let bs = c.args.blocks.now in
    let i = c.loop-b.b-index in (
      blocks_ok_more c.args.size (member c.loop-b.taken) bs i c.loop-b-test.true (member c.insert.new.self) (sym c.is_fresh.ensures ∙ c.if-not-is_fresh.false) c.insert.ensures ∙ c.loop-b.invariant.0,
      λ k. c.insert.ensures k ∙ ap (λ t. eqb k (get_or bs i 0) || t) (c.loop-b.invariant.1 k) ∙ has-take_more bs i k (member c.args.taken.now k) c.loop-b-test.true,
    )

pub returns : goal.returns
returns c =
    let bs = c.args.blocks.now in
    let i = c.loop-b.b-index in
    let seen = member c.loop-b.taken in
    record {
      value = sym (at_drop_all (blocks_ok c.args.size seen) bs i c.loop-b-test.false ∙ blocks_ok_none c.args.size seen) ∙ c.loop-b.invariant.0;
      taken = λ _ k. c.loop-b.invariant.1 k ∙ ap (λ l. has l k || member c.args.taken.now k) (take_all i bs c.loop-b-test.false);
    }
