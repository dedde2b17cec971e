use Rattle.std.proofs.Common.{◌≡◌, suc, ◌+◌, ◌<◌, true, Some, sym, ap, ◌∙◌, subst, add-one, arith}
use Rattle.std.specs.Option.{option_map}
use Rattle.std.proofs.lemmas.Bool.{cond-true, lt-ltb}
use Rattle.layout.proofs.Searching.{decoded-table}
use Rattle.fsck.specs.Blocks.{blocks_to, has}
use Rattle.fsck.specs.Sound.{sound, sound_to}
use Rattle.fsck.specs.Faults.{fault_of_place}
use Rattle.fsck.proofs.Contents.{sound_entry}
use Rattle.fsck.proofs.Deciding.{sound_decides}
use Rattle.fsck.proofs.Judging.{sound_to_none, sound_to_more, fault_size, fault_at, fault_none, twins_found}
use Rattle.fsck.proofs.judge.first_fault.Goals as goal

pub returns-in_default : goal.returns-in_default
unfolding sound
returns-in_default c =
    let d = c.args.disk.now in
    let r = fault_size d c.in_default.ensures in
    record { value = ap (option_map fault_of_place) r.0; places = r.0; judged = r.1; agrees = sound_decides d 16 (omega arith); twins = twins_found d }

pub loop-i-init : goal.loop-i-init
unfolding blocks_to
loop-i-init c =
    let d = c.args.disk.now in
    (sound_to_none d c.in-Some.ensures.0, c.new-taken.ensures)

pub judge_entry-requires : goal.judge_entry-requires
judge_entry-requires c =
    let d = c.args.disk.now in
    let i = c.loop-i.i in
    let lt : i < 16 = c.loop-i-test.true in
    record {
      there = sound_entry d i i ((sound_decides d i (omega arith)).0 c.loop-i.invariant.0) lt;
      entry = c.decode.ensures.fields ∙ decoded-table d c.in-Some.table.now i _ c.in-Some.ensures.1 lt;
      taken = c.loop-i.invariant.1;
    }

pub returns-then-not-judge_entry : goal.returns-then-not-judge_entry
unfolding sound
returns-then-not-judge_entry c =
    let d = c.args.disk.now in
    let r = fault_at d c.loop-i.i c.loop-i-test.true c.loop-i.invariant.0 (sym c.judge_entry.ensures.value ∙ c.if-not-judge_entry.true) in
    record { value = ap Some (sym (cond-true _ _ _ (lt-ltb c.loop-i.i 16 c.loop-i-test.true))) ∙ ap (option_map fault_of_place) r.0; places = r.0; judged = r.1; agrees = sound_decides d 16 (omega arith); twins = twins_found d }

pub loop-i-preserved : goal.loop-i-preserved
loop-i-preserved c =
    let d = c.args.disk.now in
    let i = c.loop-i.i in
    let ok = c.if-not-judge_entry.false in
    let next : suc i ≡ i + 1 = sym (add-one i) in (
      subst (λ n. sound_to d n ≡ true) next (sound_to_more d i c.loop-i.invariant.0 (sym c.judge_entry.ensures.value ∙ ok)),
      λ k. c.judge_entry.ensures.taken ok k ∙ ap (λ n. has (blocks_to d n) k) next,
    )

pub returns : goal.returns
unfolding sound
returns c =
    let d = c.args.disk.now in
    let all : c.loop-i.i ≡ 16 = omega arith in
    let r = fault_none d (subst (λ n. sound_to d n ≡ true) all c.loop-i.invariant.0) in
    record { value = ap (option_map fault_of_place) r.0; places = r.0; judged = r.1; agrees = sound_decides d 16 (omega arith); twins = twins_found d }
