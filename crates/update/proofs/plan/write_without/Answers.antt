use Rattle.std.proofs.Common.{◌≡◌, ℕ, ◌+◌, ◌-◌, ◌*◌, [], ◌∷◌, ◌<◌, List, take, drop, sym, ap, ◌∙◌, append-nil, arith}
use Rattle.std.specs.Option.{option_to_list}
use Rattle.std.proofs.lemmas.Bool.{cond-true, cond-false, lt-ltb, le-ltb}
use Rattle.std.proofs.lemmas.List.{drop-drop, drop-take}
use Rattle.layout.specs.Files.{entry_bytes, find, found}
use Rattle.update.specs.Writes.{entry_write}
use Rattle.update.specs.Requests.{take_writes}
use Rattle.update.proofs.Admission.{found_place, found_nowhere}
use Rattle.update.proofs.plan.write_without.Goals as goal
use Rattle.update.proofs.plan.write_without.Goals.{In_ok-i}

-- all but the first byte of an entry
rest_of_entry : (d : List ℕ) (i : ℕ) → take 31 (drop (i * 32 + 1) d) ≡ drop 1 (entry_bytes d i)
unfolding entry_bytes
rest_of_entry d i =
    let at : i * 32 + 1 ≡ 32 * i + 1 = omega arith in
    ap (λ n. take 31 (drop n d)) at ∙ ap (take 31) (sym (drop-drop 1 (32 * i) d)) ∙ sym (drop-take 1 31 (drop (32 * i) d))

-- the place of the entry
place : (c : In_ok-i) → (c.in_ok-i.i ≡ find c.args.disk.bytes.now c.args.name.now.bytes) × (find c.args.disk.bytes.now c.args.name.now.bytes < 16)
place c =
    let x = c.args.name.now.bytes in
    found_place c.args.disk.bytes.now x c.in_ok-i.i (c.in_ok-i.ensures.value ∙ (λ j. found (c.view.ensures j).now x))

pub returns-in_err-i : goal.returns-in_err-i
unfolding take_writes
returns-in_err-i c =
    let d = c.args.disk.bytes.now in
    let x = c.args.name.now.bytes in
    let gone = found_nowhere d x c.args.disk.sound (c.in_err-i.ensures.value ∙ (λ j. found (c.view.ensures j).now x)) in
    ap option_to_list c.from_residual.ensures ∙ sym (cond-false _ _ _ (le-ltb (find d x) 16 gone))

pub returns : goal.returns
unfolding take_writes
returns c =
    let d = c.args.disk.bytes.now in
    let i = c.in_ok-i.i in
    let at = place (goal.at.returns c).In_ok-i in
    let size : (i * 32 + 32) - (i * 32 + 1) ≡ 31 = omega arith in
    let copied = c.copy_from_slice.ensures.after ∙ (λ j. take (size j) (drop (i * 32 + 1) (c.bytes.ensures j).now)) ∙ rest_of_entry d i in
    ap (λ w. w ∷ []) (c.entry_write.ensures ∙ ap (λ l. entry_write d i (0 ∷ l)) (append-nil _ ∙ copied) ∙ ap (λ k. entry_write d k (0 ∷ drop 1 (entry_bytes d k))) at.0) ∙ sym (cond-true _ _ _ (lt-ltb _ 16 at.1))
