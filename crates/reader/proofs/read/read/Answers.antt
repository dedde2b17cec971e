use Rattle.std.proofs.Common.{Ok, Err, sym, ◌∙◌, subst}
use Rattle.update.specs.declared.answer.Done.TheVariants.{Refused, Absent}
use Rattle.update.specs.Answers.{number, ask_refusal}
use Rattle.update.proofs.Admission.{admitted_ok, admitted_err}
use Rattle.reader.specs.Answered.{answer, ReadSays}
use Rattle.reader.proofs.Reading.{answer_is, none_from_ok_or, some_from_ok_or, refused_says, read_absent, read_copied}
use Rattle.reader.proofs.read.read.Goals as goal

pub returns-in_err-disk : goal.returns-in_err-disk
returns-in_err-disk c =
    let d = c.args.disk.now in
    let x = c.args.name.now in
    let room = c.args.room.now in
    let q = c.in_err-disk.field-0.0 in
    let turned = admitted_err d x q (sym c.in_err-disk.ensures) in
    subst (λ n. ReadSays n d x room (answer c.from_residual.result) room) (sym turned.why) (subst (λ t. ReadSays (number q) d x room t room) (sym (answer_is _ (Refused q) c.from_residual.ensures.1)) (refused_says q d x room))

pub returns-in_err-entry : goal.returns-in_err-entry
returns-in_err-entry c =
    let d = c.args.disk.now in
    let x = c.args.name.now in
    let room = c.args.room.now in
    let in' = admitted_ok d x c.in_ok-disk.name (sym c.in_ok-disk.ensures.1) in
    let bytes = c.view-view.ensures ∙ c.in_ok-disk.ensures.0 in
    let none = none_from_ok_or c.lookup.result Absent c.in_err-entry.field-0.0 c.in_err-entry.ensures.value in
    subst (λ t. ReadSays (ask_refusal d x) d x room t room) (sym (answer_is _ _ c.from_residual-in_err-entry.ensures.1 ∙ none.1)) (read_absent d x _ _ in' (λ j. (bytes j).now) room (none.0 ∙ c.lookup.ensures.value))

pub returns-in_err-len : goal.returns-in_err-len
returns-in_err-len c =
    let d = c.args.disk.now in
    let x = c.args.name.now in
    let room = c.args.room.now in
    let in' = admitted_ok d x c.in_ok-disk.name (sym c.in_ok-disk.ensures.1) in
    let bytes = c.view-view.ensures ∙ c.in_ok-disk.ensures.0 in
    let some = some_from_ok_or c.lookup.result Absent c.in_ok-entry.entry c.in_ok-entry.ensures.value in
    subst (λ t. ReadSays (ask_refusal d x) d x room t c.copy_file.new.room) (sym (answer_is _ _ c.from_residual-in_err-len.ensures.1))
    (read_copied d x _ _ in' (λ j. (bytes j).now) room c.in_ok-entry.entry (Err c.in_err-len.field-0.0) _ (some ∙ c.lookup.ensures.value) c.in_err-len.ensures)

pub returns : goal.returns
returns c =
    let d = c.args.disk.now in
    let x = c.args.name.now in
    let in' = admitted_ok d x c.in_ok-disk.name (sym c.in_ok-disk.ensures.1) in
    let bytes = c.view-view.ensures ∙ c.in_ok-disk.ensures.0 in
    let some = some_from_ok_or c.lookup.result Absent c.in_ok-entry.entry c.in_ok-entry.ensures.value in
    read_copied d x _ _ in' (λ j. (bytes j).now) c.args.room.now c.in_ok-entry.entry (Ok c.in_ok-len.len) _ (some ∙ c.lookup.ensures.value) c.in_ok-len.ensures
