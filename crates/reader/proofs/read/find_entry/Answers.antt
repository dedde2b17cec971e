use Rattle.std.proofs.Common.{◌≡◌, Some, None, sym, ◌∙◌}
use Rattle.layout.specs.Files.{found}
use Rattle.fsck.proofs.Deciding.{sound_to_rules}
use Rattle.fsck.proofs.Contents.{sound_entry}
use Rattle.update.proofs.Admission.{admitted_ok, found_place, found_nowhere}
use Rattle.reader.proofs.Reading.{entry_refused, entry_absent, entry_there, admitted_pair, nothing_found, part_found}
use Rattle.reader.proofs.read.find_entry.Goals as goal

pub returns-in_err-disk : goal.returns-in_err-disk
returns-in_err-disk c = nothing_found c.args.disk c.args.name.now _ c.from_residual.ensures (entry_refused _ _ c.admit.result _ c.admit.ensures c.in_err-disk.ensures.value)

pub returns-in_err-i : goal.returns-in_err-i
returns-in_err-i c =
    let d = c.args.disk.now in
    let x = c.args.name.now in
    let told = admitted_pair c.admit.result _ _ _ c.admit.ensures c.in_ok-disk.ensures.value in
    let in' = admitted_ok d x c.in_ok-disk.name (sym told.1) in
    let bytes = c.view-view.ensures ∙ told.0 in
    let none : None ≡ found d x = c.in_err-i.ensures.value ∙ (λ j. found (bytes j).now (in'.name j).bytes) in
    nothing_found c.args.disk x _ c.from_residual-in_err-i.ensures (entry_absent d x (found_nowhere d x in'.sound_disk none))

pub returns : goal.returns
returns c =
    let d = c.args.disk.now in
    let x = c.args.name.now in
    let told = admitted_pair c.admit.result _ _ _ c.admit.ensures c.in_ok-disk.ensures.value in
    let in' = admitted_ok d x c.in_ok-disk.name (sym told.1) in
    let bytes = c.view-view.ensures ∙ told.0 in
    let some : Some c.in_ok-i.i ≡ found d x = c.in_ok-i.ensures.value ∙ (λ j. found (bytes j).now (in'.name j).bytes) in
    let place = found_place d x c.in_ok-i.i some in
    part_found c.args.disk x _ c.in_ok-i.i _ bytes place.0 (sound_entry d 16 _ (sound_to_rules d in'.sound_disk) place.1) (entry_there d x c.in_ok-disk.name in' place.1) c.entry_bytes.ensures
