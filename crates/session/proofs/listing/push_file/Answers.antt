use Rattle.std.proofs.Common.{◌≡◌, ◌++◌, length, replicate, vec_items, refl, ap, ◌∙◌, subst, rules}
use Rattle.std.specs.List.{between}
use Rattle.update.specs.Answers.{ask_refusal}
use Rattle.update.specs.declared.answer.Done.TheVariants.{Read}
use Rattle.reader.specs.Answered.{ReadSays}
use Rattle.console.specs.Shown.{shown_bytes}
use Rattle.session.specs.Printed.{file_line}
use Rattle.session.proofs.Named.{file_shown, no_file_shown}
use Rattle.session.proofs.Texts.{behind}
use Rattle.session.proofs.listing.push_file.Goals as goal

pub returns-in_ok-push_bytes-in-Read : goal.returns-in_ok-push_bytes-in-Read
returns-in_ok-push_bytes-in-Read c =
    let x = c.args.name.now.bytes in
    let was = vec_items c.args.out.now in
    let len = c.in-Read.len in
    let room = c.read_file-answer.new.room in
    let eleven : length x ≡ 11 = search rules in
    let says = subst (λ d. ReadSays (ask_refusal d x) d x (replicate 1024 0) (Read len) room) (λ j. (c.bytes.ensures j).now) c.in-Read.ensures in
    let shown = file_shown c.args.disk.bytes.now x (replicate 1024 0) room c.args.disk.sound eleven refl len says in
    record {
      text = c.in_ok-push_bytes-in-Read.ensures.text ∙ behind was (file_line x len) (shown_bytes (between 0 len room)) c.in_ok-push_file_line-in-Read.ensures ∙ ap (λ t. was ++ t) shown.text;
      answer = shown.answer;
    }

pub returns-in_ok-extend_from_slice-in_default : goal.returns-in_ok-extend_from_slice-in_default
returns-in_ok-extend_from_slice-in_default c =
    let x = c.args.name.now.bytes in
    let r = c.read_file-answer.result in
    let room = c.read_file-answer.new.room in
    let eleven : length x ≡ 11 = search rules in
    let says = subst (λ d. ReadSays (ask_refusal d x) d x (replicate 1024 0) r room) (λ j. (c.bytes.ensures j).now) c.read_file-answer.ensures in
    let shown = no_file_shown c.args.disk.bytes.now x (replicate 1024 0) room c.args.disk.sound eleven refl r c.in_default.not-Read says in
    record {
      text = c.in_ok-extend_from_slice-in_default.ensures.items ∙ ap (λ t. vec_items c.args.out.now ++ t) shown.text;
      answer = shown.answer;
    }
