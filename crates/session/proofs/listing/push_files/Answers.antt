use Rattle.std.proofs.Common.{◌≡◌, ◌<◌, ◌++◌, vec_items, sym, refl, ap, ◌∙◌, append-nil}
use Rattle.layout.specs.Files.{entry_at}
use Rattle.layout.proofs.Searching.{decoded-table}
use Rattle.session.specs.Printed.{file_line, files_from}
use Rattle.session.proofs.Entries.{files_from_used, files_from_unused}
use Rattle.session.proofs.Texts.{put_more, put_all}
use Rattle.session.proofs.listing.push_files.Goals as goal
use Rattle.session.proofs.listing.push_files.Goals.{then-entry+in_ok-push_file_line, else-entry}

pub loop-part-preserved : goal.loop-part-preserved
loop-part-preserved c =
    let d = c.args.disk.bytes.now in
    let i = c.loop-part.part-index in
    let out = vec_items c.loop-part.out in
    let lt : i < 16 = c.loop-part-test.true in
    let same : c.decode-entry.result ≡ entry_at d i = c.decode-entry.ensures.fields ∙ decoded-table d c.table-part-items.result.now i _ c.table-part-items.ensures lt in
    let more = put_more (files_from d) _ out 16 i c.loop-part.invariant (vec_items c.if-entry.out) in
    elim c.if-entry.branch [
      | then-entry+in_ok-push_file_line w ↦
          more _ lt (files_from_used d i _ same w.if-entry.true _) (ap vec_items w.out-is ∙ w.in_ok-push_file_line.ensures ∙ ap (λ n. out ++ file_line _ n) w.from.ensures)
      | else-entry w ↦ more _ lt (files_from_unused d i _ same w.if-entry.false _) (ap vec_items w.out-is ∙ sym (append-nil out))
    ]

pub returns : goal.returns
unfolding files_from
returns c = put_all (files_from c.args.disk.bytes.now) _ _ 16 c.loop-part.part-index c.loop-part.invariant c.loop-part-test.false refl
