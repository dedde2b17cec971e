use Rattle.update.proofs.PuttingLaw.{room_back}
use Rattle.update.proofs.Counted.{room_counted, put_finished, empty_file}
use Rattle.update.proofs.put.put_file.Goals as goal

pub returns : goal.returns
returns c =
    let d = c.args.disk.now in
    let x = c.args.name.now in
    let xs = c.args.content.now in
    record {
      says = c.perform.ensures.says;
      whole = c.perform.ensures.whole;
      few = c.perform.ensures.few;
      back = room_back d x xs;
      room = room_counted d x xs;
      finished = put_finished d x xs c.args.lasts;
      empty = empty_file d x;
    }
