-- `dump::shown` meets its contract: the identifier, # and the data are stored one behind the other.
-- Assumes nothing.
use Rattle.std.proofs.Common.{arith}
use Rattle.std.proofs.lemmas.Grind.{common_steps}
use Rattle.dump.specs.Dump.{text_of, shown_in, frame_of}
use Rattle.dump.proofs.Texts.{stored}
use Rattle.dump.proofs.shown.Goals as goal

pub returns-clause-room_after : goal.returns-clause-room_after
unfolding shown_in frame_of
returns-clause-room_after c =
    let all = stored c.args.room.now c.word-id.result.now (text_of c.of.result c.fields-f.result.now) c.put_all.ensures c.put.ensures c.put-n.ensures.room_after in
    grind (arith, common_steps, all)
