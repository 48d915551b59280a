-- `bench::put_frame` meets its contract: the data stands behind the four bytes of the identifier.
-- Assumes nothing.
use Rattle.bench.proofs.Sending.{put_behind}
use Rattle.bench.proofs.put_frame.Goals as goal

pub returns : goal.returns
returns c =
    let a = c.args in
    put_behind c.args.room.now c.args.at c.args.id c.args.carried.now c.put32.ensures c.put_all.ensures
