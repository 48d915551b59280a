-- `Input::take_and_read` meets its contract: where the line goes on, all that was read is taken, and what is read then comes behind it.
use Rattle.input.proofs.Reading.{turned-whole, turned_more}
use Rattle.input.proofs.Input.take_and_read.Goals as goal

pub returns-then-s : goal.returns-then-s
returns-then-s g c = turned-whole c.args.self c.args.line.now c.args.space.now c.take-s.ensures.0 c.take-s.ensures.1 c.if-s.true

pub returns : goal.returns
returns g c = turned_more c.args.self c.args.line.now c.args.space.now c.take-s.ensures.0 c.read.new.space c.take-s.ensures.1 c.if-s.false c.read.ensures
