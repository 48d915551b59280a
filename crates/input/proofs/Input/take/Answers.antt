-- `Input::take` meets its contract: what was read and not taken is cut at its first line end.
use Rattle.std.proofs.Common.{◌≡◌, ◌∙◌, length, arith}
use lib.Seq.{length-sets}
use Rattle.lines.specs.declared.Run.TheVariants.{Until}
use Rattle.lines.proofs.Words.{run_within}
use Rattle.input.specs.Lines.{first_line, unread}
use Rattle.input.proofs.Cutting.{took}
use Rattle.input.proofs.Input.take.Goals as goal

pub overflow_add-n : goal.overflow_add-n
overflow_add-n c = omega (arith, c.length-n.ensures, run_within (Until 10) c.back-piece.result.now)

-- The piece is what was read and not taken.
piece_so : (c : goal.After-min) → c.back-piece.result.now ≡ unread c.args.self c.args.space.now
unfolding unread
piece_so c = rw (c.back-piece.ensures, c.front.ensures)

pub returns : goal.returns
unfolding first_line
returns c = (
  took (length c.args.line.now) c.args.self c.args.space.now (piece_so c) c.length-n.ensures c.saturating_sub.ensures
      (let same : length c.put_all.new.buf ≡ length c.args.line.now = rw (c.put_all.ensures, length-sets) in omega arith),
  c.put_all.ensures ∙ rw (c.front-2.ensures, c.length-n.ensures, piece_so c),
)
