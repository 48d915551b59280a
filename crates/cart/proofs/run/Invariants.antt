-- `run` ends, as its turns are counted. All that was read is what was taken and what is left of the last read; the text of what was taken was handed over, turn by turn.
use Rattle.std.proofs.Common.{◌-◌, ◌≤◌, take, drop}
use Rattle.cart.specs.Turns.{Running}
use Rattle.cart.proofs.run.Given as goal

abbrev pub invariant-loop : goal.invariant-loop
invariant-loop g l =
    record {
      within : l.at ≤ l.n;
      small : l.n ≤ 65536;
      running : Running (g.R.Read.remaining l.initial.input) (g.R.Read.remaining l.input) (g.W.Write.contents l.initial.out) (g.W.Write.contents l.out)
          l.log l.waiting (take (l.n - l.at) (drop l.at l.space));
    }
