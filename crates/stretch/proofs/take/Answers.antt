-- The sessions stand in the bytes that they were put in, and are read off them again.
-- Assumes nothing.
use mathlib.Core.Path.{◌≡◌, ap, ◌∙◌}
use mathlib.Core.List.{List}
use Prim.Native.Nat.{ℕ}
use lib.ListN.{length}
use lib.Seq.{sets}
use Rattle.text.specs.Text.{behind}
use Rattle.joining.specs.declared.Session.{Session}
use Rattle.bus.specs.Room.{sessions_in}
use Rattle.journal.specs.declared.Log.{Log}
use Rattle.times.specs.declared.Times.{Times}
use Rattle.stretch.specs.declared.Standing.{Standing}
use Rattle.stretch.specs.Doing.{did_all, Does}
use Rattle.stretch.specs.Inner.{log_in, Runs}
use Rattle.stretch.proofs.take.Goals as goal

abbrev from : Log → ℕ → Standing
from log at = record { items = log.items; board = log.board; taken = 0; at = at }

-- What `run` does with the sessions in bytes is what is done to the log.
does : (log : Log) (bus bytes room : List ℕ) (at : ℕ) {r : Standing} (bus₁ : List ℕ) {times : Times} {left : List ℕ} {standing : List Session} → sessions_in bus ≡ log.sessions
    → Runs (from log at) (log_in (from log at) bus log.times) bytes room r (log_in r bus₁ times) left → standing ≡ sessions_in bus₁
    → Does log bytes room at (record { log = record { items = r.items; board = r.board; sessions = standing; times = times }; taken = r.taken; at = r.at }) left
does log bus bytes room at {r} bus₁ {times} e d f =
    let same : record { items = log.items; board = log.board; sessions = sessions_in bus; times = log.times } ≡ log = λ j. record { items = log.items; board = log.board; sessions = e j; times = log.times } in
    record {
      leaves = (λ j. record { items = r.items; board = r.board; sessions = f j; times = times }) ∙ d.leaves ∙ ap (λ (l : Log). (did_all (length room) at l bytes).log) same;
      taken = d.taken ∙ ap (λ (l : Log). (did_all (length room) at l bytes).next) same;
      place = d.place ∙ ap (λ (l : Log). behind at (did_all (length room) at l bytes).text) same;
      stored = d.stored ∙ ap (λ (l : Log). sets room at (did_all (length room) at l bytes).text) same;
    }

pub returns : goal.returns
returns c =
    let a = c.args in
    does c.args.log c.fill.new.room c.args.bytes.now c.args.out.now c.args.at c.run-run.new.bus c.fill.ensures.room_after_2.0 c.run-run.ensures c.read-standing.ensures
