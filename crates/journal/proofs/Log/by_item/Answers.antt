-- `journal::Log::by_item` meets its contract: each item has its function.
-- Assumes nothing.
use mathlib.Core.Path.{◌≡◌, refl, sym, ap}
use mathlib.Core.List.{List}
use mathlib.Core.Logic.{⊎_elim}
use Prim.Native.Nat.{ℕ}
use Rattle.items.specs.declared.Item.{Item}
use Rattle.journal.specs.declared.Log.{Log}
use Rattle.journal.specs.Log.{Stores, by_item}
use Rattle.journal.proofs.Calls.{outcome_is, silent}
use borrow.Author.Rules.{rules}
use Rattle.journal.proofs.Log.by_item.Goals as goal

-- What the item says is what is done.
said : (self : Log) (item : Item) (bytes out : List ℕ) (at : ℕ) {i : Item} {left : List ℕ} {next : ℕ} {log : Log} → item ≡ i → Stores (by_item self i bytes) out at log next left → Stores (by_item self item bytes) out at log next left
said self item bytes out at is s = outcome_is (ap (λ (x : Item). by_item self x bytes) (sym is)) s

pub returns-in-Window : goal.returns-in-Window
unfolding by_item
returns-in-Window c = said c.args.self c.args.item c.args.data.now c.args.out.now c.args.at c.in-Window.is c.window_item.ensures

pub returns-in-Frame : goal.returns-in-Frame
unfolding by_item
returns-in-Frame c = said c.args.self c.args.item c.args.data.now c.args.out.now c.args.at c.in-Frame.is c.frame_item.ensures

pub returns-in-Remove : goal.returns-in-Remove
unfolding by_item
returns-in-Remove c = said c.args.self c.args.item c.args.data.now c.args.out.now c.args.at c.in-Remove.is c.remove_item.ensures

pub returns-in-Show : goal.returns-in-Show
unfolding by_item
returns-in-Show c = said c.args.self c.args.item c.args.data.now c.args.out.now c.args.at c.in-Show.is c.show_item.ensures

pub returns-in-Timed : goal.returns-in-Timed
unfolding by_item
returns-in-Timed c = said c.args.self c.args.item c.args.data.now c.args.out.now c.args.at c.in-Timed.is c.timed_item.ensures

pub returns-in-Unknown : goal.returns-in-Unknown
unfolding by_item
returns-in-Unknown c = said c.args.self c.args.item c.args.data.now c.args.out.now c.args.at c.in-Unknown.is (silent c.args.out.now c.args.at c.args.self (search rules) refl)

pub returns-in-Set : goal.returns-in-Set
unfolding by_item
returns-in-Set c =
    let a = c.args in
    ⊎_elim (λ e. said a.self a.item a.data.now a.out.now a.at e c.set_item.ensures)
    (⊎_elim (λ e. said a.self a.item a.data.now a.out.now a.at e c.set_item.ensures) (λ e. said a.self a.item a.data.now a.out.now a.at e c.set_item.ensures))
    c.in-Set.is
