-- `journal::Log::item_refusal` meets its contract: an unknown item, the window's, and then every other, by whether there is a window.
-- Assumes nothing.
use mathlib.Core.Path.{◌≡◌, refl}
use Prim.Native.Nat.{ℕ}
use borrow.Author.Tests.{eq-eqb, ne_eqb}
use Rattle.items.specs.declared.Item.{Item}
use Rattle.items.specs.declared.Item.TheVariants.{Window, Set, Frame, Remove, Show, Timed, SetHeat, SetTies, Unknown}
use Rattle.journal.specs.declared.Log.{Log}
use Rattle.journal.specs.Log.{early, item_refusal}
use Rattle.journal.proofs.Log.item_refusal.Goals as goal

-- Every known item but the window's needs a window.
others : (log : Log) (i : Item) → (i ≡ Unknown → ⊥) → ((n : ℕ) → i ≡ Window n → ⊥) → item_refusal log i ≡ early log
unfolding item_refusal
others log Unknown u w = absurd (u refl)
others log (Window n) u w = absurd (w n refl)
others log (Set s) u w = refl
others log (Frame id) u w = refl
others log (Remove slot) u w = refl
others log (Show slot) u w = refl
others log (Timed time id) u w = refl
others log (SetHeat s) u w = refl
others log (SetTies s) u w = refl

pub returns-in-Unknown : goal.returns-in-Unknown
unfolding item_refusal
returns-in-Unknown c = rw c.in-Unknown.is

pub returns-then-rows-eq0 : goal.returns-then-rows-eq0
unfolding item_refusal
returns-then-rows-eq0 c = rw (c.in-Window.is, eq-eqb c.args.self.board.window.counts.size 0 c.if-rows-eq0.true)

pub returns-else-rows-eq0 : goal.returns-else-rows-eq0
unfolding item_refusal
returns-else-rows-eq0 c = rw (c.in-Window.is, ne_eqb c.args.self.board.window.counts.size 0 c.if-rows-eq0.false)

pub returns-then-rows-eq0-2 : goal.returns-then-rows-eq0-2
returns-then-rows-eq0-2 c =
    let needs_window : item_refusal (c.args.self) (c.args.item) ≡ early (c.args.self) = others (c.args.self) (c.args.item) c.in_default.not-Unknown c.in_default.not-Window in
    rw (needs_window, eq-eqb (c.args.self).board.window.counts.size 0 c.if-rows-eq0-2.true)

pub returns-else-rows-eq0-2 : goal.returns-else-rows-eq0-2
returns-else-rows-eq0-2 c =
    let needs_window : item_refusal (c.args.self) (c.args.item) ≡ early (c.args.self) = others (c.args.self) (c.args.item) c.in_default.not-Unknown c.in_default.not-Window in
    rw (needs_window, ne_eqb (c.args.self).board.window.counts.size 0 c.if-rows-eq0-2.false)
