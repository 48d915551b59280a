-- A ledger is fit where its slots are and its senders are, beside its window; so entering comes to the slots' fitness, then what the senders answer, which is 24, 3, 12, 11 or what they are then.
-- Assumes nothing.
use mathlib.Core.Path.{◌≡◌, sym, ap, ◌∙◌}
use mathlib.Core.Bool.{Bool, true, false, ◌&&◌}
use Prim.Native.Nat.{ℕ}
use borrow.Author.Tests.{eqb-true, eq-eqb}
use lib.Dec.{eqb}
use Rattle.laws.proofs.Tests.{Tested, passed, failed, tested, and_true, and_stops, and_no, if_so, if_not}
use Rattle.values.specs.declared.Values.{Values}
use Rattle.board.specs.Work.{enter_work}
use Rattle.board.specs.Calls.{fit_board}
use Rattle.list.specs.Lines.{all_of}
use Rattle.slot.specs.Fitness.{slot_fit}
use Rattle.window.specs.Rows.{fit_window}
use Rattle.std.specs.Prelude.{Result, Ok, Err}
use Rattle.refusal.specs.declared.Refusal.{Refusal}
use Rattle.refusal.specs.declared.Refusal.TheVariants.{Unfit}
use Rattle.refusal.specs.Numbers.{number_of}
use Rattle.refusal.proofs.Answers.{taken_number, taken_is, refused_number, refused_is}
use Rattle.senders.specs.declared.Senders.{Senders}
use Rattle.senders.specs.Rows.{fit_senders}
use Rattle.senders.specs.Calls.{sent_refusal, enter_sent}
use Rattle.senders.proofs.Entering.{fit_parts, sent-number}
use Rattle.ledger.specs.declared.Ledger.{Ledger}
use Rattle.ledger.specs.Calls.{fit_ledger, not_entered, entered_with, enter_call}

-- The slots' fitness, and that of window, senders and tallies.
module _ (g : Ledger) where
  abbrev slots_fit : Bool
  slots_fit = all_of (slot_fit g.board.window) g.board.slots

  abbrev senders-fit : Bool
  senders-fit = fit_senders g.board.window g.senders

  window_too : senders-fit ≡ true → fit_window g.board.window ≡ true
  window_too t = (fit_parts g.board.window g.senders t).window

  -- Senders that are fit stand beside a fit window, so that the slots are left to test.
  pub fit_then : senders-fit ≡ true → fit_ledger g ≡ slots_fit
  unfolding fit_ledger fit_board
  fit_then t = go (tested slots_fit)
    where
      go : Tested slots_fit → (fit_window g.board.window && slots_fit) && senders-fit ≡ slots_fit
      go (passed u) = and_true (and_true (window_too t) u) t ∙ sym u
      go (failed u) = and_stops senders-fit (and_no (fit_window g.board.window) u) ∙ sym u

  pub fit_not : senders-fit ≡ false → fit_ledger g ≡ false
  unfolding fit_ledger
  fit_not t = and_no (fit_board g.board) t

  -- And the other way.
  pub slots_not : slots_fit ≡ false → fit_ledger g ≡ false
  slots_not u = go (tested senders-fit)
    where
      go : Tested senders-fit → fit_ledger g ≡ false
      go (passed t) = fit_then t ∙ u
      go (failed t) = fit_not t

  pub slots_then : slots_fit ≡ true → fit_ledger g ≡ senders-fit
  slots_then u = go (tested senders-fit)
    where
      go : Tested senders-fit → fit_ledger g ≡ senders-fit
      go (passed t) = fit_then t ∙ u ∙ sym t
      go (failed t) = fit_not t ∙ sym t

module _ (g : Ledger) (sender : ℕ) (v : Values) where
  pub enter_unfit : slots_fit g ≡ false → enter_call g sender v ≡ not_entered g 24
  unfolding enter_call
  enter_unfit no-fit = if_not _ _ (slots_not g no-fit)

  module _ (fit : slots_fit g ≡ true) where
    abbrev noted : Result Senders Refusal
    noted = enter_sent g.board.window g.senders sender v

    abbrev refusal : ℕ
    refusal = sent_refusal g.board.window.counts sender v

    same-fit : fit_ledger g ≡ senders-fit g
    same-fit = slots_then g fit

    pub enter-refused : {e : Refusal} → Err e ≡ noted → enter_call g sender v ≡ not_entered g (number_of e)
    unfolding enter_call enter_sent
    enter-refused {e} h = go (tested (fit_senders g.board.window g.senders)) (tested (eqb refusal 0))
      where
        go : Tested (fit_senders g.board.window g.senders) → Tested (eqb refusal 0) → enter_call g sender v ≡ not_entered g (number_of e)
        go (failed t) u =
            let told = h ∙ if_not _ _ t in
            let unfit : e ≡ Unfit = cc in
            if_not _ _ (same-fit ∙ t) ∙ ap (not_entered g) (sym (ap number_of unfit))
        go (passed t) (passed u) = absurd (refused_number refusal _ (h ∙ if_so _ _ t) (eqb-true refusal 0 u))
        go (passed t) (failed u) =
            let told = h ∙ if_so _ _ t in
            let number = ap number_of (refused_is refusal _ told) ∙ sent-number g.board.window.counts sender v (refused_number refusal _ told) in
            if_so _ _ (same-fit ∙ t) ∙ if_not _ _ u ∙ ap (not_entered g) (sym number)

    pub enter-taken : {s : Senders} → Ok s ≡ noted → enter_call g sender v ≡ entered_with (enter_work g.board v) s
    unfolding enter_call enter_sent
    enter-taken {s} h = go (tested (fit_senders g.board.window g.senders))
      where
        go : Tested (fit_senders g.board.window g.senders) → enter_call g sender v ≡ entered_with (enter_work g.board v) s
        go (failed t) = let told = h ∙ if_not _ _ t in cc
        go (passed t) =
            let told = h ∙ if_so _ _ t in
            if_so _ _ (same-fit ∙ t) ∙ if_so _ _ (eq-eqb refusal 0 (taken_number refusal _ told)) ∙ ap (entered_with (enter_work g.board v)) (sym (taken_is refusal _ told))
