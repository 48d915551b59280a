-- What is promised of senders and tallies (docs/RULES.md, section 19), read off what is kept.
-- Assumes nothing.
use mathlib.Core.Path.{◌≡◌, refl, sym, ap, ◌∙◌, subst}
use mathlib.Core.Bool.{Bool, true, cond}
use mathlib.Core.List.{List}
use Prim.Native.Nat.{ℕ, ◌+◌, ◌-◌, ◌/◌, ◌≤◌, ◌<◌}
use native.Mathlib.Omega.{arith}
use borrow.Author.Tests.{lt-ltb, eqb-true}
use lib.Dec.{eqb}
use lib.ListN.{length, get_or, length-map}
use lib.Seq.{get_or-drop}
use Rattle.laws.specs.Lists.{◌∈◌}
use Rattle.laws.proofs.Tests.{Tested, passed, failed, tested, and_both, if_so, if_not}
use Rattle.values.specs.declared.Values.{Values}
use Rattle.ranking.specs.declared.Rule.{Rule}
use Rattle.ranking.specs.Standing.{Held, Entry, entry, top}
use Rattle.window.specs.declared.Counts.{Counts}
use Rattle.window.specs.declared.Window.{Window}
use Rattle.window.specs.Rows.{row_of, report_of, oldest, held_reports}
use Rattle.window.specs.History.{latest}
use Rattle.window.proofs.Fitness.{Ranges, Whole, fit_facts}
use Rattle.window.proofs.Reports.{held_in_lem, held_of, held_latest}
use Rattle.window.proofs.History.{Since}
use Rattle.question.specs.declared.Question.{Question}
use Rattle.question.specs.Calls.{holds_number}
use Rattle.question.proofs.Fitness.{holds}
use Rattle.question.proofs.Listed.{holds-is}
use Rattle.slot.specs.Asking.{not_shown}
use Rattle.board.specs.Work as work
use Rattle.board.specs.Work.{with_slot, read_work, enter_refusal, enter_work}
use Rattle.board.specs.Calls.{fit_board}
use Rattle.board.specs.Calls as calls
use Rattle.board.proofs.Kept.{kept}
use Rattle.board.proofs.Reading.{line_of}
use Rattle.board.specs.Reached as board
use Rattle.tally.specs.declared.FromSender.{FromSender}
use Rattle.tally.specs.declared.Tally.{Tally}
use Rattle.tally.specs.Pass.{tally_from}
use Rattle.std.specs.Prelude.{Option, Some, None, Result, Ok}
use Rattle.refusal.specs.declared.Refusal.{Refusal}
use Rattle.senders.specs.Rows.{sent_as, held_sent, no_tally, fit_senders}
use Rattle.senders.specs.Calls.{sent_refusal, entered, told, traced}
use Rattle.senders.proofs.Runs.{sent_at}
use Rattle.senders.proofs.Entering.{Facts, fit_parts, enters}
use Rattle.senders.proofs.Kept.{entered_facts}
use Rattle.senders.proofs.Kept as senders
use Rattle.ledger.specs.declared.Ledger.{Ledger}
use Rattle.ledger.specs.Calls.{Placed}
use Rattle.ledger.specs.Calls.{Removed}
use Rattle.ledger.specs.Calls.{Entered}
use Rattle.ledger.specs.Calls.{fit_ledger, with_board, set_call, remove_call, read_call, not_entered, enter_call, tally_call, report_call}
use Rattle.ledger.specs.Reached.{values_of, Reached}
use Rattle.ledger.proofs.Kept.{kept_fit, kept_ledger, set_window, remove_window, window_after_lem}

-- A held report is answered, or that none is.
abbrev pub found : FromSender → Result (Option FromSender) Refusal
found x = Ok (Some x)

abbrev pub not_held : Result (Option FromSender) Refusal
not_held = Ok None

-- ---- reached ledgers

module _ {n : ℕ} {past : List FromSender} {g : Ledger} (reached : Reached n past g) where
  -- The board is one that the board's calls lead to, with the same values entered: all that is promised of such a board holds.
  pub reached_board : board.Reached n (values_of past) g.board
  reached_board = (kept_ledger reached).board_reached

  -- It is fit exactly where its board is.
  pub reached_fit : fit_ledger g ≡ fit_board g.board
  reached_fit = kept_fit (kept_ledger reached)

  -- The held reports with their senders are the last min(N, entered) of those that were entered.
  pub reached_sent : held_sent g.board.window g.senders.rows ≡ latest n past
  reached_sent = (kept_ledger reached).holds-latest

  -- Every tally is what a fresh pass over the held reports gives.
  pub reached_tallies : (sender : ℕ) → sender < 254 → get_or g.senders.tallies sender no_tally ≡ tally_from (held_sent g.board.window g.senders.rows) sender
  reached_tallies sender there_is = (kept_ledger reached).facts.each-sender sender there_is

-- ---- any fit ledger

module _ (g : Ledger) (fit : fit_ledger g ≡ true) where
  pub fit-senders : fit_senders g.board.window g.senders ≡ true
  unfolding fit_ledger
  fit-senders = (and_both (fit_board g.board) (fit_senders g.board.window g.senders) fit).1

  pub facts : Facts g.board.window g.senders
  facts = fit_parts g.board.window g.senders fit-senders

  -- What each call leaves has the tallies of a fresh pass.
  abbrev Tallied : Ledger → Type 0
  Tallied h = (sender : ℕ) → sender < 254 → get_or h.senders.tallies sender no_tally ≡ tally_from (held_sent h.board.window h.senders.rows) sender

  pub set_tallied : (slot k : ℕ) (rule : Rule) → Tallied (set_call g slot k rule).ledger
  unfolding set_call
  set_tallied slot k rule =
      subst (λ (r : Placed). Tallied r.ledger) (sym (if_so _ _ fit))
      (λ sender h. facts.each-sender sender h ∙ ap (λ (w : Window). tally_from (held_sent w g.senders.rows) sender) (sym (set_window g.board slot k rule)))

  pub remove_tallied : (slot : ℕ) → Tallied (remove_call g slot).ledger
  unfolding remove_call
  remove_tallied slot =
      subst (λ (r : Removed). Tallied r.ledger) (sym (if_so _ _ fit))
      (λ sender h. facts.each-sender sender h ∙ ap (λ (w : Window). tally_from (held_sent w g.senders.rows) sender) (sym (remove_window g.board slot)))

  -- A begun or stepped question that is put back in its slot.
  pub slot_tallied : (slot : ℕ) (q : Question) → Tallied (with_board g (with_slot g.board slot q))
  slot_tallied slot q = facts.each-sender

  -- ---- entering; every window and every row of senders has 1,024 places
  module _ (whole : Whole g.board.window) (all_rows : length g.senders.rows ≡ 1024) (x : FromSender) where
    abbrev w : Window
    w = g.board.window

    abbrev v : Values
    v = x.values

    pub enter_tallied : Tallied (enter_call g x.sender v).ledger
    unfolding enter_call
    enter_tallied = go (tested (eqb (sent_refusal w.counts x.sender v) 0))
      where
        go : Tested (eqb (sent_refusal w.counts x.sender v) 0) → Tallied (enter_call g x.sender v).ledger
        go (failed t) = subst (λ (r : Entered). Tallied r.ledger) (sym (if_so _ _ fit ∙ if_not _ _ t)) facts.each-sender
        go (passed t) =
            let may = eqb-true (sent_refusal w.counts x.sender v) 0 t in
            let e = enters w.counts x.sender v may in
            subst (λ (r : Entered). Tallied r.ledger) (sym (if_so _ _ fit ∙ if_so _ _ t))
            (λ sender h.
            (entered_facts w g.senders facts whole all_rows x.sender v e).each-sender sender h
            ∙ ap (λ (u : Window). tally_from (held_sent u (entered w g.senders x.sender v).rows) sender) (sym (window_after_lem g x may)))

    -- Entering changes the tally of the sender that enters and of the one whose report leaves, and no other's.
    pub others_stay : (k : ℕ) → k < 254 → (x.sender ≡ k → ⊥) → (w.counts.size ≤ w.counts.held → get_or g.senders.rows (row_of w.counts.size (oldest w.counts)) 0 ≡ k → ⊥)
        → get_or (enter_call g x.sender v).ledger.senders.tallies k no_tally ≡ get_or g.senders.tallies k no_tally
    unfolding enter_call
    others_stay k there_is not_new not-gone = go (tested (eqb (sent_refusal w.counts x.sender v) 0))
      where
        go : Tested (eqb (sent_refusal w.counts x.sender v) 0) → get_or (enter_call g x.sender v).ledger.senders.tallies k no_tally ≡ get_or g.senders.tallies k no_tally
        go (failed t) = ap (λ (r : Entered). get_or r.ledger.senders.tallies k no_tally) (if_so _ _ fit ∙ if_not _ _ t)
        go (passed t) =
            ap (λ (r : Entered). get_or r.ledger.senders.tallies k no_tally) (if_so _ _ fit ∙ if_so _ _ t)
            ∙ senders.others_stay w g.senders facts whole all_rows x.sender v (enters w.counts x.sender v (eqb-true (sent_refusal w.counts x.sender v) 0 t)) k there_is not_new not-gone

  -- ---- one held report

  ranges : Ranges g.board.window.counts
  ranges = (fit_facts g.board.window facts.window).ranges

  -- The call answers the held report of that number with the sender that its row keeps,
  pub report_held : (m : ℕ) → report_of g.board.window m ∈ held_reports g.board.window → report_call g m ≡ found (sent_as g.board.window g.senders.rows (report_of g.board.window m))
  unfolding report_call traced
  report_held m k =
      let here = held_latest g.board.window ranges (report_of g.board.window m) k in
      if_so _ _ fit
      ∙ ap (λ (o : Option FromSender). Ok o) (if_so _ _ (holds-is (record { positive = ranges.ring.positive; within = ranges.within; first = omega (arith, here, ranges.ring.were_entered); was_entered = here.1; late = here.0 })))

  -- and that none is held, where no held report has that number.
  pub report_not_held : (m : ℕ) → ((r : Held) → r ∈ held_reports g.board.window → r.number ≡ m → ⊥) → report_call g m ≡ not_held
  unfolding report_call traced
  report_not_held m none = if_so _ _ fit ∙ ap (λ (o : Option FromSender). Ok o) (go (tested (holds_number g.board.window.counts m)))
    where
      go : Tested (holds_number g.board.window.counts m) → traced g.board.window g.senders m ≡ None
      go (failed t) = if_not _ _ t
      go (passed t) =
          let h = holds g.board.window.counts m t in
          absurd (none (report_of g.board.window m) (held_in_lem g.board.window ranges m h.late h.was_entered) refl)

-- ---- reached and fit

-- The number of a list's line is answered with the report that entered so and its sender, and the line is that report's.
pub record TracedTo (past : List FromSender) (d : FromSender) (g : Ledger) (rule : Rule) (e : Entry) : Type 0 where
  pub answered : report_call g (e.name / 4097) ≡ found (get_or past (e.name / 4097 - 1) d)
  pub its_line : entry rule (record { number = e.name / 4097; values = (get_or past (e.name / 4097 - 1) d).values }) ≡ e

-- On a reached ledger that is fit:
module _ {n : ℕ} {past : List FromSender} {g : Ledger} (reached : Reached n past g) (fit : fit_ledger g ≡ true) where
  -- a sender's tally is answered as a fresh pass over the last of those entered gives it,
  pub tally_answered : (sender : ℕ) → sender < 254 → tally_call g sender ≡ Ok (tally_from (latest n past) sender)
  unfolding tally_call told
  tally_answered sender there_is =
      if_so _ _ fit
      ∙ if_so _ _ (lt-ltb sender 254 there_is)
      ∙ ap (λ (t : Tally). Ok t) (reached_tallies reached sender there_is ∙ ap (λ (l : List FromSender). tally_from l sender) (reached_sent reached))

  ranges_here : Ranges g.board.window.counts
  ranges_here = ranges g fit

  since : Since n (values_of past) g.board.window
  since = (kept (reached_board reached)).since

  -- The held report of number m entered as the m-th.
  as_entered : (m : ℕ) (d : FromSender) → g.board.window.counts.entered < m + g.board.window.counts.held → m ≤ g.board.window.counts.entered
      → sent_as g.board.window g.senders.rows (report_of g.board.window m) ≡ get_or past (m - 1) d
  as_entered m d late entered_by =
      let c = g.board.window.counts in
      let i : oldest c + (m - oldest c) ≡ m = omega (arith, ranges_here.ring.were_entered) in
      let at : length past - n + (m - oldest c) ≡ m - 1 = omega (arith, since.all-entered, since.as_many_held, length-map past (λ (x : FromSender). x.values), ranges_here.ring.were_entered) in
      ap (λ j. sent_as g.board.window g.senders.rows (report_of g.board.window j)) (sym i)
      ∙ sym (sent_at g.board.window g.senders.rows (m - oldest c) d (omega (arith, ranges_here.ring.were_entered)))
      ∙ ap (λ (l : List FromSender). get_or l (m - oldest c) d) (reached_sent reached)
      ∙ get_or-drop (length past - n) past (m - oldest c) d
      ∙ ap (λ j. get_or past j d) at

  -- a held number m with the report that entered as the m-th, and its sender,
  pub report-entered : (m : ℕ) (d : FromSender) → g.board.window.counts.entered < m + g.board.window.counts.held → m ≤ g.board.window.counts.entered → report_call g m ≡ found (get_or past (m - 1) d)
  report-entered m d late entered_by = report_held g fit m (held_in_lem g.board.window ranges_here m late entered_by) ∙ ap found (as_entered m d late entered_by)

  -- and so the number of every line that a list has.
  pub listed-traced : (rule : Rule) (k : ℕ) {e : Entry} → e ∈ top rule k (held_reports g.board.window) → (d : FromSender) → TracedTo past d g rule e
  listed-traced rule k {e} listed d =
      let line = line_of (reached_board reached) rule k listed in
      let here = held_of g.board.window ranges_here line.held in
      let number : e.name / 4097 ≡ here.0 = line.number ∙ ap (λ (r : Held). r.number) here.3 in
      record {
        answered = ap (report_call g) number ∙ report-entered here.0 d here.1 here.2 ∙ ap (λ m. found (get_or past (m - 1) d)) (sym number);
        its_line =
            ap (λ m. entry rule (record { number = m; values = (get_or past (m - 1) d).values })) number
            ∙ ap (λ (x : FromSender). entry rule (record { number = here.0; values = x.values })) (sym (as_entered here.0 d here.1 here.2))
            ∙ ap (entry rule) (sym here.3)
            ∙ line.stands_so;
      }

-- ---- the board's answers

-- What entering answers, by the ledger and by its board alone.
pub record SameEntry (r : Entered) (e : work.Entered) : Type 0 where
  pub refusal : r.refusal ≡ e.refusal
  pub number : r.number ≡ e.number
  pub searched : r.searched ≡ e.searched
  pub steps : r.steps ≡ e.steps
  pub board : r.ledger.board ≡ e.board

-- On a reached ledger each call answers what it answers of the board, entering with a sender that there is, and leaves that board: so what is promised of the board's searches, lists and steps is promised of the ledger's calls.
module _ {n : ℕ} {past : List FromSender} {g : Ledger} (reached : Reached n past g) where
  fit_as : {b : Bool} → fit_board g.board ≡ b → fit_ledger g ≡ b
  fit_as e = reached_fit reached ∙ e

  pub set_as_board : (slot k : ℕ) (rule : Rule)
      → set_call g slot k rule ≡ record { refusal = (calls.set_call g.board slot k rule).refusal; steps = (calls.set_call g.board slot k rule).steps; ledger = with_board g (calls.set_call g.board slot k rule).board }
  unfolding set_call calls.set_call
  set_as_board slot k rule = go (tested (fit_board g.board))
    where
      P : work.Placed → Type 0
      P p = set_call g slot k rule ≡ record { refusal = p.refusal; steps = p.steps; ledger = with_board g p.board }

      go : Tested (fit_board g.board) → P (calls.set_call g.board slot k rule)
      go (passed t) = subst P (sym (if_so _ _ t)) (if_so _ _ (fit_as t))
      go (failed t) = subst P (sym (if_not _ _ t)) (if_not _ _ (fit_as t))

  pub remove_as_board : (slot : ℕ)
      → remove_call g slot ≡ record { refusal = (calls.remove_call g.board slot).refusal; ledger = with_board g (calls.remove_call g.board slot).board }
  unfolding remove_call calls.remove_call
  remove_as_board slot = go (tested (fit_board g.board))
    where
      P : work.Removed → Type 0
      P p = remove_call g slot ≡ record { refusal = p.refusal; ledger = with_board g p.board }

      go : Tested (fit_board g.board) → P (calls.remove_call g.board slot)
      go (passed t) = subst P (sym (if_so _ _ t)) (if_so _ _ (fit_as t))
      go (failed t) = subst P (sym (if_not _ _ t)) (if_not _ _ (fit_as t))

  pub read_as_board : (slot : ℕ) → read_call g slot ≡ calls.read_call g.board slot
  unfolding read_call calls.read_call
  read_as_board slot = ap (λ (b : Bool). cond b (read_work g.board slot) (not_shown 24)) (reached_fit reached)

  pub enter_as_board : (sender : ℕ) → sender < 254 → (v : Values) → SameEntry (enter_call g sender v) (calls.enter_call g.board v)
  unfolding enter_call calls.enter_call sent_refusal enter_work
  enter_as_board sender there_is v = go (tested (fit_board g.board)) (tested (eqb (enter_refusal c v) 0))
    where
      c : Counts
      c = g.board.window.counts

      same : sent_refusal g.board.window.counts sender v ≡ enter_refusal g.board.window.counts v
      same = if_so _ _ (lt-ltb sender 254 there_is)

      both : {r r' : Entered} {e e' : work.Entered} → r ≡ r' → e ≡ e' → SameEntry r' e' → SameEntry r e
      both {r' = r'} {e} p q s = subst (λ (x : Entered). SameEntry x e) (sym p) (subst (SameEntry r') (sym q) s)

      go : Tested (fit_board g.board) → Tested (eqb (enter_refusal g.board.window.counts v) 0) → SameEntry (enter_call g sender v) (calls.enter_call g.board v)
      go (failed t) u = both (if_not _ _ (fit_as t)) (if_not _ _ t) (record { refusal = refl; number = refl; searched = refl; steps = refl; board = refl })
      go (passed t) (passed u) = both (if_so _ _ (fit_as t) ∙ if_so _ _ (ap (λ m. eqb m 0) same ∙ u)) (if_so _ _ t) (record { refusal = refl; number = refl; searched = refl; steps = refl; board = refl })
      go (passed t) (failed u) =
          both (if_so _ _ (fit_as t) ∙ if_not _ _ (ap (λ m. eqb m 0) same ∙ u) ∙ ap (not_entered g) same) (if_so _ _ t ∙ if_not _ _ u) (record { refusal = refl; number = refl; searched = refl; steps = refl; board = refl })
