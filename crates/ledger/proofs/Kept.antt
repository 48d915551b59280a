-- What holds of every reached ledger: its board is a reached one, with the same values entered; senders and tallies are fit beside it; and the held reports with their senders are the last
-- of those entered. Each call keeps it.
-- Assumes nothing.
use mathlib.Core.Path.{◌≡◌, refl, sym, ap, ap₂, ◌∙◌, subst}
use mathlib.Core.Bool.{true, cond, ◌&&◌}
use mathlib.Core.List.{List, [], ◌∷◌, ◌++◌}
use Prim.Native.Nat.{ℕ, min, ◌+◌, ◌-◌, ◌≤◌, ◌<◌}
use native.Mathlib.Omega.{arith}
use borrow.Author.Tests.{eqb-true, eq-eqb, lt-ltb, ltb-true, ltb-false}
use lib.Dec.{ltb, eqb}
use lib.ListN.{length, get_or, drop, replicate, length-set, length-replicate, get_or-replicate, length-append, length-map}
use lib.Seq.{drop-append-le, drop-drop, drop-nil}
use Rattle.laws.proofs.Tests.{Tested, passed, failed, tested, and_after, if_so, if_not}
use Rattle.laws.proofs.Lists.{map-append}
use Rattle.values.specs.declared.Values.{Values}
use Rattle.ranking.specs.declared.Rule.{Rule}
use Rattle.window.specs.declared.Window.{Window}
use Rattle.window.specs.Rows.{number_in, added}
use Rattle.window.specs.History.{latest}
use Rattle.window.proofs.Fitness.{fit_facts}
use Rattle.window.proofs.History.{Since}
use Rattle.question.specs.Calls.{step_call, begin_call}
use Rattle.board.specs.declared.Board.{Board}
use Rattle.board.specs.Work as work
use Rattle.board.specs.Work.{slot_at, with_slot, fresh_board, set_work, remove_work, enter_refusal, enter_work}
use Rattle.board.specs.Calls.{fit_board}
use Rattle.board.specs.Calls as calls
use Rattle.board.specs.Reached as board
use Rattle.board.proofs.Known.{set_known, remove_known, enter_known}
use Rattle.board.proofs.Seats.{set_nowhere, set_there, remove_nowhere, remove_there}
use Rattle.board.proofs.Refusals.{enter-refusal}
use Rattle.board.proofs.Kept.{kept}
use Rattle.tally.specs.declared.FromSender.{FromSender}
use Rattle.tally.specs.Pass.{tally_from}
use Rattle.senders.specs.Rows.{held_sent, no_tally, fit_senders}
use Rattle.senders.specs.Calls.{sent_refusal, entered}
use Rattle.senders.proofs.Runs.{sent_many, sent-added}
use Rattle.senders.proofs.Entering.{Facts, fit_from, Enters, enters}
use Rattle.senders.proofs.Kept.{entered_facts}
use Rattle.ledger.specs.declared.Ledger.{Ledger}
use Rattle.ledger.specs.Calls.{Placed}
use Rattle.ledger.specs.Calls.{Removed}
use Rattle.ledger.specs.Calls.{Entered}
use Rattle.ledger.specs.Calls.{fit_ledger, with_board, fresh_ledger, set_call, remove_call, entered_with, enter_call}
use Rattle.ledger.specs.Reached.{past_after, values_of, Reached, fresh, remove, enter, begin, step}
use Rattle.ledger.specs.Reached as reach

pub record Kept (n : ℕ) (past : List FromSender) (g : Ledger) : Type 0 where
  pub board_reached : board.Reached n (values_of past) g.board
  pub facts : Facts g.board.window g.senders
  pub all_rows : length g.senders.rows ≡ 1024
  pub holds-latest : held_sent g.board.window g.senders.rows ≡ latest n past

-- Only the board can make a reached ledger unfit.
pub kept_fit : {n : ℕ} {past : List FromSender} {g : Ledger} → Kept n past g → fit_ledger g ≡ fit_board g.board
unfolding fit_ledger
kept_fit {g = g} k = go (tested (fit_board g.board))
  where
    go : Tested (fit_board g.board) → fit_board g.board && fit_senders g.board.window g.senders ≡ fit_board g.board
    go (passed t) = and_after _ t ∙ fit_from g.board.window g.senders k.facts ∙ sym t
    go (failed t) = rw t

-- ---- lists

latest-end : {A : Type 0} (n : ℕ) (l : List A) (x : A) → 1 ≤ n → latest n (l ++ (x ∷ [])) ≡ drop (min n (length l) + 1 - n) (latest n l) ++ (x ∷ [])
latest-end n l x positive =
    let count : length (l ++ (x ∷ [])) - n ≡ length l - n + (min n (length l) + 1 - n) = omega (arith, length-append l (x ∷ [])) in
    ap (λ m. drop m (l ++ (x ∷ []))) count
    ∙ drop-append-le (length l - n + (min n (length l) + 1 - n)) l (x ∷ []) (omega arith)
    ∙ ap (λ m. m ++ (x ∷ [])) (sym (drop-drop (min n (length l) + 1 - n) (length l - n) l))

-- ---- calls that leave the window

-- A board with the same window, reached from the old one.
kept_board : {n : ℕ} {past : List FromSender} (g : Ledger) → Kept n past g → (b : Board) → b.window ≡ g.board.window → board.Reached n (values_of past) b → Kept n past (with_board g b)
kept_board {n} {past} g k b same r =
    record {
      board_reached = r;
      facts = subst (λ (w : Window). Facts w g.senders) (sym same) k.facts;
      all_rows = k.all_rows;
      holds-latest = ap (λ (w : Window). held_sent w g.senders.rows) same ∙ k.holds-latest;
    }

pub set_window : (b : Board) (slot m : ℕ) (rule : Rule) → (set_work b slot m rule).board.window ≡ b.window
set_window b slot m rule = go (tested (ltb slot 32))
  where
    go : Tested (ltb slot 32) → (set_work b slot m rule).board.window ≡ b.window
    go (passed t) = ap (λ (r : work.Placed). r.board.window) (set_there b slot m rule (ltb-true slot 32 t))
    go (failed t) = ap (λ (r : work.Placed). r.board.window) (set_nowhere b slot m rule (ltb-false slot 32 t))

pub remove_window : (b : Board) (slot : ℕ) → (remove_work b slot).board.window ≡ b.window
remove_window b slot = go (tested (ltb slot 32))
  where
    go : Tested (ltb slot 32) → (remove_work b slot).board.window ≡ b.window
    go (passed t) = ap (λ (r : work.Removed). r.board.window) (remove_there b slot (ltb-true slot 32 t))
    go (failed t) = ap (λ (r : work.Removed). r.board.window) (remove_nowhere b slot (ltb-false slot 32 t))

-- The board after an entry that nothing refuses.
module _ (g : Ledger) (x : FromSender) (may : sent_refusal g.board.window.counts x.sender x.values ≡ 0) where
  no_more : enter_refusal g.board.window.counts x.values ≡ 0
  unfolding sent_refusal
  no_more = sym (if_so _ _ (lt-ltb x.sender 254 (enters g.board.window.counts x.sender x.values may).there_is)) ∙ may

  pub not_refused : (enter_work g.board x.values).refusal ≡ 0
  not_refused = enter-refusal g.board x.values ∙ no_more

  pub window_after_lem : (enter_work g.board x.values).board.window ≡ added g.board.window x.values
  unfolding enter_work
  window_after_lem = ap (λ (r : work.Entered). r.board.window) (if_so _ _ (eq-eqb (enter_refusal g.board.window.counts x.values) 0 no_more))

module _ {n : ℕ} {past : List FromSender} (g : Ledger) (k : Kept n past g) where
  pub kept_set : (slot m : ℕ) (rule : Rule) → Kept n past (set_call g slot m rule).ledger
  unfolding set_call
  kept_set slot m rule = go (tested (fit_ledger g))
    where
      go : Tested (fit_ledger g) → Kept n past (set_call g slot m rule).ledger
      go (failed t) = subst (λ (r : Placed). Kept n past r.ledger) (sym (if_not _ _ t)) k
      go (passed t) =
          subst (λ (r : Placed). Kept n past r.ledger) (sym (if_so _ _ t))
          (kept_board g k (set_work g.board slot m rule).board (set_window g.board slot m rule)
          (subst (λ (r : work.Placed). board.Reached n (values_of past) r.board) (set_known g.board (sym (kept_fit k) ∙ t) slot m rule) (board.set k.board_reached slot m rule)))

  pub kept_remove : (slot : ℕ) → Kept n past (remove_call g slot).ledger
  unfolding remove_call
  kept_remove slot = go (tested (fit_ledger g))
    where
      go : Tested (fit_ledger g) → Kept n past (remove_call g slot).ledger
      go (failed t) = subst (λ (r : Removed). Kept n past r.ledger) (sym (if_not _ _ t)) k
      go (passed t) =
          subst (λ (r : Removed). Kept n past r.ledger) (sym (if_so _ _ t))
          (kept_board g k (remove_work g.board slot).board (remove_window g.board slot)
          (subst (λ (r : work.Removed). board.Reached n (values_of past) r.board) (remove_known g.board (sym (kept_fit k) ∙ t) slot) (board.remove k.board_reached slot)))

  -- Entering, where nothing refuses it.
  module _ (x : FromSender) (fit : fit_ledger g ≡ true) (may : sent_refusal g.board.window.counts x.sender x.values ≡ 0) where
    abbrev w : Window
    w = g.board.window

    abbrev v : Values
    v = x.values

    e : Enters w.counts x.sender v
    e = enters w.counts x.sender v may

    reached_after : board.Reached n (values_of (past ++ (x ∷ []))) (enter_work g.board v).board
    reached_after =
        let known = enter_known g.board (sym (kept_fit k) ∙ fit) v in
        let refusal = ap (λ (r : work.Entered). r.refusal) known ∙ not_refused g x may in
        subst (λ (r : work.Entered). board.Reached n (values_of (past ++ (x ∷ []))) r.board) known
        (subst (λ (l : List Values). board.Reached n l enter_call'.board)
        (if_so _ _ (eq-eqb enter_call'.refusal 0 refusal) ∙ sym (map-append (λ (y : FromSender). y.values) past (x ∷ [])))
        (board.enter k.board_reached v))
      where
        enter_call' : work.Entered
        enter_call' = calls.enter_call g.board v

    since_here : Since n (values_of past) w
    since_here = (kept k.board_reached).since

    pub kept_entered : Kept n (past ++ (x ∷ [])) (entered_with (enter_work g.board v) (entered w g.senders x.sender v)).ledger
    unfolding entered
    kept_entered =
        record {
          board_reached = reached_after;
          facts = subst (λ (u : Window). Facts u (entered w g.senders x.sender v)) (sym (window_after_lem g x may)) (entered_facts w g.senders k.facts since_here.whole k.all_rows x.sender v e);
          all_rows = rows_after;
          holds-latest = ap (λ (u : Window). held_sent u (entered w g.senders x.sender v).rows) (window_after_lem g x may) ∙ held_after;
        }
      where
        rows_after : length (entered w g.senders x.sender v).rows ≡ 1024
        rows_after = length-set g.senders.rows _ x.sender ∙ k.all_rows

        held_after : held_sent (added w v) (entered w g.senders x.sender v).rows ≡ latest n (past ++ (x ∷ []))
        held_after =
            sent-added w g.senders.rows x.sender v k.facts.window since_here.whole k.all_rows e.may.permitted e.may.room
            ∙ ap₂ (λ (m : ℕ) (l : List FromSender). drop m l ++ (x ∷ [])) gone_is k.holds-latest
            ∙ sym (latest-end n past x (omega (arith, (fit_facts w k.facts.window).ranges.ring.positive, since_here.of_size)))
          where
            gone_is : w.counts.held + 1 - w.counts.size ≡ min n (length past) + 1 - n
            gone_is = omega (arith, since_here.of_size, since_here.as_many_held, length-map past (λ (y : FromSender). y.values))

  pub kept_enter : (x : FromSender) → Kept n (past_after past x (enter_call g x.sender x.values).refusal) (enter_call g x.sender x.values).ledger
  unfolding enter_call
  kept_enter x = go (tested (fit_ledger g)) (tested (eqb (sent_refusal g.board.window.counts x.sender x.values) 0))
    where
      P : Entered → Type 0
      P r = Kept n (past_after past x r.refusal) r.ledger

      go : Tested (fit_ledger g) → Tested (eqb (sent_refusal g.board.window.counts x.sender x.values) 0) → Kept n (past_after past x (enter_call g x.sender x.values).refusal) (enter_call g x.sender x.values).ledger
      go (failed f) t = subst P (sym (if_not _ _ f)) k
      go (passed f) (failed t) = subst P (sym (if_so _ _ f ∙ if_not _ _ t)) (subst (λ l. Kept n l g) (sym (if_not _ _ t)) k)
      go (passed f) (passed t) =
          let may = eqb-true (sent_refusal g.board.window.counts x.sender x.values) 0 t in
          subst P (sym (if_so _ _ f ∙ if_so _ _ t))
          (subst (λ l. Kept n l (entered_with (enter_work g.board x.values) (entered g.board.window g.senders x.sender x.values)).ledger)
          (sym (if_so _ _ (eq-eqb (enter_work g.board x.values).refusal 0 (not_refused g x may))))
          (kept_entered x f may))

-- ---- every reached ledger

none_held : (w : Window) (rows : List ℕ) → w.counts.held ≡ 0 → held_sent w rows ≡ []
none_held w rows none = empty (held_sent w rows) (sent_many w rows ∙ none)
  where
    empty : (l : List FromSender) → length l ≡ 0 → l ≡ []
    empty [] e = refl
    empty (x ∷ l) e = absurd (omega arith)

kept_fresh : (n : ℕ) → (fresh_ledger n).refusal ≡ 0 → Kept n [] (fresh_ledger n).ledger
unfolding fresh_ledger
kept_fresh n e =
    let r = board.fresh e in
    let since = (kept r).since in
    let none : held_sent (fresh_board n).board.window (replicate 1024 0) ≡ [] = none_held (fresh_board n).board.window (replicate 1024 0) (omega (arith, since.as_many_held)) in
    record {
      board_reached = r;
      facts = record {
        window = since.fit;
        each_row = λ row below. zero_row (number_in (fresh_board n).board.window row) row below;
        each-sender = λ s below. get_or-replicate 254 s no_tally no_tally below ∙ sym (ap (λ (l : List FromSender). tally_from l s) none);
      };
      all_rows = length-replicate {A = ℕ} 1024 0;
      holds-latest = none ∙ sym (drop-nil (0 - n));
    }
  where
    zero_row : (m row : ℕ) → row < 1024 → cond (eqb m 0) (eqb (get_or (replicate 1024 0) row 0) 0) (ltb (get_or (replicate 1024 0) row 0) 254) ≡ true
    zero_row m row below = ap (λ s. cond (eqb m 0) (eqb s 0) (ltb s 254)) (get_or-replicate 1024 row 0 0 below) ∙ go (tested (eqb m 0))
      where
        go : Tested (eqb m 0) → cond (eqb m 0) true true ≡ true
        go (passed t) = if_so _ _ t
        go (failed t) = if_not _ _ t

pub kept_ledger : {n : ℕ} {past : List FromSender} {g : Ledger} → Reached n past g → Kept n past g
kept_ledger {n} (fresh e) = kept_fresh n e
kept_ledger (reach.set {g} r slot m rule) = kept_set g (kept_ledger r) slot m rule
kept_ledger (remove {g} r slot) = kept_remove g (kept_ledger r) slot
kept_ledger (enter {g} r x) = kept_enter g (kept_ledger r) x
kept_ledger (begin {g} r slot h) =
    let k = kept_ledger r in
    kept_board g k (with_slot g.board slot (begin_call g.board.window (slot_at g.board slot)).question) refl (board.begin k.board_reached slot h)
kept_ledger (step {g} r slot h) =
    let k = kept_ledger r in
    kept_board g k (with_slot g.board slot (step_call g.board.window (slot_at g.board slot)).question) refl (board.step k.board_reached slot h)
