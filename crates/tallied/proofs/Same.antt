-- The text is the same: beside every log stands a ledger with the same board, reached by the public calls and fit, so that each call answers what the board's work does; an item's refusals, steps
-- and lists are those.
-- Assumes nothing.
use mathlib.Core.Path.{◌≡◌, refl, sym, ap, ap₂, ◌∙◌, subst}
use mathlib.Core.Logic.{◌⊎◌, inl, inr}
use mathlib.Core.Bool.{true}
use mathlib.Core.List.{List, [], ◌++◌, append_assoc}
use Prim.Native.Nat.{ℕ, zero, suc, ◌+◌, ◌<◌}
use native.Mathlib.Omega.{arith}
use borrow.Author.Tests.{eqb-true, eqb-false, eq-eqb, lt-ltb, ltb-true}
use lib.Dec.{ltb, eqb}
use lib.ListN.{length, take, drop}
use Rattle.laws.proofs.Tests.{Tested, passed, failed, tested, if_so, if_not}
use Rattle.wire.specs.Bytes.{part, field_at}
use Rattle.wire.specs.declared.Field.{Field}
use Rattle.std.proofs.Common.{Option, Some, None}
use Rattle.values.specs.declared.Values.{Values}
use Rattle.ranking.specs.declared.Rule.{Rule}
use Rattle.items.specs.declared.Setting.{Setting}
use Rattle.items.specs.declared.Item.{Item}
use Rattle.items.specs.declared.Item.TheVariants.{Window, Set, Remove, Show, SetHeat, SetTies, Unknown}
use Rattle.items.specs.declared.Item.TheVariants as kind
use Rattle.items.specs.Items.{data_of, item_in}
use Rattle.joining.specs.Answers.{Answer}
use Rattle.std.specs.Prelude.{Ok, Err}
use Rattle.times.specs.Run.{Timed, sender, stations_after, timed_answer, timed_at, untimed_at}
use Rattle.text.specs.Text.{s_line, q_line, entries_of}
use Rattle.slot.specs.Asking.{Shown}
use Rattle.board.specs.declared.Board.{Board}
use Rattle.board.specs.Work as Entered-of
use Rattle.board.specs.Work.{fresh_board, set_work, remove_work, read_work, enter_work}
use Rattle.board.specs.Calls.{fit_board}
use Rattle.board.proofs.Refusals.{enter-refusal}
use Rattle.tally.specs.declared.FromSender.{FromSender}
use Rattle.senders.specs.Calls.{sent_refusal, entered}
use Rattle.ledger.specs.declared.Ledger.{Ledger}
use Rattle.ledger.specs.Calls.{Placed}
use Rattle.ledger.specs.Calls.{Removed}
use Rattle.ledger.specs.Calls.{Entered}
use Rattle.ledger.specs.Calls.{fit_ledger, fresh_ledger, set_call, remove_call, read_call, not_entered, entered_with, enter_call}
use Rattle.ledger.specs.Calls as calls
use Rattle.ledger.specs.Reached as ledger
use Rattle.ledger.proofs.Promises.{reached_fit}
use Rattle.journal.specs.declared.Log.{Log}
use Rattle.journal.specs.Log.{Outcome, Consumed, fresh_log, with_item, stations_of, with_board, with_stations, no_text, early, item_refusal, window_item, setting_rule, set_item, remove_item, show_item, s_lines, enter_item, answer_item, frame_item, by_item, item_done, first_then, consumed_up_to, consumed, ending, text_from, log_text}
use Rattle.journal.specs.Log as log-of
use Rattle.journal.proofs.Own.{Own, Boarded, none, window, fresh_own, item_does, no_window}
use Rattle.tallied.specs.Text.{Spoken, silent, unless, window_said, set_said, remove_said, show_said, enter_said, answer_said, frame_said, said_by, item_said, first_said, said_up_to, tallied_text}

none_yet : (fresh_ledger 0).ledger.board.window.counts.size ≡ 0
unfolding fresh_ledger
none_yet = no_window

-- A ledger that the calls lead to, or none yet.
abbrev Made : Ledger → Type 0
Made g = (g ≡ (fresh_ledger 0).ledger) ⊎ ((n : ℕ) × (past : List FromSender) × ledger.Reached n past g)

-- What an item says is what it prints, and the ledger stays beside the log.
record Matches (o : Outcome) (s : Spoken) : Type 0 where
  same_text : s.text ≡ o.text
  same_board : o.log.board ≡ s.ledger.board
  made : Made s.ledger

module _ (log : Log) (g : Ledger) (m : Made g) where
  -- the log with the ledger's board
  abbrev l : Log
  l = with_board log g.board

  -- of an answer that is refused or not
  either_way : (r : ℕ) (o : Outcome) (s : Spoken) → (r ≡ 0 → Matches o s) → Matches (log-of.unless l r o) (unless log.items g r s)
  unfolding log-of.unless unless
  either_way r o s done = go (tested (eqb r 0))
    where
      go : Tested (eqb r 0) → Matches (log-of.unless l r o) (unless log.items g r s)
      go (passed t) = rw t (done (eqb-true r 0 t))
      go (failed t) = rw t (record { same_text = refl; same_board = refl; made = m })

  window_matches : (n : ℕ) → Matches (window_item l n) (window_said log.items g n)
  unfolding window_item window_said fresh_ledger
  window_matches n =
      either_way (fresh_board n).refusal (no_text (with_board l (fresh_board n).board)) (silent (fresh_ledger n).ledger)
      (λ e. record { same_text = refl; same_board = refl; made = inr (n, [], ledger.fresh e) })

  -- ---- calls on a ledger that was reached and is fit
  module _ {n : ℕ} {past : List FromSender} (r : ledger.Reached n past g) (fit : fit_ledger g ≡ true) where
    set_is : (slot k : ℕ) (rule : Rule) → set_call g slot k rule ≡ record { refusal = (set_work g.board slot k rule).refusal; steps = (set_work g.board slot k rule).steps; ledger = calls.with_board g (set_work g.board slot k rule).board }
    unfolding set_call
    set_is slot k rule = if_so _ _ fit

    set_matches : (s : Setting) → Matches (set_item l s) (set_said log.items g s)
    unfolding set_item set_said
    set_matches s =
        let is = set_is s.slot s.k (setting_rule s) in
        let work = set_work g.board s.slot s.k (setting_rule s) in
        subst (λ (p : Placed). Matches (set_item l s) (unless log.items g p.refusal (record { text = s_line log.items s.slot p.steps; ledger = p.ledger }))) (sym is)
        (either_way work.refusal (record { text = s_line log.items s.slot work.steps; log = with_board l work.board })
        (record { text = s_line log.items s.slot work.steps; ledger = calls.with_board g work.board })
        (λ e. record { same_text = refl; same_board = refl; made = subst (λ (p : Placed). Made p.ledger) is (inr (n, past, ledger.set r s.slot s.k (setting_rule s))) }))

    remove-is : (slot : ℕ) → remove_call g slot ≡ record { refusal = (remove_work g.board slot).refusal; ledger = calls.with_board g (remove_work g.board slot).board }
    unfolding remove_call
    remove-is slot = if_so _ _ fit

    remove_matches : (slot : ℕ) → Matches (remove_item l slot) (remove_said log.items g slot)
    unfolding remove_item remove_said
    remove_matches slot =
        let is = remove-is slot in
        let work = remove_work g.board slot in
        subst (λ (p : Removed). Matches (remove_item l slot) (unless log.items g p.refusal (silent p.ledger))) (sym is)
        (either_way work.refusal (no_text (with_board l work.board)) (silent (calls.with_board g work.board))
        (λ e. record { same_text = refl; same_board = refl; made = subst (λ (p : Removed). Made p.ledger) is (inr (n, past, ledger.remove r slot)) }))

    show_matches : (slot : ℕ) → Matches (show_item l slot) (show_said log.items g slot)
    unfolding show_item show_said read_call
    show_matches slot =
        let shown = read_work g.board slot in
        subst (λ (p : Shown). Matches (show_item l slot) (unless log.items g p.refusal (record { text = q_line slot (take p.len (entries_of p.numbers p.scores)); ledger = g }))) (sym (if_so _ _ fit))
        (either_way shown.refusal (record { text = q_line slot (take shown.len (entries_of shown.numbers shown.scores)); log = l })
        (record { text = q_line slot (take shown.len (entries_of shown.numbers shown.scores)); ledger = g })
        (λ e. record { same_text = refl; same_board = refl; made = m }))

    -- ---- entering

    module _ (sender : ℕ) (there_is : sender < 254) (v : Values) where
      abbrev done : Entered-of.Entered
      done = enter_work g.board v

      same-refusal : sent_refusal g.board.window.counts sender v ≡ done.refusal
      unfolding sent_refusal
      same-refusal = if_so _ _ (lt-ltb sender 254 there_is) ∙ sym (enter-refusal g.board v)

      enter_matches : Matches (enter_item l v) (enter_said log.items g sender v)
      unfolding enter_item enter_said enter_call
      enter_matches = go (tested (eqb (sent_refusal g.board.window.counts sender v) 0))
        where
          P : Entered → Type 0
          P p = Matches (enter_item l v) (unless log.items g p.refusal (record { text = s_lines log.items 0 p.searched p.steps; ledger = p.ledger }))

          next : Ledger
          next = (entered_with done (entered g.board.window g.senders sender v)).ledger

          go : Tested (eqb (sent_refusal g.board.window.counts sender v) 0) → Matches (enter_item l v) (enter_said log.items g sender v)
          go (passed t) =
              let is = if_so _ _ fit ∙ if_so _ _ t in
              subst P (sym is)
              (either_way done.refusal (record { text = s_lines log.items 0 done.searched done.steps; log = with_board l done.board })
              (record { text = s_lines log.items 0 done.searched done.steps; ledger = next })
              (λ e. record { same_text = refl; same_board = refl; made = subst (λ (p : Entered). Made p.ledger) is (inr (n, ledger.past_after past (record { sender = sender; values = v }) (enter_call g sender v).refusal, ledger.enter r (record { sender = sender; values = v }))) }))
          go (failed t) =
              subst P (sym (if_so _ _ fit ∙ if_not _ _ t))
              (subst (λ (c : ℕ). Matches (enter_item l v) (unless log.items g c (record { text = s_lines log.items 0 (not_entered g c).searched (not_entered g c).steps; ledger = g }))) (sym same-refusal)
              (either_way done.refusal (record { text = s_lines log.items 0 done.searched done.steps; log = with_board l done.board }) _
              (λ e. absurd (eqb-false (sent_refusal g.board.window.counts sender v) 0 t (same-refusal ∙ e)))))

module _ (log : Log) (g : Ledger) (m : Made g) {n : ℕ} {past : List FromSender} (r : ledger.Reached n past g) (fit : fit_ledger g ≡ true) (f : Timed) where
  -- the log with the ledger's board, once its sender's session has taken the frame
  abbrev heard : Log
  heard = with_stations (with_board log g.board) (stations_after (stations_of log) f)

  answer_matches : sender f < 254 → (a : Answer) → Matches (answer_item heard a) (answer_said log.items g (sender f) a)
  answer_matches there_is (Err c) = record { same_text = refl; same_board = refl; made = m }
  answer_matches there_is (Ok None) = record { same_text = refl; same_board = refl; made = m }
  answer_matches there_is (Ok (Some p)) = enter_matches (with_stations log (stations_after (stations_of log) f)) g m r fit (sender f) there_is p.values

  frame_matches : Matches (frame_item (with_board log g.board) f) (frame_said log.items g (stations_of log) f)
  unfolding frame_item frame_said
  frame_matches = go (tested (ltb (sender f) 254))
    where
      go : Tested (ltb (sender f) 254) → Matches (answer_item heard (timed_answer (stations_of log) f)) (answer_said log.items g (sender f) (timed_answer (stations_of log) f))
      go (passed t) = answer_matches (ltb-true (sender f) 254 t) (timed_answer (stations_of log) f)
      go (failed t) =
          subst (λ (a : Answer). Matches (answer_item heard a) (answer_said log.items g (sender f) a)) (sym (if_not _ _ t))
          (record { same_text = refl; same_board = refl; made = m })

-- ---- items

-- A ledger beside a log that has a window was reached, and is fit.
record Fit (g : Ledger) : Type 0 where
  n : ℕ
  past : List FromSender
  reached : ledger.Reached n past g
  fit : fit_ledger g ≡ true

module _ {fs : List Timed} (log : Log) (own : Own fs log) (g : Ledger) (same : log.board ≡ g.board) (m : Made g) where
  -- it is so once there is a window
  fit_of : (g.board.window.counts.size ≡ 0 → ⊥) → Fit g
  fit_of there = go m own.board_is
    where
      go : Made g → Boarded fs log.board → Fit g
      go (inl e) k = absurd (there (ap (λ (h : Ledger). h.board.window.counts.size) e ∙ none_yet))
      go (inr x) (none first e) = absurd (there (ap (λ (b : Board). b.window.counts.size) (sym same ∙ e) ∙ no_window))
      go (inr x) (window r f p) = record { n = x.0; past = x.1; reached = x.2; fit = reached_fit x.2 ∙ ap fit_board (sym same) ∙ f }

  abbrev next : Log
  next = with_item (with_board log g.board)

  there_is : early next ≡ 0 → g.board.window.counts.size ≡ 0 → ⊥
  there_is e z = not_23 (sym (if_so _ _ (eq-eqb g.board.window.counts.size 0 z)) ∙ e)
    where
      not_23 : ◌≡◌ {A = ℕ} 23 0 → ⊥
      not_23 e = omega arith

  by_matches : (i : Item) (ds : List ℕ) → item_refusal next i ≡ 0 → Matches (by_item next i ds) (said_by next.items g (stations_of next) i ds)
  unfolding by_item said_by item_refusal
  by_matches (Window n) ds e = window_matches (with_item log) g m n
  by_matches (Set s) ds e = let k = fit_of (there_is e) in set_matches (with_item log) g m k.reached k.fit s
  by_matches (kind.Frame id) ds e = let k = fit_of (there_is e) in frame_matches (with_item log) g m k.reached k.fit (untimed_at id ds)
  by_matches (Remove slot) ds e = let k = fit_of (there_is e) in remove_matches (with_item log) g m k.reached k.fit slot
  by_matches (Show slot) ds e = let k = fit_of (there_is e) in show_matches (with_item log) g m k.reached k.fit slot
  by_matches (kind.Timed time id) ds e = let k = fit_of (there_is e) in frame_matches (with_item log) g m k.reached k.fit (timed_at time id ds)
  by_matches (SetHeat s) ds e = let k = fit_of (there_is e) in set_matches (with_item log) g m k.reached k.fit s
  by_matches (SetTies s) ds e = let k = fit_of (there_is e) in set_matches (with_item log) g m k.reached k.fit s
  by_matches Unknown ds e = record { same_text = refl; same_board = refl; made = m }

  -- What any item says beside a log is what it prints.
  item_matches : (tag : ℕ) (v : List ℕ) → Matches (item_done log tag v) (item_said log g tag v)
  unfolding item_done item_said
  item_matches tag v =
      subst (λ (b : Board). Matches (item_done (with_board log b) tag v) (item_said log g tag v)) (sym same)
      (either_way (with_item log) g m (item_refusal next (item_in tag v)) (by_item next (item_in tag v) (data_of (item_in tag v) v)) (said_by next.items g (stations_of next) (item_in tag v) (data_of (item_in tag v) v))
      (by_matches (item_in tag v) (data_of (item_in tag v) v)))

-- ---- whole logs

abbrev whole : Consumed → List ℕ
whole c = c.text ++ ending c.log c.rest

said_same : (n : ℕ) {fs : List Timed} (log : Log) → Own fs log → (g : Ledger) → log.board ≡ g.board → Made g → (bs : List ℕ) → said_up_to n log g bs ≡ whole (consumed_up_to n log bs)
unfolding said_up_to consumed_up_to
said_same zero log own g same m bs = refl
said_same (suc n) {fs} log own g same m bs = go (field_at bs 0) (λ tag v k r. said_same n (item_done log tag v).log (item_does fs log own tag v).own (item_said log g tag v).ledger k.same_board k.made r)
  where
    go : (x : Option Field)
        → ((tag : ℕ) (v : List ℕ) → Matches (item_done log tag v) (item_said log g tag v) → (r : List ℕ) → said_up_to n (item_done log tag v).log (item_said log g tag v).ledger r ≡ whole (consumed_up_to n (item_done log tag v).log r))
        → first_said log g bs (λ l h r. said_up_to n l h r) x ≡ whole (first_then log bs (λ l r. consumed_up_to n l r) x)
    go (Some f) others =
        let tag = f.tag in
        let v = part f.start f.size bs in
        let k = item_matches log own g same m tag v in
        ap₂ (λ (a b : List ℕ). a ++ b) k.same_text
        (ap (λ (b : Board). said_up_to n (item_done (with_board log b) tag v).log (item_said log g tag v).ledger (drop (f.start + f.size) bs)) (sym same) ∙ others tag v k (drop (f.start + f.size) bs))
        ∙ sym (append_assoc (item_done log tag v).text _ _)
    go None others = refl

-- Rule 19.7: the text of every log is what the calls that keep senders and tallies lead to.
pub text_same : (bs : List ℕ) → tallied_text bs ≡ log_text bs
unfolding tallied_text log_text text_from consumed fresh_log fresh_ledger
text_same bs = said_same (length bs) fresh_log fresh_own (fresh_ledger 0).ledger refl (inl refl) bs
