-- What is promised of every reached board, read off what is kept: it is fit but for questions in the middle of their search (demand 2's states), every finished question has the
-- best k of the held reports, and the searches that setting, entering and single steps run are exact (demand 3).
-- Assumes nothing.
use mathlib.Core.Path.{◌≡◌, refl, sym, ap, ◌∙◌, subst}
use mathlib.Core.Logic.{◌⊎◌, inl, inr, ⊎_elim, ◌↔◌}
use mathlib.Core.Bool.{true, false, ◌&&◌, ◌||◌}
use mathlib.Core.List.{List, [], ◌∷◌, map}
use Prim.Native.Nat.{ℕ, zero, suc, ◌≤◌, ◌<◌}
use native.Mathlib.Omega.{arith}
use lib.ListN.{length, get_or}
use lib.Seq.{get_or-set_same}
use Rattle.laws.specs.Lists.{◌∈◌}
use Rattle.ranking.specs.Standing.{Held, Entry, above, entries, top}
use Rattle.values.specs.declared.Values.{Values}
use Rattle.ranking.specs.declared.Rule.{Rule}
use Rattle.laws.proofs.Tests.{clash, and_both, and_true, or_right, if_so}
use Rattle.laws.proofs.Lists.{index_of, get_d_in}
use Rattle.search.proofs.Best.{length_best_le}
use Rattle.ranking.proofs.Entries.{above_strict}
use Rattle.window.specs.Rows.{held_reports, fit_window, added}
use Rattle.window.specs.History.{numbered, latest}
use Rattle.question.specs.declared.Question.{Question}
use Rattle.question.specs.Lines.{lines, empty_slot, steps_taken, finished, in_rows}
use Rattle.list.specs.Lines.{all_of}
use Rattle.question.specs.Calls.{fit_question, step_call}
use Rattle.question.proofs.Stored.{lines-asked}
use Rattle.list.proofs.Blank.{all_in, all-is}
use Rattle.slot.specs.Turn.{Turned}
use Rattle.slot.specs.Asking.{set_in, emptied}
use Rattle.slot.specs.Turn.{listed, number_named, lists}
use Rattle.slot.specs.Fitness.{is_empty, slot_fit}
use Rattle.slot.specs.Gauges.{no_question}
use Rattle.slot.proofs.Standing.{Stands, Slot, stands, searches, stands_fit, searches_fit, searches_on, empty-is, empty-waits, not_searching}
use Rattle.slot.proofs.Standing as state
use Rattle.slot.proofs.Setting.{emptied-fresh}
use Rattle.slot.proofs.Turns.{lists_when, turn_when, empty_stays}
pub use Rattle.slot.proofs.Exact.{Exactly}
use Rattle.slot.proofs.Exact as one
use Rattle.board.specs.Work.{slot_at, outgoing, new_report, turned, enter_refusal, enter_work}
use Rattle.board.specs.Calls.{fit_board, set_call, remove_call, enter_call}
use Rattle.board.specs.Reached.{Reached}
use Rattle.board.specs.declared.Board.{Board}
use Rattle.board.specs.Work.{Placed}
use Rattle.board.specs.Work.{Removed}
use Rattle.board.specs.Work.{Entered}
use Rattle.board.proofs.Refusals.{zero_is, enterable}
use Rattle.board.proofs.Seats.{set_there, settable, remove_there, removable}
use Rattle.board.proofs.Known.{set_known, remove_known}
use Rattle.board.proofs.Entry.{next-fit, names-oldest}
use Rattle.board.proofs.Kept.{Kept, kept, slot_of}

-- ---- fit

module _ {n : ℕ} {past : List Values} {b : Board} (reached : Reached n past b) where
  k : Kept n past b
  k = kept reached

  -- The window is fit.
  pub reached_window : fit_window b.window ≡ true
  reached_window = k.since.fit

  -- Each slot is empty, or its question is fit.
  pub reached_question : (slot : ℕ) → slot < 32 → (slot_at b slot ≡ empty_slot) ⊎ (fit_question b.window (slot_at b slot) ≡ true)
  reached_question slot h = go (slot_of b k slot h)
    where
      go : Slot b.window (slot_at b slot) → (slot_at b slot ≡ empty_slot) ⊎ (fit_question b.window (slot_at b slot) ≡ true)
      go (state.empty e) = inl e
      go (stands s) = inr (stands_fit b.window reached_window (slot_at b slot) s)
      go (searches s) = inr (searches_fit b.window reached_window (slot_at b slot) s)

  -- Only a question whose search hasn't ended makes a reached board unfit (rule 7.9): where there is none, the board is fit.
  pub reached_fit : ((slot : ℕ) → slot < 32 → (slot_at b slot ≡ empty_slot) ⊎ (finished (slot_at b slot) ≡ true)) → fit_board b ≡ true
  unfolding fit_board slot_fit
  reached_fit rest = and_true reached_window (all-is (slot_fit b.window) b.slots each)
    where
      used : (q : Question) → Slot b.window q → finished q ≡ true → slot_fit b.window q ≡ true
      used q (state.empty e) f = clash f (ap finished e ∙ empty-waits)
      used q (stands s) f = or_right (is_empty q) (fit_question b.window q && finished q) (and_true (stands_fit b.window reached_window q s) f)
      used q (searches s) f = clash f (searches_on b.window reached_window q s)

      each : (q : Question) → q ∈ b.slots → slot_fit b.window q ≡ true
      each q m =
          let r = index_of no_question b.slots m in
          let at : get_or b.slots r.0 no_question ≡ q = r.2 in
          let below : r.0 < 32 = omega (arith, r.1, k.many) in
          ⊎_elim
          (λ e. ap (λ p. is_empty p || fit_question b.window p && finished p) (sym at ∙ e) ∙ ap (λ t. t || fit_question b.window empty_slot && finished empty_slot) empty-is)
          (λ f. used q (k.each q m) (ap finished (sym at) ∙ f))
          (rest r.0 below)

  -- ---- demand 2

  -- The held reports are the last min(N, entered) of those entered, with the values that they were entered with.
  pub reached_holds : held_reports b.window ≡ latest n (numbered 1 past)
  reached_holds = k.since.holds-latest

  -- Every question whose search is finished has as its list the best k of the held reports that count.
  pub demand_2 : (slot : ℕ) → slot < 32 → finished (slot_at b slot) ≡ true
      → lines (slot_at b slot) ≡ top (slot_at b slot).rule (slot_at b slot).k (held_reports b.window)
  demand_2 slot h f = go (slot_at b slot) f (slot_of b k slot h)
    where
      go : (q : Question) → finished q ≡ true → Slot b.window q → lines q ≡ top q.rule q.k (held_reports b.window)
      go q f (state.empty e) = clash f (ap finished e ∙ empty-waits)
      go q f (searches s) = clash f (searches_on b.window reached_window q s)
      go q f (stands s) =
          subst (λ p. lines p ≡ top p.rule p.k (held_reports b.window)) (sym s.is)
          (lines-asked s.k s.rule (top s.rule s.k (held_reports b.window)) s.next (omega (arith, s.asks.small, length_best_le (above s.rule) (above_strict s.rule) s.k (entries s.rule (held_reports b.window)))))

-- ---- demand 3

-- Stepping: where a step is not refused and leaves the question finished, the search that was begun is exact, and the question tells its steps. (A question that was finished before has
-- the marks of its last search, and its step is refused.)
pub step_exact : {n : ℕ} {past : List Values} {b : Board} → Reached n past b → (slot : ℕ) → slot < 32
    → (step_call b.window (slot_at b slot)).refusal ≡ 0
    → finished (step_call b.window (slot_at b slot)).question ≡ true
    → Exactly b.window (slot_at b slot).k (slot_at b slot).rule (steps_taken (step_call b.window (slot_at b slot)).question) (step_call b.window (slot_at b slot)).question
step_exact {b = b} reached slot h t done = one.step_exact b.window (reached_window reached) (slot_at b slot) (slot_of b (kept reached) slot h) t done

-- Of a reached board that is fit, and a call that is not refused:
module _ {n : ℕ} {past : List Values} {b : Board} (reached : Reached n past b) (fit : fit_board b ≡ true) where
  many : length b.slots ≡ 32
  many = (kept reached).many

  -- Setting: the question is searched over the held reports, and the steps are answered.
  pub set_exact : (slot k : ℕ) (rule : Rule) → (set_call b slot k rule).refusal ≡ 0
      → Exactly b.window k rule (set_call b slot k rule).steps (slot_at (set_call b slot k rule).board slot)
  set_exact slot k rule t =
      let known = set_known b fit slot k rule in
      let may = settable b slot k rule (sym (ap (λ (r : Placed). r.refusal) known) ∙ t) in
      let seated = set_in (slot_at b slot) k rule (in_rows b.window) in
      subst (λ (r : Placed). Exactly b.window k rule r.steps (slot_at r.board slot)) (sym (known ∙ set_there b slot k rule may.there))
      (subst (Exactly b.window k rule seated.steps) (sym (get_or-set_same b.slots slot seated.question no_question (omega (arith, many, may.there))))
      (one.set_exact b.window (reached_window reached) (slot_at b slot) k rule may.taken))

  -- Rule 6.6: a removed slot is a fresh one.
  pub remove-fresh : (slot : ℕ) → (remove_call b slot).refusal ≡ 0 → slot_at (remove_call b slot).board slot ≡ empty_slot
  remove-fresh slot t =
      let known = remove_known b fit slot in
      let may = removable b slot (sym (ap (λ (r : Removed). r.refusal) known) ∙ t) in
      ap (λ (r : Removed). slot_at r.board slot) (known ∙ remove_there b slot may.0)
      ∙ get_or-set_same b.slots slot (emptied (slot_at b slot)) no_question (omega (arith, many, may.0))
      ∙ emptied-fresh (slot_at b slot) may.1

-- ---- entering

get_d_at : {A B : Type 0} (f : A → B) (l : List A) (i : ℕ) (d : A) (e : B) → i < length l → get_or (map f l) i e ≡ f (get_or l i d)
get_d_at f [] i d e h = absurd (omega arith)
get_d_at f (x ∷ l) zero d e h = refl
get_d_at f (x ∷ l) (suc i) d e h = get_d_at f l i d e (omega arith)

module _ {n : ℕ} {past : List Values} {b : Board} (reached : Reached n past b) (fit : fit_board b ≡ true) (v : Values) (taken : enter_refusal b.window.counts v ≡ 0) (slot : ℕ) (there_is : slot < 32) where
  -- What the call answers of a slot: its turn.
  pub record Answers (r : Entered) : Type 0 where
    pub set_of_searched : get_or r.searched slot false ≡ (turned b.window v (slot_at b slot)).searched
    pub steps_of : get_or r.steps slot 0 ≡ (turned b.window v (slot_at b slot)).steps
    pub left_as : slot_at r.board slot ≡ (turned b.window v (slot_at b slot)).question

  pub enter-answers : Answers (enter_call b v)
  unfolding enter_call enter_work
  enter-answers =
      let inside : slot < length b.slots = omega (arith, (kept reached).many) in
      subst Answers (sym (if_so _ _ fit ∙ zero_is _ _ taken))
      (record {
        set_of_searched = get_d_at (λ q. (turned b.window v q).searched) b.slots slot no_question false inside;
        steps_of = get_d_at (λ q. (turned b.window v q).steps) b.slots slot no_question 0 inside;
        left_as = get_d_at (λ q. (turned b.window v q).question) b.slots slot no_question no_question inside;
      })

  abbrev new : Held
  new = new_report b.window v

  -- What stands in the slot: nothing that is searched, or a question with its true list.
  slot_now : ((turned b.window v (slot_at b slot)).searched ≡ true → ⊥) ⊎ Stands (held_reports b.window) (slot_at b slot)
  unfolding fit_board
  slot_now = go (slot_of b (kept reached) slot there_is)
    where
      fits : slot_fit b.window (slot_at b slot) ≡ true
      fits =
          all_in (slot_fit b.window) b.slots (and_both (fit_window b.window) (all_of (slot_fit b.window) b.slots) fit).1 (slot_at b slot)
          (get_d_in no_question b.slots slot (omega (arith, (kept reached).many)))

      go : Slot b.window (slot_at b slot) → ((turned b.window v (slot_at b slot)).searched ≡ true → ⊥) ⊎ Stands (held_reports b.window) (slot_at b slot)
      go (state.empty e) =
          inl (λ t. clash t (ap (λ q. (turned b.window v q).searched) e ∙ ap (λ (r : Turned). r.searched) (empty_stays new (outgoing b.window) (in_rows (added b.window v)))))
      go (stands s) = inr s
      go (searches s) = absurd (not_searching b.window (reached_window reached) (slot_at b slot) fits s)

  -- Searched exactly when the report that leaves is on its list after the addition.
  pub enter_searches : get_or (enter_call b v).searched slot false ≡ true ↔ ((outgoing b.window ≡ 0 → ⊥) × ((e : Entry) × (e ∈ lines (listed (slot_at b slot) new)) × (number_named e ≡ outgoing b.window)))
  enter_searches = (to, from)
    where
      is : get_or (enter_call b v).searched slot false ≡ lists (listed (slot_at b slot) new) (outgoing b.window)
      is = enter-answers.set_of_searched ∙ turn_when (slot_at b slot) new (outgoing b.window) (in_rows (added b.window v))

      to : get_or (enter_call b v).searched slot false ≡ true → (outgoing b.window ≡ 0 → ⊥) × ((e : Entry) × (e ∈ lines (listed (slot_at b slot) new)) × (number_named e ≡ outgoing b.window))
      to t =
          let may = enterable b.window.counts v taken in
          ⊎_elim (λ no. absurd (no (sym enter-answers.set_of_searched ∙ t)))
          (λ s. (names-oldest b.window (reached_window reached) (kept reached).since.whole v may.permitted may.room (slot_at b slot) s).0 (sym is ∙ t))
          slot_now

      from : (outgoing b.window ≡ 0 → ⊥) × ((e : Entry) × (e ∈ lines (listed (slot_at b slot) new)) × (number_named e ≡ outgoing b.window)) → get_or (enter_call b v).searched slot false ≡ true
      from r = is ∙ (lists_when (listed (slot_at b slot) new) (outgoing b.window)).1 (r.1.0, r.1.1, omega (arith, r.1.2))

  -- The search that entering runs is exact, over the reports held after it.
  pub enter_exact : get_or (enter_call b v).searched slot false ≡ true
      → Exactly (added b.window v) (slot_at b slot).k (slot_at b slot).rule (get_or (enter_call b v).steps slot 0) (slot_at (enter_call b v).board slot)
  enter_exact t =
      let a = enter-answers in
      let again = sym a.set_of_searched ∙ t in
      let may = enterable b.window.counts v taken in
      let after = added b.window v in
      let fit-after = next-fit b.window (reached_window reached) (kept reached).since.whole v may.permitted may.room in
      let range : (1 ≤ (slot_at b slot).k) × ((slot_at b slot).k ≤ 16) = ⊎_elim (λ no. absurd (no again)) (λ s. subst (λ q. (1 ≤ q.k) × (q.k ≤ 16)) (sym s.is) (s.asks.positive, s.asks.small)) slot_now in
      let e = one.turn_exact after fit-after (slot_at b slot) new (outgoing b.window) range.0 range.1 again in
      subst (λ m. Exactly after (slot_at b slot).k (slot_at b slot).rule m (slot_at (enter_call b v).board slot)) (sym a.steps_of)
      (subst (Exactly after (slot_at b slot).k (slot_at b slot).rule (turned b.window v (slot_at b slot)).steps) (sym a.left_as) e)
