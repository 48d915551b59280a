-- P9 to P11, P16, P21 and P22 through the calls, and what others of their kind are worked by (`third_says`). What an entry answers of a slot is said by what was entered before, so that each example is a short computation over two reports.
-- Assumes nothing.
use mathlib.Core.Path.{◌≡◌, refl, sym, ap, ◌∙◌, subst}
use mathlib.Core.Logic.{inl}
use mathlib.Core.Bool.{Bool, true, false, not, cond}
use mathlib.Core.List.{List, [], ◌∷◌, ◌++◌}
use Prim.Native.Nat.{ℕ, zero, suc, ◌+◌, min, ◌≤◌, ◌<◌}
use native.Mathlib.Omega.{arith}
use lib.IntN.{pos}
use lib.ListN.{length, get_or, replicate, length-map, get_or-replicate}
use lib.Seq.{get_or-set_same, get_or-set_other, ext_get_or}
use Rattle.ranking.specs.Cells.{rule_of, rule_within, whole_range, weights_fit, ranges_proper, ties_known, counts, sum, score, cell, cell_counts, best_score, before, visiting}
use Rattle.search.specs.Search.{steps}
use Rattle.ranking.specs.Standing.{Held, Entry, goes_first, above, entries, top, search_of}
use Rattle.values.specs.declared.Values.{Values}
use Rattle.values.specs.declared.Edition.TheVariants.{First, Second}
use Rattle.values.specs.Range.{in_range}
use Rattle.values.specs.Names.{named}
use Rattle.ranking.specs.declared.Rule.{Rule}
use Rattle.laws.specs.Whole.{equal}
use Rattle.laws.proofs.Tests.{Tested, passed, failed, tested, if_so}
use Rattle.window.specs.declared.Counts.{Counts}
use Rattle.window.specs.Rows.{fresh_window, held_reports, fit_window, added}
use Rattle.window.specs.History.{numbered, latest}
use Rattle.question.specs.declared.Question.{Question}
use Rattle.question.specs.declared.Searched.{Searched}
use Rattle.question.specs.Lines.{asked, lines, empty_slot, searched, searched_in, in_rows}
use Rattle.list.specs.Lines.{all_of}
use Rattle.slot.specs.Asking.{Seated}
use Rattle.slot.specs.Turn.{Turned}
use Rattle.slot.specs.Asking.{set_in}
use Rattle.slot.specs.Turn.{listed, later, lists}
use Rattle.slot.specs.Gauges.{no_question}
use Rattle.slot.proofs.Standing.{Stands, stands_ended}
use Rattle.slot.proofs.Setting.{set-refusal, set-searched, set_stands}
use Rattle.slot.proofs.Turns.{among_held, listed_keeps, turn-searched, turn_kept, turn_when, empty_stays}
use Rattle.board.specs.Work.{slot_at, fresh_board, leaving, outgoing, new_report, turned, enter_refusal, enter_work}
use Rattle.board.specs.Calls.{fit_board, set_call, enter_call}
use Rattle.board.specs.Reached.{Reached, past_after, fresh, enter}
use Rattle.board.specs.Reached as reach
use Rattle.board.specs.declared.Board.{Board}
use Rattle.board.specs.Work.{Placed}
use Rattle.board.specs.Work.{Entered}
use Rattle.board.proofs.Refusals.{zero_is, Enterable, enterable}
use Rattle.board.proofs.Seats.{set_there}
use Rattle.board.proofs.Known.{set_known}
use Rattle.board.proofs.Entry.{new_lines, turned_stands, next-fit}
use Rattle.board.proofs.Kept.{kept}
use Rattle.board.proofs.Demands.{reached_window, reached_fit, demand_2, Answers, enter-answers}
use Rattle.board.proofs.Fit.{fit-set, fit-enter}

-- The counts of a window of that size into which so many were entered.
abbrev pub counts_at : ℕ → ℕ → Counts
counts_at n entered = record { size = n; entered = entered; held = min n entered }

-- Whether one that has gone is on the list after the addition, by what was entered.
abbrev pub lists_gone : ℕ → List Values → Values → ℕ → Rule → Bool
lists_gone n past v k rule =
    not
    (all_of (later (leaving (counts_at n (length past))))
    (top rule k (record { number = length past + 1; values = v } ∷ latest n (numbered 1 past))))

-- A reached fit board with a question of that k and that rule in slot 0, and nothing in the others.
record Stage (n : ℕ) (past : List Values) (k : ℕ) (rule : Rule) (b : Board) : Type 0 where
  reached : Reached n past b
  fit : fit_board b ≡ true
  stood : Stands (held_reports b.window) (slot_at b 0)
  at_k : (slot_at b 0).k ≡ k
  at_rule : (slot_at b 0).rule ≡ rule
  alone : (slot : ℕ) → slot < 32 → 1 ≤ slot → slot_at b slot ≡ empty_slot

-- What the next entry answers of slot 0, and that it searches no other.
pub record Says (n : ℕ) (past : List Values) (v : Values) (k : ℕ) (rule : Rule) (r : Entered) : Type 0 where
  pub taken : r.refusal ≡ 0
  pub searched-is : r.searched ≡ lists_gone n past v k rule ∷ replicate 31 false
  pub steps_are : lists_gone n past v k rule ≡ true → get_or r.steps 0 0 ≡ steps (search_of rule) k (latest n (numbered 1 (past ++ (v ∷ []))))
  pub list_is : lines (slot_at r.board 0) ≡ top rule k (latest n (numbered 1 (past ++ (v ∷ []))))

module _ {n : ℕ} {past : List Values} {k : ℕ} {rule : Rule} (b : Board) (g : Stage n past k rule b) (v : Values) (t : enter_refusal (counts_at n (length past)) v ≡ 0) where
  counts_are : b.window.counts ≡ counts_at n (length past)
  counts_are = let since = (kept g.reached).since in λ i. record { size = since.of_size i; entered = since.all-entered i; held = since.as_many_held i }

  may_enter : enter_refusal b.window.counts v ≡ 0
  may_enter = ap (λ c. enter_refusal c v) counts_are ∙ t

  answered : (enter_call b v).refusal ≡ 0
  unfolding enter_call enter_work
  answered = ap (λ (r : Entered). r.refusal) (if_so _ _ g.fit ∙ zero_is _ _ may_enter)

  reached_next : Reached n (past ++ (v ∷ [])) (enter_call b v).board
  reached_next = subst (λ r. Reached n (past_after past v r) (enter_call b v).board) answered (enter g.reached v)

  may : Enterable b.window.counts v
  may = enterable b.window.counts v may_enter

  abbrev s : Stands (held_reports b.window) (slot_at b 0)
  s = g.stood

  its_k : s.k ≡ k
  its_k = sym (ap (λ (q : Question). q.k) s.is) ∙ g.at_k

  its_rule : s.rule ≡ rule
  its_rule = sym (ap (λ (q : Question). q.rule) s.is) ∙ g.at_rule

  answers_of : (slot : ℕ) (h : slot < 32) → Answers g.reached g.fit v may_enter slot h (enter_call b v)
  answers_of slot h = enter-answers g.reached g.fit v may_enter slot h

  answers : Answers g.reached g.fit v may_enter 0 (omega arith) (enter_call b v)
  answers = answers_of 0 (omega arith)

  -- An empty slot has no search, and stays empty.
  still : (slot : ℕ) → slot < 32 → 1 ≤ slot → turned b.window v (slot_at b slot) ≡ record { searched = false; steps = 0; question = empty_slot }
  still slot h m = ap (turned b.window v) (g.alone slot h m) ∙ empty_stays (new_report b.window v) (outgoing b.window) (in_rows (added b.window v))

  for_each_slot : length (enter_call b v).searched ≡ 32
  unfolding enter_call enter_work
  for_each_slot = ap (λ (r : Entered). length r.searched) (if_so _ _ g.fit ∙ zero_is _ _ may_enter) ∙ length-map b.slots (λ q. (turned b.window v q).searched) ∙ (kept g.reached).many

  next_window : (enter_call b v).board.window ≡ added b.window v
  unfolding enter_call enter_work
  next_window = ap (λ (r : Entered). r.board.window) (if_so _ _ g.fit ∙ zero_is _ _ may_enter)

  next_held : held_reports (added b.window v) ≡ latest n (numbered 1 (past ++ (v ∷ [])))
  next_held = ap held_reports (sym next_window) ∙ (kept reached_next).since.holds-latest

  abbrev new : Held
  new = new_report b.window v

  lists_gone_lem : lists (listed (slot_at b 0) new) (outgoing b.window) ≡ lists_gone n past v k rule
  unfolding lists
  lists_gone_lem =
      let m = may in
      let since = (kept g.reached).since in
      ap (λ l. not (all_of (later (outgoing b.window)) l)) (new_lines b.window (reached_window g.reached) since.whole v m.permitted m.room (slot_at b 0) s)
      ∙ (λ i.
      not
      (all_of (later (leaving (counts_are i)))
      (top (its_rule i) (its_k i) (record { number = (counts_are i).entered + 1; values = v } ∷ since.holds-latest i))))

  stands_next : Stands (held_reports (added b.window v)) (turned b.window v (slot_at b 0)).question
  stands_next = turned_stands b.window (reached_window g.reached) (kept g.reached).since.whole v may.permitted may.room (slot_at b 0) s

  abbrev p : Question
  p = listed (slot_at b 0) (new_report b.window v)

  p_k : (listed (slot_at b 0) (new_report b.window v)).k ≡ k
  p_k = (listed_keeps (slot_at b 0) (new_report b.window v)).same_k ∙ g.at_k

  p_rule : (listed (slot_at b 0) (new_report b.window v)).rule ≡ rule
  p_rule = (listed_keeps (slot_at b 0) (new_report b.window v)).same_rule ∙ g.at_rule

  p_small : (listed (slot_at b 0) (new_report b.window v)).k ≤ 16
  p_small = subst (λ m. m ≤ 16) (its_k ∙ sym p_k) s.asks.small

  after-fit : fit_window (added b.window v) ≡ true
  after-fit = next-fit b.window (reached_window g.reached) (kept g.reached).since.whole v may.permitted may.room

  searched_so : lists p (outgoing b.window) ≡ true
      → turned b.window v (slot_at b 0) ≡ (let f = searched_in p (held_reports (added b.window v)) in record { searched = true; steps = f.steps; question = f.question })
  searched_so h =
      turn-searched (slot_at b 0) new (outgoing b.window) (in_rows (added b.window v)) h
      ∙ ap (λ (f : Searched). record { searched = true; steps = f.steps; question = f.question }) (among_held (added b.window v) after-fit p p_small)

  kept_so : lists p (outgoing b.window) ≡ false → turned b.window v (slot_at b 0) ≡ record { searched = false; steps = 0; question = p }
  kept_so h = turn_kept (slot_at b 0) new (outgoing b.window) (in_rows (added b.window v)) h

  left_k : ((turned b.window v (slot_at b 0)).question.k ≡ k) × ((turned b.window v (slot_at b 0)).question.rule ≡ rule)
  unfolding searched
  left_k = go (tested (lists p (outgoing b.window)))
    where
      go : Tested (lists p (outgoing b.window)) → ((turned b.window v (slot_at b 0)).question.k ≡ k) × ((turned b.window v (slot_at b 0)).question.rule ≡ rule)
      go (passed h) = (ap (λ (r : Turned). r.question.k) (searched_so h) ∙ p_k, ap (λ (r : Turned). r.question.rule) (searched_so h) ∙ p_rule)
      go (failed h) = (ap (λ (r : Turned). r.question.k) (kept_so h) ∙ p_k, ap (λ (r : Turned). r.question.rule) (kept_so h) ∙ p_rule)

  stage_next : Stage n (past ++ (v ∷ [])) k rule (enter_call b v).board
  stage_next =
      record {
        reached = reached_next;
        fit = fit-enter b (kept g.reached) g.fit v;
        stood = subst (λ w. Stands (held_reports w) (slot_at (enter_call b v).board 0)) (sym next_window) (subst (Stands (held_reports (added b.window v))) (sym answers.left_as) stands_next);
        at_k = ap (λ (q : Question). q.k) answers.left_as ∙ left_k.0;
        at_rule = ap (λ (q : Question). q.rule) answers.left_as ∙ left_k.1;
        alone = λ slot h m. (answers_of slot h).left_as ∙ ap (λ (r : Turned). r.question) (still slot h m);
      }

  -- The set of questions searched: at most that in slot 0.
  searched-all : (enter_call b v).searched ≡ lists_gone n past v k rule ∷ replicate 31 false
  searched-all = ext_get_or false (enter_call b v).searched (lists_gone n past v k rule ∷ replicate 31 false) for_each_slot each
    where
      each : (slot : ℕ) → slot < length (enter_call b v).searched → get_or (enter_call b v).searched slot false ≡ get_or (lists_gone n past v k rule ∷ replicate 31 false) slot false
      each zero h = answers.set_of_searched ∙ turn_when (slot_at b 0) new (outgoing b.window) (in_rows (added b.window v)) ∙ lists_gone_lem
      each (suc slot) h =
          let within : suc slot < 32 = omega (arith, for_each_slot) in
          (answers_of (suc slot) within).set_of_searched ∙ ap (λ (r : Turned). r.searched) (still (suc slot) within (omega arith)) ∙ sym (get_or-replicate 31 slot false false (omega arith))

  says : Says n past v k rule (enter_call b v)
  says =
      record {
        taken = answered;
        searched-is = searched-all;
        steps_are = λ h. answers.steps_of ∙ ap (λ (r : Turned). r.steps) (searched_so (lists_gone_lem ∙ h)) ∙ (λ i. steps (search_of (p_rule i)) (p_k i) (next_held i));
        list_is =
            demand_2 reached_next 0 (omega arith) (stands_ended (enter_call b v).board.window (reached_window reached_next) (slot_at (enter_call b v).board 0) stage_next.stood)
            ∙ (λ i. top (stage_next.at_rule i) (stage_next.at_k i) ((kept reached_next).since.holds-latest i));
      }

-- ---- the examples

abbrev pair : ℕ → ℕ → Values
pair loss shake = record { loss = loss; shake = shake; edition = First }

abbrev triple : ℕ → ℕ → ℕ → Values
triple loss shake heat = record { loss = loss; shake = shake; edition = Second heat }

-- N 2, and a question of k 1 set first
unfoldable pub bench : Rule → Board
bench rule = (set_call (fresh_board 2).board 0 1 rule).board

-- The answer to the third of three entries.
abbrev pub third : Rule → Values → Values → Values → Entered
third rule u v w = enter_call (enter_call (enter_call (bench rule) u).board v).board w

begun_fresh : Reached 2 [] (fresh_board 2).board
unfolding fresh_board fresh_window
begun_fresh = fresh refl

all-empty : (slot : ℕ) → slot < 32 → slot_at (fresh_board 2).board slot ≡ empty_slot
unfolding fresh_board
all-empty slot h = get_or-replicate 32 slot empty_slot no_question h

fresh-fit : fit_board (fresh_board 2).board ≡ true
fresh-fit = reached_fit begun_fresh (λ slot h. inl (all-empty slot h))

record Placed-so (rule : Rule) (r : Placed) : Type 0 where
  stood : Stands (held_reports r.board.window) (slot_at r.board 0)
  at_k : (slot_at r.board 0).k ≡ 1
  at_rule : (slot_at r.board 0).rule ≡ rule
  alone : (slot : ℕ) → slot < 32 → 1 ≤ slot → slot_at r.board slot ≡ empty_slot

module _ (rule : Rule) (weighs : weights_fit rule ≡ true) (ranges : ranges_proper rule ≡ true) (known : ties_known rule ≡ true) where
  can_set : (set_in (slot_at (fresh_board 2).board 0) 1 rule (in_rows (fresh_board 2).board.window)).refusal ≡ 0
  unfolding fresh_board
  can_set = set-refusal (slot_at (fresh_board 2).board 0) 1 rule (in_rows (fresh_board 2).board.window) ∙ (λ i. cond (weighs i) (cond (ranges i) (cond (known i) 0 33) 30) 15)

  placed_so : Placed-so rule (set_call (fresh_board 2).board 0 1 rule)
  unfolding searched
  placed_so =
      let b = (fresh_board 2).board in
      let q = asked 1 rule [] 0 in
      let fit = reached_window begun_fresh in
      let seated = set_in (slot_at b 0) 1 rule (in_rows b.window) in
      let at = get_or-set_same b.slots 0 seated.question no_question (omega (arith, (kept begun_fresh).many)) in
      let is = at ∙ ap (λ (r : Seated). r.question) (set-searched (slot_at b 0) 1 rule (in_rows b.window) can_set) ∙ ap (λ (r : Searched). r.question) (among_held b.window fit q (omega arith)) in
      subst (Placed-so rule) (sym (set_known b fresh-fit 0 1 rule ∙ set_there b 0 1 rule (omega arith)))
      (record {
        stood = subst (Stands (held_reports b.window)) (sym at) (set_stands b.window fit (slot_at b 0) 1 rule can_set);
        at_k = ap (λ (p : Question). p.k) is;
        at_rule = ap (λ (p : Question). p.rule) is;
        alone = λ slot h m. get_or-set_other b.slots 0 slot seated.question no_question (λ e. other m e) ∙ all-empty slot h;
      })
    where
      other : {slot : ℕ} → 1 ≤ slot → slot ≡ 0 → ⊥
      other m e = omega arith

  stage_bench : Stage 2 [] 1 rule (bench rule)
  unfolding bench
  stage_bench =
      record {
        reached = reach.set begun_fresh 0 1 rule;
        fit = fit-set (fresh_board 2).board (kept begun_fresh) fresh-fit 0 1 rule;
        stood = placed_so.stood;
        at_k = placed_so.at_k;
        at_rule = placed_so.at_rule;
        alone = placed_so.alone;
      }

  pub third_says : (u v w : Values) → enter_refusal (counts_at 2 0) u ≡ 0 → enter_refusal (counts_at 2 1) v ≡ 0 → enter_refusal (counts_at 2 2) w ≡ 0 → Says 2 (u ∷ v ∷ []) w 1 rule (third rule u v w)
  third_says u v w a b c =
      let one = stage_next (bench rule) stage_bench u a in
      let two = stage_next (enter_call (bench rule) u).board one v b in
      says (enter_call (enter_call (bench rule) u).board v).board two w c

-- weights 1 and 1
abbrev ones : Rule
ones = rule_of (record { loss = pos 1; shake = pos 1; heat = pos 0 })

-- weights 0 and 1, loss 500 to 900
abbrev threshing : Rule
threshing = rule_within (record { loss = pos 0; shake = pos 1; heat = pos 0 }) (record { loss = record { low = 500; high = 900 }; shake = whole_range })

-- weights 1, 0 and 1
abbrev heating : Rule
heating = rule_of (record { loss = pos 1; shake = pos 0; heat = pos 1 })

abbrev line : ℕ → ℕ → Entry
line number score = record { name = named number First; score = pos score }

abbrev heat_line : ℕ → ℕ → ℕ → Entry
heat_line number heat score = record { name = named number (Second heat); score = pos score }

-- N 2, and a question set first, k 1: three entries, what the third answers, and the list after it.
pub record Examples : Type 0 where
  -- P9: the third searches, 256 steps, and the list is 2:10
  pub p9_searches : (third ones (pair 10 10) (pair 5 5) (pair 1 1)).searched ≡ true ∷ replicate 31 false
  pub p9_steps : get_or (third ones (pair 10 10) (pair 5 5) (pair 1 1)).steps 0 0 ≡ 256
  pub p9_list : lines (slot_at (third ones (pair 10 10) (pair 5 5) (pair 1 1)).board 0) ≡ line 2 10 ∷ []
  -- P10: no search, and the list is 2:10
  pub p10_searches : (third ones (pair 1 1) (pair 5 5) (pair 1 2)).searched ≡ replicate 32 false
  pub p10_list : lines (slot_at (third ones (pair 1 1) (pair 5 5) (pair 1 2)).board 0) ≡ line 2 10 ∷ []
  -- P11: no search, and the list is 3:18
  pub p11_searches : (third ones (pair 9 9) (pair 1 1) (pair 9 9)).searched ≡ replicate 32 false
  pub p11_list : lines (slot_at (third ones (pair 9 9) (pair 1 1) (pair 9 9)).board 0) ≡ line 3 18 ∷ []
  -- P16: the second doesn't count, so the third takes the first's place on the list, found by a search of the 48 cells
  pub p16_searches : (third threshing (pair 600 10) (pair 100 4000) (pair 700 5)).searched ≡ true ∷ replicate 31 false
  pub p16_steps : get_or (third threshing (pair 600 10) (pair 100 4000) (pair 700 5)).steps 0 0 ≡ 48
  pub p16_list : lines (slot_at (third threshing (pair 600 10) (pair 100 4000) (pair 700 5)).board 0) ≡ line 3 5 ∷ []
  -- P21: the second has no heat and doesn't count, so the third takes the first's place, found by a search of the columns 15 to 11, and is listed with its heat
  pub p21_searches : (third heating (triple 4000 0 4000) (pair 4095 0) (triple 3000 0 4000)).searched ≡ true ∷ replicate 31 false
  pub p21_steps : get_or (third heating (triple 4000 0 4000) (pair 4095 0) (triple 3000 0 4000)).steps 0 0 ≡ 80
  pub p21_list : lines (slot_at (third heating (triple 4000 0 4000) (pair 4095 0) (triple 3000 0 4000)).board 0) ≡ heat_line 3 4000 7000 ∷ []
  -- P22: P9 with the second of the second edition, heat 7, which has no weight: 2:10 with its heat
  pub p22_searches : (third ones (pair 10 10) (triple 5 5 7) (pair 1 1)).searched ≡ true ∷ replicate 31 false
  pub p22_list : lines (slot_at (third ones (pair 10 10) (triple 5 5 7) (pair 1 1)).board 0) ≡ heat_line 2 7 10 ∷ []

pub examples : Examples
unfolding steps visiting before best_score sum score counts cell_counts cell above goes_first entries leaving enter_refusal in_range weights_fit ranges_proper ties_known equal
examples =
    let p9 = third_says ones refl refl refl (pair 10 10) (pair 5 5) (pair 1 1) refl refl refl in
    let ten = third_says ones refl refl refl (pair 1 1) (pair 5 5) (pair 1 2) refl refl refl in
    let eleven = third_says ones refl refl refl (pair 9 9) (pair 1 1) (pair 9 9) refl refl refl in
    let sixteen = third_says threshing refl refl refl (pair 600 10) (pair 100 4000) (pair 700 5) refl refl refl in
    let heated = third_says heating refl refl refl (triple 4000 0 4000) (pair 4095 0) (triple 3000 0 4000) refl refl refl in
    let either = third_says ones refl refl refl (pair 10 10) (triple 5 5 7) (pair 1 1) refl refl refl in
    record {
      p9_searches = p9.searched-is;
      p9_steps = p9.steps_are refl;
      p9_list = p9.list_is;
      p10_searches = ten.searched-is;
      p10_list = ten.list_is;
      p11_searches = eleven.searched-is;
      p11_list = eleven.list_is;
      p16_searches = sixteen.searched-is;
      p16_steps = sixteen.steps_are refl;
      p16_list = sixteen.list_is;
      p21_searches = heated.searched-is;
      p21_steps = heated.steps_are refl;
      p21_list = heated.list_is;
      p22_searches = either.searched-is;
      p22_list = either.list_is;
    }
