-- The searches that setting, a turn and single steps run are exact (demand 3): the list is the true one, the marked cells are the wanted ones, and the steps are their number.
-- Assumes nothing.
use mathlib.Core.Path.{◌≡◌, refl, sym, ap, ◌∙◌, subst}
use mathlib.Core.Logic.{◌⊎◌, inl, inr}
use mathlib.Core.Bool.{true}
use mathlib.Core.List.{[]}
use Prim.Native.Nat.{ℕ, suc, ◌≤◌, ◌<◌}
use native.Mathlib.Omega.{arith}
use lib.ListN.{length}
use Rattle.laws.specs.Lists.{only}
use Rattle.laws.proofs.Lists.{lt_or_eq}
use Rattle.laws.proofs.Tests.{clash}
use Rattle.search.specs.Search.{steps}
use Rattle.ranking.specs.Cells.{cells}
use Rattle.ranking.specs.Standing.{Held, search_of}
use Rattle.ranking.specs.declared.Rule.{Rule}
use Rattle.window.specs.declared.Window.{Window}
use Rattle.window.specs.Rows.{held_reports, fit_window}
use Rattle.question.specs.declared.Question.{Question}
use Rattle.question.specs.declared.Searched.{Searched}
use Rattle.question.specs.Lines.{asked, steps_taken, is_marked, finished, searched, in_rows}
use Rattle.question.specs.Calls.{Stepped, step_call}
use Rattle.question.proofs.Steps.{reached}
use Rattle.question.proofs.Searches.{Found, search_finds, searched-is, whole_search}
use Rattle.slot.specs.Asking.{searched_among, set_in}
use Rattle.slot.specs.Turn.{listed, turn}
use Rattle.slot.specs.Asking.{Seated}
use Rattle.slot.specs.Turn.{Turned}
use Rattle.slot.proofs.Standing.{Slot, empty, stands, searches, searches_on, step-none, step_no_more, step_further}
use Rattle.slot.proofs.Setting.{set_asks, set-searched}
use Rattle.slot.proofs.Turns.{among_held, listed_keeps, turn-searched, turn_when}

-- A search over what a window holds left this question, with these steps.
pub record Exactly (w : Window) (k : ℕ) (rule : Rule) (answered : ℕ) (p : Question) : Type 0 where
  pub found : Found w (asked k rule [] 0) p
  pub answered_is : answered ≡ length (only (is_marked p) cells)

exactly : (w : Window) → fit_window w ≡ true → (q : Question) → 1 ≤ q.k → q.k ≤ 16 → Exactly w q.k q.rule (searched_among q (in_rows w)).steps (searched_among q (in_rows w)).question
unfolding searched
exactly w fit q positive small =
    let f = search_finds w fit (asked q.k q.rule [] 0) positive small in
    let same = among_held w fit q small in
    record {
      found = subst (Found w (asked q.k q.rule [] 0)) (sym (ap (λ (r : Searched). r.question) same)) f;
      answered_is =
          ap (λ (r : Searched). r.steps) same
          ∙ sym (whole_search q small (held_reports w)).come_to.counted
          ∙ f.steps_are
          ∙ ap (λ (r : Searched). length (only (is_marked r.question) cells)) (sym same);
    }

module _ (w : Window) (fit : fit_window w ≡ true) (q : Question) where
  -- The search of a question that is set.
  pub set_exact : (k : ℕ) (rule : Rule) → (set_in q k rule (in_rows w)).refusal ≡ 0 → Exactly w k rule (set_in q k rule (in_rows w)).steps (set_in q k rule (in_rows w)).question
  set_exact k rule free =
      let asks = (set_asks q k rule (in_rows w) free).0 in
      subst (λ (s : Seated). Exactly w k rule s.steps s.question) (sym (set-searched q k rule (in_rows w) free)) (exactly w fit (asked k rule [] 0) asks.positive asks.small)

  -- The search that a turn runs, over the reports that are left.
  pub turn_exact : (h : Held) (gone : ℕ) → 1 ≤ q.k → q.k ≤ 16 → (turn q h gone (in_rows w)).searched ≡ true
      → Exactly w q.k q.rule (turn q h gone (in_rows w)).steps (turn q h gone (in_rows w)).question
  turn_exact h gone positive small again =
      let p = listed q h in
      let keeps = listed_keeps q h in
      let e = exactly w fit p (subst (λ m. 1 ≤ m) (sym keeps.same_k) positive) (subst (λ m. m ≤ 16) (sym keeps.same_k) small) in
      subst (λ (r : Turned). Exactly w q.k q.rule r.steps r.question) (sym (turn-searched q h gone (in_rows w) (sym (turn_when q h gone (in_rows w)) ∙ again)))
      (subst (λ m. Exactly w m q.rule (searched_among p (in_rows w)).steps (searched_among p (in_rows w)).question) keeps.same_k
      (subst (λ rule. Exactly w p.k rule (searched_among p (in_rows w)).steps (searched_among p (in_rows w)).question) keeps.same_rule e))

  -- ---- by single steps

  -- The search whose last step this is: the question that it leaves has its list, its marks and its steps.
  pub step_exact : Slot w q → (step_call w q).refusal ≡ 0 → finished (step_call w q).question ≡ true
      → Exactly w q.k q.rule (steps_taken (step_call w q).question) (step_call w q).question
  unfolding reached
  step_exact (empty e) t done = absurd (refused (ap (λ p. (step_call w p).refusal) (sym e) ∙ t) (ap (λ (r : Stepped). r.refusal) (step-none w fit)))
    where
      refused : {n : ℕ} → n ≡ 0 → n ≡ 24 → ⊥
      refused a b = omega arith
  step_exact (stands s) t done = absurd (refused t (ap (λ (r : Stepped). r.refusal) (step_no_more w fit q s)))
    where
      refused : {n : ℕ} → n ≡ 0 → n ≡ 25 → ⊥
      refused a b = omega arith
  step_exact (searches s) t done = subst (λ p. Exactly w p.k p.rule (steps_taken left) left) (sym s.is) (go (lt_or_eq s.before-end))
    where
      left : Question
      left = (step_call w q).question

      is : left ≡ reached s.k s.rule (held_reports w) (suc s.n)
      is = ap (λ (r : Stepped). r.question) (step_further w fit q s)

      go : (suc s.n < steps (search_of s.rule) s.k (held_reports w)) ⊎ (suc s.n ≡ steps (search_of s.rule) s.k (held_reports w)) → Exactly w s.k s.rule (steps_taken left) left
      go (inl l) = clash done (ap finished is ∙ searches_on w fit (reached s.k s.rule (held_reports w) (suc s.n)) (record { k = s.k; rule = s.rule; n = suc s.n; asks = s.asks; before-end = l; is = refl }))
      go (inr e) =
          let p = asked s.k s.rule [] 0 in
          let whole : searched p (held_reports w) ≡ left = searched-is p s.asks.small (held_reports w) ∙ ap (reached s.k s.rule (held_reports w)) (sym e) ∙ sym is in
          let f = subst (Found w p) whole (search_finds w fit p s.asks.positive s.asks.small) in
          record { found = f; answered_is = f.steps_are }
