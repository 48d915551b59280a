-- An item for one slot changes that slot, and the rest of the log stays.
-- Assumes nothing.
use mathlib.Core.Path.{◌≡◌, refl, sym, ap, ap₂, ◌∙◌}
use mathlib.Core.Bool.{true, false, cond}
use mathlib.Core.Logic.{inl, inr}
use mathlib.Core.List.{List, [], ◌∷◌}
use Prim.Native.Nat.{ℕ, ◌<◌}
use native.Mathlib.Omega.{arith}
use borrow.Author.Tests.{lt-ltb, eq-eqb, ne_eqb, eqb-false}
use lib.Dec.{eqb}
use lib.ListN.{length, get_or}
use lib.Seq.{set-get_or}
use Rattle.ranking.specs.Standing.{Held}
use Rattle.laws.proofs.Tests.{Tested, passed, failed, tested, if_so, if_not}
use Rattle.window.specs.Rows.{sized, standing}
use Rattle.window.proofs.Fitness.{size_range}
use Rattle.question.specs.declared.Question.{Question}
use Rattle.list.specs.Rows.{rows_in}
use Rattle.board.specs.declared.Board.{Board}
use Rattle.board.specs.Work.{Placed}
use Rattle.items.specs.Items.{setting_in}
use Rattle.slot.specs.Asking.{Seated}
use Rattle.slot.specs.Asking.{set_in, emptied, read_in}
use Rattle.slot.specs.Gauges.{no_question}
use Rattle.board.specs.Work.{slot_at, with_slot, set_work, remove_work, read_work}
use Rattle.board.proofs.Seats.{set_seated, set_kept}
use Rattle.std.specs.Prelude.{Ok, Err}
use Rattle.refusal.specs.declared.Refusal.{Refusal}
use Rattle.refusal.specs.Numbers.{number_of}
use Rattle.refusal.proofs.Answers.{taken_is, taken_number, refused_number}
use Rattle.question.specs.declared.Searched.{Searched}
use Rattle.slot.specs.Answers.{seated_answer}
use Rattle.slot.proofs.Refusals.{zero_is, zero_not, answer_number}
use Rattle.slot.proofs.Setting.{set_told}
use Rattle.slot.proofs.Setting as one
use Rattle.text.specs.Text.{r_line, s_line}
use Rattle.journal.specs.declared.Log.{Log}
use Rattle.journal.specs.Log.{Outcome, next_item, with_item, with_board, unless, rule_in, set_item, remove_item, show_item, item_done}
use Rattle.journal.proofs.Items as items
use Rattle.coming.proofs.Coming.{Known}
use Rattle.serving.specs.Serving.{Served, shown_text, seated_text, served}

-- ---- by the tag

module _ (tag item : ℕ) (v : List ℕ) (q : Question) (w : List Held) where
  pub served_show : tag ≡ 20 → served tag item v q w ≡ record { text = shown_text item (get_or v 0 0) q; question = q }
  unfolding served
  served_show e = if_so _ _ (eq-eqb tag 20 e)

  pub served-remove : (tag ≡ 20 → ⊥) → tag ≡ 19 → served tag item v q w ≡ record { text = cond (eqb q.k 0) (r_line item 17) []; question = emptied q }
  unfolding served
  served-remove n e = if_not _ _ (ne_eqb tag 20 n) ∙ if_so _ _ (eq-eqb tag 19 e)

  pub served-set : (tag ≡ 20 → ⊥) → (tag ≡ 19 → ⊥) → {seated : Seated} → seated ≡ set_in q (get_or v 1 0) (rule_in v) w
      → served tag item v q w ≡ record { text = seated_text item (get_or v 0 0) seated.refusal seated.steps; question = seated.question }
  unfolding served
  served-set n m {seated} e =
      if_not _ _ (ne_eqb tag 20 n) ∙ if_not _ _ (ne_eqb tag 19 m)
      ∙ ap (λ (s : Seated). record { text = seated_text item (get_or v 0 0) s.refusal s.steps; question = s.question }) (sym e)

  module _ (no_show : tag ≡ 20 → ⊥) (no_remove : tag ≡ 19 → ⊥) where
    abbrev seated_there : Seated
    seated_there = set_in q (get_or v 1 0) (rule_in v) w

    -- A question that is set prints its search, and a refused one the refusal, and leaves the slot.
    pub served_found : {f : Searched} → Ok f ≡ seated_answer seated_there → served tag item v q w ≡ record { text = s_line item (get_or v 0 0) f.steps; question = f.question }
    unfolding seated_text
    served_found h =
        let same = taken_is seated_there.refusal _ h in
        served-set no_show no_remove refl
        ∙ (λ j. record { text = zero_is (s_line item (get_or v 0 0) seated_there.steps) (r_line item seated_there.refusal) (taken_number seated_there.refusal _ h) j; question = seated_there.question })
        ∙ (λ j. record { text = s_line item (get_or v 0 0) (sym same j).steps; question = (sym same j).question })

    pub served_refused : {e : Refusal} {m : ℕ} → Err e ≡ seated_answer seated_there → m ≡ number_of e → served tag item v q w ≡ record { text = r_line item m; question = q }
    unfolding seated_text
    served_refused h is =
        let no = refused_number seated_there.refusal _ h in
        let number = is ∙ answer_number seated_there.refusal _ (set_told q (get_or v 1 0) (rule_in v) w) h in
        served-set no_show no_remove refl
        ∙ (λ j. record { text = zero_not (s_line item (get_or v 0 0) seated_there.steps) (r_line item seated_there.refusal) no j; question = one.set_kept q (get_or v 1 0) (rule_in v) w no j })
        ∙ (λ j. record { text = r_line item (sym number j); question = q })

-- ---- in a log that has a window

one_byte : (l : List ℕ) → length l ≡ 1 → l ≡ get_or l 0 0 ∷ []
one_byte [] e = absurd (omega arith)
one_byte (x ∷ []) e = refl
one_byte (x ∷ y ∷ l) e = absurd (omega arith)

module _ (log : Log) (window : sized log.board.window.counts.size ≡ true) where
  pub some_rows : log.board.window.counts.size ≡ 0 → ⊥
  some_rows e = let range = size_range log.board.window.counts.size window in absurd (omega (arith, range.0, e))

  abbrev b : Board
  b = log.board

  abbrev rows : List Held
  rows = standing (rows_in b.window.rows) 1024

  abbrev n : ℕ
  n = next_item log.items

  -- the log with another question in a slot
  abbrev pub holding : ℕ → Question → Log
  holding s q = with_board (with_item log) (with_slot b s q)

  same_slot : (s : ℕ) → with_item log ≡ holding s (slot_at b s)
  same_slot s = λ i. with_board (with_item log) (record { window = b.window; slots = sym (set-get_or b.slots s no_question) i })

  show_done : (s : ℕ) → s < 32 → item_done log 20 (s ∷ []) ≡ record { text = shown_text n s (slot_at b s); log = with_item log }
  unfolding show_item read_work read_in unless shown_text
  show_done s h = items.show_done log some_rows s ∙ go (tested (eqb (slot_at b s).k 0))
    where
      go : Tested (eqb (slot_at b s).k 0) → show_item (with_item log) s ≡ record { text = shown_text n s (slot_at b s); log = with_item log }
      go (passed t) = rw (lt-ltb s 32 h, t)
      go (failed t) = rw (lt-ltb s 32 h, t)

  remove_done : (s : ℕ) → s < 32 → item_done log 19 (s ∷ []) ≡ record { text = cond (eqb (slot_at b s).k 0) (r_line n 17) []; log = holding s (emptied (slot_at b s)) }
  unfolding remove_item remove_work unless emptied
  remove_done s h = items.remove_done log some_rows s ∙ go (tested (eqb (slot_at b s).k 0))
    where
      go : Tested (eqb (slot_at b s).k 0) → remove_item (with_item log) s ≡ record { text = cond (eqb (slot_at b s).k 0) (r_line n 17) []; log = holding s (emptied (slot_at b s)) }
      go (passed t) = rw (lt-ltb s 32 h, t) (λ i. record { text = r_line n 17; log = same_slot s i })
      go (failed t) = rw (lt-ltb s 32 h, t)

  set_done : (tag : ℕ) (v : List ℕ) → item_done log tag v ≡ set_item (with_item log) (setting_in v) → get_or v 0 0 < 32 → {seated : Seated} → seated ≡ set_in (slot_at b (get_or v 0 0)) (get_or v 1 0) (rule_in v) rows
      → item_done log tag v ≡ record { text = seated_text n (get_or v 0 0) seated.refusal seated.steps; log = holding (get_or v 0 0) seated.question }
  unfolding set_item unless seated_text
  set_done tag v is few {seated} e =
      let s = get_or v 0 0 in
      let placed : set_work b s (get_or v 1 0) (rule_in v) ≡ record { refusal = seated.refusal; steps = seated.steps; board = with_slot b s seated.question } = set_seated b s (get_or v 1 0) (rule_in v) few e in
      let same : eqb seated.refusal 0 ≡ false → with_slot b s seated.question ≡ b = λ t. sym (ap (λ (p : Placed). p.board) placed) ∙ set_kept b s (get_or v 1 0) (rule_in v) (eqb-false _ 0 (ap (λ (p : Placed). eqb p.refusal 0) placed ∙ t)) in
      is ∙ ap (λ (p : Placed). unless (with_item log) p.refusal (record { text = s_line n s p.steps; log = with_board (with_item log) p.board })) placed
      ∙ go (tested (eqb seated.refusal 0)) same
    where
      go : Tested (eqb seated.refusal 0) → (eqb seated.refusal 0 ≡ false → with_slot b (get_or v 0 0) seated.question ≡ b)
          → unless (with_item log) seated.refusal (record { text = s_line n (get_or v 0 0) seated.steps; log = holding (get_or v 0 0) seated.question })
          ≡ record { text = seated_text n (get_or v 0 0) seated.refusal seated.steps; log = holding (get_or v 0 0) seated.question }
      go (passed t) same = rw t
      go (failed t) same = rw t (λ j. record { text = r_line n seated.refusal; log = with_board (with_item log) (sym (same t) j) })

  module _ (tag : ℕ) (v : List ℕ) (few : get_or v 0 0 < 32) where
    abbrev does : Served
    does = served tag n v (slot_at b (get_or v 0 0)) rows

    abbrev left : Served → Outcome
    left d = record { text = d.text; log = holding (get_or v 0 0) d.question }

    slot_set : item_done log tag v ≡ set_item (with_item log) (setting_in v) → (tag ≡ 20 → ⊥) → (tag ≡ 19 → ⊥) → item_done log tag v ≡ left does
    slot_set is shows removes = set_done tag v is few refl ∙ sym (ap left (served-set tag n v (slot_at b (get_or v 0 0)) rows shows removes refl))

    slot_done : Known tag v → item_done log tag v ≡ left does
    slot_done (inl (e, long)) =
        ap₂ (item_done log) e (one_byte v long) ∙ show_done (get_or v 0 0) few
        ∙ (λ i. record { text = shown_text n (get_or v 0 0) (slot_at b (get_or v 0 0)); log = same_slot (get_or v 0 0) i }) ∙ sym (ap left (served_show tag n v (slot_at b (get_or v 0 0)) rows e))
    slot_done (inr (inl (e, long))) = ap₂ (item_done log) e (one_byte v long) ∙ remove_done (get_or v 0 0) few ∙ sym (ap left (served-remove tag n v (slot_at b (get_or v 0 0)) rows (λ f. omega arith) e))
    slot_done (inr (inr (inl (e, long)))) = slot_set (ap (λ (t : ℕ). item_done log t v) e ∙ items.set_done log some_rows v long) (λ f. omega arith) (λ f. omega arith)
    slot_done (inr (inr (inr (inl (e, long))))) = slot_set (ap (λ (t : ℕ). item_done log t v) e ∙ items.set_heat_done log some_rows v long) (λ f. omega arith) (λ f. omega arith)
    slot_done (inr (inr (inr (inr (e, long))))) = slot_set (ap (λ (t : ℕ). item_done log t v) e ∙ items.set_ties_done log some_rows v long) (λ f. omega arith) (λ f. omega arith)

  -- The claim, said of what the code holds.
  pub slot_here : {tag tag₁ item s : ℕ} {v v₁ : List ℕ} {q : Question} → Known tag₁ v₁ → get_or v₁ 0 0 < 32 → tag ≡ tag₁ → item ≡ n → v ≡ v₁ → s ≡ get_or v 0 0 → q ≡ (served tag item v (slot_at b s) rows).question
      → item_done log tag₁ v₁ ≡ record { text = (served tag item v (slot_at b s) rows).text; log = record { items = item; board = with_slot b s q; sessions = log.sessions; times = log.times } }
  slot_here {tag} {tag₁} {item} {s} {v} {v₁} {q} k few e-tag e-item e-v e-s e-q =
      let at : s ≡ get_or v₁ 0 0 = e-s ∙ ap (λ (l : List ℕ). get_or l 0 0) e-v in
      slot_done tag₁ v₁ few k
      ∙ sym (λ j. record { text = (served (e-tag j) (e-item j) (e-v j) (slot_at b (at j)) rows).text; log = record { items = e-item j; board = with_slot b (at j) (served (e-tag j) (e-item j) (e-v j) (slot_at b (at j)) rows).question; sessions = log.sessions; times = log.times } })
      ∙ (λ j. record { text = (served tag item v (slot_at b s) rows).text; log = record { items = item; board = with_slot b s (sym e-q j); sessions = log.sessions; times = log.times } })
