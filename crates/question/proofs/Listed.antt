-- A line that a fit window holds is the entry of one of its held reports, and a question with such lines, strictly falling and not too many, is fit.
-- Assumes nothing.
use mathlib.Core.Path.{◌≡◌, refl, sym, ap, ap₂, ◌∙◌, subst}
use mathlib.Core.Logic.{◌↔◌}
use mathlib.Core.Bool.{true, ◌&&◌}
use mathlib.Core.List.{List}
use Prim.Native.Nat.{ℕ, ◌+◌, ◌/◌, min, ◌≤◌, ◌<◌}
use native.Mathlib.Omega.{arith}
use borrow.Author.Tests.{le-leb, lt-ltb, eq-eqb, eqb-true}
use lib.Dec.{eqb}
use lib.ListN.{length}
use Rattle.laws.specs.Lists.{◌∈◌}
use Rattle.laws.specs.Whole.{equal}
use Rattle.laws.proofs.Lists.{moved}
use Rattle.laws.proofs.Tests.{and_both, and_true, or_left, or_right}
use Rattle.laws.proofs.Whole.{equal_is, equal-same}
use Rattle.search.proofs.Best.{Falling}
use Rattle.values.proofs.Facts.{low_same}
use Rattle.values.proofs.Names.{name-number}
use Rattle.ranking.specs.declared.Rule.{Rule}
use Rattle.ranking.specs.Cells.{in_order}
use Rattle.ranking.specs.Standing.{Held, Entry, above, is_counted, entry, entries}
use Rattle.ranking.proofs.Entries.{entries_in, entries_of_lem}
use Rattle.window.specs.declared.Counts.{Counts}
use Rattle.window.specs.declared.Window.{Window}
use Rattle.window.specs.Rows.{row_of, number_in, values_in, report_of, report_in, held_reports, due, fit_window}
use Rattle.window.proofs.Fitness as window
use Rattle.window.proofs.Reports.{held_in_lem, held_of}
use Rattle.window.proofs.Standing.{number_there}
use Rattle.list.specs.Lines.{all_of, falls}
use Rattle.list.proofs.Blank.{falling_falls, stored-blank, blank-stored}
pub use Rattle.list.proofs.Blank.{all_in, all-is}
use Rattle.question.specs.declared.Question.{Question}
use Rattle.question.specs.Lines.{list_of, holding, lines, asked, with_list}
use Rattle.question.specs.Calls.{holds_number, is_line_of, held_as, next_fits, ranges_fit, fit_question}
use Rattle.question.proofs.Stored.{Roomy, lines-asked}
use Rattle.question.proofs.Fitness.{Holds, holds, row_within}
use Rattle.question.proofs.Doors.{Ranges, fit_facts}

-- ---- the held reports

pub holds-is : {c : Counts} {m : ℕ} → Holds c m → holds_number c m ≡ true
unfolding holds_number
holds-is {c} {m} h =
    and_true
    (and_true (and_true (window.is-sized c.size h.positive h.within) (le-leb 1 m h.first)) (le-leb m c.entered h.was_entered))
    (lt-ltb c.entered (m + c.held) h.late)

module _ (w : Window) (fit : fit_window w ≡ true) (rule : Rule) where
  facts : window.Fit w
  facts = window.fit_facts w fit

  counts : window.Ranges w.counts
  counts = facts.ranges

  -- the row of a held number has that report
  its_report : (m : ℕ) → Holds w.counts m → report_in w (row_of w.counts.size m) ≡ report_of w m
  its_report m h =
      let r = row_of w.counts.size m in
      let row = window.row_holds (due w.counts r) (number_in w r) (values_in w r) (facts.rows r (row_within h)) in
      ap₂ (λ n v. record { number = n; values = v }) (number_there w fit m h.late h.was_entered) (low_same (values_in w r) row.permitted)

  -- rules 9.5, 16.6 and 17.6: a line names a held report that counts, with its edition and its score
  pub listed : (e : Entry) → held_as w rule e ≡ true ↔ e ∈ entries rule (held_reports w)
  unfolding held_as
  listed e = (to, from)
    where
      to : held_as w rule e ≡ true → e ∈ entries rule (held_reports w)
      to t =
          let m = e.name / 4097 in
          let row = report_in w (row_of w.counts.size m) in
          let both = and_both (holds_number w.counts m) (is_line_of rule e row) t in
          let line = and_both (is_counted rule row && eqb e.name (entry rule row).name) (equal e.score (entry rule row).score) both.1 in
          let named = and_both (is_counted rule row) (eqb e.name (entry rule row).name) line.0 in
          let h = holds w.counts m both.0 in
          let same : e ≡ entry rule row = ap₂ (λ n s. record { name = n; score = s }) (eqb-true e.name (entry rule row).name named.1) (equal_is e.score (entry rule row).score line.1) in
          moved (sym (same ∙ ap (entry rule) (its_report m h)))
          (entries_in rule (held_in_lem w counts m h.late h.was_entered) (subst (λ g. is_counted rule g ≡ true) (its_report m h) named.0))

      is_line : (g : Held) → is_counted rule g ≡ true → is_line_of rule (entry rule g) g ≡ true
      is_line g counted = and_true (and_true counted (eq-eqb (entry rule g).name (entry rule g).name refl)) (equal-same (entry rule g).score (entry rule g).score refl)

      held : (m : ℕ) → Holds w.counts m → is_counted rule (report_of w m) ≡ true → held_as w rule (entry rule (report_of w m)) ≡ true
      held m h counted =
          ap (λ n. holds_number w.counts n && is_line_of rule (entry rule (report_of w m)) (report_in w (row_of w.counts.size n))) (name-number m (report_of w m).values.edition)
          ∙ and_true (holds-is h) (subst (λ g. is_line_of rule (entry rule (report_of w m)) g ≡ true) (sym (its_report m h)) (is_line (report_of w m) counted))

      from : e ∈ entries rule (held_reports w) → held_as w rule e ≡ true
      from k =
          let r = entries_of_lem rule (held_reports w) k in
          let s = held_of w counts r.1 in
          let late : w.counts.entered < s.0 + w.counts.held = s.1 in
          let was : s.0 ≤ w.counts.entered = s.2 in
          let h : Holds w.counts s.0 = record {
            positive = counts.ring.positive;
            within = counts.within;
            first = omega (arith, counts.ring.were_entered);
            was_entered = was;
            late = late;
          } in
          subst (λ z. held_as w rule z ≡ true) (ap (entry rule) (sym s.3) ∙ r.2) (held s.0 h (subst (λ g. is_counted rule g ≡ true) s.3 r.3))

-- ---- a question of such lines

-- a next cell that is in the order fits, and so does none
pub next_in : (rule : Rule) (c : ℕ) → in_order rule c ≡ true → next_fits rule c ≡ true
unfolding next_fits
next_in rule c h = or_right (eqb c 256) (in_order rule c) h

pub next-none : (rule : Rule) (c : ℕ) → c ≡ 256 → next_fits rule c ≡ true
unfolding next_fits
next-none rule c e = or_left (eqb c 256) (in_order rule c) (eq-eqb c 256 e)

-- A question is fit whose numbers are in their ranges and whose list is strictly falling and of held reports.
pub fit-asked : (w : Window) → fit_window w ≡ true → (k : ℕ) (rule : Rule) (l : List Entry) (next : ℕ) → Ranges (asked k rule l next) w.counts.held → ((e : Entry) → e ∈ l → e ∈ entries rule (held_reports w)) → Falling (above rule) l → fit_question w (asked k rule l next) ≡ true
unfolding fit_question ranges_fit
fit-asked w fit k rule l next r held fall =
    and_true
    (and_true
    (and_true
    (and_true
    (and_true
    (and_true (and_true (le-leb 1 k r.positive) (le-leb k 16 r.small)) r.rule_fits)
    r.cell_fits)
    (le-leb (length l) (min k w.counts.held) r.short))
    (subst (λ m. all_of (held_as w rule) m ≡ true) (sym back) (all-is (held_as w rule) l (λ e m. (listed w fit rule e).1 (held e m)))))
    (subst (λ m. falls (above rule) m ≡ true) (sym back) (falling_falls (above rule) l fall)))
    (stored-blank l)
  where
    back : lines (asked k rule l next) ≡ l
    back = lines-asked k rule l next (omega (arith, r.small, r.short))

-- A fit question is its list, stored: k, rule, lines and next cell say all of it.
pub fit-stored : (w : Window) (q : Question) → Roomy q.names q.scores → fit_question w q ≡ true → q ≡ with_list q (lines q)
fit-stored w q room fit =
    let facts = fit_facts w q fit in
    ap (holding q) (blank-stored (list_of q) room (omega (arith, facts.numbers.small, facts.numbers.short)) facts.rest)
