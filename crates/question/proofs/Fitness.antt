-- A question's fitness, test by test as it is checked.
-- Assumes nothing.
use mathlib.Core.Path.{◌≡◌, sym, ap, ◌∙◌}
use mathlib.Core.Bool.{true, false, ◌&&◌}
use Prim.Native.Nat.{ℕ, ◌+◌, ◌-◌, ◌/◌, min, ◌≤◌, ◌<◌}
use native.Mathlib.Nat.{mod-lt}
use native.Mathlib.Omega.{arith}
use borrow.Author.Tests.{leb-true, leb-false, le-leb, lt-leb, ltb-true, eq-eqb}
use lib.Dec.{leb, ltb, eqb}
use lib.IntN.{ℤ}
use lib.ListN.{get_or}
use lib.Signed.{lt_z}
use Rattle.std.specs.Prelude.{Option, Some, None}
use Rattle.std.specs.Option.{option_eq}
use Rattle.std.specs.Ordering.{int_eq}
use Rattle.laws.specs.Whole.{equal}
use Rattle.laws.proofs.Tests.{Tested, passed, failed, tested, and_both, and_true, and_after, and_stops, and_no}
use Rattle.values.proofs.Names.{name_back}
use Rattle.ranking.specs.declared.Rule.{Rule}
use Rattle.ranking.specs.Cells.{score, is_scored, points}
use Rattle.ranking.specs.Standing.{Held, Entry, is_counted, entry}
use Rattle.window.specs.declared.Counts.{Counts}
use Rattle.window.specs.declared.Window.{Window}
use Rattle.window.specs.Rows.{sized, row_of, report_in}
use Rattle.window.proofs.Fitness.{size_range}
use Rattle.question.specs.Calls.{holds_number, is_line_of, held_as}

-- ---- numbers that are held

pub record Holds (c : Counts) (m : ℕ) : Type 0 where
  pub positive : 1 ≤ c.size
  pub within : c.size ≤ 1024
  pub first : 1 ≤ m
  pub was_entered : m ≤ c.entered
  pub late : c.entered < m + c.held

pub holds : (c : Counts) (m : ℕ) → holds_number c m ≡ true → Holds c m
unfolding holds_number
holds c m h =
    let a = and_both (sized c.size && leb 1 m && leb m c.entered) (ltb c.entered (m + c.held)) h in
    let b = and_both (sized c.size && leb 1 m) (leb m c.entered) a.0 in
    let d = and_both (sized c.size) (leb 1 m) b.0 in
    let e = size_range c.size d.0 in
    record {
      positive = e.0;
      within = e.1;
      first = leb-true 1 m d.1;
      was_entered = leb-true m c.entered b.1;
      late = ltb-true c.entered (m + c.held) a.1;
    }

pub row_within : {c : Counts} {m : ℕ} → Holds c m → row_of c.size m < 1024
row_within {c} {m} h = omega (arith, mod-lt (m - 1) h.positive, h.within)

-- ---- a line and the row of its number

-- the library's test of scores is the rules'
same_test : (a b : ℤ) → int_eq a b ≡ equal b a
unfolding equal
same_test a b = go (tested (lt_z a b)) (tested (lt_z b a))
  where
    go : Tested (lt_z a b) → Tested (lt_z b a) → int_eq a b ≡ equal b a
    go (passed e) (passed f) = rw (e, f)
    go (passed e) (failed f) = rw (e, f)
    go (failed e) (passed f) = rw (e, f)
    go (failed e) (failed f) = rw (e, f)

module _ (w : Window) (rule : Rule) (e : Entry) (m : ℕ) (is : m ≡ e.name / 4097) where
  abbrev row : Held
  row = report_in w (row_of w.counts.size m)

  by_row : held_as w rule e ≡ holds_number w.counts m && is_line_of rule e row
  unfolding held_as
  by_row = ap (λ n. holds_number w.counts n && is_line_of rule e (report_in w (row_of w.counts.size n))) (sym is)

  row_name : (entry rule row).name ≡ get_or w.rows.names (row_of w.counts.size m) 0
  row_name = name_back (get_or w.rows.names (row_of w.counts.size m) 0)

  pub line_out : is_counted rule row ≡ false → held_as w rule e ≡ false
  line_out out =
      by_row
      ∙ and_no (holds_number w.counts m)
      (and_stops (equal e.score (entry rule row).score) (and_stops (eqb e.name (entry rule row).name) out))

  pub line_score : holds_number w.counts m ≡ true → e.name ≡ get_or w.rows.names (row_of w.counts.size m) 0 → is_counted rule row ≡ true → held_as w rule e ≡ equal e.score (entry rule row).score
  line_score h name counted =
      by_row
      ∙ and_after (is_line_of rule e row) h
      ∙ and_after (equal e.score (entry rule row).score) (and_true counted (eq-eqb e.name (entry rule row).name (name ∙ sym row_name)))

  -- the row's score is compared with the line's
  pub line_read : holds_number w.counts m ≡ true → e.name ≡ get_or w.rows.names (row_of w.counts.size m) 0 → (own : Option ℤ) → score rule row.values ≡ own → option_eq int_eq own (Some e.score) ≡ held_as w rule e
  line_read h name None z = sym (line_out (ap is_scored z))
  line_read h name (Some s) z = same_test s e.score ∙ ap (equal e.score) (sym (ap points z)) ∙ sym (line_score h name (ap is_scored z))

-- a list no longer than k is no longer than the smaller of k and what is held
pub min_test : (len k held : ℕ) → len ≤ k → leb len (min k held) ≡ leb len held
min_test len k held h = go (tested (leb len held))
  where
    go : Tested (leb len held) → leb len (min k held) ≡ leb len held
    go (passed t) =
        let g = leb-true len held t in
        le-leb len (min k held) (omega arith) ∙ sym t
    go (failed t) =
        let g = leb-false len held t in
        lt-leb len (min k held) (omega arith) ∙ sym t
