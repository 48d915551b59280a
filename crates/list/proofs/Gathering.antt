-- Rows taken in any order leave the best k of them: the same reports have the same best, and a report that doesn't rank above the last line of a
-- full list changes nothing.
-- Assumes nothing.
use mathlib.Core.Path.{◌≡◌, sym, ap, ap₂, ◌∙◌, subst}
use mathlib.Core.Bool.{Bool, true, false, cond}
use mathlib.Core.List.Memᴰ
use mathlib.Core.List.{List, [], ◌∷◌}
use mathlib.Core.Logic.{⊎_elim}
use Prim.Native.Nat.{ℕ, zero, suc, ◌+◌, ◌-◌, ◌/◌, min, ◌≤◌, ◌<◌}
use native.Mathlib.Numerals.{add-one}
use native.Mathlib.Omega.{arith}
use lib.Dec.{eqb}
use lib.IntN.{ℤ}
use lib.ListN.{length, take, get_or}
use lib.Signed.{lt_z, mag}
use mir.Syntax.{w32}
use mir.Val.{to_z, of_z}
use Rattle.laws.specs.Lists.{on_last}
use Rattle.laws.proofs.Lists.{◌⊆◌, Same, there, same_swap}
use Rattle.laws.proofs.Tests.{Tested, passed, failed, tested, clash, if_so, if_not}
use Rattle.laws.proofs.Words.{kept}
use Rattle.search.specs.Best.{best, placed}
use Rattle.search.proofs.Best.{length_best_le, best_cons, best_skip}
use Rattle.values.proofs.Names.{name-number, name_back}
use Rattle.ranking.specs.declared.Rule.{Rule}
use Rattle.std.specs.Prelude.{Option, Some, None}
use Rattle.ranking.specs.Cells.{score, is_scored, points, ScoreFits, from_least}
use Rattle.ranking.specs.Standing.{Held, Entry, above, is_counted, entry, entries, top}
use Rattle.ranking.proofs.Cells.{from_is, from_none}
use Rattle.ranking.proofs.Entries.{above_strict, score_below, entries_none, top_cons, top_out, top-same}
use Rattle.window.specs.declared.Window.{Window}
use Rattle.window.specs.Rows.{number_in, report_in, standing}
use Rattle.list.specs.declared.Bar.{Bar}
use Rattle.list.specs.declared.Lines.{Lines}
use Rattle.list.specs.Lines.{lines_of, columns_of}
use Rattle.list.specs.Bars.{bar_at, bar_of}
use Rattle.list.specs.Inner.{Placing, least_at, admits, Gathered}
use Rattle.list.proofs.Stored.{Roomy, roomy_stored}
use Rattle.list.proofs.Sliding.{placed-stored}
use Rattle.list.proofs.Placing.{best_none, best_back}
use Rattle.list.proofs.Bars.{bar_full, admits-none, admits_room, admits-full, admits_under}

-- ---- rows in any order

-- reports, with what stands in a row
abbrev pub with_row : Window → ℕ → List Held → List Held
with_row w r hs = cond (eqb (number_in w r) 0) hs (report_in w r ∷ hs)

-- and in the n rows from one on
abbrev pub with_rows : Window → ℕ → ℕ → List Held → List Held
with_rows w r zero hs = hs
with_rows w r (suc n) hs = with_row w r (with_rows w (suc r) n hs)

itself : (l : List Held) → Same l l
itself l = (λ x m. m, λ x m. m)

joined : {l m n : List Held} → Same l m → Same m n → Same l n
joined s t = (λ x k. t.0 x (s.0 x k), λ x k. s.1 x (t.1 x k))

-- two lists of the same reports, with a row more
module _ (w : Window) where
  same_row : (r : ℕ) (l m : List Held) → Same l m → Same (with_row w r l) (with_row w r m)
  same_row r l m s = (over (eqb (number_in w r) 0) l m s.0, over (eqb (number_in w r) 0) m l s.1)
    where
      over : (b : Bool) (l m : List Held) → l ⊆ m → cond b l (report_in w r ∷ l) ⊆ cond b m (report_in w r ∷ m)
      over true l m h = h
      over false l m h = λ x k. ⊎_elim (λ e. Memᴰ.head e) (λ j. there (h x j)) (Memᴰ.cases_cons k)

  -- two rows, either first
  swap_row : (q r : ℕ) (l : List Held) → Same (with_row w q (with_row w r l)) (with_row w r (with_row w q l))
  swap_row q r l = go (eqb (number_in w q) 0) (eqb (number_in w r) 0) (report_in w q) (report_in w r)
    where
      go : (a b : Bool) (x y : Held) → Same (cond a (cond b l (y ∷ l)) (x ∷ cond b l (y ∷ l))) (cond b (cond a l (x ∷ l)) (y ∷ cond a l (x ∷ l)))
      go true true x y = itself l
      go true false x y = itself (y ∷ l)
      go false true x y = itself (x ∷ l)
      go false false x y = same_swap x y l

  -- a row before others or after them
  swap_rows : (q r n : ℕ) (l : List Held) → Same (with_row w q (with_rows w r n l)) (with_rows w r n (with_row w q l))
  swap_rows q r zero l = itself (with_row w q l)
  swap_rows q r (suc n) l =
      joined (swap_row q r (with_rows w (suc r) n l))
      (same_row r (with_row w q (with_rows w (suc r) n l)) (with_rows w (suc r) n (with_row w q l)) (swap_rows q (suc r) n l))

  -- the rows that were left are the last ones
  same_rows : (r n m : ℕ) → r + n ≡ m → Same (with_rows w r n (standing w r)) (standing w m)
  same_rows r zero m e = let none : r ≡ m = omega arith in subst (λ n. Same (standing w r) (standing w n)) none (itself (standing w r))
  same_rows r (suc n) m e = joined (swap_rows r (suc r) n (standing w r)) (same_rows (suc r) n m (omega arith))

-- a row more on the way up
pub row_up : (w : Window) (row : ℕ) → standing w (row + 1) ≡ with_row w row (standing w row)
row_up w row = ap (standing w) (add-one row)

-- and on the way down
pub row_down : (w : Window) (hs : List Held) (row high : ℕ) → 0 < row → row ≤ high → with_rows w (row - 1) (high - (row - 1)) hs ≡ with_row w (row - 1) (with_rows w row (high - row) hs)
row_down w hs row high h h' =
    let one : suc (row - 1) ≡ row = omega arith in
    let more : high - (row - 1) ≡ suc (high - row) = omega arith in
    ap (λ n. with_rows w (row - 1) n hs) more ∙ ap (λ r. with_row w (row - 1) (with_rows w r (high - row) hs)) one

-- ---- a pass over rows

-- The arrays have the best k of the reports so far, and the bar and its least score are theirs.
pub record Pass (rule : Rule) (k : ℕ) (hs : List Held) (ns : List ℕ) (ss : List ℤ) (len : ℕ) (bar : Bar) (least : ℤ) : Type 0 where
  pub lines : Gathered rule k hs ns ss len
  pub bar_is : bar ≡ bar_at ns ss len (eqb len k)
  pub least-is : least ≡ least_at bar

-- before the first row
pub gathered_none : (rule : Rule) (k : ℕ) → columns_of [] ≡ columns_of (top rule k [])
gathered_none rule k = best_none (above rule) k ∙ ap (λ l. columns_of (best (above rule) k l)) (sym (entries_none rule))

-- after the last, where they were taken from the last down
pub gathered_down : (rule : Rule) (k : ℕ) (w : Window) (low row high : ℕ) → low ≤ row → row ≤ low → low ≤ high → columns_of (top rule k (with_rows w row (high - row) (standing w low))) ≡ columns_of (top rule k (standing w high))
gathered_down rule k w low row high h h' h'' =
    let end : row ≡ low = omega arith in
    ap columns_of
    (ap (λ r. top rule k (with_rows w r (high - r) (standing w low))) end
    ∙ top-same rule k (with_rows w low (high - low) (standing w low)) (standing w high) (same_rows w low (high - low) high (omega arith)))

module _ (rule : Rule) (k : ℕ) (small : k ≤ 16) (hs : List Held) where
  few_k : length (top rule k hs) ≤ k
  few_k = length_best_le (above rule) (above_strict rule) k (entries rule hs)

  module _ {ns : List ℕ} {ss : List ℤ} {len : ℕ} (is : Gathered rule k hs ns ss len) where
    -- the arrays' length and their room
    pub gathered_few : len ≤ 16
    gathered_few = omega (arith, ap (λ (l : Lines). l.len) is, few_k)

    gathered_room : Roomy ns ss
    gathered_room = subst (λ (l : Lines). Roomy l.names l.scores) (sym is) (roomy_stored (top rule k hs))

    -- the bar as it is read of them
    bar_read : bar_at ns ss len (eqb len k) ≡ bar_of (columns_of (top rule k hs)) k
    bar_read =
        let short = gathered_few in
        let all : len ≡ min len 16 = omega arith in
        ap (λ m. bar_at ns ss m (eqb len k)) all ∙ ap (λ (l : Lines). bar_of l k) is

  module _ (w : Window) (r : ℕ) where
    abbrev report : Entry
    report = entry rule (report_in w r)

    -- the bar, as the list has it
    abbrev bar_now : Bar
    bar_now = bar_of (columns_of (top rule k hs)) k

    -- the number in its name is the row's
    number_is : report.name / 4097 ≡ number_in w r
    number_is = name-number (number_in w r) (report_in w r).values.edition

    named_so : {b : Bool} → eqb (number_in w r) 0 ≡ b → eqb (report.name / 4097) 0 ≡ b
    named_so e = ap (λ m. eqb m 0) number_is ∙ e

    row_none : eqb (number_in w r) 0 ≡ true → top rule k (with_row w r hs) ≡ top rule k hs
    row_none z = ap (top rule k) (if_so hs (report_in w r ∷ hs) z)

    row_some : eqb (number_in w r) 0 ≡ false → top rule k (with_row w r hs) ≡ top rule k (report_in w r ∷ hs)
    row_some z = ap (top rule k) (if_not hs (report_in w r ∷ hs) z)

    -- a row whose report passes the bar, as the arrays have it
    row_places : {ns ns' : List ℕ} {ss ss' : List ℤ} {len len' : ℕ} (x : Entry) → Gathered rule k hs ns ss len → Roomy ns' ss' → Placing (above rule) x len k (lines_of ns ss) (lines_of ns' ss') len' → x ≡ report → is_counted rule (report_in w r) ≡ true → admits (above rule) bar_now report ≡ true → Gathered rule k (with_row w r hs) ns' ss' len'
    row_places {ns} {ns'} {ss} {ss'} {len} {len'} x is room placing xe counts h = go (tested (eqb (number_in w r) 0))
      where
        go : Tested (eqb (number_in w r) 0) → Gathered rule k (with_row w r hs) ns' ss' len'
        go (passed z) = clash h (admits-none (above rule) bar_now report (named_so z))
        go (failed z) =
            placed-stored (above rule) (above_strict rule) k small ns ns' ss ss' len len' (top rule k hs) x is few_k room placing
            ∙ ap columns_of
            (ap (λ e. take k (placed (above rule) e (top rule k hs))) xe
            ∙ sym (top_cons rule k (report_in w r) hs counts)
            ∙ sym (row_some z))

    -- one whose report doesn't count
    row_out : is_counted rule (report_in w r) ≡ false → top rule k hs ≡ top rule k (with_row w r hs)
    row_out out = go (tested (eqb (number_in w r) 0))
      where
        go : Tested (eqb (number_in w r) 0) → top rule k hs ≡ top rule k (with_row w r hs)
        go (passed z) = sym (row_none z)
        go (failed z) = sym (row_some z ∙ top_out rule k (report_in w r) hs out)

    -- and one whose report counts and doesn't pass
    row_skips : is_counted rule (report_in w r) ≡ true → admits (above rule) bar_now report ≡ false → top rule k hs ≡ top rule k (with_row w r hs)
    row_skips counts h = go (tested (eqb (number_in w r) 0)) (tested bar_now.full)
      where
        go : Tested (eqb (number_in w r) 0) → Tested bar_now.full → top rule k hs ≡ top rule k (with_row w r hs)
        go (passed z) t = sym (row_none z)
        go (failed z) (failed t) = clash (admits_room (above rule) bar_now report (named_so z) t) h
        go (failed z) (passed t) =
            let full = bar_full (columns_of (top rule k hs)) k (roomy_stored (top rule k hs)) t in
            sym
            (best_skip (above rule) (above_strict rule) k report (entries rule hs) full.positive full.as_many
            (ap (on_last (above rule report)) (sym (best_back (above rule) (above_strict rule) k small (entries rule hs)))
            ∙ full.last (above rule report)
            ∙ sym (admits-full (above rule) bar_now report (named_so z) t)
            ∙ h))
            ∙ best_cons (above rule) (above_strict rule) k report (entries rule hs)
            ∙ sym (top_cons rule k (report_in w r) hs counts)
            ∙ sym (row_some z)

module _ {rule : Rule} {k : ℕ} {hs : List Held} {ns : List ℕ} {ss : List ℤ} {len : ℕ} {bar : Bar} {least : ℤ} (small : k ≤ 16) (p : Pass rule k hs ns ss len bar least) where
  pub pass_few : len ≤ 16
  pass_few = gathered_few rule k small hs p.lines

  pub pass_room : Roomy ns ss
  pass_room = gathered_room rule k small hs p.lines

  same_bar : bar ≡ bar_of (columns_of (top rule k hs)) k
  same_bar = p.bar_is ∙ bar_read rule k small hs p.lines

  -- a row more, by what its score's test and the bar say of its report
  module _ (w : Window) (r : ℕ) {hs' : List Held} (more : hs' ≡ with_row w r hs) {sc : Option ℤ} (scored : (sc ≡ from_least least (score rule (report_in w r).values)) × ScoreFits rule (report_in w r).values) where
    abbrev own_entry : Entry
    own_entry = entry rule (report_in w r)

    stays : top rule k hs ≡ top rule k (with_row w r hs) → Pass rule k hs' ns ss len bar least
    stays e = record { lines = p.lines ∙ ap columns_of (e ∙ ap (top rule k) (sym more)); bar_is = p.bar_is; least-is = p.least-is }

    pub pass_out : sc ≡ None → Pass rule k hs' ns ss len bar least
    pass_out none =
        stays
        (⊎_elim (row_out rule k small hs w r)
        (λ low. row_skips rule k small hs w r low.0
        (ap (λ b. admits (above rule) b own_entry) (sym same_bar)
        ∙ admits_under (above rule) bar own_entry (score_below rule) scored.1.sfits (ap (lt_z own_entry.score) (sym p.least-is) ∙ low.1)))
        (from_none least (score rule (report_in w r).values) (sym scored.0 ∙ none)))

    module _ {own : ℤ} (some : sc ≡ Some own) where
      -- the report's entry as the code has it
      abbrev read : Entry
      read = record { name = get_or w.rows.names r 0; score = to_z w32 (of_z w32 own) }

      score-is : score rule (report_in w r).values ≡ Some own
      score-is = from_is least (score rule (report_in w r).values) own (sym scored.0 ∙ some)

      read_is : read ≡ own_entry
      read_is =
          ap₂ (λ n s. record { name = n; score = s }) (sym (name_back (get_or w.rows.names r 0)))
          (ap (λ s. to_z w32 (of_z w32 s)) (sym (ap points score-is)) ∙ kept w32 (points (score rule (report_in w r).values)) scored.1.sfits)

      -- what is told of it
      module _ {t : Bool} (told : t ≡ admits (above rule) bar read) where
        test_is : admits (above rule) (bar_of (columns_of (top rule k hs)) k) own_entry ≡ t
        test_is = sym (told ∙ ap₂ (admits (above rule)) same_bar read_is)

        pub pass_skips : t ≡ false → Pass rule k hs' ns ss len bar least
        pass_skips e = stays (row_skips rule k small hs w r (ap is_scored score-is) (test_is ∙ e))

        pub pass_puts : t ≡ true → {ns' : List ℕ} {ss' : List ℤ} {len' : ℕ} {bar' : Bar} {s : ℤ} → Placing (above rule) read len k (lines_of ns ss) (lines_of ns' ss') len' × Roomy ns' ss' → bar' ≡ bar_at ns' ss' len' (eqb len' k) → mag s < 2147483648 → s ≡ least_at bar' → Pass rule k hs' ns' ss' len' bar' (to_z w32 (of_z w32 s))
        pass_puts e {ns'} {ss'} {len'} {bar'} {s} placing b fits l =
            record {
              lines = row_places rule k small hs w r read p.lines placing.1 placing.0 read_is (ap is_scored score-is) (test_is ∙ e) ∙ ap (λ l. columns_of (top rule k l)) (sym more);
              bar_is = b;
              least-is = kept w32 s fits ∙ l;
            }
