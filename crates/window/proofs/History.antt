-- A window holds the last min(N, entered) reports of its history: a report more ends the history as it ends what is held, and what a full window drops is the first of its last N.
-- Assumes nothing.
use mathlib.Core.Path.{◌≡◌, refl, sym, ap, ◌∙◌, subst}
use mathlib.Core.Bool.{true}
use mathlib.Core.List.{List, [], ◌∷◌, ◌++◌, append_assoc, append-nil}
use Prim.Native.Nat.{ℕ, suc, min, ◌+◌, ◌-◌, ◌≤◌, ◌<◌}
use native.Mathlib.Nat.{add-zero}
use native.Mathlib.Omega.{arith}
use lib.ListN.{length, drop, length-append}
use lib.Seq.{drop-append-le, drop-drop, drop-nil}
use Rattle.values.specs.declared.Values.{Values}
use Rattle.values.specs.Range.{in_range}
use Rattle.ranking.specs.Standing.{Held, Permitted}
use Rattle.laws.proofs.Lists.{here, there}
use Rattle.search.proofs.Search.{All}
use Rattle.window.specs.Rows.{sized, empty, held_reports, fit_window, added, grown}
use Rattle.window.specs.History.{numbered, latest, window_after}
use Rattle.window.specs.declared.Window.{Window}
use Rattle.window.proofs.Fitness.{Ranges, Whole, fit_facts, empty-fit, empty-whole, added-fit, added-whole, added-taken, is-sized}
use Rattle.window.proofs.Reports.{new_report, empty_holds, held_added}

length-numbered : (n : ℕ) (vs : List Values) → length (numbered n vs) ≡ length vs
length-numbered n [] = refl
length-numbered n (v ∷ vs) = ap suc (length-numbered (n + 1) vs)

abbrev report : ℕ → Values → Held
report n v = record { number = n; values = v }

numbered_snoc : (n : ℕ) (vs : List Values) (v : Values) → numbered n (vs ++ (v ∷ [])) ≡ numbered n vs ++ (report (n + length vs) v ∷ [])
numbered_snoc n [] v = ap (λ m. report m v ∷ []) (sym (add-zero n))
numbered_snoc n (u ∷ us) v =
    let same : n + 1 + length us ≡ n + suc (length us) = omega arith in
    ap (λ l. report n u ∷ l) (numbered_snoc (n + 1) us v ∙ ap (λ m. numbered (n + 1) us ++ (report m v ∷ [])) same)

-- What is known of a window of size n with this history.
pub record Since (n : ℕ) (past : List Values) (w : Window) : Type 0 where
  pub of_size : w.counts.size ≡ n
  pub all-entered : w.counts.entered ≡ length past
  pub as_many_held : w.counts.held ≡ min n (length past)
  pub holds-latest : held_reports w ≡ latest n (numbered 1 past)
  pub fit : fit_window w ≡ true
  pub whole : Whole w

pub since-fresh : (n : ℕ) → sized n ≡ true → Since n [] (empty n)
since-fresh n h =
    record {
      of_size = refl;
      all-entered = refl;
      as_many_held = omega arith;
      holds-latest = empty_holds n ∙ rw drop-nil;
      fit = empty-fit n h;
      whole = empty-whole n;
    }

module _ (n : ℕ) (past : List Values) (w : Window) (v : Values) (since : Since n past w) (may : in_range v ≡ true) (room : length past < 1000000) where
  ranges : Ranges w.counts
  ranges = (fit_facts w since.fit).ranges

  free : w.counts.entered < 1000000
  free = omega (arith, since.all-entered)

  is-grown : added w v ≡ grown w v
  is-grown = added-taken w v (is-sized w.counts.size ranges.ring.positive ranges.within) free

  more : length (past ++ (v ∷ [])) ≡ length past + 1
  more = length-append past (v ∷ [])

  -- A report more: the history with it at its end.
  pub since-added : Since n (past ++ (v ∷ [])) (added w v)
  since-added =
      record {
        of_size = ap (λ (z : Window). z.counts.size) is-grown ∙ since.of_size;
        all-entered = ap (λ (z : Window). z.counts.entered) is-grown ∙ omega (arith, since.all-entered, more);
        as_many_held = ap (λ (z : Window). z.counts.held) is-grown ∙ omega (arith, since.as_many_held, since.of_size, more);
        holds-latest = held_added w v ranges since.whole may free ∙ joined;
        fit = added-fit w v since.fit since.whole free may;
        whole = added-whole w v since.whole;
      }
    where
      xs : List Held
      xs = numbered 1 past

      new : Held
      new = report (1 + length past) v

      gone : ℕ
      gone = length past - n + (w.counts.held + 1 - w.counts.size)

      same_new : new_report w v ≡ new
      same_new = ap (λ m. report m v) (omega (arith, since.all-entered))

      size_here : length xs ≡ length past
      size_here = length-numbered 1 past

      old : drop (w.counts.held + 1 - w.counts.size) (held_reports w) ≡ drop gone xs
      old =
          ap (drop (w.counts.held + 1 - w.counts.size)) (since.holds-latest ∙ ap (λ m. drop (m - n) xs) size_here)
          ∙ drop-drop (w.counts.held + 1 - w.counts.size) (length past - n) xs

      few : gone ≤ length xs
      few = omega (arith, since.as_many_held, since.of_size, size_here, ranges.ring.positive)

      count : length (xs ++ (new ∷ [])) - n ≡ gone
      count = omega (arith, length-append xs (new ∷ []), since.as_many_held, since.of_size, size_here, ranges.ring.positive)

      joined : drop (w.counts.held + 1 - w.counts.size) (held_reports w) ++ (new_report w v ∷ []) ≡ latest n (numbered 1 (past ++ (v ∷ [])))
      joined =
          ap (λ l. l ++ (new_report w v ∷ [])) old
          ∙ ap (λ r. drop gone xs ++ (r ∷ [])) same_new
          ∙ sym (drop-append-le gone xs (new ∷ []) few)
          ∙ ap (λ k. drop k (xs ++ (new ∷ []))) (sym count)
          ∙ ap (latest n) (sym (numbered_snoc 1 past v))

-- from a window with its history on
since-after : (n m : ℕ) (past : List Values) (w : Window) (rest : List Values) → Since n past w → All Permitted (numbered m rest) → length past + length rest ≤ 1000000 → Since n (past ++ rest) (window_after w rest)
since-after n m past w [] since permitted room = subst (λ l. Since n l w) (sym (append-nil past)) since
since-after n m past w (v ∷ vs) since permitted room =
    let p = permitted (report m v) here in
    subst (λ l. Since n l (window_after (added w v) vs)) (append_assoc past (v ∷ []) vs)
    (since-after n (m + 1) (past ++ (v ∷ [])) (added w v) vs
    (since-added n past w v since p (omega arith)) (λ u k. permitted u (there k)) (rw length-append (omega arith)))

-- A window that is reached from a fresh one by entering at most 1,000,000 reports of permitted values holds the last min(N, entered) of them, with their numbers and the values that they were entered with; and it is fit.
pub reached : (n : ℕ) → sized n ≡ true → (past : List Values) → All Permitted (numbered 1 past) → length past ≤ 1000000 → Since n past (window_after (empty n) past)
reached n h past permitted room = since-after n 1 [] (empty n) past (since-fresh n h) permitted (omega arith)
