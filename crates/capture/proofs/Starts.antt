-- Times count from the first frame that has one: what is asked for makes no other line a frame, and a start that is there stays.
-- Assumes nothing.
use mathlib.Core.Path.{◌≡◌, refl, sym, ◌∙◌}
use mathlib.Core.Bool.{Bool, true, false, cond, not, ◌&&◌, ◌||◌, true≢false}
use mathlib.Core.List.{List, [], ◌∷◌, ◌++◌}
use Prim.Native.Nat.{ℕ}
use Rattle.std.proofs.Common.{Option, Some, None}
use lib.Dec.{eqb}
use lib.ListN.{length}
use Rattle.lines.specs.Words.{word_at}
use Rattle.stamps.specs.declared.Stamp.{Stamp}
use Rattle.stamps.specs.declared.Since.{Since}
use Rattle.stamps.specs.declared.Since.TheVariants as since
use Rattle.stamps.specs.Stamps.{earliest, since_of}
use Rattle.dump.specs.Dump.{is_drop, frame_in}
use Rattle.capture.specs.declared.Sort.{Sort}
use Rattle.capture.specs.declared.Sort.TheVariants as sort
use Rattle.capture.proofs.Frames.{by_sort}
use Rattle.capture.specs.Capture.{raw_text, is_marked, sort_of_frame, is, is_elsewhere, placed, is_foreign, is_beyond, frame_for, wanted, sort_for, sort_in, items_of_line, is_frame, start_after, stamp_in, since_in, items_of_lines, start_after_lines, first_stamp}

-- ---- what is a frame

-- What stands in a line with words is a frame, or broken.
frame_or_broken : (w : List ℕ) → (is_frame (sort_of_frame w) || is sort.Broken (sort_of_frame w)) ≡ true
frame_or_broken w = by_sort (λ (s : Sort). (is_frame s || is sort.Broken s) ≡ true) w refl refl refl refl refl (λ e. refl) refl

asked-frame : (ours elsewhere : Bool) (t : Since) (w : List ℕ) → is_frame (sort_for ours elsewhere t w) ≡ is_frame (sort_of_frame w)
unfolding sort_for wanted frame_for placed
asked-frame ours elsewhere t w = go (sort_of_frame w) (frame_or_broken w) elsewhere (is_foreign ours w) (is_beyond t) (is_marked (raw_text w))
  where
    asked : Bool → Bool → Bool → Sort → Sort
    asked a b c s = cond (is sort.Frame s) (cond a sort.Foreign (cond b sort.Beyond (cond c sort.Marked sort.Frame))) s

    go : (s : Sort) → (is_frame s || is sort.Broken s) ≡ true → (e a b c : Bool) → is_frame (asked a b c (cond (e && not (is sort.Broken s)) sort.Elsewhere s)) ≡ is_frame s
    go sort.Frame h true a b c = refl
    go sort.Frame h false true b c = refl
    go sort.Frame h false false true c = refl
    go sort.Frame h false false false true = refl
    go sort.Frame h false false false false = refl
    go sort.Marked h true a b c = refl
    go sort.Marked h false a b c = refl
    go sort.Foreign h true a b c = refl
    go sort.Foreign h false a b c = refl
    go sort.Elsewhere h true a b c = refl
    go sort.Elsewhere h false a b c = refl
    go sort.Short h true a b c = refl
    go sort.Short h false a b c = refl
    go sort.Remote h true a b c = refl
    go sort.Remote h false a b c = refl
    go sort.Error h true a b c = refl
    go sort.Error h false a b c = refl
    go sort.Fd h true a b c = refl
    go sort.Fd h false a b c = refl
    go sort.Length h true a b c = refl
    go sort.Length h false a b c = refl
    go sort.Beyond h true a b c = refl
    go sort.Beyond h false a b c = refl
    go sort.Dropped h e a b c = absurd (true≢false (sym h))
    go sort.Nothing h e a b c = absurd (true≢false (sym h))
    go sort.Broken h true a b c = refl
    go sort.Broken h false a b c = refl

-- Whatever is asked for, the same lines are frames.
pub same-frames : (ours : Bool) (name : List ℕ) (t : Since) (line : List ℕ) → is_frame (sort_in ours name t line) ≡ is_frame (sort_in false [] since.Unknown line)
unfolding sort_in
same-frames ours name t line =
    go (eqb (length (word_at 0 line)) 0) (is_drop line) (sort_for ours (is_elsewhere name line) t (frame_in line)) (sort_for false (is_elsewhere [] line) since.Unknown (frame_in line))
    (asked-frame ours (is_elsewhere name line) t (frame_in line) ∙ sym (asked-frame false (is_elsewhere [] line) since.Unknown (frame_in line)))
  where
    go : (a b : Bool) (x y : Sort) → is_frame x ≡ is_frame y → is_frame (cond a sort.Nothing (cond b sort.Dropped x)) ≡ is_frame (cond a sort.Nothing (cond b sort.Dropped y))
    go true b x y h = refl
    go false true x y h = refl
    go false false x y h = h

-- ---- the start

module _ (ours : Bool) (name : List ℕ) (timed : Bool) where
  next : Option Stamp → List ℕ → Option Stamp
  next start l = start_after start (stamp_in timed l) (sort_in ours name (since_in start (stamp_in timed l)) l)

  next-is : (start : Option Stamp) (l : List ℕ) → next start l ≡ cond (is_frame (sort_in false [] since.Unknown l)) (earliest start (stamp_in timed l)) start
  unfolding next start_after
  next-is start l = rw (same-frames ours name (since_in start (stamp_in timed l)) l)

  next_stays : (start : Stamp) (l : List ℕ) → next (Some start) l ≡ Some start
  unfolding earliest
  next_stays start l = next-is (Some start) l ∙ both (is_frame (sort_in false [] since.Unknown l))
    where
      both : (b : Bool) → cond b (Some start) (Some start) ≡ Some start
      both true = refl
      both false = refl

  stays : (start : Stamp) (ls : List (List ℕ)) → start_after_lines ours name timed (Some start) ls ≡ Some start
  unfolding start_after_lines next
  stays start [] = refl
  stays start (l ∷ ls) = rw (next_stays start l) (stays start ls)

  -- Behind any lines times count from the first frame among them that has a time; without `timed` there is none.
  pub start_first : (ls : List (List ℕ)) → start_after_lines ours name timed None ls ≡ first_stamp timed ls
  unfolding start_after_lines first_stamp next earliest
  start_first [] = refl
  start_first (l ∷ ls) = rw (next-is None l) (go (is_frame (sort_in false [] since.Unknown l)) (stamp_in timed l) (start_first ls))
    where
      go : (b : Bool) (s : Option Stamp) → start_after_lines ours name timed None ls ≡ first_stamp timed ls
          → start_after_lines ours name timed (cond b s None) ls ≡ cond b (earliest s (first_stamp timed ls)) (first_stamp timed ls)
      go true (Some s) h = stays s ls
      go true None h = h
      go false s h = h

-- ---- without times

-- What is written is what was written before times: each line by itself, without one.
pub untimed-lines : (ours : Bool) (name l : List ℕ) (ls : List (List ℕ))
    → items_of_lines ours name false None (l ∷ ls) ≡ items_of_line ours name since.Unknown l ++ items_of_lines ours name false None ls
unfolding items_of_lines stamp_in since_in since_of start_after earliest
untimed-lines ours name l ls = rw (both (is_frame (sort_in ours name since.Unknown l)))
  where
    both : (b : Bool) → ◌≡◌ {A = Option Stamp} (cond b None None) None
    both true = refl
    both false = refl
