-- A log reads what is written for a captured line as the frame in it: its identifier fits 4 bytes, and its data are 8.
-- Assumes nothing.
use mathlib.Core.Path.{◌≡◌, refl}
use mathlib.Core.Bool.{Bool, true, false, cond, not}
use mathlib.Core.List.{List, [], ◌∷◌, ◌++◌}
use Prim.Native.Nat.{ℕ, ◌≤◌}
use native.Mathlib.Omega.{arith}
use borrow.Author.Tests.{ltb-false}
use lib.Dec.{ltb, eqb}
use lib.ListN.{length, take}
use Rattle.items.specs.Run.{Meant, run_bytes, read_items}
use Rattle.items.proofs.Runs.{AllFit, reads_back}
use Rattle.lines.specs.Words.{word_at}
use Rattle.stamps.specs.declared.Stamp.{Stamp}
use Rattle.stamps.specs.declared.Since.{Since}
use Rattle.stamps.specs.declared.Since.TheVariants as since
use Rattle.stamps.specs.Stamps.{earliest, between, since_of}
use Rattle.dump.specs.Dump.{is_drop, frame_in}
use Rattle.lines.specs.Numbers.{number_in}
use Rattle.std.proofs.Common.{Option, Some, None, unwrap_or}
use Rattle.capture.specs.declared.Sort.{Sort}
use Rattle.capture.specs.declared.Sort.TheVariants as sort
use Rattle.capture.specs.Capture.{id_size, raw_text, is_marked, data_text, id_in, sort_of_frame, is, placed, is_elsewhere, is_foreign, is_beyond, frame_for, wanted, sort_for, sort_in, item_of_word, item_of, items_of_line, start_after, stamp_in, since_in, items_of_lines}
use Rattle.capture.proofs.Texts.{bytes_count, read_most}
use Rattle.capture.proofs.Frames.{sixteen, never_marked}
use Rattle.capture.specs.Inner.{items_for}

id_most : (w : List ℕ) → unwrap_or (id_in w) 0 ≤ 1073741823
unfolding id_in
id_most w = go (ltb (id_size w) (length w)) (eqb (id_size w) 3) (eqb (id_size w) 8)
  where
    go : (a b c : Bool)
        → unwrap_or (cond a (cond b (number_in 16 2047 (take (id_size w) w)) (cond c (number_in 16 1073741823 (take (id_size w) w)) None)) None) 0 ≤ 1073741823
    go true true c = omega (arith, read_most 16 2047 (take (id_size w) w))
    go true false true = read_most 16 1073741823 (take (id_size w) w)
    go true false false = omega arith
    go false b c = omega arith

-- A log's time fits 4 bytes.
TimeFits : Since → Type 0
TimeFits since.Unknown = Unit
TimeFits (since.At ms) = ms ≤ 4294967295
TimeFits since.Beyond = Unit

since_fits : (start s : Option Stamp) → TimeFits (since_in start s)
unfolding since_in since_of TimeFits
since_fits start None = tt
since_fits start (Some s) = go (between (earliest start (Some s)) s) (ltb 4294967295 (between (earliest start (Some s)) s)) refl
  where
    go : (n : ℕ) (b : Bool) → ltb 4294967295 n ≡ b → TimeFits (cond b since.Beyond (since.At n))
    go n true e = tt
    go n false e = ltb-false 4294967295 n e

-- What is written is a frame with 8 data bytes.
module _ (ours elsewhere : Bool) (t : Since) (in_time : TimeFits t) (w : List ℕ) where
  item_fits : length (data_text w) ≡ 16 → AllFit (item_of_word t w ∷ [])
  unfolding TimeFits
  item_fits h = go t in_time
    where
      go : (v : Since) → TimeFits v → AllFit (item_of_word v w ∷ [])
      go since.Unknown f = ((omega (arith, id_most w), bytes_count 8 (data_text w) h), tt)
      go (since.At ms) f = ((omega arith, omega (arith, id_most w), bytes_count 8 (data_text w) h), tt)
      go since.Beyond f = ((omega (arith, id_most w), bytes_count 8 (data_text w) h), tt)

  written : AllFit (items_for ours elsewhere t w)
  unfolding items_for sort_for wanted frame_for
  written = go (placed elsewhere (sort_of_frame w)) refl (is_foreign ours w) (is_beyond t) (is_marked (raw_text w))
    where
      go : (v : Sort) → v ≡ placed elsewhere (sort_of_frame w) → (a b c : Bool)
          → AllFit (item_of t (cond (is sort.Frame v) (cond a sort.Foreign (cond b sort.Beyond (cond c sort.Marked sort.Frame))) v) w)
      go sort.Frame e true b c = tt
      go sort.Frame e false true c = tt
      go sort.Frame e false false true = item_fits (sixteen ours elsewhere t w e refl)
      go sort.Frame e false false false = item_fits (sixteen ours elsewhere t w e refl)
      go sort.Marked e a b c = absurd (never_marked elsewhere w e)
      go sort.Foreign e a b c = tt
      go sort.Elsewhere e a b c = tt
      go sort.Short e a b c = tt
      go sort.Remote e a b c = tt
      go sort.Error e a b c = tt
      go sort.Fd e a b c = tt
      go sort.Length e a b c = tt
      go sort.Beyond e a b c = tt
      go sort.Dropped e a b c = tt
      go sort.Nothing e a b c = tt
      go sort.Broken e a b c = tt

all_fit : (ours : Bool) (name : List ℕ) (t : Since) → TimeFits t → (line : List ℕ) → AllFit (items_of_line ours name t line)
unfolding items_of_line sort_in items_for
all_fit ours name t in_time line = go (eqb (length (word_at 0 line)) 0) (is_drop line)
  where
    go : (a b : Bool) → AllFit (item_of t (cond a sort.Nothing (cond b sort.Dropped (sort_for ours (is_elsewhere name line) t (frame_in line)))) (frame_in line))
    go true b = tt
    go false true = tt
    go false false = written ours (is_elsewhere name line) t in_time (frame_in line)

-- The item that a log reads in what is written for a line is the one frame that the line holds, with its time if it has one, its identifier and data; none
-- where it holds none.
pub line_reads_back : (ours : Bool) (name : List ℕ) (start s : Option Stamp) (line : List ℕ)
    → read_items (run_bytes (items_of_line ours name (since_in start s) line)) ≡ items_of_line ours name (since_in start s) line
line_reads_back ours name start s line = reads_back (items_of_line ours name (since_in start s) line) (all_fit ours name (since_in start s) (since_fits start s) line)

-- ---- a capture

both_fit : (xs ys : List Meant) → AllFit xs → AllFit ys → AllFit (xs ++ ys)
both_fit [] ys f g = g
both_fit (x ∷ xs) ys f g = (f.0, both_fit xs ys f.1 g)

lines_fit : (ours : Bool) (name : List ℕ) (timed : Bool) (start : Option Stamp) (ls : List (List ℕ)) → AllFit (items_of_lines ours name timed start ls)
unfolding items_of_lines
lines_fit ours name timed start [] = tt
lines_fit ours name timed start (l ∷ ls) =
    let t = since_in start (stamp_in timed l) in
    let next = start_after start (stamp_in timed l) (sort_in ours name t l) in
    both_fit (items_of_line ours name t l) (items_of_lines ours name timed next ls) (all_fit ours name t (since_fits start (stamp_in timed l)) l)
    (lines_fit ours name timed (start_after start (stamp_in timed l) (sort_in ours name (since_in start (stamp_in timed l)) l)) ls)

-- The same of all lines of a capture.
pub lines_read_back : (ours : Bool) (name : List ℕ) (timed : Bool) (start : Option Stamp) (ls : List (List ℕ))
    → read_items (run_bytes (items_of_lines ours name timed start ls)) ≡ items_of_lines ours name timed start ls
lines_read_back ours name timed start ls = reads_back (items_of_lines ours name timed start ls) (lines_fit ours name timed start ls)
