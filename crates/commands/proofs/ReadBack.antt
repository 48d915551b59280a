-- A log reads what is written for a line as what the line stands for: every number fits its bytes, and every frame has 8 data bytes.
-- Assumes nothing.
use mathlib.Core.Path.{◌≡◌, refl}
use mathlib.Core.Bool.{Bool, true, false, cond}
use mathlib.Core.List.{List, [], ◌∷◌, ◌++◌, map}
use Prim.Native.Nat.{ℕ, zero, suc, ◌+◌, ◌≤◌, ◌<◌}
use native.Mathlib.Omega.{arith}
use borrow.Author.Tests.{eqb-true}
use lib.Dec.{eqb}
use lib.ListN.{length}
use lib.IntN.{pos}
use lib.Signed.{mag}
use Rattle.laws.proofs.Tests.{either}
use Rattle.std.proofs.Common.{Option, Some, None, ok_or, Result, Ok, Err}
use Rattle.items.specs.declared.Setting.{Setting}
use Rattle.items.specs.declared.Item.{Item}
use Rattle.items.specs.Run.{Meant, run_bytes, read_items}
use Rattle.items.proofs.Reading.{Fits}
use Rattle.items.proofs.Runs.{AllFit, reads_back}
use Rattle.lines.specs.Words.{word_at}
use Rattle.report.specs.Payload.{payload, given}
use Rattle.joining.specs.Joining.{packets}
use Rattle.bench.specs.Bench.{frames, packets_from}
use Rattle.bench.proofs.Sending.{length_data, length-announcement}
use Rattle.commands.specs.declared.Kind.{Kind}
use Rattle.commands.specs.declared.Kind.TheVariants as kind
use Rattle.commands.specs.declared.Fault.{Fault}
use Rattle.commands.specs.declared.Sending.{Sending}
use Rattle.commands.specs.declared.Command.{Command}
use Rattle.commands.specs.Lines.{kind_of, wrong_at, and_next, no_more, value_at, weight_at, end_at, window_line, heat_at, ties_at, no_tie_rule, question_item, question_line, slot_at, remove_line, show_line, edition_at, own_at, report_line, time_line, untimed_line, by_kind, command_of, note_in}
use Rattle.commands.specs.Items.{frame_item, item_of_frame, report_refusal, report_items, items_read, outcome_of, line_outcome, line_items, text_items}
use Rattle.commands.proofs.Reading.{value_most, weight_most, heat_most, ends-early, none_warm, none_newest}
use Rattle.commands.proofs.Writing.{taken_facts}

-- ---- a report's frames

-- A time, if there is one, fits four bytes.
abbrev pub TimeFits : Option ℕ → Type 0
TimeFits None = Unit
TimeFits (Some ms) = ms < 4294967296

module _ (t : Option ℕ) (ht : TimeFits t) where
  frame_fits : (id : ℕ) (ds : List ℕ) → id < 4294967296 → length ds ≡ 8 → Fits (frame_item t id) ds
  frame_fits id ds h e = go t ht
    where
      go : (u : Option ℕ) → TimeFits u → Fits (frame_item u id) ds
      go None k = (h, e)
      go (Some ms) k = (k, h, e)

  packets-fit : (sender : ℕ) (p : List ℕ) (i n : ℕ) → sender ≤ 253 → AllFit (map (item_of_frame t) (packets_from sender p i n))
  unfolding packets_from
  packets-fit sender p i zero h = tt
  packets-fit sender p i (suc n) h = (frame_fits _ _ (omega arith) (length_data p i), packets-fit sender p (i + 1) n h)

  frames-fit : (sender : ℕ) (p : List ℕ) → sender ≤ 253 → AllFit (map (item_of_frame t) (frames sender p))
  unfolding frames
  frames-fit sender p h = (frame_fits _ _ (omega arith) (length-announcement _), packets-fit sender p 1 (packets _) h)

  report_fits : (s : Sending) (note : List ℕ) → AllFit (report_items t s note)
  unfolding report_items report_refusal
  report_fits s note = go (eqb (report_refusal s note) 0) refl
    where
      go : (b : Bool) → eqb (report_refusal s note) 0 ≡ b → AllFit (cond b (map (item_of_frame t) (frames s.sender (payload s.report (given s.noted note)))) [])
      go true e = frames-fit s.sender _ (taken_facts 168 s.sender s.report (given s.noted note) (eqb-true _ 0 e)).0
      go false e = tt

-- ---- a line

-- The items of a line that was read fit, and so does the time behind it.
module _ (t : Option ℕ) (ht : TimeFits t) (note line : List ℕ) where
  abbrev FitsAll : Result Command Fault → Type 0
  FitsAll r = AllFit (items_read t r note) × TimeFits (outcome_of t r note).time

  -- What is wrong has no items and leaves the time, so that only what comes behind a right word has to fit.
  next_fits : {T : Type 0} (r : Result T Fault) (next : T → Result Command Fault) → ((x : T) → r ≡ Ok x → FitsAll (next x)) → FitsAll (and_next next r)
  next_fits (Ok x) next h = h x refl
  next_fits (Err f) next h = (tt, ht)

  window_fits : FitsAll (window_line line)
  unfolding window_line
  window_fits =
      next_fits (value_at kind.Window 1 65535 line) _ (λ n e.
      next_fits (end_at kind.Window 2 line) _ (λ u d. (((omega (arith, value_most kind.Window 1 65535 line n e), refl), tt), ht)))

  -- Any setting of a line fits its item, if its weights fit, and where the item has no room for the weight for heat or the tie rule these are 0.
  setting_fits : (s : Setting) → mag s.loss < 32768 → mag s.shake < 32768 → mag s.heat < 32768 → (no_more 5 line ≡ true → s.heat ≡ pos 0)
      → (no_tie_rule line ≡ true → s.ties ≡ 0) → Fits (question_item line s) []
  unfolding question_item
  setting_fits s loss shake heat cold newest =
      either (λ (i : Item). Fits i []) (no_more 5 line) (λ bare. (loss, shake, cold bare, newest (ends-early line bare), refl))
      (λ more. either (λ (i : Item). Fits i []) (no_tie_rule line) (λ none. (loss, shake, heat, newest none, refl)) (λ ruled. (loss, shake, heat, refl)))

  question_fits : FitsAll (question_line line)
  unfolding question_line
  question_fits =
      next_fits (value_at kind.Question 1 255 line) _ (λ slot e1.
      next_fits (value_at kind.Question 2 255 line) _ (λ k e2.
      next_fits (weight_at kind.Question 3 line) _ (λ a e3.
      next_fits (weight_at kind.Question 4 line) _ (λ b e4.
      next_fits (heat_at line) _ (λ c e5.
      next_fits (ok_or (ties_at line) (wrong_at kind.Question 6)) _ (λ r e6.
      next_fits (end_at kind.Question 7 line) _ (λ u e7. (
        (
          setting_fits (record { slot = slot; k = k; loss = a; shake = b; heat = c; ties = r }) (weight_most kind.Question 3 line a e3) (weight_most kind.Question 4 line b e4)
              (heat_most line c e5) (λ bare. none_warm line c bare e5) (λ none. none_newest line (wrong_at kind.Question 6) r none e6),
          tt,
        ),
        ht,
      ))))))))

  remove_fits : FitsAll (remove_line line)
  unfolding remove_line
  remove_fits = next_fits (slot_at kind.Remove line) _ (λ slot e. ((refl, tt), ht))

  show_fits : FitsAll (show_line line)
  unfolding show_line
  show_fits = next_fits (slot_at kind.Show line) _ (λ slot e. ((refl, tt), ht))

  report_line_fits : (k : Kind) → FitsAll (report_line k line)
  unfolding report_line
  report_line_fits k =
      next_fits (value_at k 1 255 line) _ (λ sender e1.
      next_fits (value_at k 2 65535 line) _ (λ loss e2.
      next_fits (value_at k 3 65535 line) _ (λ shake e3.
      next_fits (edition_at k line) _ (λ e e4.
      next_fits (value_at k (own_at k) 4294967295 line) _ (λ own e5. (report_fits t ht _ note, ht))))))

  time_fits : FitsAll (time_line line)
  unfolding time_line
  time_fits =
      next_fits (value_at kind.Time 1 4294967295 line) _ (λ ms e.
      next_fits (end_at kind.Time 2 line) _ (λ u d. (tt, omega (arith, value_most kind.Time 1 4294967295 line ms e))))

  untimed_fits : FitsAll (untimed_line line)
  unfolding untimed_line
  untimed_fits = next_fits (end_at kind.Untimed 1 line) _ (λ u d. (tt, tt))

  by_kind_fits : (k : Kind) → FitsAll (by_kind k line)
  by_kind_fits kind.Nothing = (tt, ht)
  by_kind_fits kind.Window = window_fits
  by_kind_fits kind.Question = question_fits
  by_kind_fits kind.Remove = remove_fits
  by_kind_fits kind.Show = show_fits
  by_kind_fits kind.Report = report_line_fits kind.Report
  by_kind_fits kind.Noted = report_line_fits kind.Noted
  by_kind_fits kind.Time = time_fits
  by_kind_fits kind.Untimed = untimed_fits
  by_kind_fits kind.Heated = report_line_fits kind.Heated
  by_kind_fits kind.HeatedNoted = report_line_fits kind.HeatedNoted
  by_kind_fits kind.Unknown = (tt, ht)

  line_fits : FitsAll (command_of line)
  unfolding command_of
  line_fits = by_kind_fits (kind_of (word_at 0 line))

-- The items that a log reads in what is written for a line are those that the line stands for.
pub line_reads_back : (t : Option ℕ) (line : List ℕ) → TimeFits t → read_items (run_bytes (line_items t line)) ≡ line_items t line
line_reads_back t line h = reads_back (line_items t line) (line_fits t h (note_in line) line).0

-- ---- lines in a row

fits_append : (ms ns : List Meant) → AllFit ms → AllFit ns → AllFit (ms ++ ns)
fits_append [] ns h k = k
fits_append (m ∷ ms) ns h k = (h.0, fits_append ms ns h.1 k)

text_fits : (t : Option ℕ) (lines : List (List ℕ)) → TimeFits t → AllFit (text_items t lines)
unfolding text_items
text_fits t [] h = tt
text_fits t (line ∷ lines) h =
    let fits = line_fits t h (note_in line) line in
    let behind = (line_outcome t line).time in
    fits_append (line_items t line) (text_items behind lines) fits.0 (text_fits behind lines fits.1)

-- The same of all lines of a text, from the first, which has no time.
pub text_reads_back : (lines : List (List ℕ)) → read_items (run_bytes (text_items None lines)) ≡ text_items None lines
text_reads_back lines = reads_back (text_items None lines) (text_fits None lines tt)
