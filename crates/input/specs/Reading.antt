-- A line that is read. What the operating system hands over is some text, `come`, which no contract settles; the line is the first one of
-- what was not taken yet with that text behind it.
use Rattle.std.specs.Prelude.{◌≡◌, ℕ, ◌+◌, ◌%◌, ◌^◌, min, Bool, true, false, cond, List, ◌++◌, length, Option, Some, None, Result, Ok, Err}
use Rattle.std.proofs.lemmas.List.Edits.{sets}
use Rattle.input.specs.declared.Input.{Input}
use Rattle.input.specs.declared.ReadFailed.{ReadFailed}
use Rattle.input.specs.declared.Source.{Source}
use Rattle.input.specs.declared.Source.TheVariants as source
use Rattle.input.specs.Lines.{line_size, first_line, has_line_end, behind_line, unread}

-- A turn takes what was not taken yet, up to the line's end. What is not taken yet then stood behind that, or came in the turn.
pub record TakesAndReads (i : Input) (line space : List ℕ) (r : Input) (line' space' : List ℕ) : Type 0 where
  pub come : List ℕ
  pub behind : unread r space' ≡ behind_line (unread i space) ++ come
  pub bytes : line' ≡ sets line i.size (first_line (unread i space))
  pub size : r.size ≡ min (i.size + line_size (unread i space)) (length line + 1)
  pub whole : r.whole ≡ has_line_end (unread i space)
  pub number : r.number ≡ i.number

-- Where the line is whole, it is the first one of the text, and what stands behind it is not taken yet.
pub record Whole (text found after : List ℕ) : Type 0 where
  pub first : first_line text ≡ found
  pub end : has_line_end text ≡ true
  pub behind : behind_line text ≡ after

-- Where it is not, it is all of the text that was taken, without a line end.
pub record Part (text found after : List ℕ) : Type 0 where
  pub all : text ≡ found ++ after
  pub none : has_line_end found ≡ false

-- A line `found` in what was not taken yet, `text`, and what came behind it. The bytes lent for it have its front, and its size is one more than
-- they are where it is longer; `after` is not taken yet then.
pub record Handed (text line : List ℕ) (r : Input) (line' after : List ℕ) : Type 0 where
  pub come : List ℕ
  pub found : List ℕ
  pub whole : r.whole ≡ true → Whole (text ++ come) found after
  pub part : r.whole ≡ false → Part (text ++ come) found after
  pub bytes : line' ≡ sets line 0 found
  pub size : r.size ≡ min (length found) (length line + 1)

-- What `next` answers: a line, and its number.
unfoldable pub Comes : Input → List ℕ → List ℕ → Result (Option Input) ReadFailed → List ℕ → List ℕ → Type 0
Comes i line space (Ok (Some r)) line' space' = Handed (unread i space) line r line' (unread r space') × (r.number ≡ (i.number + 1) % 2 ^ 64)
Comes i line space (Ok None) line' space' = Unit {0}
Comes i line space (Err e) line' space' = Unit {0}

-- Whether a read failed.
abbrev pub failed : Source → Bool
failed source.Open = false
failed source.Ended = false
failed source.Failed = true

-- A read failed before the line's end came.
unfoldable pub is_cut : Input → Bool
is_cut i = cond i.whole false (failed i.source)
