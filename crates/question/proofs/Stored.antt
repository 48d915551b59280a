-- A question's list is one of `list`: the laws of stored lists, told of a question.
-- Assumes nothing.
use mathlib.Core.Path.{◌≡◌, refl}
use mathlib.Core.Bool.{Bool}
use mathlib.Core.List.{List, []}
use Prim.Native.Nat.{ℕ, ◌+◌, ◌≤◌}
use lib.ListN.{length, take}
use Rattle.laws.specs.Lists.{on_last}
use Rattle.ranking.specs.Standing.{Entry}
use Rattle.ranking.specs.declared.Rule.{Rule}
use Rattle.list.specs.Lines.{lines_of}
use Rattle.list.proofs.Stored as list
use Rattle.list.proofs.Stored.{line_at}
pub use Rattle.list.proofs.Stored.{Roomy}
use Rattle.question.specs.declared.Question.{Question}
use Rattle.question.specs.Lines.{list_of, lines, asked}
use Rattle.question.specs.Inner.{line_count}

-- what is stored is read back
pub lines-asked : (k : ℕ) (w : Rule) (l : List Entry) (next : ℕ) → length l ≤ 16 → lines (asked k w l next) ≡ l
lines-asked k w l next h = list.lines_back l h

-- as a function knows it of the arrays of a question that is handed in
pub roomy : (q : Question) → length q.names ≡ 16 → length q.scores ≡ 16 → Roomy q.names q.scores
roomy q n s = list.roomy_known q.names q.scores n s

module _ (q : Question) (r : Roomy q.names q.scores) where
  pub shown_lines : (n : ℕ) → n ≡ line_count q → take n (lines_of q.names q.scores) ≡ lines q
  shown_lines = list.front-lines (list_of q) r

  pub all_lines : (n : ℕ) → n ≡ line_count q → (m : ℕ) → m ≡ n → take m (take n (lines_of q.names q.scores)) ≡ lines q
  all_lines = list.all_lines (list_of q) r

  -- the last line
  pub last_line : (i : ℕ) → i + 1 ≡ line_count q → (p : Entry → Bool) → on_last p (lines q) ≡ p (line_at q.names q.scores i)
  last_line = list.last_shown q.names q.scores r q.len (line_count q) refl

pub no_lines : (q : Question) → line_count q ≡ 0 → lines q ≡ []
no_lines q = list.no_lines (list_of q)
