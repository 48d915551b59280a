-- However a text is cut into pieces, its lines are the same: a piece without a line end only brings the line's next bytes, and behind
-- a line end nothing belongs to the line.
-- Assumes nothing.
use Rattle.std.proofs.Common.{◌≡◌, ℕ, ◌+◌, ◌-◌, ◌<◌, min, Bool, true, false, ltb, List, [], ◌++◌, length, drop, sym, refl, arith, length-append, length-drop, drop_of_length-le, take_all, drop-drop, ltb-false, ltb-true, le-ltb, lt-ltb}
use lib.Seq.{take-append-le, drop-append-le, take-append-add, drop-append-add}
use Rattle.lines.specs.declared.Run.TheVariants.{Until}
use Rattle.lines.specs.Words.{run_length}
use Rattle.lines.proofs.Words.{run_within, run_over, run_short}
use Rattle.input.specs.declared.Input.{Input}
use Rattle.input.specs.Lines.{line_size, first_line, has_line_end, behind_line, last_read, unread, line_taken}

-- The same added to both sides of a test.
ltb_add : (n x y : ℕ) → ltb (n + x) (n + y) ≡ ltb x y
ltb_add n x y = by_test (ltb x y) refl
  where
    by_test : (b : Bool) → ltb x y ≡ b → ltb (n + x) (n + y) ≡ b
    by_test true e = lt-ltb (n + x) (n + y) (omega (arith, ltb-true x y e))
    by_test false e = le-ltb (n + x) (n + y) (omega (arith, ltb-false x y e))

-- ---- a piece without a line end

module _ (p t : List ℕ) (h : has_line_end p ≡ false) where
  size_open : line_size p ≡ length p
  unfolding has_line_end
  size_open = omega (arith, ltb-false (line_size p) (length p) h, run_within (Until 10) p)

  over : line_size (p ++ t) ≡ length p + line_size t
  over = run_over (Until 10) p t (omega (arith, size_open))

  pub first_open : first_line (p ++ t) ≡ p ++ first_line t
  unfolding first_line
  first_open = rw over (take-append-add p t (line_size t))

  pub ended_open : has_line_end (p ++ t) ≡ has_line_end t
  unfolding has_line_end
  ended_open = rw (over, length-append p t) (ltb_add (length p) (line_size t) (length t))

  pub behind_open : behind_line (p ++ t) ≡ behind_line t
  unfolding behind_line
  behind_open =
      let e : length p + line_size t + 1 ≡ length p + (line_size t + 1) = omega arith in
      rw (over, e) (drop-append-add p t (line_size t + 1))

pub whole_open : (p : List ℕ) → has_line_end p ≡ false → first_line p ≡ p
unfolding first_line
whole_open p h = take_all (line_size p) p (omega (arith, size_open p [] h))

pub none-behind : (p : List ℕ) → has_line_end p ≡ false → behind_line p ≡ []
unfolding behind_line
none-behind p h = drop_of_length-le p {i = line_size p + 1} (omega (arith, size_open p [] h))

-- ---- a piece with a line end

module _ (p t : List ℕ) (h : has_line_end p ≡ true) where
  within : line_size p < length p
  unfolding has_line_end
  within = ltb-true (line_size p) (length p) h

  pub first-whole : first_line (p ++ t) ≡ first_line p
  unfolding first_line
  first-whole = rw (run_short (Until 10) p t within) (take-append-le (line_size p) p t (omega (arith, within)))

  pub ended-whole : has_line_end (p ++ t) ≡ true
  unfolding has_line_end
  ended-whole = lt-ltb (line_size (p ++ t)) (length (p ++ t)) (omega (arith, run_short (Until 10) p t within, within, length-append p t))

  pub behind-whole : behind_line (p ++ t) ≡ behind_line p ++ t
  unfolding behind_line
  behind-whole = rw (run_short (Until 10) p t within) (drop-append-le (line_size p + 1) p t (omega (arith, within)))

-- ---- what `take` answers

pub took : (room : ℕ) (i : Input) (space : List ℕ) {piece : List ℕ} {n left size : ℕ} → piece ≡ unread i space → n ≡ run_length (Until 10) piece
    → left ≡ length piece - (n + 1) → size ≡ min (i.size + n) (room + 1)
    → record { source = i.source; held = i.held; left = left; size = size; whole = ltb n (length piece); number = i.number } ≡ line_taken room i space
unfolding line_taken has_line_end
took room i space p n l s = rw (l, s, n, p)

-- What is not taken yet then stands behind the line.
pub left_behind : (room : ℕ) (i : Input) (space : List ℕ) → has_line_end (unread i space) ≡ true → unread (line_taken room i space) space ≡ behind_line (unread i space)
unfolding unread line_taken behind_line has_line_end
left_behind room i space h =
    let r = last_read i space in
    let m = length r - i.left in
    let k = line_size (drop m r) in
    let s = ltb-true k (length (drop m r)) h in
    let e : length r - (length (drop m r) - (k + 1)) ≡ m + (k + 1) = omega (arith, length-drop m r) in
    rw e (sym (drop-drop (k + 1) m r))
