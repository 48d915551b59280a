-- A line of the text that can-utils' `candump` prints, into a log and on a screen: its interface, and its frame in the log's form, `ID#DATA`.
use Rattle.std.specs.Prelude.{ℕ, zero, suc, ◌+◌, ◌-◌, min, List, [], ◌∷◌, ◌++◌, Bool, cond, not, ◌&&◌, ◌||◌, length, get_or, take, drop, leb, ltb, eqb, Option, Some, None}
use Rattle.wire.specs.Bytes.{same}
use Rattle.lines.specs.declared.Run.TheVariants.{Until}
use Rattle.lines.specs.Words.{run_length, word_at, tail_at}
use Rattle.lines.specs.Numbers.{number_in}
use Rattle.stamps.specs.declared.Stamp.{Stamp}
use Rattle.stamps.specs.Stamps.{seconds_in, dated_in}
use Rattle.dump.specs.declared.Data.{Data}
use Rattle.dump.specs.declared.Data.TheVariants as kind

-- A time is in brackets.
unfoldable pub opens : List ℕ → Bool
opens w = eqb (get_or w 0 0) 40

unfoldable pub closes : List ℕ → Bool
closes w = eqb (get_or w (length w - 1) 0) 41

-- What stands behind the time. One with a date has a blank inside, and is two words; on a screen there may be no time. Nothing where a
-- bracket isn't closed.
unfoldable pub behind_time : List ℕ → List ℕ
behind_time line =
    cond (opens (word_at 0 line))
    (cond (closes (word_at 0 line)) (tail_at 1 line)
    (cond (closes (word_at 1 line)) (tail_at 2 line)
    []))
    (tail_at 0 line)

-- The time: seconds in one word, or a date and a time of day in two. None where there is none that can be read.
unfoldable pub time_in : List ℕ → Option Stamp
time_in line =
    cond (opens (word_at 0 line))
    (cond (closes (word_at 0 line)) (seconds_in (word_at 0 line))
    (cond (closes (word_at 1 line)) (dated_in (word_at 0 line) (word_at 1 line))
    None))
    None

-- The interface is the first word there.
unfoldable pub interface_in : List ℕ → List ℕ
interface_in line = word_at 0 (behind_time line)

-- How many letters stand before the first #.
unfoldable pub hash_at : List ℕ → ℕ
hash_at w = run_length (Until 35) w

-- ---- the log's form: (TIME) INTERFACE ID#DATA

unfoldable pub is_log : List ℕ → Bool
is_log line = opens (word_at 0 line) && (closes (word_at 0 line) && ltb (hash_at (word_at 2 line)) (length (word_at 2 line)))

-- Behind the third word stands nothing, or R for a received frame, or T for one that was sent.
unfoldable pub ended : List ℕ → Bool
ended line =
    eqb (length (tail_at 4 line)) 0
    && (eqb (length (word_at 3 line)) 0 || (same (word_at 3 line) (82 ∷ []) || same (word_at 3 line) (84 ∷ [])))

unfoldable pub logged_in : List ℕ → List ℕ
logged_in line = cond (ended line) (word_at 2 line) []

-- ---- the form on a screen: INTERFACE ID [LENGTH] XX XX .., with the time before it or not

-- With `-x` three words stand before the identifier: RX or TX, and two marks.
unfoldable pub fields_in : List ℕ → List ℕ
fields_in b = cond (same (word_at 1 b) (82 ∷ 88 ∷ []) || same (word_at 1 b) (84 ∷ 88 ∷ [])) (tail_at 4 b) (tail_at 1 b)

-- A word of so many bytes between two others.
unfoldable pub between : ℕ → ℕ → ℕ → List ℕ → Bool
between first last n w = eqb (length w) (n + 2) && (eqb (get_or w 0 0) first && eqb (get_or w (n + 1) 0) last)

-- The length of a frame: [0] to [8], or with `-8` {0} to {F}, where all from 8 on stand for 8 bytes; of CAN FD, two digits.
unfoldable pub count_in : List ℕ → Option ℕ
count_in w =
    cond (between 91 93 1 w) (number_in 10 8 (take 1 (drop 1 w)))
    (cond (between 123 125 1 w) (number_in 16 15 (take 1 (drop 1 w)))
    None)

-- Each byte is a word of two letters; in place of another stands ??, which is no byte.
unfoldable pub pair_of : List ℕ → List ℕ
pair_of w = cond (eqb (length w) 2) w (63 ∷ 63 ∷ [])

-- The n words from word `at` on.
unfoldable pub pairs_in : List ℕ → ℕ → ℕ → List ℕ
pairs_in f at zero = []
pairs_in f at (suc n) = pair_of (word_at at f) ++ pairs_in f (at + 1) n

-- Behind the data stands nothing, the same bytes as letters in quotes (`-a`), or ERRORFRAME.
unfoldable pub closed_at : ℕ → List ℕ → Bool
closed_at at f =
    eqb (length (word_at at f)) 0
    || (eqb (get_or (word_at at f) 0 0) 39 || same (word_at at f) (69 ∷ 82 ∷ 82 ∷ 79 ∷ 82 ∷ 70 ∷ 82 ∷ 65 ∷ 77 ∷ 69 ∷ []))

-- The data of a frame of such a length: of a remote frame, so many bytes, or nothing that can be read.
unfoldable pub data_by : Option ℕ → List ℕ → Data
data_by None f = kind.Unread
data_by (Some n) f =
    cond (same (word_at 2 f) (114 ∷ 101 ∷ 109 ∷ 111 ∷ 116 ∷ 101 ∷ [])) kind.Remote
    (cond (not (closed_at (2 + min n 8) f)) kind.Unread
    (kind.Bytes n))

-- What the data are: of CAN FD, or by the length.
unfoldable pub data_of : List ℕ → Data
data_of f = cond (between 91 93 2 (word_at 1 f)) kind.Flexible (data_by (count_in (word_at 1 f)) f)

-- A length over 8 stands behind the data in a log: _E.
unfoldable pub mark_of : ℕ → List ℕ → List ℕ
mark_of n f = cond (ltb 8 n) (95 ∷ get_or (word_at 1 f) 1 0 ∷ []) []

-- The same in the log's form: # for CAN FD, R for a remote frame, the bytes and the mark; ? is no data.
unfoldable pub text_of : Data → List ℕ → List ℕ
text_of kind.Flexible f = 35 ∷ []
text_of kind.Remote f = 82 ∷ []
text_of (kind.Bytes n) f = pairs_in f 2 (min n 8) ++ mark_of n f
text_of kind.Unread f = 63 ∷ []

-- An identifier has at most 8 digits, and no # among them.
unfoldable pub is_id : List ℕ → Bool
is_id w = leb (length w) 8 && eqb (hash_at w) (length w)

-- The identifier, #, the data.
unfoldable pub frame_of : List ℕ → List ℕ
frame_of f = word_at 0 f ++ 35 ∷ text_of (data_of f) f

unfoldable pub shown_in : List ℕ → List ℕ
shown_in line =
    cond (is_id (word_at 0 (fields_in (behind_time line))))
    (frame_of (fields_in (behind_time line)))
    []

-- ---- both

-- A line's frame in the log's form; nothing where the line has neither form.
unfoldable pub frame_in : List ℕ → List ℕ
frame_in line = cond (is_log line) (logged_in line) (shown_in line)

-- A line that only says how many frames candump missed: its first word is DROPCOUNT:
unfoldable pub is_drop : List ℕ → Bool
is_drop line = same (word_at 0 line) (68 ∷ 82 ∷ 79 ∷ 80 ∷ 67 ∷ 79 ∷ 85 ∷ 78 ∷ 84 ∷ 58 ∷ [])
