-- What a line of the bench sender's text stands for.
use Rattle.std.specs.Prelude.{ℕ, ◌+◌, List, [], ◌∷◌, ◌++◌, Bool, true, false, cond, not, ◌&&◌, ◌||◌, length, get_or, eqb, ℤ, pos, Option, Some, None, is_some, ok_or, Result, Ok, Err}
use Rattle.wire.specs.Bytes.{same}
use Rattle.items.specs.declared.Setting.{Setting}
use Rattle.items.specs.declared.Item.{Item}
use Rattle.items.specs.declared.Item.TheVariants as item
use Rattle.lines.specs.Words.{tail_at, word_at}
use Rattle.lines.specs.Numbers.{number_in, short_in}
use Rattle.values.specs.declared.Edition.{Edition}
use Rattle.values.specs.declared.Edition.TheVariants as edition
use Rattle.commands.specs.declared.Kind.{Kind}
use Rattle.commands.specs.declared.Kind.TheVariants as kind
use Rattle.commands.specs.declared.Fault.{Fault}
use Rattle.commands.specs.declared.Command.{Command}
use Rattle.commands.specs.declared.Command.TheVariants as command

-- The words window, question, remove, show, report, noted, time, untimed, heated and heated-noted, in ASCII.
abbrev pub window_word : List ℕ
window_word = 119 ∷ 105 ∷ 110 ∷ 100 ∷ 111 ∷ 119 ∷ []

abbrev pub question_word : List ℕ
question_word = 113 ∷ 117 ∷ 101 ∷ 115 ∷ 116 ∷ 105 ∷ 111 ∷ 110 ∷ []

abbrev pub remove_word : List ℕ
remove_word = 114 ∷ 101 ∷ 109 ∷ 111 ∷ 118 ∷ 101 ∷ []

abbrev pub show_word : List ℕ
show_word = 115 ∷ 104 ∷ 111 ∷ 119 ∷ []

abbrev pub report_word : List ℕ
report_word = 114 ∷ 101 ∷ 112 ∷ 111 ∷ 114 ∷ 116 ∷ []

abbrev pub noted_word : List ℕ
noted_word = 110 ∷ 111 ∷ 116 ∷ 101 ∷ 100 ∷ []

abbrev pub time_word : List ℕ
time_word = 116 ∷ 105 ∷ 109 ∷ 101 ∷ []

abbrev pub untimed_word : List ℕ
untimed_word = 117 ∷ 110 ∷ 116 ∷ 105 ∷ 109 ∷ 101 ∷ 100 ∷ []

abbrev pub heated_word : List ℕ
heated_word = 104 ∷ 101 ∷ 97 ∷ 116 ∷ 101 ∷ 100 ∷ []

abbrev pub heated_noted_word : List ℕ
heated_noted_word = heated_word ++ (45 ∷ noted_word)

-- The words newest and first, the tie rules.
abbrev pub newest_word : List ℕ
newest_word = 110 ∷ 101 ∷ 119 ∷ 101 ∷ 115 ∷ 116 ∷ []

abbrev pub first_word : List ℕ
first_word = 102 ∷ 105 ∷ 114 ∷ 115 ∷ 116 ∷ []

-- The kind of line that its first word names. No word, and one that starts with #, say nothing.
unfoldable pub kind_of : List ℕ → Kind
kind_of w =
    cond (eqb (length w) 0) kind.Nothing
    (cond (eqb (get_or w 0 0) 35) kind.Nothing
    (cond (same w window_word) kind.Window
    (cond (same w question_word) kind.Question
    (cond (same w remove_word) kind.Remove
    (cond (same w show_word) kind.Show
    (cond (same w report_word) kind.Report
    (cond (same w noted_word) kind.Noted
    (cond (same w time_word) kind.Time
    (cond (same w untimed_word) kind.Untimed
    (cond (same w heated_word) kind.Heated
    (cond (same w heated_noted_word) kind.HeatedNoted
    kind.Unknown)))))))))))

-- What is wrong with a line of this kind: word n.
abbrev pub wrong_at : Kind → ℕ → Fault
wrong_at k n = record { kind = k; word = n }

-- What comes behind a word that is right; a word that is wrong ends it.
abbrev pub and_next : {T U : Type 0} → (T → Result U Fault) → Result T Fault → Result U Fault
and_next next (Ok x) = next x
and_next next (Err f) = Err f

-- The decimal number that is word n of a line, where it is at most `most`.
unfoldable pub value_at : Kind → ℕ → ℕ → List ℕ → Result ℕ Fault
value_at k n most line = ok_or (number_in 10 most (word_at n line)) (wrong_at k n)

-- The weight that is word n.
unfoldable pub weight_at : Kind → ℕ → List ℕ → Result ℤ Fault
weight_at k n line = ok_or (short_in (word_at n line)) (wrong_at k n)

-- Nothing stands behind the first n words.
unfoldable pub no_more : ℕ → List ℕ → Bool
no_more n line = eqb (length (tail_at n line)) 0

unfoldable pub end_at : Kind → ℕ → List ℕ → Result (Unit {0}) Fault
end_at k n line = cond (no_more n line) (Ok tt) (Err (wrong_at k n))

-- `window N`: N fits two bytes.
unfoldable pub window_line : List ℕ → Result Command Fault
window_line line =
    and_next (λ n. and_next (λ end. Ok (command.Item (item.Window n))) (end_at kind.Window 2 line)) (value_at kind.Window 1 65535 line)

-- The tie rule that a word names (rule 18.1), and the one that is word n.
unfoldable pub tie_rule_in : List ℕ → Option ℕ
tie_rule_in w = cond (same w newest_word) (Some 0) (cond (same w first_word) (Some 1) None)

unfoldable pub tie_rule_at : ℕ → List ℕ → Option ℕ
tie_rule_at n line = tie_rule_in (word_at n line)

-- The weight for heat, which is 0 where it isn't given: behind B stands nothing, or the tie rule.
unfoldable pub heat_at : List ℕ → Result ℤ Fault
heat_at line = cond (no_more 5 line || is_some (tie_rule_at 5 line)) (Ok (pos 0)) (weight_at kind.Question 5 line)

-- The tie rule: behind B, where nothing may follow it, or behind C. Where none is given it is newest (rule 18.1).
unfoldable pub ties_at : List ℕ → Option ℕ
ties_at line =
    cond (is_some (tie_rule_at 5 line)) (cond (no_more 6 line) (tie_rule_at 5 line) None)
    (cond (no_more 6 line) (Some 0) (tie_rule_at 6 line))

-- No tie rule is given.
unfoldable pub no_tie_rule : List ℕ → Bool
no_tie_rule line = not (is_some (tie_rule_at 5 line)) && no_more 6 line

-- The item that sets a question: without a weight for heat and a tie rule, with a weight (rule 17.7), or with a rule (rules 11.1 and 18.6).
unfoldable pub question_item : List ℕ → Setting → Item
question_item line s = cond (no_more 5 line) (item.Set s) (cond (no_tie_rule line) (item.SetHeat s) (item.SetTies s))

-- `question SLOT K A B`, and perhaps C, and perhaps a tie rule: a slot and a k that fit a byte, weights that fit two.
unfoldable pub question_line : List ℕ → Result Command Fault
question_line line =
    and_next (λ slot. and_next (λ k. and_next (λ a. and_next (λ b. and_next (λ c. and_next (λ t. and_next (λ end.
    Ok (command.Item (question_item line (record { slot = slot; k = k; loss = a; shake = b; heat = c; ties = t }))))
    (end_at kind.Question 7 line))
    (ok_or (ties_at line) (wrong_at kind.Question 6)))
    (heat_at line))
    (weight_at kind.Question 4 line))
    (weight_at kind.Question 3 line))
    (value_at kind.Question 2 255 line))
    (value_at kind.Question 1 255 line)

-- One slot that fits a byte, and nothing behind it: `remove SLOT`, and `show SLOT`.
unfoldable pub slot_at : Kind → List ℕ → Result ℕ Fault
slot_at k line = and_next (λ slot. and_next (λ end. Ok slot) (end_at k 2 line)) (value_at k 1 255 line)

unfoldable pub remove_line : List ℕ → Result Command Fault
remove_line line = and_next (λ slot. Ok (command.Item (item.Remove slot))) (slot_at kind.Remove line)

unfoldable pub show_line : List ℕ → Result Command Fault
show_line line = and_next (λ slot. Ok (command.Item (item.Show slot))) (slot_at kind.Show line)

-- The kinds of a report with heat, and of one with a note also where nothing stands behind its number.
abbrev pub is_heated : Kind → Bool
is_heated kind.Nothing = false
is_heated kind.Window = false
is_heated kind.Question = false
is_heated kind.Remove = false
is_heated kind.Show = false
is_heated kind.Report = false
is_heated kind.Noted = false
is_heated kind.Time = false
is_heated kind.Untimed = false
is_heated kind.Heated = true
is_heated kind.HeatedNoted = true
is_heated kind.Unknown = false

abbrev pub is_noted : Kind → Bool
is_noted kind.Nothing = false
is_noted kind.Window = false
is_noted kind.Question = false
is_noted kind.Remove = false
is_noted kind.Show = false
is_noted kind.Report = false
is_noted kind.Noted = true
is_noted kind.Time = false
is_noted kind.Untimed = false
is_noted kind.Heated = false
is_noted kind.HeatedNoted = true
is_noted kind.Unknown = false

-- The heat is word 4.
unfoldable pub edition_at : Kind → List ℕ → Result Edition Fault
edition_at k line = cond (is_heated k) (and_next (λ heat. Ok (edition.Second heat)) (value_at k 4 65535 line)) (Ok edition.First)

-- The word that is the report's number.
abbrev pub own_at : Kind → ℕ
own_at k = cond (is_heated k) 5 4

-- `report SENDER LOSS SHAKE NUMBER`, and what stands behind is its note; `noted` has a note also where nothing does. With heat these are
-- `heated SENDER LOSS SHAKE HEAT NUMBER` and `heated-noted`.
unfoldable pub report_line : Kind → List ℕ → Result Command Fault
report_line k line =
    and_next (λ sender. and_next (λ loss. and_next (λ shake. and_next (λ e. and_next (λ own.
    Ok (command.Report (record {
      sender = sender;
      report = record { values = record { loss = loss; shake = shake; edition = e }; own = own };
      noted = is_noted k || not (no_more (own_at k + 1) line);
    })))
    (value_at k (own_at k) 4294967295 line))
    (edition_at k line))
    (value_at k 3 65535 line))
    (value_at k 2 65535 line))
    (value_at k 1 255 line)

-- `time MS`: MS fits four bytes. `untimed` stands alone.
unfoldable pub time_line : List ℕ → Result Command Fault
time_line line =
    and_next (λ ms. and_next (λ end. Ok (command.Time (Some ms))) (end_at kind.Time 2 line)) (value_at kind.Time 1 4294967295 line)

unfoldable pub untimed_line : List ℕ → Result Command Fault
untimed_line line = and_next (λ end. Ok (command.Time None)) (end_at kind.Untimed 1 line)

abbrev pub by_kind : Kind → List ℕ → Result Command Fault
by_kind kind.Nothing line = Ok command.Nothing
by_kind kind.Window line = window_line line
by_kind kind.Question line = question_line line
by_kind kind.Remove line = remove_line line
by_kind kind.Show line = show_line line
by_kind kind.Report line = report_line kind.Report line
by_kind kind.Noted line = report_line kind.Noted line
by_kind kind.Time line = time_line line
by_kind kind.Untimed line = untimed_line line
by_kind kind.Heated line = report_line kind.Heated line
by_kind kind.HeatedNoted line = report_line kind.HeatedNoted line
by_kind kind.Unknown line = Err (wrong_at kind.Unknown 0)

-- What a line stands for.
unfoldable pub command_of : List ℕ → Result Command Fault
command_of line = by_kind (kind_of (word_at 0 line)) line

-- How many words a report's note stands behind, by the first of them.
unfoldable pub words_before : List ℕ → ℕ
words_before w = cond (same w heated_word || same w heated_noted_word) 6 5

-- A report's note: all that stands behind them.
abbrev pub note_in : List ℕ → List ℕ
note_in line = tail_at (words_before (word_at 0 line)) line
