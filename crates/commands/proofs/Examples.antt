-- Lines and the items that they stand for, computed by the definitions.
-- Assumes nothing.
use mathlib.Core.Path.{◌≡◌, refl}
use mathlib.Core.List.{List, [], ◌∷◌, ◌++◌}
use Prim.Native.Nat.{ℕ}
use Rattle.wire.specs.Bytes.{bytes, head, field}
use Rattle.items.specs.Items.{unsigned16, setting_bytes, heat_bytes, ties_bytes}
use Rattle.items.specs.Run.{run_bytes}
use Rattle.lines.specs.Words.{run_length, trimmed, behind_word, tail_at, word_at}
use Rattle.lines.specs.Numbers.{digit_of, with_digit, number_on, number_in, short_in}
use Rattle.values.specs.Range.{in_range}
use Rattle.report.specs.Payload.{payload, note_fits, fault}
use Rattle.bench.specs.Bench.{announcement, packet_data, packets_from, frames, frame_bytes, send_refusal, send_answer}
use Rattle.commands.specs.Lines.{kind_of, value_at, weight_at, no_more, end_at, window_line, tie_rule_in, tie_rule_at, heat_at, ties_at, no_tie_rule, question_item, question_line, slot_at, show_line, edition_at, report_line, time_line, untimed_line, command_of, words_before}
use Rattle.commands.specs.declared.Kind.TheVariants.{Question}
use Rattle.std.proofs.Common.{None, Err}
use Rattle.commands.specs.Items.{report_refusal, report_items, line_items, text_items}

-- The items of a line, at no time.
abbrev items : List ℕ → List ℕ
items line = run_bytes (line_items None line)

-- `window 3`.
pub window_three : items (119 ∷ 105 ∷ 110 ∷ 100 ∷ 111 ∷ 119 ∷ 32 ∷ 51 ∷ []) ≡ 16 ∷ 2 ∷ 0 ∷ 3 ∷ 0 ∷ []
unfolding command_of kind_of word_at tail_at trimmed behind_word run_length value_at number_in number_on with_digit digit_of no_more end_at field head bytes run_bytes window_line
window_three = refl

-- `question 0 2 -1 2`: -1 is held as FFFF.
pub question_less : items (113 ∷ 117 ∷ 101 ∷ 115 ∷ 116 ∷ 105 ∷ 111 ∷ 110 ∷ 32 ∷ 48 ∷ 32 ∷ 50 ∷ 32 ∷ 45 ∷ 49 ∷ 32 ∷ 50 ∷ []) ≡ 17 ∷ 6 ∷ 0 ∷ 0 ∷ 2 ∷ 255 ∷ 255 ∷ 2 ∷ 0 ∷ []
unfolding command_of kind_of word_at tail_at trimmed behind_word run_length value_at number_in number_on with_digit digit_of no_more end_at field head bytes run_bytes question_line weight_at tie_rule_in tie_rule_at heat_at ties_at no_tie_rule question_item short_in unsigned16 setting_bytes
question_less = refl

-- `question 0 2 1 0 0`: a weight for heat is written also where it is 0.
pub question-heat : items (113 ∷ 117 ∷ 101 ∷ 115 ∷ 116 ∷ 105 ∷ 111 ∷ 110 ∷ 32 ∷ 48 ∷ 32 ∷ 50 ∷ 32 ∷ 49 ∷ 32 ∷ 48 ∷ 32 ∷ 48 ∷ []) ≡ 22 ∷ 8 ∷ 0 ∷ 0 ∷ 2 ∷ 1 ∷ 0 ∷ 0 ∷ 0 ∷ 0 ∷ 0 ∷ []
unfolding command_of kind_of word_at tail_at trimmed behind_word run_length value_at number_in number_on with_digit digit_of no_more end_at field head bytes run_bytes question_line weight_at tie_rule_in tie_rule_at heat_at ties_at no_tie_rule question_item short_in unsigned16 setting_bytes heat_bytes
question-heat = refl

-- `question 0 2 1 0 newest`: a tie rule is written also where it is 0, and with it the weight for heat, 0.
pub question_newest : items (113 ∷ 117 ∷ 101 ∷ 115 ∷ 116 ∷ 105 ∷ 111 ∷ 110 ∷ 32 ∷ 48 ∷ 32 ∷ 50 ∷ 32 ∷ 49 ∷ 32 ∷ 48 ∷ 32 ∷ 110 ∷ 101 ∷ 119 ∷ 101 ∷ 115 ∷ 116 ∷ []) ≡ 23 ∷ 9 ∷ 0 ∷ 0 ∷ 2 ∷ 1 ∷ 0 ∷ 0 ∷ 0 ∷ 0 ∷ 0 ∷ 0 ∷ []
unfolding command_of kind_of word_at tail_at trimmed behind_word run_length value_at number_in number_on with_digit digit_of no_more end_at field head bytes run_bytes question_line weight_at tie_rule_in tie_rule_at heat_at ties_at no_tie_rule question_item short_in unsigned16 setting_bytes heat_bytes ties_bytes
question_newest = refl

-- `question 0 2 1 0 -1 first`.
pub question-first : items (113 ∷ 117 ∷ 101 ∷ 115 ∷ 116 ∷ 105 ∷ 111 ∷ 110 ∷ 32 ∷ 48 ∷ 32 ∷ 50 ∷ 32 ∷ 49 ∷ 32 ∷ 48 ∷ 32 ∷ 45 ∷ 49 ∷ 32 ∷ 102 ∷ 105 ∷ 114 ∷ 115 ∷ 116 ∷ []) ≡ 23 ∷ 9 ∷ 0 ∷ 0 ∷ 2 ∷ 1 ∷ 0 ∷ 0 ∷ 0 ∷ 255 ∷ 255 ∷ 1 ∷ []
unfolding command_of kind_of word_at tail_at trimmed behind_word run_length value_at number_in number_on with_digit digit_of no_more end_at field head bytes run_bytes question_line weight_at tie_rule_in tie_rule_at heat_at ties_at no_tie_rule question_item short_in unsigned16 setting_bytes heat_bytes ties_bytes
question-first = refl

-- `question 0 2 1 0 first 3`: nothing may stand behind the tie rule.
pub question_more : command_of (113 ∷ 117 ∷ 101 ∷ 115 ∷ 116 ∷ 105 ∷ 111 ∷ 110 ∷ 32 ∷ 48 ∷ 32 ∷ 50 ∷ 32 ∷ 49 ∷ 32 ∷ 48 ∷ 32 ∷ 102 ∷ 105 ∷ 114 ∷ 115 ∷ 116 ∷ 32 ∷ 51 ∷ []) ≡ Err (record { kind = Question; word = 6 })
unfolding command_of kind_of word_at tail_at trimmed behind_word run_length value_at number_in number_on with_digit digit_of no_more end_at question_line weight_at tie_rule_in tie_rule_at heat_at ties_at short_in
question_more = refl

-- `show 40`: a slot that the cart refuses is written.
pub show_forty : items (115 ∷ 104 ∷ 111 ∷ 119 ∷ 32 ∷ 52 ∷ 48 ∷ []) ≡ 20 ∷ 1 ∷ 0 ∷ 40 ∷ []
unfolding command_of kind_of word_at tail_at trimmed behind_word run_length value_at number_in number_on with_digit digit_of no_more end_at field head bytes run_bytes show_line slot_at
show_forty = refl

-- `report 5 100 200 7`: the frames of P1.
abbrev report-text : List ℕ
report-text = 114 ∷ 101 ∷ 112 ∷ 111 ∷ 114 ∷ 116 ∷ 32 ∷ 53 ∷ 32 ∷ 49 ∷ 48 ∷ 48 ∷ 32 ∷ 50 ∷ 48 ∷ 48 ∷ 32 ∷ 55 ∷ []

abbrev report-bytes : List ℕ
report-bytes = 18 ∷ 12 ∷ 0 ∷ 5 ∷ 255 ∷ 236 ∷ 28 ∷ 32 ∷ 17 ∷ 0 ∷ 3 ∷ 255 ∷ 20 ∷ 255 ∷ 0 ∷ 18 ∷ 12 ∷ 0 ∷ 5 ∷ 255 ∷ 235 ∷ 28 ∷ 1 ∷ 1 ∷ 2 ∷ 0 ∷ 100 ∷ 0 ∷ 2 ∷ 2 ∷ 18 ∷ 12 ∷ 0 ∷ 5 ∷ 255 ∷ 235 ∷ 28 ∷ 2 ∷ 0 ∷ 200 ∷ 0 ∷ 3 ∷ 4 ∷ 0 ∷ 7 ∷ 18 ∷ 12 ∷ 0 ∷ 5 ∷ 255 ∷ 235 ∷ 28 ∷ 3 ∷ 0 ∷ 0 ∷ 0 ∷ 255 ∷ 255 ∷ 255 ∷ 255 ∷ []

pub report-first : items report-text ≡ report-bytes
unfolding command_of kind_of word_at tail_at trimmed behind_word run_length value_at number_in number_on with_digit digit_of no_more end_at field head bytes run_bytes edition_at report_line report_refusal send_answer report_items frames packets_from frame_bytes send_refusal announcement packet_data payload in_range note_fits fault
report-first = refl

-- `heated 5 100 200 300 7 ab`: the heat behind the number, and the note behind the heat.
pub heated_first : items (104 ∷ 101 ∷ 97 ∷ 116 ∷ 101 ∷ 100 ∷ 32 ∷ 53 ∷ 32 ∷ 49 ∷ 48 ∷ 48 ∷ 32 ∷ 50 ∷ 48 ∷ 48 ∷ 32 ∷ 51 ∷ 48 ∷ 48 ∷ 32 ∷ 55 ∷ 32 ∷ 97 ∷ 98 ∷ []) ≡ 18 ∷ 12 ∷ 0 ∷ 5 ∷ 255 ∷ 236 ∷ 28 ∷ 32 ∷ 27 ∷ 0 ∷ 4 ∷ 255 ∷ 20 ∷ 255 ∷ 0 ∷ 18 ∷ 12 ∷ 0 ∷ 5 ∷ 255 ∷ 235 ∷ 28 ∷ 1 ∷ 1 ∷ 2 ∷ 0 ∷ 100 ∷ 0 ∷ 2 ∷ 2 ∷ 18 ∷ 12 ∷ 0 ∷ 5 ∷ 255 ∷ 235 ∷ 28 ∷ 2 ∷ 0 ∷ 200 ∷ 0 ∷ 3 ∷ 4 ∷ 0 ∷ 7 ∷ 18 ∷ 12 ∷ 0 ∷ 5 ∷ 255 ∷ 235 ∷ 28 ∷ 3 ∷ 0 ∷ 0 ∷ 0 ∷ 5 ∷ 2 ∷ 0 ∷ 44 ∷ 18 ∷ 12 ∷ 0 ∷ 5 ∷ 255 ∷ 235 ∷ 28 ∷ 4 ∷ 1 ∷ 4 ∷ 2 ∷ 0 ∷ 97 ∷ 98 ∷ 255 ∷ []
unfolding command_of kind_of word_at tail_at trimmed behind_word run_length value_at number_in number_on with_digit digit_of no_more end_at field head bytes run_bytes edition_at report_line words_before report_refusal send_answer report_items frames packets_from frame_bytes send_refusal announcement packet_data payload in_range note_fits fault
heated_first = refl

-- Lines in a row, `time 258` and `untimed` each before that report: its frames with the time, and then without.
pub report_timed : run_bytes (text_items None ((116 ∷ 105 ∷ 109 ∷ 101 ∷ 32 ∷ 50 ∷ 53 ∷ 56 ∷ []) ∷ report-text ∷ (117 ∷ 110 ∷ 116 ∷ 105 ∷ 109 ∷ 101 ∷ 100 ∷ []) ∷ report-text ∷ []))
    ≡ (21 ∷ 16 ∷ 0 ∷ 2 ∷ 1 ∷ 0 ∷ 0 ∷ 5 ∷ 255 ∷ 236 ∷ 28 ∷ 32 ∷ 17 ∷ 0 ∷ 3 ∷ 255 ∷ 20 ∷ 255 ∷ 0 ∷ 21 ∷ 16 ∷ 0 ∷ 2 ∷ 1 ∷ 0 ∷ 0 ∷ 5 ∷ 255 ∷ 235 ∷ 28 ∷ 1 ∷ 1 ∷ 2 ∷ 0 ∷ 100 ∷ 0 ∷ 2 ∷ 2 ∷ 21 ∷ 16 ∷ 0 ∷ 2 ∷ 1 ∷ 0 ∷ 0 ∷ 5 ∷ 255 ∷ 235 ∷ 28 ∷ 2 ∷ 0 ∷ 200 ∷ 0 ∷ 3 ∷ 4 ∷ 0 ∷ 7 ∷ 21 ∷ 16 ∷ 0 ∷ 2 ∷ 1 ∷ 0 ∷ 0 ∷ 5 ∷ 255 ∷ 235 ∷ 28 ∷ 3 ∷ 0 ∷ 0 ∷ 0 ∷ 255 ∷ 255 ∷ 255 ∷ 255 ∷ []) ++ report-bytes
unfolding command_of kind_of word_at tail_at trimmed behind_word run_length value_at number_in number_on with_digit digit_of no_more end_at field head bytes run_bytes edition_at report_line report_refusal send_answer report_items frames packets_from frame_bytes send_refusal announcement packet_data payload in_range note_fits fault time_line untimed_line text_items
report_timed = refl

-- `window 65536`: nothing is written.
pub wrong_line : items (119 ∷ 105 ∷ 110 ∷ 100 ∷ 111 ∷ 119 ∷ 32 ∷ 54 ∷ 53 ∷ 53 ∷ 51 ∷ 54 ∷ []) ≡ []
unfolding command_of kind_of word_at tail_at trimmed behind_word run_length value_at number_in number_on with_digit digit_of no_more end_at field head bytes run_bytes window_line
wrong_line = refl
