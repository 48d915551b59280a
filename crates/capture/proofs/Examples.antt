-- Captured lines, computed by the definitions.
-- Assumes nothing.
use mathlib.Core.Path.{◌≡◌, refl}
use mathlib.Core.Bool.{true, false}
use mathlib.Core.List.{[], ◌∷◌}
use Rattle.wire.specs.Bytes.{bytes, head, field}
use Rattle.items.specs.Run.{run_bytes}
use Rattle.joining.specs.Frame.{malformed, foreign, frame_checked, frame_refusal}
use Rattle.stamps.specs.declared.Since.TheVariants.{Unknown, At, Beyond}
use Rattle.lines.specs.Words.{run_length, trimmed, behind_word, tail_at, word_at}
use Rattle.lines.specs.Numbers.{digit_of, with_digit, number_on, number_in}
use Rattle.dump.specs.Dump.{opens, closes, behind_time, interface_in, hash_at, is_log, ended, logged_in, fields_in, between, count_in, pair_of, pairs_in, closed_at, data_by, data_of, mark_of, text_of, is_id, frame_of, shown_in, frame_in, is_drop}
use Rattle.capture.specs.declared.Sort.TheVariants as sort
use Rattle.capture.specs.Capture.{id_size, raw_text, is_marked, data_text, id_in, hex_in, bytes_in, sort_by, sort_of_frame, is_elsewhere, placed, is_foreign, frame_for, wanted, sort_for, sort_in, items_of_line}

-- The announcement of P1, in a log, and on a screen with a date and marks.
-- `(1436509052.249713) vcan0 1CECFF05#20110003FF14FF00`
pub logged : run_bytes (items_of_line false [] Unknown (40 ∷ 49 ∷ 52 ∷ 51 ∷ 54 ∷ 53 ∷ 48 ∷ 57 ∷ 48 ∷ 53 ∷ 50 ∷ 46 ∷ 50 ∷ 52 ∷ 57 ∷ 55 ∷ 49 ∷ 51 ∷ 41 ∷ 32 ∷ 118 ∷ 99 ∷ 97 ∷ 110 ∷ 48 ∷ 32 ∷ 49 ∷ 67 ∷ 69 ∷ 67 ∷ 70 ∷ 70 ∷ 48 ∷ 53 ∷ 35 ∷ 50 ∷ 48 ∷ 49 ∷ 49 ∷ 48 ∷ 48 ∷ 48 ∷ 51 ∷ 70 ∷ 70 ∷ 49 ∷ 52 ∷ 70 ∷ 70 ∷ 48 ∷ 48 ∷ [])) ≡ 18 ∷ 12 ∷ 0 ∷ 5 ∷ 255 ∷ 236 ∷ 28 ∷ 32 ∷ 17 ∷ 0 ∷ 3 ∷ 255 ∷ 20 ∷ 255 ∷ 0 ∷ []
unfolding id_size raw_text is_marked data_text id_in hex_in bytes_in sort_by sort_of_frame is_elsewhere placed is_foreign frame_for wanted sort_for sort_in opens closes behind_time interface_in hash_at is_log ended logged_in fields_in between count_in pair_of pairs_in closed_at data_by data_of mark_of text_of is_id frame_of shown_in frame_in is_drop run_length trimmed behind_word tail_at word_at digit_of with_digit number_on number_in malformed foreign frame_refusal frame_checked items_of_line run_bytes field head bytes
logged = refl

-- The same.
-- ` (2015-07-10 06:17:32.249713)  vcan0  RX - -  1CECFF05   [8]  20 11 00 03 FF 14 FF 00   ' .......'`
pub shown : run_bytes (items_of_line false [] Unknown (32 ∷ 40 ∷ 50 ∷ 48 ∷ 49 ∷ 53 ∷ 45 ∷ 48 ∷ 55 ∷ 45 ∷ 49 ∷ 48 ∷ 32 ∷ 48 ∷ 54 ∷ 58 ∷ 49 ∷ 55 ∷ 58 ∷ 51 ∷ 50 ∷ 46 ∷ 50 ∷ 52 ∷ 57 ∷ 55 ∷ 49 ∷ 51 ∷ 41 ∷ 32 ∷ 32 ∷ 118 ∷ 99 ∷ 97 ∷ 110 ∷ 48 ∷ 32 ∷ 32 ∷ 82 ∷ 88 ∷ 32 ∷ 45 ∷ 32 ∷ 45 ∷ 32 ∷ 32 ∷ 49 ∷ 67 ∷ 69 ∷ 67 ∷ 70 ∷ 70 ∷ 48 ∷ 53 ∷ 32 ∷ 32 ∷ 32 ∷ 91 ∷ 56 ∷ 93 ∷ 32 ∷ 32 ∷ 50 ∷ 48 ∷ 32 ∷ 49 ∷ 49 ∷ 32 ∷ 48 ∷ 48 ∷ 32 ∷ 48 ∷ 51 ∷ 32 ∷ 70 ∷ 70 ∷ 32 ∷ 49 ∷ 52 ∷ 32 ∷ 70 ∷ 70 ∷ 32 ∷ 48 ∷ 48 ∷ 32 ∷ 32 ∷ 32 ∷ 39 ∷ 32 ∷ 46 ∷ 46 ∷ 46 ∷ 46 ∷ 46 ∷ 46 ∷ 46 ∷ 39 ∷ [])) ≡ 18 ∷ 12 ∷ 0 ∷ 5 ∷ 255 ∷ 236 ∷ 28 ∷ 32 ∷ 17 ∷ 0 ∷ 3 ∷ 255 ∷ 20 ∷ 255 ∷ 0 ∷ []
unfolding id_size raw_text is_marked data_text id_in hex_in bytes_in sort_by sort_of_frame is_elsewhere placed is_foreign frame_for wanted sort_for sort_in opens closes behind_time interface_in hash_at is_log ended logged_in fields_in between count_in pair_of pairs_in closed_at data_by data_of mark_of text_of is_id frame_of shown_in frame_in is_drop run_length trimmed behind_word tail_at word_at digit_of with_digit number_on number_in malformed foreign frame_refusal frame_checked items_of_line run_bytes field head bytes
shown = refl

-- The same frame, 750 ms behind the first one, and past the last time of a log.
pub timed : run_bytes (items_of_line false [] (At 750) (40 ∷ 49 ∷ 52 ∷ 51 ∷ 54 ∷ 53 ∷ 48 ∷ 57 ∷ 48 ∷ 53 ∷ 50 ∷ 46 ∷ 50 ∷ 52 ∷ 57 ∷ 55 ∷ 49 ∷ 51 ∷ 41 ∷ 32 ∷ 118 ∷ 99 ∷ 97 ∷ 110 ∷ 48 ∷ 32 ∷ 49 ∷ 67 ∷ 69 ∷ 67 ∷ 70 ∷ 70 ∷ 48 ∷ 53 ∷ 35 ∷ 50 ∷ 48 ∷ 49 ∷ 49 ∷ 48 ∷ 48 ∷ 48 ∷ 51 ∷ 70 ∷ 70 ∷ 49 ∷ 52 ∷ 70 ∷ 70 ∷ 48 ∷ 48 ∷ [])) ≡ 21 ∷ 16 ∷ 0 ∷ 238 ∷ 2 ∷ 0 ∷ 0 ∷ 5 ∷ 255 ∷ 236 ∷ 28 ∷ 32 ∷ 17 ∷ 0 ∷ 3 ∷ 255 ∷ 20 ∷ 255 ∷ 0 ∷ []
unfolding id_size raw_text is_marked data_text id_in hex_in bytes_in sort_by sort_of_frame is_elsewhere placed is_foreign frame_for wanted sort_for sort_in opens closes behind_time interface_in hash_at is_log ended logged_in fields_in between count_in pair_of pairs_in closed_at data_by data_of mark_of text_of is_id frame_of shown_in frame_in is_drop run_length trimmed behind_word tail_at word_at digit_of with_digit number_on number_in malformed foreign frame_refusal frame_checked items_of_line run_bytes field head bytes
timed = refl

pub past : sort_in false [] Beyond (40 ∷ 49 ∷ 52 ∷ 51 ∷ 54 ∷ 53 ∷ 48 ∷ 57 ∷ 48 ∷ 53 ∷ 50 ∷ 46 ∷ 50 ∷ 52 ∷ 57 ∷ 55 ∷ 49 ∷ 51 ∷ 41 ∷ 32 ∷ 118 ∷ 99 ∷ 97 ∷ 110 ∷ 48 ∷ 32 ∷ 49 ∷ 67 ∷ 69 ∷ 67 ∷ 70 ∷ 70 ∷ 48 ∷ 53 ∷ 35 ∷ 50 ∷ 48 ∷ 49 ∷ 49 ∷ 48 ∷ 48 ∷ 48 ∷ 51 ∷ 70 ∷ 70 ∷ 49 ∷ 52 ∷ 70 ∷ 70 ∷ 48 ∷ 48 ∷ []) ≡ sort.Beyond
unfolding id_size raw_text is_marked data_text id_in hex_in bytes_in sort_by sort_of_frame is_elsewhere placed is_foreign frame_for wanted sort_for sort_in opens closes behind_time interface_in hash_at is_log ended logged_in fields_in between count_in pair_of pairs_in closed_at data_by data_of mark_of text_of is_id frame_of shown_in frame_in is_drop run_length trimmed behind_word tail_at word_at digit_of with_digit number_on number_in malformed foreign frame_refusal frame_checked
past = refl

-- A length over 8.
-- `(1.0) can0 1CECFF05#20110003FF14FF00_E`
pub marked : sort_in true (99 ∷ 97 ∷ 110 ∷ 48 ∷ []) Unknown (40 ∷ 49 ∷ 46 ∷ 48 ∷ 41 ∷ 32 ∷ 99 ∷ 97 ∷ 110 ∷ 48 ∷ 32 ∷ 49 ∷ 67 ∷ 69 ∷ 67 ∷ 70 ∷ 70 ∷ 48 ∷ 53 ∷ 35 ∷ 50 ∷ 48 ∷ 49 ∷ 49 ∷ 48 ∷ 48 ∷ 48 ∷ 51 ∷ 70 ∷ 70 ∷ 49 ∷ 52 ∷ 70 ∷ 70 ∷ 48 ∷ 48 ∷ 95 ∷ 69 ∷ []) ≡ sort.Marked
unfolding id_size raw_text is_marked data_text id_in hex_in bytes_in sort_by sort_of_frame is_elsewhere placed is_foreign frame_for wanted sort_for sort_in opens closes behind_time interface_in hash_at is_log ended logged_in fields_in between count_in pair_of pairs_in closed_at data_by data_of mark_of text_of is_id frame_of shown_in frame_in is_drop run_length trimmed behind_word tail_at word_at digit_of with_digit number_on number_in malformed foreign frame_refusal frame_checked
marked = refl

-- Ours are senders 0 to 253.
-- `  can0  1CECFFFE   [8]  20 11 00 03 FF 14 FF 00`
pub sender_254 : sort_in true [] Unknown (32 ∷ 32 ∷ 99 ∷ 97 ∷ 110 ∷ 48 ∷ 32 ∷ 32 ∷ 49 ∷ 67 ∷ 69 ∷ 67 ∷ 70 ∷ 70 ∷ 70 ∷ 69 ∷ 32 ∷ 32 ∷ 32 ∷ 91 ∷ 56 ∷ 93 ∷ 32 ∷ 32 ∷ 50 ∷ 48 ∷ 32 ∷ 49 ∷ 49 ∷ 32 ∷ 48 ∷ 48 ∷ 32 ∷ 48 ∷ 51 ∷ 32 ∷ 70 ∷ 70 ∷ 32 ∷ 49 ∷ 52 ∷ 32 ∷ 70 ∷ 70 ∷ 32 ∷ 48 ∷ 48 ∷ []) ≡ sort.Foreign
unfolding id_size raw_text is_marked data_text id_in hex_in bytes_in sort_by sort_of_frame is_elsewhere placed is_foreign frame_for wanted sort_for sort_in opens closes behind_time interface_in hash_at is_log ended logged_in fields_in between count_in pair_of pairs_in closed_at data_by data_of mark_of text_of is_id frame_of shown_in frame_in is_drop run_length trimmed behind_word tail_at word_at digit_of with_digit number_on number_in malformed foreign frame_refusal frame_checked
sender_254 = refl

-- Another interface.
-- `(1.0) can0 12345678#R`
pub elsewhere : sort_in false (99 ∷ 97 ∷ 110 ∷ 49 ∷ []) Unknown (40 ∷ 49 ∷ 46 ∷ 48 ∷ 41 ∷ 32 ∷ 99 ∷ 97 ∷ 110 ∷ 48 ∷ 32 ∷ 49 ∷ 50 ∷ 51 ∷ 52 ∷ 53 ∷ 54 ∷ 55 ∷ 56 ∷ 35 ∷ 82 ∷ []) ≡ sort.Elsewhere
unfolding id_size raw_text is_marked data_text id_in hex_in bytes_in sort_by sort_of_frame is_elsewhere placed is_foreign frame_for wanted sort_for sort_in opens closes behind_time interface_in hash_at is_log ended logged_in fields_in between count_in pair_of pairs_in closed_at data_by data_of mark_of text_of is_id frame_of shown_in frame_in is_drop run_length trimmed behind_word tail_at word_at digit_of with_digit number_on number_in malformed foreign frame_refusal frame_checked
elsewhere = refl

-- Other frames than a log holds.
-- `(1.0) can0 123#1122334455667788`
pub eleven_bit : sort_in false [] Unknown (40 ∷ 49 ∷ 46 ∷ 48 ∷ 41 ∷ 32 ∷ 99 ∷ 97 ∷ 110 ∷ 48 ∷ 32 ∷ 49 ∷ 50 ∷ 51 ∷ 35 ∷ 49 ∷ 49 ∷ 50 ∷ 50 ∷ 51 ∷ 51 ∷ 52 ∷ 52 ∷ 53 ∷ 53 ∷ 54 ∷ 54 ∷ 55 ∷ 55 ∷ 56 ∷ 56 ∷ []) ≡ sort.Short
unfolding id_size raw_text is_marked data_text id_in hex_in bytes_in sort_by sort_of_frame is_elsewhere placed is_foreign frame_for wanted sort_for sort_in opens closes behind_time interface_in hash_at is_log ended logged_in fields_in between count_in pair_of pairs_in closed_at data_by data_of mark_of text_of is_id frame_of shown_in frame_in is_drop run_length trimmed behind_word tail_at word_at digit_of with_digit number_on number_in malformed foreign frame_refusal frame_checked
eleven_bit = refl

-- The same.
-- `  can0  12345678   [8]  remote request`
pub remote : sort_in false [] Unknown (32 ∷ 32 ∷ 99 ∷ 97 ∷ 110 ∷ 48 ∷ 32 ∷ 32 ∷ 49 ∷ 50 ∷ 51 ∷ 52 ∷ 53 ∷ 54 ∷ 55 ∷ 56 ∷ 32 ∷ 32 ∷ 32 ∷ 91 ∷ 56 ∷ 93 ∷ 32 ∷ 32 ∷ 114 ∷ 101 ∷ 109 ∷ 111 ∷ 116 ∷ 101 ∷ 32 ∷ 114 ∷ 101 ∷ 113 ∷ 117 ∷ 101 ∷ 115 ∷ 116 ∷ []) ≡ sort.Remote
unfolding id_size raw_text is_marked data_text id_in hex_in bytes_in sort_by sort_of_frame is_elsewhere placed is_foreign frame_for wanted sort_for sort_in opens closes behind_time interface_in hash_at is_log ended logged_in fields_in between count_in pair_of pairs_in closed_at data_by data_of mark_of text_of is_id frame_of shown_in frame_in is_drop run_length trimmed behind_word tail_at word_at digit_of with_digit number_on number_in malformed foreign frame_refusal frame_checked
remote = refl

-- The same.
-- `  can0  20000004   [8]  00 04 00 00 00 00 00 00   ERRORFRAME`
pub error : sort_in false [] Unknown (32 ∷ 32 ∷ 99 ∷ 97 ∷ 110 ∷ 48 ∷ 32 ∷ 32 ∷ 50 ∷ 48 ∷ 48 ∷ 48 ∷ 48 ∷ 48 ∷ 48 ∷ 52 ∷ 32 ∷ 32 ∷ 32 ∷ 91 ∷ 56 ∷ 93 ∷ 32 ∷ 32 ∷ 48 ∷ 48 ∷ 32 ∷ 48 ∷ 52 ∷ 32 ∷ 48 ∷ 48 ∷ 32 ∷ 48 ∷ 48 ∷ 32 ∷ 48 ∷ 48 ∷ 32 ∷ 48 ∷ 48 ∷ 32 ∷ 48 ∷ 48 ∷ 32 ∷ 48 ∷ 48 ∷ 32 ∷ 32 ∷ 32 ∷ 69 ∷ 82 ∷ 82 ∷ 79 ∷ 82 ∷ 70 ∷ 82 ∷ 65 ∷ 77 ∷ 69 ∷ []) ≡ sort.Error
unfolding id_size raw_text is_marked data_text id_in hex_in bytes_in sort_by sort_of_frame is_elsewhere placed is_foreign frame_for wanted sort_for sort_in opens closes behind_time interface_in hash_at is_log ended logged_in fields_in between count_in pair_of pairs_in closed_at data_by data_of mark_of text_of is_id frame_of shown_in frame_in is_drop run_length trimmed behind_word tail_at word_at digit_of with_digit number_on number_in malformed foreign frame_refusal frame_checked
error = refl

-- The same.
-- `(1.0) can0 12345678##0112233`
pub flexible : sort_in false [] Unknown (40 ∷ 49 ∷ 46 ∷ 48 ∷ 41 ∷ 32 ∷ 99 ∷ 97 ∷ 110 ∷ 48 ∷ 32 ∷ 49 ∷ 50 ∷ 51 ∷ 52 ∷ 53 ∷ 54 ∷ 55 ∷ 56 ∷ 35 ∷ 35 ∷ 48 ∷ 49 ∷ 49 ∷ 50 ∷ 50 ∷ 51 ∷ 51 ∷ []) ≡ sort.Fd
unfolding id_size raw_text is_marked data_text id_in hex_in bytes_in sort_by sort_of_frame is_elsewhere placed is_foreign frame_for wanted sort_for sort_in opens closes behind_time interface_in hash_at is_log ended logged_in fields_in between count_in pair_of pairs_in closed_at data_by data_of mark_of text_of is_id frame_of shown_in frame_in is_drop run_length trimmed behind_word tail_at word_at digit_of with_digit number_on number_in malformed foreign frame_refusal frame_checked
flexible = refl

-- The same.
-- `  can0  12345678   [7]  11 22 33 44 55 66 77`
pub seven_bytes : sort_in false [] Unknown (32 ∷ 32 ∷ 99 ∷ 97 ∷ 110 ∷ 48 ∷ 32 ∷ 32 ∷ 49 ∷ 50 ∷ 51 ∷ 52 ∷ 53 ∷ 54 ∷ 55 ∷ 56 ∷ 32 ∷ 32 ∷ 32 ∷ 91 ∷ 55 ∷ 93 ∷ 32 ∷ 32 ∷ 49 ∷ 49 ∷ 32 ∷ 50 ∷ 50 ∷ 32 ∷ 51 ∷ 51 ∷ 32 ∷ 52 ∷ 52 ∷ 32 ∷ 53 ∷ 53 ∷ 32 ∷ 54 ∷ 54 ∷ 32 ∷ 55 ∷ 55 ∷ []) ≡ sort.Length
unfolding id_size raw_text is_marked data_text id_in hex_in bytes_in sort_by sort_of_frame is_elsewhere placed is_foreign frame_for wanted sort_for sort_in opens closes behind_time interface_in hash_at is_log ended logged_in fields_in between count_in pair_of pairs_in closed_at data_by data_of mark_of text_of is_id frame_of shown_in frame_in is_drop run_length trimmed behind_word tail_at word_at digit_of with_digit number_on number_in malformed foreign frame_refusal frame_checked
seven_bytes = refl

-- No frame.
-- `DROPCOUNT: dropped 3 CAN frames on 'can0' socket (total drops 3)`
pub missed : sort_in false [] Unknown (68 ∷ 82 ∷ 79 ∷ 80 ∷ 67 ∷ 79 ∷ 85 ∷ 78 ∷ 84 ∷ 58 ∷ 32 ∷ 100 ∷ 114 ∷ 111 ∷ 112 ∷ 112 ∷ 101 ∷ 100 ∷ 32 ∷ 51 ∷ 32 ∷ 67 ∷ 65 ∷ 78 ∷ 32 ∷ 102 ∷ 114 ∷ 97 ∷ 109 ∷ 101 ∷ 115 ∷ 32 ∷ 111 ∷ 110 ∷ 32 ∷ 39 ∷ 99 ∷ 97 ∷ 110 ∷ 48 ∷ 39 ∷ 32 ∷ 115 ∷ 111 ∷ 99 ∷ 107 ∷ 101 ∷ 116 ∷ 32 ∷ 40 ∷ 116 ∷ 111 ∷ 116 ∷ 97 ∷ 108 ∷ 32 ∷ 100 ∷ 114 ∷ 111 ∷ 112 ∷ 115 ∷ 32 ∷ 51 ∷ 41 ∷ []) ≡ sort.Dropped
unfolding id_size raw_text is_marked data_text id_in hex_in bytes_in sort_by sort_of_frame is_elsewhere placed is_foreign frame_for wanted sort_for sort_in opens closes behind_time interface_in hash_at is_log ended logged_in fields_in between count_in pair_of pairs_in closed_at data_by data_of mark_of text_of is_id frame_of shown_in frame_in is_drop run_length trimmed behind_word tail_at word_at digit_of with_digit number_on number_in malformed foreign frame_refusal frame_checked
missed = refl

-- What no form is.
-- `1.0 can0 12345678#1122334455667788`
pub no_bracket : sort_in false [] Unknown (49 ∷ 46 ∷ 48 ∷ 32 ∷ 99 ∷ 97 ∷ 110 ∷ 48 ∷ 32 ∷ 49 ∷ 50 ∷ 51 ∷ 52 ∷ 53 ∷ 54 ∷ 55 ∷ 56 ∷ 35 ∷ 49 ∷ 49 ∷ 50 ∷ 50 ∷ 51 ∷ 51 ∷ 52 ∷ 52 ∷ 53 ∷ 53 ∷ 54 ∷ 54 ∷ 55 ∷ 55 ∷ 56 ∷ 56 ∷ []) ≡ sort.Broken
unfolding id_size raw_text is_marked data_text id_in hex_in bytes_in sort_by sort_of_frame is_elsewhere placed is_foreign frame_for wanted sort_for sort_in opens closes behind_time interface_in hash_at is_log ended logged_in fields_in between count_in pair_of pairs_in closed_at data_by data_of mark_of text_of is_id frame_of shown_in frame_in is_drop run_length trimmed behind_word tail_at word_at digit_of with_digit number_on number_in malformed foreign frame_refusal frame_checked
no_bracket = refl

-- The same.
-- `  can0  12345678   [8]  11 22 33 44 55 66 77`
pub eight_of_seven : sort_in false [] Unknown (32 ∷ 32 ∷ 99 ∷ 97 ∷ 110 ∷ 48 ∷ 32 ∷ 32 ∷ 49 ∷ 50 ∷ 51 ∷ 52 ∷ 53 ∷ 54 ∷ 55 ∷ 56 ∷ 32 ∷ 32 ∷ 32 ∷ 91 ∷ 56 ∷ 93 ∷ 32 ∷ 32 ∷ 49 ∷ 49 ∷ 32 ∷ 50 ∷ 50 ∷ 32 ∷ 51 ∷ 51 ∷ 32 ∷ 52 ∷ 52 ∷ 32 ∷ 53 ∷ 53 ∷ 32 ∷ 54 ∷ 54 ∷ 32 ∷ 55 ∷ 55 ∷ []) ≡ sort.Broken
unfolding id_size raw_text is_marked data_text id_in hex_in bytes_in sort_by sort_of_frame is_elsewhere placed is_foreign frame_for wanted sort_for sort_in opens closes behind_time interface_in hash_at is_log ended logged_in fields_in between count_in pair_of pairs_in closed_at data_by data_of mark_of text_of is_id frame_of shown_in frame_in is_drop run_length trimmed behind_word tail_at word_at digit_of with_digit number_on number_in malformed foreign frame_refusal frame_checked
eight_of_seven = refl
