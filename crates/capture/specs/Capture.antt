-- A captured frame in the log's form, ID#DATA, and what is written for the line that holds it.
use Rattle.std.specs.Prelude.{ℕ, ◌+◌, List, [], ◌∷◌, ◌++◌, Bool, true, false, cond, not, ◌&&◌, length, get_or, take, drop, leb, ltb, eqb, Option, Some, None, is_some, unwrap_or}
use Rattle.wire.specs.Bytes.{same}
use Rattle.items.specs.declared.Item.{Item}
use Rattle.items.specs.declared.Item.TheVariants as item
use Rattle.items.specs.Run.{Meant}
use Rattle.lines.specs.declared.Run.TheVariants.{Until}
use Rattle.lines.specs.Words.{run_length, word_at}
use Rattle.lines.specs.Numbers.{number_in}
use Rattle.joining.specs.Frame.{frame_refusal}
use Rattle.stamps.specs.declared.Stamp.{Stamp}
use Rattle.stamps.specs.declared.Since.{Since}
use Rattle.stamps.specs.declared.Since.TheVariants as since
use Rattle.stamps.specs.Stamps.{earliest, since_of}
use Rattle.dump.specs.Dump.{interface_in, time_in, is_drop, frame_in}
use Rattle.capture.specs.declared.Sort.{Sort}
use Rattle.capture.specs.declared.Sort.TheVariants as sort

-- The identifier's digits stand before the first #, the data behind it.
unfoldable pub id_size : List ℕ → ℕ
id_size w = run_length (Until 35) w

unfoldable pub raw_text : List ℕ → List ℕ
raw_text w = drop (id_size w + 1) w

-- Behind 8 bytes may stand a mark, _9 to _F, for a length over 8, which stands for 8 bytes too.
unfoldable pub is_marked : List ℕ → Bool
is_marked t = eqb (length t) 18 && (eqb (get_or t 16 0) 95 && ltb 8 (unwrap_or (number_in 16 15 (drop 17 t)) 0))

-- The data without the mark.
unfoldable pub data_text : List ℕ → List ℕ
data_text w = cond (is_marked (raw_text w)) (take 16 (raw_text w)) (raw_text w)

-- The identifier: three hexadecimal digits for 11 bits, eight for 29 and the bit that marks an error frame.
unfoldable pub id_in : List ℕ → Option ℕ
id_in w =
    cond (ltb (id_size w) (length w))
    (cond (eqb (id_size w) 3) (number_in 16 2047 (take (id_size w) w))
    (cond (eqb (id_size w) 8) (number_in 16 1073741823 (take (id_size w) w))
    None))
    None

-- Data are bytes of two hexadecimal digits each.
unfoldable pub hex_in : List ℕ → Bool
hex_in [] = true
hex_in (a ∷ []) = false
hex_in (a ∷ (b ∷ s)) = is_some (number_in 16 255 (a ∷ b ∷ [])) && hex_in s

unfoldable pub bytes_in : List ℕ → List ℕ
bytes_in [] = []
bytes_in (a ∷ []) = []
bytes_in (a ∷ (b ∷ s)) = unwrap_or (number_in 16 255 (a ∷ b ∷ [])) 0 ∷ bytes_in s

-- What a frame is. Two # mark CAN FD, and R a remote frame; of the others the data are at most 8 bytes. Bit 29 of the
-- identifier marks an error frame, three digits an 11-bit one; a log holds the rest where the data are 8 bytes.
unfoldable pub sort_by : Option ℕ → List ℕ → Sort
sort_by None w = sort.Broken
sort_by (Some id) w =
    cond (eqb (get_or (data_text w) 0 0) 35) sort.Fd
    (cond (eqb (get_or (data_text w) 0 0) 82) sort.Remote
    (cond (ltb 16 (length (data_text w))) sort.Broken
    (cond (not (hex_in (data_text w))) sort.Broken
    (cond (leb 536870912 id) sort.Error
    (cond (eqb (id_size w) 3) sort.Short
    (cond (eqb (length (data_text w)) 16) sort.Frame
    sort.Length))))))

unfoldable pub sort_of_frame : List ℕ → Sort
sort_of_frame w = sort_by (id_in w) w

-- Sorts by their number.
abbrev pub place : Sort → ℕ
place sort.Frame = 0
place sort.Marked = 1
place sort.Foreign = 2
place sort.Elsewhere = 3
place sort.Short = 4
place sort.Remote = 5
place sort.Error = 6
place sort.Fd = 7
place sort.Length = 8
place sort.Beyond = 9
place sort.Dropped = 10
place sort.Nothing = 11
place sort.Broken = 12

abbrev pub is : Sort → Sort → Bool
is s t = eqb (place s) (place t)

-- On another interface than the one that is asked for; no name asks for all.
unfoldable pub is_elsewhere : List ℕ → List ℕ → Bool
is_elsewhere name line = not (eqb (length name) 0) && not (same name (interface_in line))

-- A broken frame stays broken, wherever it is.
unfoldable pub placed : Bool → Sort → Sort
placed elsewhere s = cond (elsewhere && not (is sort.Broken s)) sort.Elsewhere s

-- Where only frames are asked for that a report can be joined from, those are left out that refusals 1 to 3 stand against (rule 9.4).
unfoldable pub is_foreign : Bool → List ℕ → Bool
is_foreign ours w = ours && not (eqb (frame_refusal (unwrap_or (id_in w) 0) (bytes_in (data_text w))) 0)

-- A time that a log can't hold.
abbrev pub is_beyond : Since → Bool
is_beyond since.Unknown = false
is_beyond (since.At ms) = false
is_beyond since.Beyond = true

unfoldable pub frame_for : Bool → Since → List ℕ → Sort
frame_for ours t w = cond (is_foreign ours w) sort.Foreign (cond (is_beyond t) sort.Beyond (cond (is_marked (raw_text w)) sort.Marked sort.Frame))

unfoldable pub wanted : Bool → Since → List ℕ → Sort → Sort
wanted ours t w s = cond (is sort.Frame s) (frame_for ours t w) s

-- What a frame is of those that are asked for.
unfoldable pub sort_for : Bool → Bool → Since → List ℕ → Sort
sort_for ours elsewhere t w = wanted ours t w (placed elsewhere (sort_of_frame w))

-- What a line holds: nothing where it has no words; how many frames were missed; or a frame.
unfoldable pub sort_in : Bool → List ℕ → Since → List ℕ → Sort
sort_in ours name t line =
    cond (eqb (length (word_at 0 line)) 0) sort.Nothing
    (cond (is_drop line) sort.Dropped
    (sort_for ours (is_elsewhere name line) t (frame_in line)))

-- The log item of a frame, with its time if there is one.
abbrev pub frame_item : Since → ℕ → Item
frame_item since.Unknown id = item.Frame id
frame_item (since.At ms) id = item.Timed ms id
frame_item since.Beyond id = item.Frame id

abbrev pub item_of_word : Since → List ℕ → Meant
item_of_word t w = record { item = frame_item t (unwrap_or (id_in w) 0); data_bytes = bytes_in (data_text w) }

-- What is written: the item of a frame that a log holds, and nothing else.
abbrev pub item_of : Since → Sort → List ℕ → List Meant
item_of t sort.Frame w = item_of_word t w ∷ []
item_of t sort.Marked w = item_of_word t w ∷ []
item_of t sort.Foreign w = []
item_of t sort.Elsewhere w = []
item_of t sort.Short w = []
item_of t sort.Remote w = []
item_of t sort.Error w = []
item_of t sort.Fd w = []
item_of t sort.Length w = []
item_of t sort.Beyond w = []
item_of t sort.Dropped w = []
item_of t sort.Nothing w = []
item_of t sort.Broken w = []

unfoldable pub items_of_line : Bool → List ℕ → Since → List ℕ → List Meant
items_of_line ours name t line = item_of t (sort_in ours name t line) (frame_in line)

-- ---- a capture, line by line

-- Frames of every sort, written or not.
abbrev pub is_frame : Sort → Bool
is_frame s = ltb (place s) 10

-- Times count from the first frame that has one.
unfoldable pub start_after : Option Stamp → Option Stamp → Sort → Option Stamp
start_after start s sort = cond (is_frame sort) (earliest start s) start

-- The time of a line, where times are asked for, and the same in the log: the first one is 0.
unfoldable pub stamp_in : Bool → List ℕ → Option Stamp
stamp_in timed line = cond timed (time_in line) None

unfoldable pub since_in : Option Stamp → Option Stamp → Since
since_in start s = since_of (earliest start s) s

-- What is written for the lines of a capture, where times count from `start`.
unfoldable pub items_of_lines : Bool → List ℕ → Bool → Option Stamp → List (List ℕ) → List Meant
items_of_lines ours name timed start [] = []
items_of_lines ours name timed start (l ∷ ls) =
    items_of_line ours name (since_in start (stamp_in timed l)) l
    ++ items_of_lines ours name timed (start_after start (stamp_in timed l) (sort_in ours name (since_in start (stamp_in timed l)) l)) ls

-- Where times count from behind those lines.
unfoldable pub start_after_lines : Bool → List ℕ → Bool → Option Stamp → List (List ℕ) → Option Stamp
start_after_lines ours name timed start [] = start
start_after_lines ours name timed start (l ∷ ls) =
    start_after_lines ours name timed (start_after start (stamp_in timed l) (sort_in ours name (since_in start (stamp_in timed l)) l)) ls

-- The time of a capture's first frame that has one, whatever is asked for.
unfoldable pub first_stamp : Bool → List (List ℕ) → Option Stamp
first_stamp timed [] = None
first_stamp timed (l ∷ ls) = cond (is_frame (sort_in false [] since.Unknown l)) (earliest (stamp_in timed l) (first_stamp timed ls)) (first_stamp timed ls)
