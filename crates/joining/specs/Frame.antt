-- A frame and what its identifier says (docs/RULES.md, section 2).
use Rattle.std.specs.Prelude.{ℕ, ◌/◌, ◌%◌, Bool, cond, not, ◌||◌, List, length, leb, ltb, eqb, Result, Ok, Err}
use Rattle.std.specs.Result.{result_and}
use Rattle.refusal.specs.declared.Refusal.{Refusal}
use Rattle.refusal.specs.declared.Refusal.TheVariants.{MalformedFrame, ForeignFrame, NoSuchSender}
use Rattle.refusal.specs.Numbers.{number_in}

-- Rule 2.1: an identifier and data bytes; `malformed` says which are no frame.
pub record Frame : Type 0 where
  pub identifier : ℕ
  pub data_bytes : List ℕ

-- Rule 2.2: the identifier's bits. Those above, 26 to 28, are the priority, and nobody reads them.
abbrev pub sender_of : ℕ → ℕ
sender_of id = id % 256

abbrev pub destination_of : ℕ → ℕ
destination_of id = id / 256 % 256

abbrev pub format_of : ℕ → ℕ
format_of id = id / 65536 % 256

abbrev pub zero_bits_of : ℕ → ℕ
zero_bits_of id = id / 16777216 % 4

-- Rule 2.3: the format tells an announcement from a data packet.
abbrev pub is_announcement : ℕ → Bool
is_announcement id = eqb (format_of id) 236

abbrev pub is_packet : ℕ → Bool
is_packet id = eqb (format_of id) 235

-- Refusal 1: an identifier of more than 29 bits, or another number of data bytes than 8.
unfoldable pub malformed : ℕ → List ℕ → Bool
malformed id data_bytes = leb 536870912 id || not (eqb (length data_bytes) 8)

-- Refusal 2: bits 24 and 25 aren't 0, it is of another format, or it isn't for everyone.
unfoldable pub foreign : ℕ → Bool
foreign id = not (eqb (zero_bits_of id) 0) || not (is_announcement id || is_packet id) || not (eqb (destination_of id) 255)

-- What is refused before any session is looked at (rule 9.4): 1, 2, then 3, a sender that has no session.
unfoldable pub frame_checked : ℕ → List ℕ → Result (Unit {0}) Refusal
frame_checked id data_bytes =
    cond (malformed id data_bytes) (Err MalformedFrame)
    (cond (foreign id) (Err ForeignFrame)
    (cond (ltb 253 (sender_of id)) (Err NoSuchSender) (Ok tt)))

-- The number of that refusal; 0 for none.
unfoldable pub frame_refusal : ℕ → List ℕ → ℕ
frame_refusal id data_bytes = number_in (frame_checked id data_bytes)

-- Whose session a frame is for, or its refusal.
unfoldable pub sender_in : ℕ → List ℕ → Result ℕ Refusal
sender_in id data_bytes = result_and (frame_checked id data_bytes) (Ok (sender_of id))
