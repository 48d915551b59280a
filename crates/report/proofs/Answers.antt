-- The number and values that the reader and the writer answer are those of the refusals' definitions, by the test that decides each.
-- Assumes nothing.
use mathlib.Core.Path.{◌≡◌, refl}
use mathlib.Core.Bool.{Bool, true, false, cond}
use Rattle.std.specs.Prelude.{Option}
use mathlib.Core.List.{List}
use Prim.Native.Nat.{ℕ}
use lib.Dec.{eqb}
use Rattle.report.specs.declared.Report.{Report}
use Rattle.std.specs.Prelude.{Result, Ok, Err, leb}
use Rattle.std.specs.Result.{result_and}
use Rattle.values.specs.Range.{in_range}
use Rattle.refusal.specs.Numbers.{number_in}
use Rattle.refusal.specs.declared.Refusal.TheVariants.{NotAPayload, ValueOutOfRange, NoteTooLong, NoRoom}
use Rattle.refusal.specs.declared.Refusal.{Refusal}
use Rattle.report.specs.Payload.{report_in, is_payload, read_payload, size, note_fits, fault, write_refusal, write_answer}
use Rattle.report.specs.Answers.{no_report, reading_fields, written_fields}

-- The reader refuses 10 exactly where the bytes are no payload, and then every other field is 0.
pub reader_fields : (p : List ℕ) → reading_fields (read_payload p) ≡ record { refusal = cond (is_payload p) 0 10; complete = is_payload p; report = cond (is_payload p) (report_in p) no_report }
unfolding read_payload
reader_fields p = go (is_payload p)
  where
    go : (b : Bool) → reading_fields (cond b (Ok (report_in p)) (Err NotAPayload))
        ≡ record { refusal = cond b 0 10; complete = b; report = cond b (report_in p) no_report }
    go true = refl
    go false = refl

-- The writer's number is that of `write_refusal`, and where it refuses it has written 0 bytes.
pub writer_fields : (room : ℕ) (r : Report) (note : Option (List ℕ))
    → written_fields (write_answer room r note) ≡ record { refusal = write_refusal room r note; bytes = cond (eqb (write_refusal room r note) 0) (size r.values.edition note) 0 }
unfolding write_answer fault
writer_fields room r note = go (in_range r.values) (note_fits note) (leb (size r.values.edition note) room)
  where
    answer : Bool → Bool → Bool → Result ℕ Refusal
    answer a b c =
        result_and (cond a (cond b (Ok (tt {0})) (Err NoteTooLong)) (Err ValueOutOfRange)) (cond c (Ok (size r.values.edition note)) (Err NoRoom))

    go : (a b c : Bool)
        → written_fields (answer a b c) ≡ record { refusal = number_in (answer a b c); bytes = cond (eqb (number_in (answer a b c)) 0) (size r.values.edition note) 0 }
    go true true true = refl
    go true true false = refl
    go true false c = refl
    go false b c = refl
