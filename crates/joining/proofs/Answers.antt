-- The number and values that a frame's sender and a finished payload answer are those of the definitions below, case by case; and only a payload that is accepted answers with a report.
-- Assumes nothing.
use mathlib.Core.Path.{◌≡◌, refl}
use mathlib.Core.Bool.{cond}
use mathlib.Core.List.{List}
use Prim.Native.Nat.{ℕ, zero, suc, ◌≤◌}
use native.Mathlib.Omega.{arith}
use borrow.Author.Tests.{ne_eqb}
use lib.Dec.{eqb}
use Rattle.report.specs.declared.Report.{Report}
use Rattle.std.specs.Prelude.{Result, Ok, Err}
use Rattle.refusal.specs.declared.Refusal.{Refusal}
use Rattle.std.specs.Result.{result_and}
use Rattle.refusal.specs.Numbers.{number_of, number_in}
use Rattle.refusal.proofs.Numbers.{number_above}
use Rattle.report.specs.Answers.{reading_fields}
use Rattle.std.specs.Prelude.{Some, None}
use Rattle.refusal.specs.Answers.{refusal_of}
use Rattle.joining.specs.Frame.{sender_of, frame_checked, frame_refusal, sender_in}
use Rattle.joining.specs.Joining.{yields}
use Rattle.joining.specs.Answers.{Answer, answer_fields, sender_fields}

-- `Frame::sender` has the number of `frame_refusal`, and where that isn't 0 the sender is 0.
pub sender_fields_lem : (id : ℕ) (d : List ℕ)
    → sender_fields (sender_in id d) ≡ record { refusal = frame_refusal id d; sender = cond (eqb (frame_refusal id d) 0) (sender_of id) 0 }
unfolding sender_in frame_refusal
sender_fields_lem id d = go (frame_checked id d)
  where
    go : (r : Result (Unit {0}) Refusal)
        → sender_fields (result_and r (Ok (sender_of id))) ≡ record { refusal = number_in r; sender = cond (eqb (number_in r) 0) (sender_of id) 0 }
    go (Ok u) = refl
    go (Err e) = rw (ne_eqb (number_of e) 0 (λ z. absurd (omega (arith, z, number_above e))))

-- The last packet of a report answers what the payload's reader answers.
pub last_packet : (r : Result Report Refusal) → answer_fields (yields r) ≡ reading_fields r
last_packet (Ok r) = refl
last_packet (Err e) = refl

-- A refusal and a kept frame are no report, ...
pub errs : {r : Report} (n : Refusal) → ◌≡◌ {A = Answer} (Err n) (Ok (Some r)) → ⊥
errs n e = let z : ◌≡◌ {A = ℕ} 0 1 = cc in omega arith

pub refuses : {r : Report} (n : ℕ) → ◌≡◌ {A = Answer} (Err (refusal_of n)) (Ok (Some r)) → ⊥
refuses n e = errs (refusal_of n) e

pub keeps : {r : Report} → ◌≡◌ {A = Answer} (Ok None) (Ok (Some r)) → ⊥
keeps e = let z : ◌≡◌ {A = ℕ} 0 1 = cc in omega arith

-- ... and one that a payload yields is the one that was read from it.
pub accepts : (r : Report) (y : Result Report Refusal) → yields y ≡ Ok (Some r) → y ≡ Ok r
accepts r (Ok q) e = cc
accepts r (Err n) e = absurd (errs n e)

-- The refusal of a number from 1 to 10 has that number.
pub number_back : (n : ℕ) → 1 ≤ n → n ≤ 10 → number_of (refusal_of n) ≡ n
unfolding refusal_of
number_back zero l u = absurd (omega arith)
number_back (suc zero) l u = refl
number_back (suc (suc zero)) l u = refl
number_back (suc (suc (suc zero))) l u = refl
number_back (suc (suc (suc (suc zero)))) l u = refl
number_back (suc (suc (suc (suc (suc zero))))) l u = refl
number_back (suc (suc (suc (suc (suc (suc zero)))))) l u = refl
number_back (suc (suc (suc (suc (suc (suc (suc zero))))))) l u = refl
number_back (suc (suc (suc (suc (suc (suc (suc (suc zero)))))))) l u = refl
number_back (suc (suc (suc (suc (suc (suc (suc (suc (suc zero))))))))) l u = refl
number_back (suc (suc (suc (suc (suc (suc (suc (suc (suc (suc zero)))))))))) l u = refl
number_back (suc (suc (suc (suc (suc (suc (suc (suc (suc (suc (suc n))))))))))) l u = absurd (omega arith)
