-- `bus::announced_at` meets its contract: without a refusal the session is opened, with 4 it stays, and with another it is closed.
-- Assumes nothing.
use mathlib.Core.Path.{◌≡◌, refl, sym, ◌∙◌, ap}
use Prim.Native.Nat.{ℕ}
use native.Mathlib.Omega.{arith}
use Rattle.std.specs.Prelude.{Err}
use Rattle.refusal.specs.Answers.{refusal_of}
use denote.Enum.Bare.{differs_true, differs_false}
use Rattle.joining.specs.Answers.{Answer}
use Rattle.refusal.specs.declared.Refusal.{Refusal}
use Rattle.refusal.specs.contracts.Refusal.{the_type}
use Rattle.refusal.specs.declared.Refusal.TheVariants.{NotAnAnnouncement}
use Rattle.refusal.specs.Numbers.{number_of}
use Rattle.refusal.proofs.Numbers.{number_above}
use Rattle.refusal.proofs.Answers.{refusal_back}
use Rattle.joining.specs.Joining.{opened}
use Rattle.bus.specs.Room.{session_in, session_bytes}
use Rattle.joining.proofs.Fitness.{carried_range}
use Rattle.bus.proofs.Places.{whole}
use Rattle.joining.proofs.Steps.{announcement_let, announcement_stopped, is_4, opens, stays, closes, good_size}
use Rattle.bus.proofs.Placed.{step}
use Rattle.bus.proofs.announced_at.Goals as goal

-- A refusal of a number is that number's.
back : {e : Refusal} {n : ℕ} → n ≡ number_of e → ◌≡◌ {A = Answer} (Err e) (Err (refusal_of n))
back {e} is = ap (λ f. Err f) (sym (ap refusal_of is ∙ refusal_back e))

pub open_at-requires : goal.open_at-requires
open_at-requires c = record { place_len = c.requires; size_le_largest_payload = rw c.read16.ensures (carried_range _ (good_size _ (announcement_let _ c.in_default.ensures))).1 }

pub returns : goal.returns
returns c =
    let e = announcement_let _ c.in_default.ensures in
    let both = step (opens (session_in c.args.place.now) c.args.«data».now e) refl (c.open_at.ensures ∙ ap (λ (n : ℕ). session_bytes (opened n)) c.read16.ensures) in
    record { value = both.0; place_after = both.1 }

pub returns-then-ne : goal.returns-then-ne
returns-then-ne c =
    let p = c.args.place.now in
    let e = announcement_stopped _ c.in-Err.ensures in
    let other = differs_true the_type c.in-Err.refusal NotAnAnnouncement (sym c.ne.ensures ∙ c.if-ne.true) in
    let both = step (closes (session_in p) c.args.«data».now (λ z. absurd (omega (arith, z, e, number_above c.in-Err.refusal))) (λ z. other (is_4 c.in-Err.refusal (sym e ∙ z)))) (back e) c.close_at.ensures in
    record { value = both.0; place_after = both.1 }

pub returns-else-ne : goal.returns-else-ne
returns-else-ne c =
    let p = c.args.place.now in
    let e = announcement_stopped _ c.in-Err.ensures in
    let this = ap number_of (differs_false the_type tt c.in-Err.refusal NotAnAnnouncement (sym c.ne.ensures ∙ c.if-ne.false)) in
    let both = step (stays (session_in p) c.args.«data».now (e ∙ this)) (back (sym this)) (sym (whole p c.requires)) in
    record { value = both.0; place_after = both.1 }
