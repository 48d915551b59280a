-- `bus::packet_at` meets its contract: at each `return` the tests that led there say which case of `packet` holds, and the bytes are that session's.
-- Assumes nothing.
use mathlib.Core.Path.{refl, sym, ◌∙◌, ap}
use Rattle.std.specs.Prelude.{Err}
use mathlib.Core.List.{List, [], ◌∷◌, ◌++◌}
use Prim.Native.Nat.{ℕ, ◌+◌}
use native.Mathlib.Omega.{arith}
use Rattle.joining.specs.Joining.{finishes}
use Rattle.bus.specs.Room.{session_in, session_bytes}
use Rattle.joining.proofs.Reached.{fit_open}
use Rattle.bus.proofs.Places.{whole}
use Rattle.joining.proofs.Steps.{none_open, stray, kept, last}
use Rattle.bus.proofs.Placed.{step, stored_at, stored_long}
use Rattle.refusal.specs.declared.Refusal.TheVariants.{NotOpen, OutOfSequence}
use Rattle.refusal.proofs.Answers.{refusal_back}
use Rattle.bus.proofs.packet_at.Goals as goal

pub returns-then-size-eq0 : goal.returns-then-size-eq0
returns-then-size-eq0 c =
    let p = c.args.place.now in
    let d = c.args.«data».now in
    let both = step (none_open (session_in p) d c.if-size-eq0.true) (ap (λ f. Err f) (sym (refusal_back NotOpen))) (sym (whole p c.requires.place_len)) in
    record { value = both.0; place_after = both.1 }

pub returns-then-byte-next : goal.returns-then-byte-next
returns-then-byte-next c =
    let p = c.args.place.now in
    let d = c.args.«data».now in
    let both = step (stray (session_in p) d c.if-size-eq0.false c.byte.ensures c.if-byte-next.true) (ap (λ f. Err f) (sym (refusal_back OutOfSequence))) c.close_at.ensures in
    record { value = both.0; place_after = both.1 }

pub overflow_sub-next : goal.overflow_sub-next
overflow_sub-next c =
    let o = fit_open (session_in c.args.place.now) c.requires.place_value c.if-size-eq0.false in
    omega (arith, o.first)

pub overflow_add-next : goal.overflow_add-next
overflow_add-next c =
    let p = c.args.place.now in
    let d = c.args.«data».now in
    let o = fit_open (session_in p) c.requires.place_value c.if-size-eq0.false in
    omega (arith, o.last, o.count, o.high)

pub returns-then-next-count : goal.returns-then-next-count
returns-then-next-count c =
    let p = c.args.place.now in
    let d = c.args.«data».now in
    let o = fit_open (session_in p) c.requires.place_value c.if-size-eq0.false in
    let numbers : List ℕ = (session_in p).size ∷ (session_in p).count ∷ ((session_in p).next + 1) ∷ [] in
    let both = step
    (kept (session_in p) d c.if-size-eq0.false c.byte.ensures c.if-byte-next.false c.if-next-count.true)
    refl
    (c.put_numbers.ensures ∙ ap (λ (l : List ℕ). l ++ numbers) (stored_at p d o c.store.ensures)) in
    record { value = both.0; place_after = both.1 }

pub finish_at-requires : goal.finish_at-requires
finish_at-requires c =
    let p = c.args.place.now in
    let d = c.args.«data».now in
    let o = fit_open (session_in p) c.requires.place_value c.if-size-eq0.false in record { place_len = stored_long p d c.requires.place_len c.store.ensures; size_le_largest_payload = o.high }

pub returns : goal.returns
returns c =
    let p = c.args.place.now in
    let d = c.args.«data».now in
    let o = fit_open (session_in p) c.requires.place_value c.if-size-eq0.false in
    let bytes = stored_at p d o c.store.ensures in
    let both = step
    (last (session_in p) d c.if-size-eq0.false c.byte.ensures c.if-byte-next.false c.if-next-count.false)
    (c.finish_at.ensures.value ∙ ap (λ (l : List ℕ). (finishes l (session_in p).size).answer) bytes)
    (c.finish_at.ensures.place_after ∙ ap (λ (l : List ℕ). session_bytes (finishes l (session_in p).size).session) bytes) in
    record { value = both.0; place_after = both.1 }
