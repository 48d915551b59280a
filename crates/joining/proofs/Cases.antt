-- What a frame does to a fit session, case by case: the tests of the definition, taken in their order.
-- Assumes nothing.
use mathlib.Core.Path.{◌≡◌, refl, sym, ◌∙◌}
use mathlib.Core.Bool.{Bool, true, false, not, ◌||◌, false≢true, or-true, and-false}
use mathlib.Core.Logic.{◌⊎◌, inl, inr}
use Prim.Native.Nat.{ℕ, ◌≤◌, ◌<◌}
use native.Mathlib.Omega.{arith}
use borrow.Author.Tests.{eqb-true, eqb-false, ltb-true, ltb-false}
use lib.ListN.{get_or}
use lib.Dec.{lit≤, ltb, eqb}
use Rattle.wire.specs.Bytes.{number, part}
use Rattle.joining.specs.declared.Session.{Session}
use Rattle.std.specs.Prelude.{None, Ok}
use Rattle.joining.specs.Frame.{Frame, destination_of, zero_bits_of, frame_refusal, is_announcement, is_packet, foreign}
use Rattle.joining.specs.Joining.{carries, fit, closed, opened, stored, advanced, finishes, refused, size_in, sound, announcement_checked, announcement_refusal, announce, packet, take_frame}
use Rattle.joining.specs.Run.{solo_step, is_passed_over, Announces, Numbered}
use Rattle.joining.proofs.Frames.{sound-frame, frame_refusals}

-- Refused 1 to 4; refused and closed; a packet with no open session; a good announcement; the next packet; the last one.
pub data Case (s : Session) (f : Frame) : Type 0 where
  passed : (n : ℕ) → 1 ≤ n → n ≤ 4 → is_passed_over f ≡ true → solo_step s f ≡ refused n s → Case s f
  shut : (n : ℕ) → is_passed_over f ≡ false → solo_step s f ≡ refused n (closed s) → Case s f
  stray : is_passed_over f ≡ false → s.size ≡ 0 → solo_step s f ≡ refused 8 s → Case s f
  good : is_passed_over f ≡ false → carries (size_in f.data_bytes) ≡ true → Announces (size_in f.data_bytes) f
      → solo_step s f ≡ record { answer = Ok None; session = opened (size_in f.data_bytes) } → Case s f
  next : is_passed_over f ≡ false → (s.size ≡ 0 → ⊥) → Numbered s.next f → s.next < s.count
      → solo_step s f ≡ record { answer = Ok None; session = advanced s f.data_bytes } → Case s f
  last : is_passed_over f ≡ false → (s.size ≡ 0 → ⊥) → Numbered s.next f → s.count ≤ s.next
      → solo_step s f ≡ finishes (stored s f.data_bytes) s.size → Case s f

-- A frame that isn't refused 2 is an announcement or a data packet.
other_format : (id : ℕ) → foreign id ≡ false → is_announcement id ≡ false → is_packet id ≡ true
unfolding foreign
other_format id = go (not (eqb (zero_bits_of id) 0)) (is_announcement id) (is_packet id)
  where
    go : (x a p : Bool) → (x || not (a || p) || not (eqb (destination_of id) 255)) ≡ false → a ≡ false → p ≡ true
    go x a true h e = refl
    go x true false h e = absurd (false≢true (sym e))
    go true false false h e = absurd (false≢true (sym h))
    go false false false h e = absurd (false≢true (sym h))

module _ (f : Frame) where
  abbrev fine : Bool
  fine = eqb (frame_refusal f.identifier f.data_bytes) 0

  abbrev first : Bool
  first = eqb (get_or f.data_bytes 0 0) 32

  abbrev group : Bool
  group = eqb (number (part 5 3 f.data_bytes)) 65300

  module _ (well : fine ≡ true) (s : Session) (fits : fit s ≡ true) where
    as_announcement : is_announcement f.identifier ≡ true → solo_step s f ≡ announce s f.data_bytes
    unfolding take_frame
    as_announcement a = rw (well, fits, a)

    as_packet : is_announcement f.identifier ≡ false → solo_step s f ≡ packet s f.data_bytes
    unfolding take_frame
    as_packet a = rw (well, fits, a)

  -- The tests that a good announcement passes.
  opening : fine ≡ true → is_announcement f.identifier ≡ true → first ≡ true → sound f.data_bytes ≡ true → group ≡ true → carries (size_in f.data_bytes) ≡ true
      → (s : Session) → fit s ≡ true → solo_step s f ≡ record { answer = Ok None; session = opened (size_in f.data_bytes) }
  unfolding announce announcement_refusal announcement_checked
  opening well a e₄ e₅ e₆ e₇ s fits = as_announcement well s fits a ∙ rw (e₄, e₅, e₆, e₇)

  silent : fine ≡ false → is_passed_over f ≡ true
  unfolding is_passed_over
  silent e = rw e

  other_first : is_announcement f.identifier ≡ true → first ≡ false → is_passed_over f ≡ true
  unfolding is_passed_over
  other_first a e = rw (a, e) (or-true (not fine))

  heard_of : fine ≡ true → (is_announcement f.identifier ≡ false) ⊎ (first ≡ true) → is_passed_over f ≡ false
  unfolding is_passed_over
  heard_of e (inl a) = rw (e, a)
  heard_of e (inr b) = rw (e, b) (and-false (is_announcement f.identifier))

  module _ (s : Session) (fits : fit s ≡ true) where
    by_size : fine ≡ true → is_announcement f.identifier ≡ true → first ≡ true → sound f.data_bytes ≡ true → group ≡ true
        → (b : Bool) → carries (size_in f.data_bytes) ≡ b → Case s f
    unfolding announce announcement_refusal announcement_checked
    by_size well a e₄ e₅ e₆ true e₇ =
        let opens = opening well a e₄ e₅ e₆ e₇ in
        good (heard_of well (inr e₄)) e₇ (record { announcement = a; says = refl; opens = opens }) (opens s fits)
    by_size well a e₄ e₅ e₆ false e₇ = shut 7 (heard_of well (inr e₄)) (as_announcement well s fits a ∙ rw (e₄, e₅, e₆, e₇))

    by_group : fine ≡ true → is_announcement f.identifier ≡ true → first ≡ true → sound f.data_bytes ≡ true → (b : Bool) → group ≡ b → Case s f
    unfolding announce announcement_refusal announcement_checked
    by_group well a e₄ e₅ true e₆ = by_size well a e₄ e₅ e₆ (carries (size_in f.data_bytes)) refl
    by_group well a e₄ e₅ false e₆ = shut 6 (heard_of well (inr e₄)) (as_announcement well s fits a ∙ rw (e₄, e₅, e₆))

    by_count : fine ≡ true → is_announcement f.identifier ≡ true → first ≡ true → (b : Bool) → sound f.data_bytes ≡ b → Case s f
    unfolding announce announcement_refusal announcement_checked
    by_count well a e₄ true e₅ = by_group well a e₄ e₅ group refl
    by_count well a e₄ false e₅ = shut 5 (heard_of well (inr e₄)) (as_announcement well s fits a ∙ rw (e₄, e₅))

    by_first : fine ≡ true → is_announcement f.identifier ≡ true → (b : Bool) → first ≡ b → Case s f
    unfolding announce announcement_refusal announcement_checked
    by_first well a true e₄ = by_count well a e₄ (sound f.data_bytes) refl
    by_first well a false e₄ = passed 4 (lit≤ tt) (lit≤ tt) (other_first a e₄) (as_announcement well s fits a ∙ rw e₄)

    module _ (well : fine ≡ true) (a : is_announcement f.identifier ≡ false) where
      heard : is_passed_over f ≡ false
      heard = heard_of well (inl a)

      carrying : get_or f.data_bytes 0 0 ≡ s.next → Numbered s.next f
      carrying e =
          let z = eqb-true (frame_refusal f.identifier f.data_bytes) 0 well in
          record { frame = z; packet = other_format f.identifier (sound-frame f.identifier f.data_bytes z).broadcast a; sequence = e }

      by_place : (s.size ≡ 0 → ⊥) → eqb s.size 0 ≡ false → eqb (get_or f.data_bytes 0 0) s.next ≡ true → (b : Bool) → ltb s.next s.count ≡ b → Case s f
      unfolding packet
      by_place o e₈ e₉ true e =
          next heard o (carrying (eqb-true _ _ e₉)) (ltb-true _ _ e) (as_packet well s fits a ∙ rw (e₈, e₉, e))
      by_place o e₈ e₉ false e =
          last heard o (carrying (eqb-true _ _ e₉)) (ltb-false _ _ e) (as_packet well s fits a ∙ rw (e₈, e₉, e))

      by_sequence : eqb s.size 0 ≡ false → (b : Bool) → eqb (get_or f.data_bytes 0 0) s.next ≡ b → Case s f
      unfolding packet
      by_sequence e₈ true e₉ = by_place (eqb-false s.size 0 e₈) e₈ e₉ (ltb s.next s.count) refl
      by_sequence e₈ false e₉ = shut 9 heard (as_packet well s fits a ∙ rw (e₈, e₉))

      by_open : (b : Bool) → eqb s.size 0 ≡ b → Case s f
      unfolding packet
      by_open true e₈ = stray heard (eqb-true s.size 0 e₈) (as_packet well s fits a ∙ rw e₈)
      by_open false e₈ = by_sequence e₈ (eqb (get_or f.data_bytes 0 0) s.next) refl

    by_format : fine ≡ true → (b : Bool) → is_announcement f.identifier ≡ b → Case s f
    by_format well true a = by_first well a first refl
    by_format well false a = by_open well a (eqb s.size 0) refl

    by_frame : (b : Bool) → fine ≡ b → Case s f
    unfolding take_frame
    by_frame true well = by_format well (is_announcement f.identifier) refl
    by_frame false e =
        let n : ℕ = frame_refusal f.identifier f.data_bytes in
        let low : n ≡ 0 → ⊥ = eqb-false n 0 e in
        let high : n ≤ 3 = frame_refusals f.identifier f.data_bytes in
        passed n (omega arith) (omega arith) (silent e) (rw e)

pub cases : (s : Session) (f : Frame) → fit s ≡ true → Case s f
cases s f fits = by_frame f s fits (fine f) refl

-- The frames that `heard` leaves out are refused 1 to 4, and change nothing.
pub passing : (s : Session) (f : Frame) → fit s ≡ true → is_passed_over f ≡ true → (n : ℕ) × (1 ≤ n) × (n ≤ 4) × (solo_step s f ≡ refused n s)
passing s f fits h = go (cases s f fits)
  where
    never : is_passed_over f ≡ false → ⊥
    never p = false≢true (sym p ∙ h)

    go : Case s f → (n : ℕ) × (1 ≤ n) × (n ≤ 4) × (solo_step s f ≡ refused n s)
    go (passed n l u p e) = (n, l, u, e)
    go (shut n p e) = absurd (never p)
    go (stray p z e) = absurd (never p)
    go (good p c a e) = absurd (never p)
    go (next p o c m e) = absurd (never p)
    go (last p o c m e) = absurd (never p)
