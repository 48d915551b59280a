-- A session that frames lead to from a fresh one is fit: each case of a frame keeps it, closes it, opens one of a good size, or counts on within it.
-- Assumes nothing.
use mathlib.Core.Path.{◌≡◌, refl, sym, ◌∙◌}
use mathlib.Core.Bool.{Bool, true, false, cond, or-true}
use mathlib.Core.List.{List, [], ◌∷◌}
use Prim.Native.Nat.{ℕ, zero, suc, ◌-◌, ◌<◌}
use native.Mathlib.Omega.{arith}
use borrow.Author.Tests.{eq-eqb, le-leb, lt-ltb}
use lib.ListN.{length, set, replicate, length-replicate, get_or-replicate}
use lib.Seq.{sets, length-sets}
use lib.Dec.{lit<, eqb}
use Rattle.wire.specs.Bytes.{part}
use Rattle.wire.proofs.Numbers.{Bytes}
use Rattle.wire.proofs.Fields.{bytes-part}
use Rattle.joining.specs.declared.Session.{Session}
use Rattle.joining.specs.Frame.{Frame, sender_of}
use Rattle.joining.specs.Joining.{carries, fresh_session, is_closed, is_open, fit, opened, stored, advanced, place}
use Rattle.joining.specs.Run.{nobody, fresh_sessions, session_of, sessions_after_all, solo_step, solo_session, own_frames}
use Rattle.joining.proofs.Fitness.{Open, open_numbers, fit_other, carried_range}
use Rattle.joining.proofs.Mixing.{mixing}
use Rattle.joining.proofs.Cases.{Case, passed, shut, stray, good, next, last, cases}

-- The numbers of an open session make it fit.
pub open_fit : (s : Session) → Open s → fit s ≡ true
unfolding fit is_open
open_fit s o =
    rw (o.carried, eq-eqb _ _ o.count, lt-ltb 0 s.next o.first, le-leb s.next s.count o.last) (or-true (is_closed s))

-- A fit session with a size is open.
pub fit_open : (s : Session) → fit s ≡ true → (s.size ≡ 0 → ⊥) → Open s
fit_open s fits o = open_numbers s (sym (fit_other s o) ∙ fits)

pub opened_open : (n : ℕ) → carries n ≡ true → Open (opened n)
opened_open n c =
    let r = carried_range n c in
    record { carried = c; low = r.0; high = r.1; count = refl; first = omega arith; last = omega arith }

pub advanced_open : (s : Session) (d : List ℕ) → Open s → s.next < s.count → Open (advanced s d)
advanced_open s d o h =
    record { carried = o.carried; low = o.low; high = o.high; count = o.count; first = omega arith; last = omega arith }

pub step-fit : (s : Session) (f : Frame) → fit s ≡ true → fit (solo_step s f).session ≡ true
unfolding fit is_closed
step-fit s f fits = go (cases s f fits)
  where
    go : Case s f → fit (solo_step s f).session ≡ true
    go (passed n l u p e) = rw e fits
    go (shut n p e) = rw e
    go (stray p z e) = rw e fits
    go (good p c a e) = rw e (open_fit (opened _) (opened_open _ c))
    go (next p o c h e) = rw e (open_fit (advanced s f.data_bytes) (advanced_open s f.data_bytes (fit_open s fits o) h))
    go (last p o c h e) = rw e

pub solo_fit : (s : Session) (fs : List Frame) → fit s ≡ true → fit (solo_session s fs) ≡ true
unfolding solo_session
solo_fit s [] fits = fits
solo_fit s (f ∷ fs) fits = solo_fit (solo_step s f).session fs (step-fit s f fits)

pub fresh-fit : fit fresh_session ≡ true
unfolding fit is_closed
fresh-fit = refl

pub fresh_of : (k : ℕ) → k < 254 → session_of k fresh_sessions ≡ fresh_session
fresh_of k h = get_or-replicate 254 k fresh_session nobody h

-- Whatever is sent by whom, every session that 254 fresh ones come to is fit.
pub reached_fit : (fs : List Frame) (k : ℕ) → k < 254 → fit (session_of k (sessions_after_all fresh_sessions fs)) ≡ true
reached_fit fs k h =
    rw ((mixing k h fresh_sessions fs (length-replicate 254 fresh_session)).0, fresh_of k h) (solo_fit fresh_session (own_frames k fs) fresh-fit)

-- What the payload bytes of a session are: 89 of them, each a byte.
pub record Held (bs : List ℕ) : Type 0 where
  pub long : length bs ≡ 89
  pub low : Bytes bs

-- The frames' data are bytes.
abbrev pub OfBytes : List Frame → Type 0
OfBytes [] = Unit
OfBytes (f ∷ fs) = Bytes f.data_bytes × OfBytes fs

bytes-set : (l : List ℕ) (i a : ℕ) → Bytes l → a < 256 → Bytes (set l i a)
bytes-set [] i a h b j = h j
bytes-set (x ∷ l) zero a h b zero = b
bytes-set (x ∷ l) zero a h b (suc j) = h (suc j)
bytes-set (x ∷ l) (suc i) a h b zero = h zero
bytes-set (x ∷ l) (suc i) a h b (suc j) = bytes-set l i a (λ m. h (suc m)) b j

bytes-sets : (l : List ℕ) (i : ℕ) (v : List ℕ) → Bytes l → Bytes v → Bytes (sets l i v)
bytes-sets l i [] h b = h
bytes-sets l i (a ∷ v) h b = bytes-sets (set l i a) (suc i) v (bytes-set l i a h (b zero)) (λ j. b (suc j))

bytes-replicate : (n : ℕ) → Bytes (replicate n 255)
bytes-replicate zero i = lit< tt
bytes-replicate (suc n) zero = lit< tt
bytes-replicate (suc n) (suc i) = bytes-replicate n i

pub blank_held : Held (replicate 89 255)
blank_held = record { long = length-replicate {A = ℕ} 89 255; low = bytes-replicate 89 }

pub stored_held : (s : Session) (d : List ℕ) → Bytes d → Held s.bytes → Held (stored s d)
stored_held s d b h =
    let v : List ℕ = part 1 (s.size - place s) d in
    record {
      long = length-sets s.bytes (place s) v ∙ h.long;
      low = bytes-sets s.bytes (place s) v h.low (bytes-part d 1 (s.size - place s) b);
    }

pub step_held : (s : Session) (f : Frame) → fit s ≡ true → Bytes f.data_bytes → Held s.bytes → Held (solo_step s f).session.bytes
step_held s f fits b h = go (cases s f fits)
  where
    go : Case s f → Held (solo_step s f).session.bytes
    go (passed n l u p e) = rw e h
    go (shut n p e) = rw e h
    go (stray p z e) = rw e h
    go (good p c a e) = rw e blank_held
    go (next p o c l e) = rw e (stored_held s f.data_bytes b h)
    go (last p o c l e) = rw e (stored_held s f.data_bytes b h)

pub solo_held : (s : Session) (fs : List Frame) → fit s ≡ true → OfBytes fs → Held s.bytes → Held (solo_session s fs).bytes
unfolding solo_session
solo_held s [] fits b h = h
solo_held s (f ∷ fs) fits b h = solo_held (solo_step s f).session fs (step-fit s f fits) b.1 (step_held s f fits b.0 h)

own_bytes : (k : ℕ) (fs : List Frame) → OfBytes fs → OfBytes (own_frames k fs)
unfolding own_frames
own_bytes k [] b = tt
own_bytes k (f ∷ fs) b = go (eqb (sender_of f.identifier) k) (own_bytes k fs b.1)
  where
    go : (t : Bool) → OfBytes (own_frames k fs) → OfBytes (cond t (f ∷ own_frames k fs) (own_frames k fs))
    go true h = (b.0, h)
    go false h = h

pub reached_held : (fs : List Frame) → OfBytes fs → (k : ℕ) → k < 254 → Held (session_of k (sessions_after_all fresh_sessions fs)).bytes
reached_held fs b k h =
    rw ((mixing k h fresh_sessions fs (length-replicate 254 fresh_session)).0, fresh_of k h)
    (solo_held fresh_session (own_frames k fs) fresh-fit (own_bytes k fs b) blank_held)
