-- What a frame does to a session where its tests are known: each law takes the tests of one case, in their order.
-- Assumes nothing.
use mathlib.Core.Path.{◌≡◌, refl, sym, ap, ◌∙◌}
use mathlib.Core.Bool.{Bool, true, false, cond, not}
use mathlib.Core.List.{List, []}
use Prim.Native.Nat.{ℕ, ◌-◌, ◌*◌, ◌≤◌, ◌<◌}
use native.Mathlib.Omega.{arith}
use borrow.Author.Tests.{lt-ltb, le-ltb, eq-eqb, ne_eqb}
use lib.Dec.{eqb, lit≤}
use lib.ListN.{get_or}
use Rattle.std.specs.Prelude.{Ok, Err}
use Rattle.refusal.specs.declared.Refusal.{Refusal}
use Rattle.refusal.specs.declared.Refusal.TheVariants.{NotAnAnnouncement, BadSize, OtherGroup, OtherSize}
use Rattle.refusal.specs.Numbers.{number_of, number_in}
use Rattle.wire.specs.Bytes.{number, part}
use Rattle.joining.specs.declared.Session.{Session}
use Rattle.std.specs.Prelude.{None}
use Rattle.refusal.specs.Answers.{refusal_of}
use Rattle.refusal.proofs.Numbers.{number_above}
use Rattle.refusal.proofs.Answers.{refusal_back}
use Rattle.joining.proofs.Frames.{frame_stopped}
use Rattle.joining.specs.Frame.{frame_checked, frame_refusal, is_announcement}
use Rattle.joining.specs.Joining.{carries, size_in, sound, is_closed, is_open, fit, opened, closed, stored, advanced, finishes, refused, announcement_checked, announcement_refusal, announce, packet, take_frame}
use Rattle.joining.proofs.Fitness.{Open}

-- The refusal of an announcement is its check's, and 0 where the check lets it through.
pub announcement_let : (d : List ℕ) {u : Unit {0}} → Ok u ≡ announcement_checked d → announcement_refusal d ≡ 0
unfolding announcement_refusal
announcement_let d e = rw (← e)

pub announcement_stopped : (d : List ℕ) {r : Refusal} → Err r ≡ announcement_checked d → announcement_refusal d ≡ number_of r
unfolding announcement_refusal
announcement_stopped d e = rw (← e)

-- A refusal of the number 4 is that one.
pub is_4 : (r : Refusal) → number_of r ≡ 4 → r ≡ NotAnAnnouncement
is_4 r e = sym (refusal_back r) ∙ ap refusal_of e ∙ refusal_back NotAnAnnouncement

-- An announcement that is not refused opens the session; refusal 4 leaves it, the others close it.
module _ (s : Session) (d : List ℕ) where
  pub opens : announcement_refusal d ≡ 0 → announce s d ≡ record { answer = Ok None; session = opened (size_in d) }
  unfolding announce
  opens e = rw (eq-eqb _ _ e)

  pub stays : announcement_refusal d ≡ 4 → announce s d ≡ refused 4 s
  unfolding announce
  stays e = rw e

  pub closes : (announcement_refusal d ≡ 0 → ⊥) → (announcement_refusal d ≡ 4 → ⊥) → announce s d ≡ refused (announcement_refusal d) (closed s)
  unfolding announce
  closes h g = rw (ne_eqb _ _ h, ne_eqb _ _ g)

-- One that is not refused names a size that ours can have.
pub good_size : (d : List ℕ) → announcement_refusal d ≡ 0 → carries (size_in d) ≡ true
unfolding announcement_refusal announcement_checked
good_size d = go (eqb (get_or d 0 0) 32) (sound d) (eqb (number (part 5 3 d)) 65300) (carries (size_in d))
  where
    go : (a b c e : Bool) → ◌≡◌ {A = ℕ} (number_in {A = Unit {0}} (cond (not a) (Err NotAnAnnouncement) (cond (not b) (Err BadSize) (cond (not c) (Err OtherGroup) (cond (not e) (Err OtherSize) (Ok tt)))))) 0 → e ≡ true
    go a b c true h = refl
    go true true true false h = absurd (omega (arith, h))
    go true true false false h = absurd (omega (arith, h))
    go true false c false h = absurd (omega (arith, h))
    go false b c false h = absurd (omega (arith, h))

pub announcement_refusals : (d : List ℕ) → announcement_refusal d ≤ 7
unfolding announcement_refusal announcement_checked
announcement_refusals d = go (eqb (get_or d 0 0) 32) (sound d) (eqb (number (part 5 3 d)) 65300) (carries (size_in d))
  where
    go : (a b c e : Bool) → number_in {A = Unit {0}} (cond (not a) (Err NotAnAnnouncement) (cond (not b) (Err BadSize) (cond (not c) (Err OtherGroup) (cond (not e) (Err OtherSize) (Ok tt))))) ≤ 7
    go true true true true = lit≤ tt
    go true true true false = lit≤ tt
    go true true false e = lit≤ tt
    go true false c e = lit≤ tt
    go false b c e = lit≤ tt

-- Fitness is that of the three numbers.
pub fit_numbers : (s : Session) → fit (record { bytes = []; size = s.size; count = s.count; next = s.next }) ≡ fit s
unfolding fit is_closed is_open
fit_numbers s = refl

-- A packet: refused where no session is open or another packet is due, kept, or the last.
module _ (s : Session) (d : List ℕ) where
  pub none_open : s.size ≡ 0 → packet s d ≡ refused 8 s
  unfolding packet
  none_open e = rw (eq-eqb _ _ e)

  module _ (o : s.size ≡ 0 → ⊥) {b : ℕ} (e : b ≡ get_or d 0 0) where
    pub stray : (b ≡ s.next → ⊥) → packet s d ≡ refused 9 (closed s)
    unfolding packet
    stray n = rw (ne_eqb _ _ o, ← e, ne_eqb _ _ n)

    pub kept : b ≡ s.next → s.next < s.count → packet s d ≡ record { answer = Ok None; session = advanced s d }
    unfolding packet
    kept n l = rw (ne_eqb _ _ o, ← e, eq-eqb _ _ n, lt-ltb _ _ l)

    pub last : b ≡ s.next → s.count ≤ s.next → packet s d ≡ finishes (stored s d) s.size
    unfolding packet
    last n l = rw (ne_eqb _ _ o, ← e, eq-eqb _ _ n, le-ltb _ _ l)

-- The packet that is due begins within the size.
pub due : (s : Session) → Open s → 7 * (s.next - 1) ≤ s.size
due s o = omega (arith, o.first, o.last, o.count)

-- A frame that is refused at once.
pub stopped : (s : Session) (id : ℕ) (d : List ℕ) (r : Refusal) → Err r ≡ frame_checked id d → take_frame s id d ≡ refused (number_of r) s
unfolding take_frame
stopped s id d r e =
    let n = frame_stopped id d e in
    rw (ne_eqb (frame_refusal id d) 0 (λ z. absurd (omega (arith, z, n, number_above r))), n)

-- A frame that is not refused at once.
module _ (s : Session) (id : ℕ) (d : List ℕ) (e : frame_refusal id d ≡ 0) where
  pub unfit : fit s ≡ false → take_frame s id d ≡ refused 24 s
  unfolding take_frame
  unfit f = rw (e, f)

  pub announcing : fit s ≡ true → is_announcement id ≡ true → take_frame s id d ≡ announce s d
  unfolding take_frame
  announcing f a = rw (e, f, a)

  pub carrying : fit s ≡ true → is_announcement id ≡ false → take_frame s id d ≡ packet s d
  unfolding take_frame
  carrying f a = rw (e, f, a)
