-- The payload of a finished report stands in its session's bytes: opening set them all to 255, and no packet stores past the size, so the
-- place of the note's tag tells where the payload ends.
-- Assumes nothing.
use mathlib.Core.Path.{◌≡◌, refl, sym, ◌∙◌, ap}
use mathlib.Core.Bool.{Bool, true, false, cond}
use mathlib.Core.Logic.{◌⊎◌, inl, inr, ⊎_elim}
use mathlib.Core.List.{List, [], ◌∷◌}
use Prim.Native.Nat.{ℕ, suc, ◌+◌, ◌-◌, ◌≤◌, ◌<◌}
use native.Mathlib.Omega.{arith}
use borrow.Author.Tests.{eq-eqb, ne_eqb}
use lib.Dec.{eqb}
use lib.ListN.{length, get_or, take, drop, set, drop_of_length-le, length-take, length-replicate, get_or-replicate}
use lib.Seq.{sets, get_or-set_other, length-sets, get_or-take, length-take-le}
use Rattle.laws.proofs.Lists.{lt_or_eq, get_d_past}
use Rattle.values.specs.declared.Edition.TheVariants.{First, Second}
use Rattle.wire.specs.Bytes.{number, part, field_at, is_field}
use Rattle.wire.proofs.Numbers.{number_two}
use Rattle.wire.proofs.Fields.{stands_facts}
use Rattle.report.specs.declared.Report.{Report}
use Rattle.std.specs.Prelude.{Ok}
use Rattle.report.specs.Payload.{plain_size, edition_in, plain_in, read_payload}
use Rattle.report.proofs.Places.{plain_from, plain_to, Shown, order_shows}
use Rattle.report.proofs.Reader.{accepted, order_of}
use Rattle.joining.specs.declared.Session.{Session}
use Rattle.std.specs.Prelude.{Some}
use Rattle.joining.specs.Frame.{Frame}
use Rattle.joining.specs.Joining.{fit, place, stored, size_held, payload_held, fresh_session}
use Rattle.joining.specs.Run.{solo_step, solo_session, fresh_sessions, session_of, sessions_after_all, own_frames}
use Rattle.joining.proofs.Fitness.{Open, open_numbers, fit_other}
use Rattle.joining.proofs.Answers.{refuses, keeps, accepts}
use Rattle.joining.proofs.Cases.{Case, passed, shut, stray, good, next, last, cases}
use Rattle.joining.proofs.Mixing.{mixing}
use Rattle.joining.proofs.Reached.{step-fit, fresh-fit, fresh_of}

-- Past an open session's size its bytes are 255, as opening left them.
pub record Clean (s : Session) : Type 0 where
  pub long : length s.bytes ≡ 89
  pub past : (s.size ≡ 0 → ⊥) → (i : ℕ) → s.size ≤ i → i < 89 → get_or s.bytes i 0 ≡ 255

sets-before : (l : List ℕ) (i : ℕ) (v : List ℕ) (j : ℕ) → i + length v ≤ j → get_or (sets l i v) j 0 ≡ get_or l j 0
sets-before l i [] j h = refl
sets-before l i (a ∷ v) j h =
    sets-before (set l i a) (suc i) v j (omega arith) ∙ get_or-set_other l i j a 0 (λ e. omega arith)

-- A packet stores nothing past the size.
stored_past : (s : Session) (d : List ℕ) → Open s → (j : ℕ) → s.size ≤ j → get_or (stored s d) j 0 ≡ get_or s.bytes j 0
stored_past s d o j h =
    sets-before s.bytes (place s) (take (s.size - place s) (drop 1 d)) j
    (omega (arith, length-take (s.size - place s) (drop 1 d), o.count, o.first, o.last))

pub step_clean : (s : Session) (f : Frame) → fit s ≡ true → Clean s → Clean (solo_step s f).session
step_clean s f fits c = go (cases s f fits)
  where
    go : Case s f → Clean (solo_step s f).session
    go (passed n l u p e) = rw e c
    go (shut n p e) = rw e (record { long = c.long; past = λ h. absurd (h refl) })
    go (stray p z e) = rw e c
    go (good p k a e) = rw e (record { long = length-replicate {A = ℕ} 89 255; past = λ h i l u. get_or-replicate 89 i 255 0 u })
    go (next p o n l e) =
        let open-s = open_numbers s (sym (fit_other s o) ∙ fits) in
        rw e
        (record {
          long = length-sets s.bytes (place s) (take (s.size - place s) (drop 1 f.data_bytes)) ∙ c.long;
          past = λ h i l u. stored_past s f.data_bytes open-s i l ∙ c.past o i l u;
        })
    go (last p o n l e) =
        rw e
        (record {
          long = length-sets s.bytes (place s) (take (s.size - place s) (drop 1 f.data_bytes)) ∙ c.long;
          past = λ h. absurd (h refl);
        })

pub solo_clean : (s : Session) (fs : List Frame) → fit s ≡ true → Clean s → Clean (solo_session s fs)
unfolding solo_session
solo_clean s [] fits c = c
solo_clean s (f ∷ fs) fits c = solo_clean (solo_step s f).session fs (step-fit s f fits) (step_clean s f fits c)

fresh_clean : Clean fresh_session
fresh_clean = record { long = length-replicate {A = ℕ} 89 255; past = λ h. absurd (h refl) }

-- So are all that 254 fresh sessions come to.
pub reached_clean : (fs : List Frame) (k : ℕ) → k < 254 → Clean (session_of k (sessions_after_all fresh_sessions fs))
unfolding sessions_after_all
reached_clean fs k h =
    rw ((mixing k h fresh_sessions fs (length-replicate 254 fresh_session)).0, fresh_of k h)
    (solo_clean fresh_session (own_frames k fs) fresh-fit fresh_clean)

-- The edition that stands in bytes goes by their byte 17.
by_tag : (p q : List ℕ) → eqb (get_or p 17 0) 5 ≡ eqb (get_or q 17 0) 5 → plain_in p ≡ plain_in q
unfolding edition_in
by_tag p q e = rw e (go (eqb (get_or q 17 0) 5) (number (part 20 2 p)) (number (part 20 2 q)))
  where
    go : (b : Bool) (m n : ℕ) → plain_size (cond b (Second m) First) ≡ plain_size (cond b (Second n) First)
    go true m n = refl
    go false m n = refl

get_d_end : (l : List ℕ) (n : ℕ) → length l ≤ n → get_or l n 0 ≡ 0
get_d_end l n h = get_d_past 0 l n (drop_of_length-le l {i = n} h)

-- Of 89 bytes whose front shows a payload and that go on with 255, the payload's size is found.
module _ (b : List ℕ) (size : ℕ) (long : length b ≡ 89) (within : size ≤ 89) (past : (i : ℕ) → size ≤ i → i < 89 → get_or b i 0 ≡ 255) where
  of_front : length (take size b) ≡ size
  of_front = length-take-le size b (omega arith)

  -- Byte 17, or the 255 in its place, says of both the same edition.
  plain_same : 17 ≤ length (take size b) → plain_in (take size b) ≡ plain_in b
  plain_same low = by_tag (take size b) b (go (lt_or_eq low))
    where
      go : (17 < length (take size b)) ⊎ (17 ≡ length (take size b)) → eqb (get_or (take size b) 17 0) 5 ≡ eqb (get_or b 17 0) 5
      go (inl more) = ap (λ n. eqb n 5) (get_or-take size b 17 0 (omega (arith, of_front)))
      go (inr e) =
          let none : get_or b 17 0 ≡ 255 = past 17 (omega (arith, of_front)) (omega arith) in
          rw (get_d_end (take size b) 17 (omega arith), none)

  plain_found : length (take size b) ≡ plain_in b → size_held b ≡ size
  plain_found e =
      let here : size ≡ plain_in b = sym of_front ∙ e in
      let none : get_or b (plain_in b) 0 ≡ 4 → ⊥ = λ z. omega (arith, past (plain_in b) (omega arith) (omega (arith, plain_to (edition_in b)))) in
      rw (ne_eqb (get_or b (plain_in b) 0) 4 none) (sym here)

  noted_found : plain_in b + 3 ≤ length (take size b) → is_field (field_at (take size b) (plain_in b)) 4 (length (take size b) - (plain_in b + 3)) ≡ true → size_held b ≡ size
  noted_found low f =
      let p = take size b in
      let k = plain_in b in
      let stands = stands_facts p k 4 (length p - (k + 3)) f in
      let front : length p ≡ size = of_front in
      let tag : get_or b k 0 ≡ 4 = sym (get_or-take size b k 0 (omega arith)) ∙ stands.1 in
      let first : get_or p (k + 1) 0 ≡ get_or b (k + 1) 0 = get_or-take size b (k + 1) 0 (omega arith) in
      let second : get_or p (k + 1 + 1) 0 ≡ get_or b (k + 1 + 1) 0 = get_or-take size b (k + 1 + 1) 0 (omega arith) in
      let says : number (part (k + 1) 2 b) ≡ length p - (k + 3) = omega (arith, number_two p (k + 1), number_two b (k + 1), stands.2) in
      rw (eq-eqb (get_or b k 0) 4 tag) (omega arith)

  size-found : Shown (take size b) → size_held b ≡ size
  size-found s =
      let from = plain_from (edition_in (take size b)) in
      ⊎_elim (λ e. plain_found (rw (plain_same (omega arith)) at e))
      (λ w. let same = plain_same (omega arith) in noted_found (rw same at w.0) (rw same at w.2))
      s.rest

-- Where a frame completes a report, the session's bytes hold the payload that it was read from, so its note is that report's.
pub held_payload : (s : Session) (f : Frame) (r : Report) → fit s ≡ true → Clean s → (solo_step s f).answer ≡ Ok (Some r)
    → (payload_held (solo_step s f).session.bytes ≡ take s.size (stored s f.data_bytes)) × (read_payload (payload_held (solo_step s f).session.bytes) ≡ Ok r)
unfolding payload_held
held_payload s f r fits c h = go (cases s f fits)
  where
    go : Case s f
        → (payload_held (solo_step s f).session.bytes ≡ take s.size (stored s f.data_bytes)) × (read_payload (payload_held (solo_step s f).session.bytes) ≡ Ok r)
    go (passed n l u p e) = absurd (refuses n (rw e at h))
    go (shut n p e) = absurd (refuses n (rw e at h))
    go (stray p z e) = absurd (refuses 8 (rw e at h))
    go (good p k a e) = absurd (keeps (rw e at h))
    go (next p o n l e) = absurd (keeps (rw e at h))
    go (last p o n l e) =
        let b = stored s f.data_bytes in
        let open-s = open_numbers s (sym (fit_other s o) ∙ fits) in
        let read : read_payload (take s.size b) ≡ Ok r =
        accepts r (read_payload (take s.size b)) (rw e at h) in
        let shown = order_shows (take s.size b) (order_of (take s.size b) (accepted (take s.size b) read).0) in
        let long : length b ≡ 89 = length-sets s.bytes (place s) (take (s.size - place s) (drop 1 f.data_bytes)) ∙ c.long in
        let size : size_held b ≡ s.size =
        size-found b s.size long open-s.high (λ i l u. stored_past s f.data_bytes open-s i l ∙ c.past o i l u) shown in
        (rw (e, size), rw (e, size) read)
