-- What other senders send changes nothing: each frame reads and changes its own sender's session only, so a sender's part of a run is the run of its part.
-- Assumes nothing.
use mathlib.Core.Path.{◌≡◌, refl, sym, ◌∙◌, ap, ap₂}
use mathlib.Core.Bool.{Bool, true, false, cond}
use mathlib.Core.List.{List, [], ◌∷◌}
use Prim.Native.Nat.{ℕ, ◌<◌}
use native.Mathlib.Omega.{arith}
use borrow.Author.Tests.{lt-ltb, ne_eqb, eqb-true, eqb-false}
use lib.ListN.{length, set, length-set}
use lib.Seq.{get_or-set_same, get_or-set_other, set-get_or}
use lib.Dec.{ltb, eqb}
use Rattle.joining.specs.declared.Session.{Session}
use Rattle.joining.specs.Answers.{Answer}
use Rattle.joining.specs.Frame.{Frame, sender_of, frame_refusal}
use Rattle.joining.specs.Joining.{take_frame}
use Rattle.joining.specs.Run.{nobody, session_of, sessions_after, answer_to, sessions_after_all, answers_to_all, solo_step, solo_session, solo_answers, own_frames, own_answers}

module _ (ss : List Session) (f : Frame) where
  sender : ℕ
  sender = sender_of f.identifier

  -- A frame stores one session anew, or, of senders 254 and 255, none.
  after : (P : List Session → Type 0) → P (set ss sender (solo_step (session_of sender ss) f).session) → P ss → P (sessions_after ss f)
  unfolding sender
  after P stored same = go (ltb sender 254)
    where
      go : (b : Bool) → P (cond b (set ss sender (solo_step (session_of sender ss) f).session) ss)
      go true = stored
      go false = same

  -- Rule 3.1: a frame changes its sender's session and no other.
  pub others_stay : (k : ℕ) → (sender_of f.identifier ≡ k → ⊥) → session_of k (sessions_after ss f) ≡ session_of k ss
  unfolding sender
  others_stay k h =
      after (λ ts. session_of k ts ≡ session_of k ss) (get_or-set_other ss sender k _ nobody (λ e. h (sym e))) refl

  pub length-after : length (sessions_after ss f) ≡ length ss
  length-after = after (λ ts. length ts ≡ length ss) (length-set ss sender _) refl

-- A frame that is refused 1, 2 or 3 changes no session.
pub refused_stays : (s : Session) (f : Frame) → (frame_refusal f.identifier f.data_bytes ≡ 0 → ⊥) → (solo_step s f).session ≡ s
unfolding take_frame
refused_stays s f h = rw (ne_eqb (frame_refusal f.identifier f.data_bytes) 0 h)

pub refused_changes_none : (ss : List Session) (f : Frame) → (frame_refusal f.identifier f.data_bytes ≡ 0 → ⊥) → sessions_after ss f ≡ ss
refused_changes_none ss f h =
    after ss f (λ ts. ts ≡ ss)
    (ap (set ss (sender ss f)) (refused_stays (session_of (sender ss f) ss) f h) ∙ set-get_or ss (sender ss f) nobody)
    refl

pub length_at : (ss : List Session) (fs : List Frame) → length (sessions_after_all ss fs) ≡ length ss
unfolding sessions_after_all
length_at ss [] = refl
length_at ss (f ∷ fs) = length_at (sessions_after ss f) fs ∙ length-after ss f

module _ (k : ℕ) (known : k < 254) where
  -- A frame of sender k is taken by its session, and the answer is that session's.
  pub own_answer : (ss : List Session) (f : Frame) → sender_of f.identifier ≡ k → answer_to ss f ≡ (solo_step (session_of k ss) f).answer
  own_answer ss f e = rw (e, lt-ltb k 254 known)

  pub own_session : (ss : List Session) (f : Frame) → length ss ≡ 254 → sender_of f.identifier ≡ k
      → session_of k (sessions_after ss f) ≡ (solo_step (session_of k ss) f).session
  own_session ss f n e = rw (e, lt-ltb k 254 known) (get_or-set_same ss k _ nobody (omega arith))

  -- Of every run, the session of k at the end and the answers to k are those of its own frames alone, in their order.
  pub mixing : (ss : List Session) (fs : List Frame) → length ss ≡ 254
      → (session_of k (sessions_after_all ss fs) ≡ solo_session (session_of k ss) (own_frames k fs))
      × (own_answers k fs (answers_to_all ss fs) ≡ solo_answers (session_of k ss) (own_frames k fs))
  unfolding sessions_after_all answers_to_all solo_session solo_answers own_frames own_answers
  mixing ss [] n = (refl, refl)
  mixing ss (f ∷ fs) n =
      go (eqb (sender_of f.identifier) k) refl (mixing (sessions_after ss f) fs (length-after ss f ∙ n))
    where
      next : List Session
      next = sessions_after ss f

      own : List Frame
      own = own_frames k fs

      got : List Answer
      got = own_answers k fs (answers_to_all next fs)

      go : (b : Bool) → eqb (sender_of f.identifier) k ≡ b
          → (session_of k (sessions_after_all next fs) ≡ solo_session (session_of k next) own) × (got ≡ solo_answers (session_of k next) own)
          → (session_of k (sessions_after_all next fs) ≡ solo_session (session_of k ss) (cond b (f ∷ own) own))
          × (cond b (answer_to ss f ∷ got) got ≡ solo_answers (session_of k ss) (cond b (f ∷ own) own))
      go true e ih =
          let h = eqb-true (sender_of f.identifier) k e in
          let s = own_session ss f n h in (
            ih.0 ∙ ap (λ (t : Session). solo_session t own) s,
            ap₂ (λ (a : Answer) (rest : List Answer). a ∷ rest) (own_answer ss f h) (ih.1 ∙ ap (λ (t : Session). solo_answers t own) s),
          )
      go false e ih =
          let s = others_stay ss f k (eqb-false (sender_of f.identifier) k e) in
          (ih.0 ∙ ap (λ (t : Session). solo_session t own) s, ih.1 ∙ ap (λ (t : Session). solo_answers t own) s)

  -- So two runs in which k sends the same frames, whatever the others send in them, give k the same session and the same answers.
  pub unmixed : (ss ts : List Session) (fs gs : List Frame) → length ss ≡ 254 → length ts ≡ 254 → session_of k ss ≡ session_of k ts → own_frames k fs ≡ own_frames k gs
      → (session_of k (sessions_after_all ss fs) ≡ session_of k (sessions_after_all ts gs)) × (own_answers k fs (answers_to_all ss fs) ≡ own_answers k gs (answers_to_all ts gs))
  unmixed ss ts fs gs n m s e =
      let a = mixing ss fs n in
      let b = mixing ts gs m in
      (a.0 ∙ ap₂ solo_session s e ∙ sym b.0, a.1 ∙ ap₂ solo_answers s e ∙ sym b.1)
