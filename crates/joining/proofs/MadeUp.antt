-- A report is only ever what one sender sent: an open session holds the bytes of the packets that came, in sequence, since the announcement that opened it.
-- Assumes nothing.
use mathlib.Core.Path.{◌≡◌, refl, sym, ◌∙◌, ap, ap₂}
use mathlib.Core.Bool.{Bool, true, false, cond, ◌&&◌, and-eq-true_iff}
use mathlib.Core.Logic.{◌⊎◌, inl, inr}
use mathlib.Core.List.{List, [], ◌∷◌, ◌++◌, append_assoc, append-nil}
use Prim.Native.Nat.{ℕ, suc, ◌+◌, ◌-◌, ◌*◌, ◌≤◌, ◌<◌}
use native.Mathlib.Omega.{arith}
use borrow.Author.Tests.{eqb-true, ltb-true}
use lib.ListN.{length, get_or, take, drop, length-append, length-take, length-drop, length-replicate}
use lib.Seq.{sets, sets-eq, take_at, take_all, length-take-le, take-append-add, length-sets}
use lib.Dec.{ltb, eqb}
use Rattle.wire.specs.Bytes.{part}
use Rattle.report.specs.Payload.{read_payload, report_in}
use Rattle.report.specs.declared.Report.{Report}
use Rattle.report.proofs.Reader.{accepted}
use Rattle.joining.specs.declared.Session.{Session}
use Rattle.joining.specs.Answers.{Answer}
use Rattle.std.specs.Prelude.{Some, Ok, Err}
use Rattle.refusal.specs.Answers.{refusal_of}
use Rattle.joining.specs.Frame.{Frame, sender_of, frame_refusal}
use Rattle.joining.specs.Joining.{packets, fresh_session, is_closed, fit, opened, place, stored, advanced}
use Rattle.joining.specs.Run.{fresh_sessions, session_of, sessions_after, answer_to, sessions_after_all, answers_to_all, solo_step, solo_session, own_frames, OfSender, is_passed_over, heard, Announces, Numbered, InSequence, joined, Sent}
use Rattle.joining.proofs.Fitness.{Open}
use Rattle.joining.proofs.Frames.{sound-frame}
use Rattle.joining.proofs.Answers.{refuses, keeps, accepts}
use Rattle.joining.proofs.Mixing.{mixing, own_answer}
use Rattle.joining.proofs.Cases.{Case, passed, shut, stray, good, next, last, cases}
use Rattle.joining.proofs.Reached.{fit_open, step-fit, solo_fit, fresh_of}

-- What an open session holds of the frames h that its sender has sent, those refused 1 to 4 left out.
pub record Opening (s : Session) (h : List Frame) : Type 0 where
  pub before : List Frame
  pub announced : Frame
  pub middle : List Frame
  pub since : h ≡ before ++ (announced ∷ middle)
  pub announces : Announces s.size announced
  pub sequence : InSequence 1 middle
  pub due : s.next ≡ suc (length middle)
  pub long : length s.bytes ≡ 89
  pub holds : take (7 * length middle) s.bytes ≡ joined middle

abbrev Traced : Session → List Frame → Type 0
Traced s h = (s.size ≡ 0) ⊎ Opening s h

-- What is stored behind n bytes stands behind them.
sets-front : (l : List ℕ) (n : ℕ) (v : List ℕ) → n + length v ≤ length l → take (n + length v) (sets l n v) ≡ take n l ++ v
sets-front l n v h =
    let front : length (take n l ++ v) ≡ n + length v = length-append (take n l) v ∙ ap (λ (k : ℕ). k + length v) (length-take-le n l (omega arith)) in
    rw (sets-eq v l n h) (take_at (take n l ++ v) (drop (n + length v) l) (n + length v) front)

joined_last : (fs : List Frame) (f : Frame) → joined (fs ++ (f ∷ [])) ≡ joined fs ++ drop 1 f.data_bytes
unfolding joined
joined_last [] f = append-nil (drop 1 f.data_bytes)
joined_last (g ∷ fs) f = ap (λ (r : List ℕ). drop 1 g.data_bytes ++ r) (joined_last fs f) ∙ sym (append_assoc (drop 1 g.data_bytes) (joined fs) (drop 1 f.data_bytes))

sequence_last : (i : ℕ) (fs : List Frame) (f : Frame) {j : ℕ} → InSequence i fs → i + length fs ≡ j → Numbered j f → InSequence i (fs ++ (f ∷ []))
sequence_last i [] f {j} h e n =
    let same : i ≡ j = omega arith in
    (rw same n, tt)
sequence_last i (g ∷ fs) f h e n = (h.0, sequence_last (suc i) fs f h.1 (omega arith) n)

length_last : (fs : List Frame) (f : Frame) → length (fs ++ (f ∷ [])) ≡ suc (length fs)
length_last fs f = omega (arith, length-append fs (f ∷ []))

-- The expected packet f, and the session that expects it.
module _ (s : Session) (h : List Frame) (f : Frame) (o : Open s) (t : Opening s h) (n : Numbered s.next f) where
  abbrev pub then : List Frame
  then = t.middle ++ (f ∷ [])

  -- What of its bytes is stored.
  new : List ℕ
  new = part 1 (s.size - place s) f.data_bytes

  seven : length (drop 1 f.data_bytes) ≡ 7
  seven = omega (arith, length-drop 1 f.data_bytes, (sound-frame f.identifier f.data_bytes n.frame).eight)

  at : place s ≡ 7 * length t.middle
  at = omega (arith, t.due)

  room : place s + length new ≤ 89
  unfolding new
  room = omega (arith, o.last, o.count, o.high, o.first, length-take (s.size - place s) (drop 1 f.data_bytes))

  held : take (place s) s.bytes ≡ joined t.middle
  held = rw at t.holds

  long : length (joined t.middle) ≡ place s
  long = ap length (sym held) ∙ length-take-le (place s) s.bytes (rw t.long (omega (arith, room)))

  front : take (place s + length new) (stored s f.data_bytes) ≡ joined t.middle ++ new
  unfolding new
  front = sets-front s.bytes (place s) new (rw t.long room) ∙ ap (λ (l : List ℕ). l ++ new) held

  pub in_order_lem : InSequence 1 then
  in_order_lem = sequence_last 1 t.middle f t.sequence (omega (arith, t.due)) n

  whole : joined then ≡ joined t.middle ++ drop 1 f.data_bytes
  whole = joined_last t.middle f

  pub count : length then ≡ s.next
  count = length_last t.middle f ∙ sym t.due

  -- Before the last packet all seven bytes are stored ...
  pub kept : s.next < s.count → take (7 * length then) (stored s f.data_bytes) ≡ joined then
  unfolding new
  kept m =
      let all : new ≡ drop 1 f.data_bytes = take_all (s.size - place s) (drop 1 f.data_bytes) (omega (arith, o.count, seven)) in
      let reach : 7 * length then ≡ place s + length new = omega (arith, count, o.first, ap length all, seven) in
      ap (λ (k : ℕ). take k (stored s f.data_bytes)) reach ∙ front ∙ ap (λ (l : List ℕ). joined t.middle ++ l) all ∙ sym whole

  -- ... and of the last packet's those within the size.
  pub ended : s.count ≤ s.next → take s.size (stored s f.data_bytes) ≡ take s.size (joined then)
  unfolding new
  ended m =
      let reach : s.size ≡ place s + length new =
      omega (arith, o.count, o.first, o.last, seven, length-take (s.size - place s) (drop 1 f.data_bytes)) in
      let past : s.size ≡ length (joined t.middle) + (s.size - place s) = omega (arith, long) in
      ap (λ (k : ℕ). take k (stored s f.data_bytes)) reach
      ∙ front
      ∙ sym (take-append-add (joined t.middle) (drop 1 f.data_bytes) (s.size - place s))
      ∙ ap₂ (λ (k : ℕ) (l : List ℕ). take k l) (sym past) (sym whole)

  unfoldable pub goes_on : s.next < s.count → Opening (advanced s f.data_bytes) (h ++ (f ∷ []))
  goes_on m =
      record {
        before = t.before;
        announced = t.announced;
        middle = then;
        since = ap (λ (l : List Frame). l ++ (f ∷ [])) t.since ∙ append_assoc t.before (t.announced ∷ t.middle) (f ∷ []);
        announces = t.announces;
        sequence = in_order_lem;
        due = omega (arith, count);
        long = length-sets s.bytes (place s) (part 1 (s.size - place s) f.data_bytes) ∙ t.long;
        holds = kept m;
      }

  pub all-packets : s.count ≤ s.next → length then ≡ packets s.size
  all-packets m = omega (arith, count, o.last, o.count)

pub joined-none : [] ≡ joined []
unfolding joined
joined-none = refl

unfoldable pub starts : (n : ℕ) (h : List Frame) (f : Frame) → Announces n f → Opening (opened n) (h ++ (f ∷ []))
starts n h f a =
    record {
      before = h;
      announced = f;
      middle = [];
      since = refl;
      announces = a;
      sequence = tt;
      due = refl;
      long = length-replicate {A = ℕ} 89 255;
      holds = joined-none;
    }

-- A session with a size holds what was sent.
holding : {s : Session} {h : List Frame} → Traced s h → (s.size ≡ 0 → ⊥) → Opening s h
holding (inl z) o = absurd (o z)
holding (inr t) o = t

-- An open session goes on holding it, frame by frame.
step-traced : (s : Session) (h : List Frame) (f : Frame) → fit s ≡ true → Traced s h → Traced (solo_step s f).session (cond (is_passed_over f) h (h ++ (f ∷ [])))
step-traced s h f fits t = go (cases s f fits)
  where
    go : Case s f → Traced (solo_step s f).session (cond (is_passed_over f) h (h ++ (f ∷ [])))
    go (passed n l u p e) = rw (p, e) t
    go (shut n p e) = rw e (inl refl)
    go (stray p z e) = rw e (inl z)
    go (good p c a e) = rw (p, e) (inr (starts _ h f a))
    go (next p o n m e) = rw (p, e) (inr (goes_on s h f (fit_open s fits o) (holding t o) n m))
    go (last p o n m e) = rw e (inl refl)

solo_traced : (s : Session) (fs h : List Frame) → fit s ≡ true → Traced s h → Traced (solo_session s fs) (h ++ heard fs)
unfolding solo_session heard
solo_traced s [] h fits t = rw append-nil t
solo_traced s (f ∷ fs) h fits t =
    rw (more (is_passed_over f)) (solo_traced (solo_step s f).session fs (cond (is_passed_over f) h (h ++ (f ∷ []))) (step-fit s f fits) (step-traced s h f fits t))
  where
    more : (b : Bool) → h ++ cond b (heard fs) (f ∷ heard fs) ≡ cond b h (h ++ (f ∷ [])) ++ heard fs
    more true = refl
    more false = sym (append_assoc h (f ∷ []) (heard fs))

-- A sender's answer is a report at the last packet only.
complete : (s : Session) (own : List Frame) (f : Frame) (r : Report) → fit s ≡ true → Traced s (heard own) → (solo_step s f).answer ≡ Ok (Some r) → Sent own f r
complete s own f r fits t done = go (cases s f fits)
  where
    go : Case s f → Sent own f r
    go (passed n l u p e) = absurd (refuses n (rw e at done))
    go (shut n p e) = absurd (refuses n (rw e at done))
    go (stray p z e) = absurd (refuses 8 (rw e at done))
    go (good p c a e) = absurd (keeps (rw e at done))
    go (next p o n m e) = absurd (keeps (rw e at done))
    go (last p o n m e) =
        let w = holding t o in
        let up = fit_open s fits o in
        record {
          before = w.before;
          announced = w.announced;
          middle = w.middle;
          size = s.size;
          since = w.since;
          announces = w.announces;
          sequence = in_order_lem s (heard own) f up w n;
          count = all-packets s (heard own) f up w n m;
          reads = ap read_payload (sym (ended s (heard own) f up w n m)) ∙ accepts r (read_payload (take s.size (stored s f.data_bytes))) (rw e at done);
        }

-- One sender's frames fs at a closed session, and then f: where f yields a report, the announcement and all packets that it was read from are among them.
pub sent_alone : (s : Session) (fs : List Frame) (f : Frame) (r : Report) → is_closed s ≡ true → (solo_step (solo_session s fs) f).answer ≡ Ok (Some r) → Sent fs f r
unfolding fit is_closed
sent_alone s fs f r c =
    let fits : fit s ≡ true = rw c in
    let z : s.size ≡ 0 = eqb-true s.size 0 ((and-eq-true_iff (eqb s.size 0) (eqb s.count 0)).0 ((and-eq-true_iff (eqb s.size 0 && eqb s.count 0) (eqb s.next 0)).0 c).0).0 in
    complete (solo_session s fs) fs f r (solo_fit s fs fits) (solo_traced s fs [] fits (inl z))

own_of : (k : ℕ) (fs : List Frame) → OfSender k (own_frames k fs)
unfolding own_frames
own_of k [] = tt
own_of k (f ∷ fs) = go (eqb (sender_of f.identifier) k) refl (own_of k fs)
  where
    go : (b : Bool) → eqb (sender_of f.identifier) k ≡ b → OfSender k (own_frames k fs) → OfSender k (cond b (f ∷ own_frames k fs) (own_frames k fs))
    go true e h = (eqb-true _ _ e, h)
    go false e h = h

heard_of : (k : ℕ) (fs : List Frame) → OfSender k fs → OfSender k (heard fs)
unfolding heard
heard_of k [] h = tt
heard_of k (f ∷ fs) h = go (is_passed_over f) (heard_of k fs h.1)
  where
    go : (b : Bool) → OfSender k (heard fs) → OfSender k (cond b (heard fs) (f ∷ heard fs))
    go true r = r
    go false r = (h.0, r)

behind_of : (k : ℕ) (fs gs : List Frame) → OfSender k (fs ++ gs) → OfSender k gs
behind_of k [] gs h = h
behind_of k (f ∷ fs) gs h = behind_of k fs gs h.1

-- A frame that isn't refused 3 is of a sender that has a session.
known_sender : (ss : List Session) (f : Frame) (r : Report) → answer_to ss f ≡ Ok (Some r) → sender_of f.identifier < 254
known_sender ss f r = go (ltb (sender_of f.identifier) 254) refl
  where
    go : (b : Bool) → ltb (sender_of f.identifier) 254 ≡ b
        → cond b (solo_step (session_of (sender_of f.identifier) ss) f).answer (Err (refusal_of (frame_refusal f.identifier f.data_bytes))) ≡ Ok (Some r)
        → sender_of f.identifier < 254
    go true e h = ltb-true _ _ e
    go false e h = absurd (refuses _ h)

fresh-closed : is_closed fresh_session ≡ true
unfolding is_closed
fresh-closed = refl

-- The whole bus, all sessions fresh: where f yields a report after the frames fs of whatever senders, then f's own sender sent the announcement and,
-- since then, exactly the packets that the report was read from, in sequence.
pub sent_by_one : (fs : List Frame) (f : Frame) (r : Report) → answer_to (sessions_after_all fresh_sessions fs) f ≡ Ok (Some r)
    → (sent : Sent (own_frames (sender_of f.identifier) fs) f r) × OfSender (sender_of f.identifier) (sent.announced ∷ sent.middle)
sent_by_one fs f r h =
    let k : ℕ = sender_of f.identifier in
    let known : k < 254 = known_sender (sessions_after_all fresh_sessions fs) f r h in
    let at : session_of k (sessions_after_all fresh_sessions fs) ≡ solo_session fresh_session (own_frames k fs) =
    (mixing k known fresh_sessions fs (length-replicate 254 fresh_session)).0
    ∙ ap (λ (s : Session). solo_session s (own_frames k fs)) (fresh_of k known) in
    let sent = sent_alone fresh_session (own_frames k fs) f r fresh-closed
    (ap (λ (s : Session). (solo_step s f).answer) (sym at) ∙ sym (own_answer k known (sessions_after_all fresh_sessions fs) f refl) ∙ h) in
    (sent, behind_of k sent.before _ (rw sent.since at (heard_of k (own_frames k fs) (own_of k fs))))

-- The answers of a run are those to its frames at the sessions that the frames before them left.
pub answer_at : (ss : List Session) (fs : List Frame) (f : Frame) (gs : List Frame) (d : Answer) → get_or (answers_to_all ss (fs ++ (f ∷ gs))) (length fs) d ≡ answer_to (sessions_after_all ss fs) f
unfolding answers_to_all sessions_after_all
answer_at ss [] f gs d = refl
answer_at ss (g ∷ fs) f gs d = answer_at (sessions_after ss g) fs f gs d

-- No made-up report: whatever was sent before and after by whom, where a run answers f with a report, f's own sender sent all that it was read from.
pub no_made_up_report : (fs : List Frame) (f : Frame) (gs : List Frame) (d : Answer) (r : Report) → get_or (answers_to_all fresh_sessions (fs ++ (f ∷ gs))) (length fs) d ≡ Ok (Some r)
    → (sent : Sent (own_frames (sender_of f.identifier) fs) f r) × OfSender (sender_of f.identifier) (sent.announced ∷ sent.middle)
no_made_up_report fs f gs d r h = sent_by_one fs f r (sym (answer_at fresh_sessions fs f gs d) ∙ h)

-- So the loss and the shake of one report both stand in packets of the one sender.
pub report-says : (own : List Frame) (f : Frame) (r : Report) (sent : Sent own f r) → report_in (take sent.size (joined (sent.middle ++ (f ∷ [])))) ≡ r
report-says own f r sent = (accepted _ sent.reads).1
