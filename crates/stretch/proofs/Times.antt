-- A frame that begins, its time met, and then its session's answer: together what the frame is answered and leaves.
-- Assumes nothing.
use mathlib.Core.Path.{◌≡◌, refl, sym, ap, subst, ◌∙◌}
use mathlib.Core.Bool.{Bool, true, false, cond}
use mathlib.Core.Logic.{◌⊎◌, inl, inr}
use Rattle.std.specs.Prelude.{Option, None, Some, Ok, Err}
use Rattle.refusal.specs.declared.Refusal.{Refusal}
use Rattle.refusal.specs.Numbers.{number_of}
use mathlib.Core.List.{List}
use Prim.Native.Nat.{ℕ, ◌+◌, ◌≤◌, ◌<◌}
use native.Mathlib.Omega.{arith}
use borrow.Author.Tests.{eq-eqb, ne_eqb}
use lib.Dec.{eqb}
use lib.ListN.{length, take, drop}
use lib.Seq.{drop-drop}
use Rattle.wire.specs.Bytes.{number, part}
use Rattle.window.specs.declared.Counts.{Counts}
use Rattle.joining.specs.Frame.{Frame, sender_of}
use Rattle.bus.specs.Room.{room_bytes}
use Rattle.times.specs.declared.Last.{Last}
use Rattle.times.specs.declared.Times.{Times}
use Rattle.times.specs.Timed.{is_kept, put_last}
use Rattle.times.specs.Run.{Timed, Stations, stations_in, Takes, Meets}
use Rattle.times.proofs.Lent.{met-refused, met-taken, untimed-takes}
use Rattle.journal.specs.Log.{frame_in, timed_in}
use Rattle.stretch.specs.declared.Brought.{Brought}
use Rattle.stretch.specs.declared.Begun.{Begun}
use Rattle.coming.proofs.Parts.{drop-take}
use Rattle.coming.specs.Inner.{frame_size}
use Rattle.stretch.specs.Inner.{not_brought, frame_of, put_back_at, Elsewhere, Hears, Begins, HearsAt}

pub sixteen : {tag : ℕ} → tag ≡ 21 → frame_size tag ≡ 16
unfolding frame_size
sixteen e = rw e

pub twelve : {tag : ℕ} → (tag ≡ 21 → ⊥) → frame_size tag ≡ 12
unfolding frame_size
twelve {tag} h = rw (ne_eqb tag 21 h)

timed_there : {tag : ℕ} → tag ≡ 21 → (i : ℕ) (l : List ℕ) → timed_in (part (i + 3) 16 l) ≡ frame_of tag (part (i + 3) (frame_size tag) l)
unfolding frame_of frame_size
timed_there e i l = rw e

untimed_there : {tag : ℕ} → (tag ≡ 21 → ⊥) → (i : ℕ) (l : List ℕ) → frame_in (part (i + 3) 12 l) ≡ frame_of tag (part (i + 3) (frame_size tag) l)
unfolding frame_of frame_size
untimed_there {tag} h i l = rw (ne_eqb tag 21 h)

-- ---- where it begins

none_some : {e : Refusal} → ◌≡◌ {A = Option Refusal} None (Some e) → ⊥
none_some h = let x = h in cc

the_same : {d e : Refusal} → ◌≡◌ {A = Option Refusal} (Some d) (Some e) → d ≡ e
the_same h = let x = h in cc

not_put : (place : ℕ) (o : Option (ℕ × Last)) (id : ℕ) (ts : Times) → Elsewhere place o → put_back_at place o id ts ≡ ts
not_put place None id ts h = refl
not_put place (Some m) id ts h = rw (ne_eqb m.0 place h)

module _ (room : List ℕ) (times : Times) (i : ℕ) (bytes : List ℕ) (last : Begun) where
  abbrev lent : Stations
  lent = stations_in room times

  abbrev same_as : Begun
  same_as = record { place = i; refusal = None; last = last.last }

  -- Without a time nothing is met, and nothing put back.
  pub untimed_begins : {tag : ℕ} → (tag ≡ 21 → ⊥) → Elsewhere i last.last
      → Begins lent (frame_of tag (part (i + 3) (frame_size tag) bytes)) (i + (3 + frame_size tag)) last same_as room times
  untimed_begins {tag} h other =
      subst (λ (f : Timed). Begins lent f (i + (3 + frame_size tag)) last same_as room times) (untimed_there h i bytes)
      (record {
        ends = omega (arith, twelve h);
        due = inr refl;
        stops = λ e n. absurd (none_some n);
        goes_on =
            λ z a room₁ left₁ e f k.
            let t = untimed-takes room times (frame_in (part (i + 3) 12 bytes)).frame e f in
            let s = stay (is_kept a) (frame_in (part (i + 3) 12 bytes)).frame.identifier in
            record { answers = t.answers; sessions = t.sessions; times = k ∙ s ∙ t.times };
      })
    where
      stay : (y : Bool) (id : ℕ) → cond y times (put_back_at i last.last id times) ≡ times
      stay true id = refl
      stay false id = not_put i last.last id times other

  -- A time that is met refuses the frame, ...
  module _ {tag : ℕ} (tag_is : tag ≡ 21) (long : length room ≡ room_bytes) (v : List ℕ) (v_is : v ≡ part (i + 3) 16 bytes) where
    its : timed_in v ≡ frame_of tag (part (i + 3) (frame_size tag) bytes)
    its = ap timed_in v_is ∙ timed_there tag_is i bytes

    pub refused_begins : {q : List ℕ} {ts : Times} {e : Refusal} → Meets lent (number (part 0 4 v)) (number (part 4 4 v)) (part 8 8 v) (Err e) q ts
        → Begins lent (frame_of tag (part (i + 3) (frame_size tag) bytes)) (i + (3 + frame_size tag)) last (record { place = i + 4; refusal = Some e; last = last.last }) q ts
    refused_begins {q} {ts} {e} met =
        subst (λ (f : Timed). Begins lent f (i + (3 + frame_size tag)) last (record { place = i + 4; refusal = Some e; last = last.last }) q ts) its
        (record {
          ends = omega (arith, sixteen tag_is);
          due = inr refl;
          stops = λ x n. subst (λ (y : Refusal). Takes lent (timed_in v) (Err y) q ts) (the_same n) (met-refused room times (number (part 0 4 v)) (number (part 4 4 v)) (part 8 8 v) long met);
          goes_on = λ z. absurd (none_some (sym z));
        })

    -- ... or what the last one was is kept, to be put back.
    pub timed_begins : {q : List ℕ} {ts : Times} {l : Last} → Meets lent (number (part 0 4 v)) (number (part 4 4 v)) (part 8 8 v) (Ok l) q ts
        → Begins lent (frame_of tag (part (i + 3) (frame_size tag) bytes)) (i + (3 + frame_size tag)) last (record { place = i + 4; refusal = None; last = Some (i + 4, l) }) q ts
    timed_begins {q} {ts} {l} met =
        subst (λ (f : Timed). Begins lent f (i + (3 + frame_size tag)) last (record { place = i + 4; refusal = None; last = Some (i + 4, l) }) q ts) its
        (record {
          ends = omega (arith, sixteen tag_is);
          due = inl (l, refl);
          stops = λ x n. absurd (none_some n);
          goes_on =
              λ z a room₁ left₁ e f k.
              let s = back (is_kept a) ts (put_last ts (sender_of (number (part 4 4 v))) l) in
              met-taken room times (number (part 0 4 v)) (number (part 4 4 v)) (part 8 8 v) long met e f (k ∙ s);
        })
      where
        back : (y : Bool) (x z : Times) → cond y x (cond (eqb (i + 4) (i + 4)) z x) ≡ cond y x z
        back y x z = rw (eq-eqb (i + 4) (i + 4) refl)

-- ---- and then

module _ {b : Stations} {f : Timed} {end : ℕ} {last g : Begun} {room : List ℕ} {left : Times} (begins : Begins b f end last g room left) {c : Counts} where
  pub hears_stopped : {e : Refusal} {n : ℕ} → g.refusal ≡ Some e → n ≡ number_of e → Hears b f c (not_brought true n) room left
  hears_stopped {e} h is = rw is (record { answer = Err e; takes = begins.stops e h; brings = refl })

  pub hears_then : g.refusal ≡ None → {h : Frame} {r : Brought} {room₁ : List ℕ} {left₁ : Times} → h ≡ f.frame → HearsAt (stations_in room left) g h c r room₁ left₁ → Hears b f c r room₁ left₁
  hears_then z {h} {r} {room₁} {left₁} e heard =
      let x = subst (λ (y : Frame). HearsAt (stations_in room left) g y c r room₁ left₁) e heard in
      record { answer = x.answer; takes = begins.goes_on z x.answer room₁ left₁ x.answers x.sessions x.times; brings = x.brings }

-- The frame behind its place is the item's.
behind-time : (i : ℕ) (l : List ℕ) → drop 4 (part (i + 3) 16 l) ≡ part (i + 7) 12 l
behind-time i l =
    let n : i + 3 + 4 ≡ i + 7 = omega arith in
    drop-take 4 12 (drop (i + 3) l) ∙ ap (take 12) (drop-drop 4 (i + 3) l ∙ ap (λ (k : ℕ). drop k l) n)

frame-behind : (v w : List ℕ) → drop 4 v ≡ w → (frame_in w).frame ≡ (timed_in v).frame
frame-behind v w e =
    ap (λ (x : List ℕ). (frame_in x).frame) (sym e) ∙ (λ j. record { identifier = number (part 4 4 v); data_bytes = take 8 (drop-drop 4 4 v j) })

pub frame_there : {tag : ℕ} → (tag ≡ 18) ⊎ (tag ≡ 21) → (i place : ℕ) (l : List ℕ) → place + 15 ≡ i + (3 + frame_size tag)
    → (frame_in (part (place + 3) 12 l)).frame ≡ (frame_of tag (part (i + 3) (frame_size tag) l)).frame
frame_there {tag} (inl e) i place l p =
    let other : tag ≡ 21 → ⊥ = λ x. omega (arith, e, x) in
    let here : place ≡ i = omega (arith, p, twelve other) in
    ap (λ (k : ℕ). (frame_in (part (k + 3) 12 l)).frame) here ∙ ap (λ (f : Timed). f.frame) (untimed_there other i l)
frame_there {tag} (inr e) i place l p =
    let here : place + 3 ≡ i + 7 = omega (arith, p, sixteen e) in
    ap (λ (k : ℕ). (frame_in (part k 12 l)).frame) here ∙ frame-behind (part (i + 3) 16 l) (part (i + 7) 12 l) (behind-time i l) ∙ ap (λ (f : Timed). f.frame) (timed_there e i l)

-- The place of the last frame that had a time, if there was one, is before the next item's.
abbrev pub Due : ℕ → Option (ℕ × Last) → Type 0
Due i None = Unit
Due i (Some m) = m.0 < i

pub due_other : (i : ℕ) (o : Option (ℕ × Last)) → Due i o → Elsewhere i o
due_other i None h = tt
due_other i (Some m) h = λ e. omega (arith, h, e)

pub due-later : (i : ℕ) (o : Option (ℕ × Last)) → Due i o → (j : ℕ) → i ≤ j → Due j o
due-later i None h j k = tt
due-later i (Some m) h j k = omega (arith, h, k)

pub due-next : (i n : ℕ) {b : Stations} {f : Timed} {last g : Begun} {room : List ℕ} {left : Times} → Begins b f (i + (3 + n)) last g room left → Due i last.last → Due (g.place + 15) g.last
due-next i n {last = last} {g = g} begins d = go begins.due
  where
    go : ((m : Last) × (g.last ≡ Some (g.place, m))) ⊎ (g.last ≡ last.last) → Due (g.place + 15) g.last
    go (inl m) = subst (Due (g.place + 15)) (sym m.1) (omega arith)
    go (inr e) = subst (Due (g.place + 15)) (sym e) (due-later i last.last d (g.place + 15) (omega (arith, begins.ends)))
