-- A frame that isn't refused at once is well formed, a broadcast, and of a sender that has a session: each refusal's test has failed. Another is refused 1 to 3.
-- Assumes nothing.
use mathlib.Core.Path.{◌≡◌, refl}
use mathlib.Core.Bool.{Bool, true, false, cond, not, ◌||◌}
use mathlib.Core.List.{List}
use Prim.Native.Nat.{ℕ, ◌≤◌, ◌<◌}
use native.Mathlib.Omega.{arith}
use borrow.Author.Tests.{leb-false, ltb-false, eqb-true, eqb-false, ne_eqb}
use lib.Dec.{lit≤, leb, ltb, eqb}
use lib.ListN.{length}
use Rattle.std.specs.Prelude.{Result, Ok, Err}
use Rattle.std.specs.Result.{is_err}
use Rattle.refusal.specs.declared.Refusal.{Refusal}
use Rattle.refusal.specs.declared.Refusal.TheVariants.{MalformedFrame, ForeignFrame, NoSuchSender}
use Rattle.refusal.specs.Numbers.{number_of, number_in}
use Rattle.refusal.proofs.Numbers.{number_above}
use Rattle.joining.specs.Frame.{sender_of, malformed, foreign, frame_checked, frame_refusal}

pub record Sound (id : ℕ) (d : List ℕ) : Type 0 where
  pub identifier : id < 536870912
  pub eight : length d ≡ 8
  pub broadcast : foreign id ≡ false
  pub sender : sender_of id ≤ 253

-- The refusal of a frame is its check's, and 0 where the check lets it through.
pub frame_let : (id : ℕ) (d : List ℕ) {u : Unit {0}} → Ok u ≡ frame_checked id d → frame_refusal id d ≡ 0
unfolding frame_refusal
frame_let id d e = rw (← e)

pub frame_stopped : (id : ℕ) (d : List ℕ) {r : Refusal} → Err r ≡ frame_checked id d → frame_refusal id d ≡ number_of r
unfolding frame_refusal
frame_stopped id d e = rw (← e)

pub let_through : (id : ℕ) (d : List ℕ) → eqb (frame_refusal id d) 0 ≡ not (is_err (frame_checked id d))
unfolding frame_refusal
let_through id d = go (frame_checked id d)
  where
    go : (r : Result (Unit {0}) Refusal) → eqb (number_in r) 0 ≡ not (is_err r)
    go (Ok u) = refl
    go (Err e) = ne_eqb (number_of e) 0 (λ z. absurd (omega (arith, z, number_above e)))

pub sound-frame : (id : ℕ) (d : List ℕ) → frame_refusal id d ≡ 0 → Sound id d
unfolding frame_refusal frame_checked malformed
sound-frame id d =
    go (leb 536870912 id) (eqb (length d) 8) (foreign id) (ltb 253 (sender_of id)) refl refl refl refl
  where
    go : (a b e f : Bool) → leb 536870912 id ≡ a → eqb (length d) 8 ≡ b → foreign id ≡ e → ltb 253 (sender_of id) ≡ f
        → ◌≡◌ {A = ℕ} (number_in {A = Unit {0}} (cond (a || not b) (Err MalformedFrame) (cond e (Err ForeignFrame) (cond f (Err NoSuchSender) (Ok tt))))) 0 → Sound id d
    go false true false false ha hb he hf h =
        record { identifier = leb-false _ _ ha; eight = eqb-true _ _ hb; broadcast = he; sender = ltb-false _ _ hf }
    go true b e f ha hb he hf h = absurd (omega arith)
    go false false e f ha hb he hf h = absurd (omega arith)
    go false true true f ha hb he hf h = absurd (omega arith)
    go false true false true ha hb he hf h = absurd (omega arith)

-- What is refused at once is refused 1 to 3, ...
pub frame_refusals : (id : ℕ) (d : List ℕ) → frame_refusal id d ≤ 3
unfolding frame_refusal frame_checked
frame_refusals id d = go (malformed id d) (foreign id) (ltb 253 (sender_of id))
  where
    go : (a b c : Bool) → number_in {A = Unit {0}} (cond a (Err MalformedFrame) (cond b (Err ForeignFrame) (cond c (Err NoSuchSender) (Ok tt)))) ≤ 3
    go true b c = lit≤ tt
    go false true c = lit≤ tt
    go false false true = lit≤ tt
    go false false false = lit≤ tt

-- ... and that is every frame of a sender that has no session.
pub unheard_refused : (id : ℕ) (d : List ℕ) → 254 ≤ sender_of id → 1 ≤ frame_refusal id d
unheard_refused id d h = go (eqb (frame_refusal id d) 0) refl
  where
    go : (b : Bool) → eqb (frame_refusal id d) 0 ≡ b → 1 ≤ frame_refusal id d
    go true e = let s = (sound-frame id d (eqb-true _ _ e)).sender in absurd (omega arith)
    go false e = let some = eqb-false (frame_refusal id d) 0 e in omega arith
