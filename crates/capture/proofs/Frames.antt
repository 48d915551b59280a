-- What a line holds, and what is written for it.
-- Assumes nothing.
use mathlib.Core.Path.{◌≡◌, refl, sym, ◌∙◌}
use mathlib.Core.Bool.{Bool, true, false, cond, not, ◌&&◌, true≢false}
use mathlib.Core.List.{List, []}
use Prim.Native.Nat.{ℕ, ◌+◌, ◌≤◌}
use native.Mathlib.Omega.{arith}
use borrow.Author.Tests.{eqb-true}
use lib.Dec.{eqb, ltb, leb}
use lib.ListN.{length, get_or, take, drop, replicate}
use lib.Seq.{sets, sets-eq, take_at}
use Rattle.laws.proofs.Tests.{either}
use Rattle.dump.proofs.Texts.{shown_most}
use Rattle.std.proofs.Common.{Option, Some, None}
use Rattle.dump.specs.Dump.{shown_in}
use Rattle.stamps.specs.declared.Since.{Since}
use Rattle.capture.specs.declared.Sort.{Sort}
use Rattle.capture.specs.declared.Sort.TheVariants as sort
use Rattle.capture.specs.Capture.{id_size, data_text, id_in, hex_in, sort_by, sort_of_frame, is, placed, frame_for, wanted, sort_for, item_of}
use Rattle.capture.specs.Inner.{items_for}

-- ---- the sorts of a frame's text

-- What holds of each sort, and of a frame that a log holds because it has 8 data bytes, holds of the sort of a frame's text.
pub by_sort : (P : Sort → Type 0) (w : List ℕ) → P sort.Broken → P sort.Fd → P sort.Remote → P sort.Error → P sort.Short → (length (data_text w) ≡ 16 → P sort.Frame) → P sort.Length → P (sort_of_frame w)
unfolding sort_of_frame sort_by
by_sort P w broken fd remote error short frame other = go (id_in w)
  where
    go : (id : Option ℕ) → P (sort_by id w)
    go None = broken
    go (Some id) =
        either P (eqb (get_or (data_text w) 0 0) 35) (λ e. fd)
        (λ e. either P (eqb (get_or (data_text w) 0 0) 82) (λ e. remote)
        (λ e. either P (ltb 16 (length (data_text w))) (λ e. broken)
        (λ e. either P (not (hex_in (data_text w))) (λ e. broken)
        (λ e. either P (leb 536870912 id) (λ e. error)
        (λ e. either P (eqb (id_size w) 3) (λ e. short) (λ e. either P (eqb (length (data_text w)) 16) (λ e. frame (eqb-true (length (data_text w)) 16 e)) (λ e. other)))))))

pub frame_sixteen : (w : List ℕ) → sort_of_frame w ≡ sort.Frame → length (data_text w) ≡ 16
frame_sixteen w =
    by_sort (λ (s : Sort). s ≡ sort.Frame → length (data_text w) ≡ 16) w
    (λ r. let z : ◌≡◌ {A = ℕ} 0 1 = cc in absurd (omega arith)) (λ r. let z : ◌≡◌ {A = ℕ} 0 1 = cc in absurd (omega arith)) (λ r. let z : ◌≡◌ {A = ℕ} 0 1 = cc in absurd (omega arith))
    (λ r. let z : ◌≡◌ {A = ℕ} 0 1 = cc in absurd (omega arith)) (λ r. let z : ◌≡◌ {A = ℕ} 0 1 = cc in absurd (omega arith)) (λ long r. long) (λ r. let z : ◌≡◌ {A = ℕ} 0 1 = cc in absurd (omega arith))

-- No frame is marked before it is asked for.
plain : Sort → Bool
plain s = not (is sort.Marked s)

plain_frame : (w : List ℕ) → plain (sort_of_frame w) ≡ true
unfolding plain
plain_frame w = by_sort (λ (s : Sort). plain s ≡ true) w refl refl refl refl refl (λ e. refl) refl

-- ---- of those that are asked for

placed-frame : (elsewhere : Bool) (s : Sort) → placed elsewhere s ≡ sort.Frame → s ≡ sort.Frame
unfolding placed
placed-frame elsewhere s = go (elsewhere && not (is sort.Broken s))
  where
    go : (b : Bool) → cond b sort.Elsewhere s ≡ sort.Frame → s ≡ sort.Frame
    go true h = let z : ◌≡◌ {A = ℕ} 0 1 = cc in absurd (omega arith)
    go false h = h

placed_plain : (elsewhere : Bool) (s : Sort) → plain s ≡ true → plain (placed elsewhere s) ≡ true
unfolding placed plain
placed_plain elsewhere s h = go (elsewhere && not (is sort.Broken s))
  where
    go : (b : Bool) → plain (cond b sort.Elsewhere s) ≡ true
    go true = refl
    go false = h

pub never_marked : (elsewhere : Bool) (w : List ℕ) → sort.Marked ≡ placed elsewhere (sort_of_frame w) → ⊥
unfolding plain
never_marked elsewhere w e = true≢false (sym (rw (← e) at (placed_plain elsewhere (sort_of_frame w) (plain_frame w))))

module _ (ours elsewhere : Bool) (t : Since) (w : List ℕ) {s : Sort} (sorted : s ≡ placed elsewhere (sort_of_frame w)) where
  pub sixteen : s ≡ sort.Frame → length (data_text w) ≡ 16
  sixteen h = frame_sixteen w (placed-frame elsewhere (sort_of_frame w) (sym sorted ∙ h))

  pub frame_sort : s ≡ sort.Frame → frame_for ours t w ≡ sort_for ours elsewhere t w
  unfolding sort_for wanted
  frame_sort h = rw (← sorted, h)

  pub frame_items : s ≡ sort.Frame → item_of t (frame_for ours t w) w ≡ items_for ours elsewhere t w
  unfolding items_for
  frame_items h = rw (frame_sort h)

  other : (s ≡ sort.Frame → ⊥) → (s ≡ wanted ours t w s) × (item_of t (wanted ours t w s) w ≡ [])
  unfolding wanted plain
  other h = go s (rw (← sorted) at (placed_plain elsewhere (sort_of_frame w) (plain_frame w))) h
    where
      go : (v : Sort) → plain v ≡ true → (v ≡ sort.Frame → ⊥) → (v ≡ cond (is sort.Frame v) (frame_for ours t w) v) × (item_of t (cond (is sort.Frame v) (frame_for ours t w) v) w ≡ [])
      go sort.Frame p h = absurd (h refl)
      go sort.Marked p h = absurd (true≢false (sym p))
      go sort.Foreign p h = (refl, refl)
      go sort.Elsewhere p h = (refl, refl)
      go sort.Short p h = (refl, refl)
      go sort.Remote p h = (refl, refl)
      go sort.Error p h = (refl, refl)
      go sort.Fd p h = (refl, refl)
      go sort.Length p h = (refl, refl)
      go sort.Beyond p h = (refl, refl)
      go sort.Dropped p h = (refl, refl)
      go sort.Nothing p h = (refl, refl)
      go sort.Broken p h = (refl, refl)

  pub other_sort : (s ≡ sort.Frame → ⊥) → s ≡ sort_for ours elsewhere t w
  unfolding sort_for
  other_sort h = rw (← sorted) (other h).0

  pub other_items : (s ≡ sort.Frame → ⊥) → items_for ours elsewhere t w ≡ []
  unfolding items_for sort_for
  other_items h = rw (← sorted) (other h).1

-- What was put to the front of the room for it.
pub front_shown : (line : List ℕ) {n : ℕ} {text : List ℕ} → n ≡ length (shown_in line) → text ≡ sets (replicate 27 0) 0 (shown_in line) → take n text ≡ shown_in line
front_shown line e f =
    let fits : 0 + length (shown_in line) ≤ 27 = omega (arith, shown_most line) in
    rw (e, f, sets-eq (shown_in line) (replicate 27 0) 0 fits) (take_at (shown_in line) (drop (0 + length (shown_in line)) (replicate 27 0)) (length (shown_in line)) refl)
