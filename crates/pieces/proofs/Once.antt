-- How many bytes feeding takes is settled: there is room before each byte that is taken, and none before the next one.
-- Assumes nothing.
use mathlib.Core.Path.{◌≡◌, refl, sym, ap, ◌∙◌}
use mathlib.Core.Logic.{⊎_elim}
use mathlib.Core.List.{List}
use Prim.Native.Nat.{ℕ, ◌≤◌}
use native.Mathlib.Omega.{arith}
use lib.Dec.{ltb}
use lib.ListN.{length}
use lib.Seq.{sets}
use Rattle.laws.proofs.Tests.{clash}
use Rattle.text.specs.Text.{behind}
use Rattle.text.proofs.Decimal.{below_or}
use Rattle.journal.specs.declared.Log.{Log}
use Rattle.pieces.specs.declared.Waiting.{Waiting}
use Rattle.pieces.specs.declared.Fed.{Fed}
use Rattle.coming.specs.Coming.{has_room}
use Rattle.pieces.specs.Machine.{Came, front_came, Feeds}

module _ {log : Log} {w : Waiting} {piece room : List ℕ} where
  -- No call takes fewer bytes than another.
  not_fewer : {r s : Fed} {left left₂ : List ℕ} → Feeds log w piece room r left → Feeds log w piece room s left₂ → s.taken ≤ r.taken
  not_fewer {r} {s} p q =
      ⊎_elim
      (λ fewer. clash (q.roomy r.taken fewer) (ap (has_room (length room)) (sym p.place) ∙ p.full (omega (arith, q.within))))
      (λ no. no)
      (below_or r.taken s.taken (ltb r.taken s.taken) refl)

  module _ {r s : Fed} {left left₂ : List ℕ} (p : Feeds log w piece room r left) (q : Feeds log w piece room s left₂) where
    same_taken : r.taken ≡ s.taken
    same_taken = omega (arith, not_fewer p q, not_fewer q p)

    same_ran : front_came log w piece r.taken ≡ front_came log w piece s.taken
    same_ran = ap (front_came log w piece) same_taken

    pub fed_once : r ≡ s
    fed_once =
        let l = p.leaves ∙ ap (λ (c : Came). c.log) same_ran ∙ sym q.leaves in
        let n = p.waits ∙ ap (λ (c : Came). c.waiting) same_ran ∙ sym q.waits in
        let at = p.place ∙ ap (λ (c : Came). behind 0 c.text) same_ran ∙ sym q.place in
        λ i. record { log = l i; waiting = n i; taken = same_taken i; written = at i }

    pub left_once : left ≡ left₂
    left_once = p.stored ∙ ap (λ (c : Came). sets room 0 c.text) same_ran ∙ sym q.stored
