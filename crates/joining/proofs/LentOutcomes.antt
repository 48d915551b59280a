-- Any two outcomes that the contracts of `Session::advance` and `Session::lend` allow are equal, since each contract is made of equations: the answer, and the session that was lent or handed in, byte by byte.
-- Assumes nothing.
use mathlib.Core.Path.{◌≡◌, sym, ◌∙◌}
use seplogic.Ra.Ura.{Ura}
use base.Logic.{SProp, ent, sep, fst∗, snd∗}
use prog.Memory.{Memory}
use prog.Routine.{Routine}
use types.Logic.{Logic}
use contract.Lifetimes.{Lfts}
use contract.Monad.{Fun, fact, fact_i, fact_use}
use denote.Triple.Clauses.{AtExit}
use denote.Triple.Entry.{Args, Res}
use Rattle.laws.proofs.Outcomes.{OneAnswer}
use Rattle.joining.specs.contracts.Session.advance as advance
use Rattle.joining.proofs.Session.lend.Kinds as lend-kinds
use Rattle.joining.proofs.Session.lend.Reads as lend-reads

module _ {M : Type 1} {𝓤 : Ura M} (𝓛 : Logic 𝓤) (mem : Memory → SProp 𝓤) (run : Routine → Fun 𝓤) (κs : Lfts 2) (a : Args advance.signature κs) where
  -- The contract's promise of an answer and of what is left where the session stands.
  abbrev Promised : Res advance.signature κs → AtExit advance.ended κs → SProp 𝓤
  Promised = (advance.clauses 𝓛 mem run κs a).ensures tt

  pub advance_once : (x y : Res advance.signature κs) (s t : AtExit advance.ended κs) → ent 𝓤 (sep 𝓤 (Promised x s) (Promised y t)) (fact 𝓤 ((x ≡ y) × (s.0.now ≡ t.0.now)))
  advance_once x y s t =
      fact_use 𝓤 _ (fst∗ 𝓤 (Promised x s) (Promised y t)) (λ p. fact_use 𝓤 _ (snd∗ 𝓤 (Promised x s) (Promised y t)) (λ q. fact_i 𝓤 _ _ (p.0 ∙ sym q.0, p.1 ∙ sym q.1)))

lend_once : OneAnswer 1 lend-kinds.ps lend-kinds.r lend-reads.Post
lend_once κs a x y s t p q = p ∙ sym q
