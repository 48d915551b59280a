-- What it is that any two outcomes that a contract allows are equal; each public function has its line in its own crate's Outcomes.
-- Assumes nothing.
use mathlib.Core.Path.{◌≡◌}
use mathlib.Core.List.{List}
use Prim.Native.Nat.{ℕ}
use borrow.Fn.Kinds.{ParamKind, ResultKind, Out, Dens, res_t, ended_of}
use contract.Lifetimes.{Lfts}
use denote.Triple.Clauses.{AtExit}

-- Two results that a contract allows for the same arguments are equal.
abbrev pub OneAnswer : (n : ℕ) (ps : List (ParamKind n)) (r : ResultKind n) → Out n ps r → Type 0
OneAnswer n ps r post =
    (κs : Lfts n) (a : Dens κs ps) (x y : (res_t r κs).Denot) (s t : AtExit (ended_of n ps r) κs) → post κs a x s → post κs a y t → x ≡ y

-- And so is what the two leave behind in what was lent, as `seen` reads it.
abbrev pub OneLeft : (n : ℕ) (ps : List (ParamKind n)) (r : ResultKind n) → Out n ps r → (A : Type 0) → ((κs : Lfts n) → AtExit (ended_of n ps r) κs → A) → Type 0
OneLeft n ps r post A seen =
    (κs : Lfts n) (a : Dens κs ps) (x y : (res_t r κs).Denot) (s t : AtExit (ended_of n ps r) κs) → post κs a x s → post κs a y t → seen κs s ≡ seen κs t

-- And so are the bytes of a part that is handed out.
abbrev pub OnePart : (n : ℕ) (ps : List (ParamKind n)) (r : ResultKind n) → Out n ps r → ((κs : Lfts n) → (res_t r κs).Denot → List ℕ) → Type 0
OnePart n ps r post seen =
    (κs : Lfts n) (a : Dens κs ps) (x y : (res_t r κs).Denot) (s t : AtExit (ended_of n ps r) κs) → post κs a x s → post κs a y t → seen κs x ≡ seen κs y
