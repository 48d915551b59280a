-- What a read into the rest of some bytes brings stands behind what came before.
use Rattle.std.proofs.Common.{◌≡◌, ℕ, ◌+◌, ◌≤◌, List, [], ◌++◌, length, take, Option, Result, Ok, Err, sym, ap, ◌∙◌, subst, arith, length-take-le}
use Rattle.std.specs.Result.{result_unwrap_or}
use Rattle.std.specs.Io.{ReadsAtMost}
use Rattle.std.specs.Io.KnownBytes.{ReadConsumes, Consumes}
use Rattle.std.proofs.KnownBytes.{Consumes-nil, Consumes-trans, Consumes-kept}
use lib.Seq.{take-append-le, take-append-add}
use borrow.Rule.Slice.PartMut.{put_mid, post_of}

front_read : (at k n : ℕ) (xs ys : List ℕ) → at ≤ length xs → n ≤ length ys → take (at + n) (put_mid at k xs ys) ≡ take at xs ++ take n ys
front_read at k n xs ys h f =
    let s : at + n ≡ length (take at xs) + n = omega (arith, length-take-le at xs h) in
    rw s (take-append-add (take at xs) (ys ++ post_of at k xs) n ∙ ap (λ (l : List ℕ). take at xs ++ l) (take-append-le n ys (post_of at k xs) f))

-- What a read answers: how many came; none where it failed.
module _ {E : Type 0} where
  pub read_small : (r : Result ℕ E) (space : List ℕ) → ReadsAtMost r space → result_unwrap_or r 0 ≤ length space
  read_small (Ok n) space h = h.0
  read_small (Err e) space h = omega arith

  pub read_so : (given given' : Option (List ℕ)) (r : Result ℕ E) (space : List ℕ) → ReadConsumes given given' r space → Consumes given given' (take (result_unwrap_or r 0) space)
  read_so given given' (Ok n) space h = h.0
  read_so given given' (Err e) space h = Consumes-kept given given given' [] (Consumes-nil given) h

-- A read more.
pub filled_on : {E : Type 0} (given₀ given given' : Option (List ℕ)) (at k : ℕ) {n : ℕ} (space bytes : List ℕ) (r : Result ℕ E) → Consumes given₀ given (take at space) → at ≤ length space
    → n ≡ result_unwrap_or r 0 → ReadsAtMost r bytes → ReadConsumes given given' r bytes → Consumes given₀ given' (take (at + n) (put_mid at k space bytes))
filled_on given₀ given given' at k {n} space bytes r before h e few came =
    let some : n ≤ length bytes = omega (arith, e, read_small r bytes few) in
    let more = subst (λ (m : ℕ). Consumes given given' (take m bytes)) (sym e) (read_so given given' r bytes came) in
    subst (Consumes given₀ given') (sym (front_read at k n space bytes h some)) (Consumes-trans given₀ given given' (take at space) (take n bytes) before more)
