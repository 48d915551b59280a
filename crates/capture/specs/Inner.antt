-- What the inner functions of `capture` answer, and what its proofs speak of; no public contract and no promise cites it.
use Rattle.std.specs.Prelude.{ℕ, List, Bool}
use Rattle.items.specs.Run.{Meant}
use Rattle.stamps.specs.declared.Since.{Since}
use Rattle.capture.specs.Capture.{sort_for, item_of}

unfoldable pub items_for : Bool → Bool → Since → List ℕ → List Meant
items_for ours elsewhere t w = item_of t (sort_for ours elsewhere t w) w
