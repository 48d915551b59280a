-- What the inner functions of `joining` answer; no public contract and no promise cites it.
use Rattle.std.specs.Prelude.{ℕ, List}
use Rattle.joining.specs.declared.Session.{Session}
use Rattle.joining.specs.declared.Taken.{Taken}
use Rattle.joining.specs.declared.Step.{Step}

-- The session whose bytes are lent, and whose numbers are handed over beside them.
abbrev pub session_with : List ℕ → ℕ → ℕ → ℕ → Session
session_with bs size count next = record { bytes = bs; size = size; count = count; next = next }

-- A frame's outcome beside the session's bytes.
abbrev pub beside : Taken → Step
beside t = record { answer = t.answer; size = t.session.size; count = t.session.count; next = t.session.next }
