-- The worked examples P1 to P28 (docs/RULES.md, section 13), under a single claim: each row is a theorem of the definitions, where they stand.
-- Assumes nothing.
use Rattle.bench.proofs.Examples as sender
use Rattle.joining.proofs.Examples as frames
use Rattle.ranking.proofs.Examples as search
use Rattle.board.proofs.Examples as entries
use Rattle.worked.proofs.Ties as ties

pub record Table : Type 0 where
  -- P1, and its report with heat
  pub of_sender : sender.Examples
  -- P2 to P4, the edges of size, loss and heat, and payloads of both editions
  pub of_frames : frames.Examples
  -- P5 to P8, P12 to P15, and P17 to P20
  pub of_searches : search.Examples
  -- P9 to P11, P16, P21 and P22
  pub of_entries : entries.Examples
  -- P23 to P28
  pub of_ties : ties.Examples

pub table : Table
table = record { of_sender = sender.examples; of_frames = frames.examples; of_searches = search.examples; of_entries = entries.examples; of_ties = ties.examples }
