-- The worked example of a report as frames: the definitions compute to what docs/RULES.md lists (section 13).
-- Assumes nothing.
use mathlib.Core.Path.{◌≡◌, refl}
use Rattle.std.specs.Prelude.{None}
use mathlib.Core.List.{[], ◌∷◌}
use Rattle.wire.specs.Bytes.{bytes, head, field}
use Rattle.report.specs.Payload.{payload}
use Rattle.joining.proofs.Examples.{packs, sized, first, report, heated}
use Rattle.bench.specs.Bench.{frames, announcement, packet_data, packets_from}

pub record Examples : Type 0 where
  -- P1: sender 5, loss 100, shake 200, own number 7: an announcement from 1CECFF05, and three packets from 1CEBFF05,
  -- with the bytes that stand there.
  pub p1 : frames 5 (payload (report 100 200 7) None)
      ≡ sized 0x11 0x00 0x03
      ∷ first
      ∷ packs (0x02 ∷ 0x00 ∷ 0xC8 ∷ 0x00 ∷ 0x03 ∷ 0x04 ∷ 0x00 ∷ 0x07 ∷ [])
      ∷ packs (0x03 ∷ 0x00 ∷ 0x00 ∷ 0x00 ∷ 0xFF ∷ 0xFF ∷ 0xFF ∷ 0xFF ∷ [])
      ∷ []
  -- The same with a heat of 300: an announcement of 22 bytes, and four packets.
  pub p1_heated : frames 5 (payload (heated 100 200 300 7) None)
      ≡ sized 0x16 0x00 0x04
      ∷ first
      ∷ packs (0x02 ∷ 0x00 ∷ 0xC8 ∷ 0x00 ∷ 0x03 ∷ 0x04 ∷ 0x00 ∷ 0x07 ∷ [])
      ∷ packs (0x03 ∷ 0x00 ∷ 0x00 ∷ 0x00 ∷ 0x05 ∷ 0x02 ∷ 0x00 ∷ 0x2C ∷ [])
      ∷ packs (0x04 ∷ 0x01 ∷ 0xFF ∷ 0xFF ∷ 0xFF ∷ 0xFF ∷ 0xFF ∷ 0xFF ∷ [])
      ∷ []

pub examples : Examples
unfolding frames announcement packet_data packets_from payload field head bytes
examples = record { p1 = refl; p1_heated = refl }
