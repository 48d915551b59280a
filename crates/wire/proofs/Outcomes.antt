-- Any two outcomes that a contract allows are equal, since each contract is an equation: the answer, and every byte that was lent.
-- Assumes nothing.
use mathlib.Core.Path.{sym, ◌∙◌}
use mathlib.Core.List.{List}
use Prim.Native.Nat.{ℕ}
use Rattle.laws.proofs.Outcomes.{OneAnswer, OneLeft, OnePart}
use Rattle.wire.proofs.byte.Kinds as byte-kinds
use Rattle.wire.proofs.byte.Reads as byte-Reads
use Rattle.wire.proofs.read16.Kinds as read16-kinds
use Rattle.wire.proofs.read16.Reads as read16-reads
use Rattle.wire.proofs.read32.Kinds as read32-kinds
use Rattle.wire.proofs.read32.Reads as read32-reads
use Rattle.wire.proofs.Field.at.Kinds as at-kinds
use Rattle.wire.proofs.Field.at.Reads as at_reads
use Rattle.wire.proofs.Field.stands.Kinds as stands-kinds
use Rattle.wire.proofs.Field.stands.Reads as stands-reads
use Rattle.wire.proofs.put.Kinds as put-kinds
use Rattle.wire.proofs.put.Reads as put_reads
use Rattle.wire.proofs.put16.Kinds as put16-kinds
use Rattle.wire.proofs.put16.Reads as put16-reads
use Rattle.wire.proofs.put32.Kinds as put32-kinds
use Rattle.wire.proofs.put32.Reads as put32-reads
use Rattle.wire.proofs.put_all.Kinds as put-all-kinds
use Rattle.wire.proofs.put_all.Reads as put-all-reads
use Rattle.wire.proofs.put_field.Kinds as put-field-kinds
use Rattle.wire.proofs.put_field.Reads as put-field-reads
use Rattle.wire.proofs.put_field16.Kinds as put-field16-kinds
use Rattle.wire.proofs.put_field16.Reads as put-field16-reads
use Rattle.wire.proofs.put_field32.Kinds as put-field32-kinds
use Rattle.wire.proofs.put_field32.Reads as put-field32-reads
use Rattle.wire.proofs.read24.Kinds as read24-kinds
use Rattle.wire.proofs.read24.Reads as read24-reads
use Rattle.wire.proofs.front.Kinds as front-kinds
use Rattle.wire.proofs.front.Reads as front_reads

byte_once : OneAnswer 1 byte-kinds.ps byte-kinds.r byte-Reads.Post
byte_once κs a x y s t p q = p ∙ sym q

read16_once : OneAnswer 1 read16-kinds.ps read16-kinds.r read16-reads.Post
read16_once κs a x y s t p q = p ∙ sym q

read32_once : OneAnswer 1 read32-kinds.ps read32-kinds.r read32-reads.Post
read32_once κs a x y s t p q = p ∙ sym q

at_once : OneAnswer 1 at-kinds.ps at-kinds.r at_reads.Post
at_once κs a x y s t p q = p ∙ sym q

stands_once : OneAnswer 1 stands-kinds.ps stands-kinds.r stands-reads.Post
stands_once κs a x y s t p q = p ∙ sym q

put_once : OneLeft 1 put-kinds.ps put-kinds.r put_reads.Post (List ℕ) (λ κs s. s.0.now)
put_once κs a x y s t p q = p ∙ sym q

put16_once : OneLeft 1 put16-kinds.ps put16-kinds.r put16-reads.Post (List ℕ) (λ κs s. s.0.now)
put16_once κs a x y s t p q = p ∙ sym q

put32_once : OneLeft 1 put32-kinds.ps put32-kinds.r put32-reads.Post (List ℕ) (λ κs s. s.0.now)
put32_once κs a x y s t p q = p ∙ sym q

put_all_once : OneLeft 2 put-all-kinds.ps put-all-kinds.r put-all-reads.Post (List ℕ) (λ κs s. s.0.now)
put_all_once κs a x y s t p q = p ∙ sym q

put_field_once : OneLeft 2 put-field-kinds.ps put-field-kinds.r put-field-reads.Post (List ℕ) (λ κs s. s.0.now)
put_field_once κs a x y s t p q = p ∙ sym q

put_field16_once : OneLeft 1 put-field16-kinds.ps put-field16-kinds.r put-field16-reads.Post (List ℕ) (λ κs s. s.0.now)
put_field16_once κs a x y s t p q = p ∙ sym q

put_field32_once : OneLeft 1 put-field32-kinds.ps put-field32-kinds.r put-field32-reads.Post (List ℕ) (λ κs s. s.0.now)
put_field32_once κs a x y s t p q = p ∙ sym q

read24_once : OneAnswer 1 read24-kinds.ps read24-kinds.r read24-reads.Post
read24_once κs a x y s t p q = p ∙ sym q

front_once : OnePart 1 front-kinds.ps front-kinds.r front_reads.Post (λ κs x. x.now)
front_once κs a x y s t p q = p ∙ sym q
