-- Any two outcomes that a contract allows are equal, since each contract is an equation: the answer, and every byte that was lent or handed out.
-- Assumes nothing.
use mathlib.Core.Path.{sym, ◌∙◌}
use Rattle.laws.proofs.Outcomes.{OneAnswer, OnePart}
use Rattle.lines.proofs.Run.length.Kinds as length-kinds
use Rattle.lines.proofs.Run.length.Reads as length-reads
use Rattle.lines.proofs.tail.Kinds as tail-kinds
use Rattle.lines.proofs.tail.Reads as tail-reads
use Rattle.lines.proofs.word.Kinds as word-kinds
use Rattle.lines.proofs.word.Reads as word-reads
use Rattle.lines.proofs.same.Kinds as same-kinds
use Rattle.lines.proofs.same.Reads as same_Reads
use Rattle.lines.proofs.number.Kinds as number-kinds
use Rattle.lines.proofs.number.Reads as number-reads
use Rattle.lines.proofs.short.Kinds as short-kinds
use Rattle.lines.proofs.short.Reads as short-reads

length_once : OneAnswer 1 length-kinds.ps length-kinds.r length-reads.Post
length_once κs a x y s t p q = p ∙ sym q

tail_once : OnePart 1 tail-kinds.ps tail-kinds.r tail-reads.Post (λ κs x. x.now)
tail_once κs a x y s t p q = p ∙ sym q

word_once : OnePart 1 word-kinds.ps word-kinds.r word-reads.Post (λ κs x. x.now)
word_once κs a x y s t p q = p ∙ sym q

same_once : OneAnswer 2 same-kinds.ps same-kinds.r same_Reads.Post
same_once κs a x y s t p q = p ∙ sym q

number_once : OneAnswer 1 number-kinds.ps number-kinds.r number-reads.Post
number_once κs a x y s t p q = p ∙ sym q

short_once : OneAnswer 1 short-kinds.ps short-kinds.r short-reads.Post
short_once κs a x y s t p q = p ∙ sym q
