-- Any two outcomes that a contract allows are equal, since each contract is an equation.
-- Assumes nothing.
use mathlib.Core.Path.{sym, ◌∙◌}
use Rattle.laws.proofs.Outcomes.{OneAnswer, OneLeft}
use Rattle.window.specs.declared.Rows.{Rows}
use Rattle.window.proofs.Window.fresh.Kinds as fresh-kinds
use Rattle.window.proofs.Window.fresh.Reads as fresh-reads
use Rattle.window.proofs.Window.none.Kinds as none-kinds
use Rattle.window.proofs.Window.none.Reads as none-reads
use Rattle.window.proofs.Rows.none.Kinds as rows-none-kinds
use Rattle.window.proofs.Rows.none.Reads as rows-none-reads
use Rattle.window.proofs.Rows.row.Kinds as rows-row-kinds
use Rattle.window.proofs.Rows.row.Reads as rows-row-reads
use Rattle.window.proofs.Rows.put.Kinds as rows-put-kinds
use Rattle.window.proofs.Rows.put.Reads as rows-put-reads
use Rattle.window.proofs.Window.fit.Kinds as fit-kinds
use Rattle.window.proofs.Window.fit.Reads as fit-reads
use Rattle.window.proofs.Window.place.Kinds as place-kinds
use Rattle.window.proofs.Window.place.Reads as place-reads
use Rattle.window.proofs.Window.added.Kinds as added-kinds
use Rattle.window.proofs.Window.added.Reads as added-reads
use Rattle.window.proofs.Row.values.Kinds as values-kinds
use Rattle.window.proofs.Row.values.Reads as values-reads

fresh_once : OneAnswer 0 fresh-kinds.ps fresh-kinds.r fresh-reads.Post
fresh_once κs a x y s t p q = p ∙ sym q

none_once : OneAnswer 0 none-kinds.ps none-kinds.r none-reads.Post
none_once κs a x y s t p q = p ∙ sym q

rows_none_once : OneAnswer 0 rows-none-kinds.ps rows-none-kinds.r rows-none-reads.Post
rows_none_once κs a x y s t p q = p ∙ sym q

rows_row_once : OneAnswer 1 rows-row-kinds.ps rows-row-kinds.r rows-row-reads.Post
rows_row_once κs a x y s t p q = p ∙ sym q

rows_put_leaves_once : OneLeft 1 rows-put-kinds.ps rows-put-kinds.r rows-put-reads.Post Rows (λ κs s. s.0.now)
rows_put_leaves_once κs a x y s t p q = p ∙ sym q

fit_once : OneAnswer 0 fit-kinds.ps fit-kinds.r fit-reads.Post
fit_once κs a x y s t p q = p ∙ sym q

place_once : OneAnswer 0 place-kinds.ps place-kinds.r place-reads.Post
place_once κs a x y s t p q = p ∙ sym q

added_once : OneAnswer 0 added-kinds.ps added-kinds.r added-reads.Post
added_once κs a x y s t p q = p ∙ sym q

values_once : OneAnswer 0 values-kinds.ps values-kinds.r values-reads.Post
values_once κs a x y s t p q = p ∙ sym q
