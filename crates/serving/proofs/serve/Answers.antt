-- By the item's tag.
-- Assumes nothing.
use mathlib.Core.Path.{◌≡◌, refl, sym, ap, ◌∙◌}
use mathlib.Core.List.{List, []}
use Prim.Native.Nat.{ℕ}
use lib.Seq.{sets}
use Rattle.text.specs.Text.{behind}
use Rattle.question.specs.declared.Question.{Question}
use Rattle.list.specs.Rows.{rows_in}
use Rattle.window.specs.Rows.{standing}
use Rattle.slot.specs.Asking.{set_in}
use Rattle.slot.specs.Answers.{seated_answer}
use Rattle.text.specs.Text.{r_line, s_line}
use mathlib.Core.Bool.{cond}
use lib.Dec.{eqb}
use Rattle.serving.specs.Serving.{Served, Serves, shown_text}
use Rattle.serving.proofs.Serving.{served_show, served-remove, served_found, served_refused}
use Rattle.serving.proofs.serve.Goals as goal

-- What was put, and what the slot holds, are those of the definition.
serves : {room left : List ℕ} {at next : ℕ} {q : Question} {d e : Served} {text : List ℕ} → d ≡ e → text ≡ e.text → q ≡ e.question → (next ≡ behind at text) × (left ≡ sets room at text) → Serves d room at q next left
serves {room} {left} {at} {next} i t f p =
    let told = t ∙ sym (ap (λ (s : Served). s.text) i) in
    record { holds = f ∙ sym (ap (λ (s : Served). s.question) i); place = p.0 ∙ ap (behind at) told; stored = p.1 ∙ ap (sets room at) told }

pub returns-then-tag-eq-SHOW : goal.returns-then-tag-eq-SHOW
returns-then-tag-eq-SHOW c =
    let a = c.args in
    serves (served_show c.args.tag c.args.item c.args.value.now c.args.held (standing (rows_in c.args.rows.now) 1024) c.if-tag-eq-SHOW.true)
    (ap (λ (n : ℕ). shown_text c.args.item n c.args.held) c.byte.ensures) refl (c.put_shown.ensures.value, c.put_shown.ensures.out_after)

pub returns-then-tag-eq-REMOVE : goal.returns-then-tag-eq-REMOVE
returns-then-tag-eq-REMOVE c =
    let a = c.args in
    serves (served-remove c.args.tag c.args.item c.args.value.now c.args.held (standing (rows_in c.args.rows.now) 1024) c.if-tag-eq-SHOW.false c.if-tag-eq-REMOVE.true)
    (ap (λ n. cond (eqb c.args.held.k 0) (r_line c.args.item n) []) c.number.ensures) c.emptied.ensures (c.put_refusal.ensures.value, c.put_refusal.ensures.out_after)

pub returns-in-Ok : goal.returns-in-Ok
returns-in-Ok c =
    let a = c.args in
    let rows = standing (rows_in a.rows.now) 1024 in
    serves (served_found a.tag a.item a.value.now a.held rows c.if-tag-eq-SHOW.false c.if-tag-eq-REMOVE.false (c.in-Ok.ensures ∙ (λ j. seated_answer (set_in a.held (c.byte-2.ensures j) (c.rule_in.ensures j) rows))))
    (ap (λ (n : ℕ). s_line a.item n c.in-Ok.found.steps) c.byte-slot.ensures) refl (c.put_s.ensures.value, c.put_s.ensures.buf_after)

pub returns-in-Err : goal.returns-in-Err
returns-in-Err c =
    let a = c.args in
    let rows = standing (rows_in a.rows.now) 1024 in
    serves (served_refused a.tag a.item a.value.now a.held rows c.if-tag-eq-SHOW.false c.if-tag-eq-REMOVE.false (c.in-Err.ensures ∙ (λ j. seated_answer (set_in a.held (c.byte-2.ensures j) (c.rule_in.ensures j) rows))) c.number-in-Err.ensures) refl refl
    (c.put_r.ensures.value, c.put_r.ensures.buf_after)
