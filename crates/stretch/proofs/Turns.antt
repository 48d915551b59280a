-- The slots have their turns one after the other: a slot that a report leaves alone stays, and so does every slot that is not in use.
-- Assumes nothing.
use mathlib.Core.Path.{◌≡◌, refl, sym, ap, ap₂, subst, ◌∙◌}
use mathlib.Core.Bool.{Bool, false, cond}
use mathlib.Core.List.{List, [], ◌++◌, map}
use Prim.Native.Nat.{ℕ, zero, suc, ◌+◌, ◌-◌, ◌^◌, ◌≤◌, ◌<◌}
use native.Mathlib.Omega.{arith}
use lib.ListN.{length, get_or, set, take, drop, length-map, get_or-map}
use lib.Seq.{drop-drop, drop-set-lt, get_or-drop, set-get_or}
use Rattle.question.specs.declared.Question.{Question}
use Rattle.slot.specs.Gauges.{no_question}
use Rattle.slot.proofs.Filling.{Filled, filled_none, filled_more}
use Rattle.text.specs.Text.{s_line}
use Rattle.text.proofs.Places.{Put, then, said, none}
use Rattle.journal.specs.Log.{s_lines}
use Rattle.journal.proofs.Searches.{lines_more, lines_none}
use Rattle.slot.specs.Turn.{Turned}

module _ (turn : Question → Turned) (items : ℕ) (old : List Question) (out₀ : List ℕ) (at₀ : ℕ) where
  abbrev pub search_lines : ℕ → List ℕ
  search_lines n = s_lines items 0 (take n (map (λ q. (turn q).searched) old)) (take n (map (λ q. (turn q).steps) old))

  -- The first n slots have had their turn, and their searches are printed.
  pub record Turning (n : ℕ) (slots : List Question) (at : ℕ) (out : List ℕ) : Type 0 where
    pub first : Filled (λ q. (turn q).question) old n slots
    pub rest : drop n slots ≡ drop n old
    pub printed : Put out₀ at₀ (search_lines n) at out

  pub turning_none : at₀ < 2 ^ 64 → Turning 0 old at₀ out₀
  turning_none h =
      record {
        first = filled_none (λ q. (turn q).question) old old refl;
        rest = refl;
        printed = said (sym (lines_none items (map (λ q. (turn q).searched) old) (map (λ q. (turn q).steps) old))) (none out₀ at₀ h);
      }

  module _ {n : ℕ} {slots : List Question} {at : ℕ} {out : List ℕ} (t : Turning n slots at out) where
    -- A slot that has had no turn yet is as it was.
    pub still_old : (i : ℕ) → n ≤ i → get_or slots i no_question ≡ get_or old i no_question
    still_old i h =
        let here : n + (i - n) ≡ i = omega arith in
        let first : (l : List Question) → get_or (drop n l) (i - n) no_question ≡ get_or l i no_question =
        λ l. get_or-drop n l (i - n) no_question ∙ ap (λ (k : ℕ). get_or l k no_question) here in
        sym (first slots) ∙ ap (λ l. get_or l (i - n) no_question) t.rest ∙ first old

    -- One slot more.
    pub turning_more : {next : ℕ} {left : List ℕ} {r : Turned} → n < length old → length out₀ < 2 ^ 64 → r ≡ turn (get_or slots n no_question)
        → Put out at (cond r.searched (s_line items n r.steps) []) next left → Turning (n + 1) (set slots n r.question) next left
    turning_more {r = r} below small e p =
        let is = e ∙ ap turn (still_old n (omega arith)) in
        record {
          first = filled_more (λ q. (turn q).question) old n slots no_question r.question below t.first (ap (λ (x : Turned). x.question) is);
          rest = drop-set-lt (n + 1) slots n r.question (omega arith) ∙ sym (drop-drop 1 n slots) ∙ ap (drop 1) t.rest ∙ drop-drop 1 n old;
          printed =
              said
              (ap₂ (λ (x : Bool) (y : ℕ). search_lines n ++ cond x (s_line items n y) []) (ap (λ (x : Turned). x.searched) is ∙ sym (get_or-map (λ q. (turn q).searched) old n no_question)) (ap (λ (x : Turned). x.steps) is ∙ sym (get_or-map (λ q. (turn q).steps) old n no_question))
              ∙ lines_more items (map (λ q. (turn q).searched) old) (map (λ q. (turn q).steps) old) (turn no_question).searched (turn no_question).steps n (omega (arith, length-map old (λ q. (turn q).searched))) (omega (arith, length-map old (λ q. (turn q).steps))))
              (then small t.printed p);
        }

    -- A slot that stays.
    pub turning_still : n < length old → length out₀ < 2 ^ 64 → at < 2 ^ 64 → record { searched = false; steps = 0; question = get_or slots n no_question } ≡ turn (get_or slots n no_question) → Turning (n + 1) slots at out
    turning_still below small fits e =
        subst (λ l. Turning (n + 1) l at out) (set-get_or slots n no_question) (turning_more below small e (none out at fits))

  -- All slots from one on stay.
  pub turning_rest : (d n : ℕ) {slots : List Question} {at : ℕ} {out : List ℕ} → d + n ≡ length old → Turning n slots at out
      → ((i : ℕ) → n ≤ i → i < length old → record { searched = false; steps = 0; question = get_or old i no_question } ≡ turn (get_or old i no_question)) → length out₀ < 2 ^ 64 → at < 2 ^ 64 → Turning (length old) slots at out
  turning_rest zero n {slots} {at} {out} e t stays small fits = let all : n ≡ length old = omega arith in subst (λ m. Turning m slots at out) all t
  turning_rest (suc d) n {slots} {at} {out} e t stays small fits =
      let below : n < length old = omega arith in
      let here = subst (λ (q : Question). record { searched = false; steps = 0; question = q } ≡ turn q) (sym (still_old t n (omega arith))) (stays n (omega arith) below) in
      turning_rest d (n + 1) (omega arith) (turning_still t below small fits here) (λ i h k. stays i (omega arith) k) small fits
