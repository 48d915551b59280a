-- `text::spell` meets its contract: the digits of what is left, before those that are stored, are always those of n.
use Rattle.std.proofs.Common.{rules, arith, ◌≡◌, List, [], ◌∷◌, ◌++◌, ℕ, ◌+◌, ◌-◌, ◌/◌, ◌%◌, ◌<◌, ◌≤◌, length, length-drop, length-set, drop, sym, ◌∙◌, append_assoc, append-nil}
use Rattle.std.proofs.lemmas.List.{drop-set}
use Rattle.std.proofs.Math.ListN.{set, drop_of_length-le}
use Rattle.std.proofs.Math.Seq.{take_all}
use Rattle.text.specs.Text.{decimal}
use Rattle.text.proofs.Decimal.{decimal_one, decimal_more}
use Rattle.text.proofs.Lengths.{length_more, length_some, decimal64_longest}
use Rattle.text.proofs.spell.Goals as goal

module _ (l : List ℕ) (i rest n : ℕ) (room : length (decimal rest) ≤ i) (within : i ≤ length l) (told : decimal rest ++ drop i l ≡ decimal n) where
  -- A digit stored before the others joins them.
  joined : (b : ℕ) → drop (i - 1) (set l (i - 1) b) ≡ b ∷ drop i l
  joined b =
      let some = length_some rest in
      let same : i - 1 + 1 ≡ i = omega arith in
      rw same at (drop-set l (i - 1) b (omega arith))

  more : 10 ≤ rest → decimal (rest / 10) ++ drop (i - 1) (set l (i - 1) (48 + rest % 10)) ≡ decimal n
  more h = rw (joined (48 + rest % 10)) (sym (append_assoc (decimal (rest / 10)) ((48 + rest % 10) ∷ []) (drop i l)) ∙ rw (decimal_more rest h) at told)

  last : rest < 10 → drop (i - 1) (set l (i - 1) (48 + rest)) ≡ decimal n
  last h = joined (48 + rest) ∙ rw (decimal_one rest h) at told

pub loop-i-init : goal.loop-i-init
loop-i-init c = record { room_left = decimal64_longest c.args.n (search rules); told = rw (drop_of_length-le c.args.room.now {i = 20} (search rules)) (append-nil (decimal c.args.n)) }

pub loop-i-preserved : goal.loop-i-preserved
loop-i-preserved c =
    let l = c.loop-i in
    let fewer = length_more l.rest (search rules) in
    record { room_left = omega arith; told = more l.room l.i l.rest c.args.n l.invariant.room_left (search rules) l.invariant.told (search rules) }

pub returns-then-rest-lt10 : goal.returns-then-rest-lt10
returns-then-rest-lt10 c =
    let l = c.loop-i in
    take_all _ _ (omega (arith, length-drop {A = ℕ}, length-set {A = ℕ})) ∙ last l.room l.i l.rest c.args.n l.invariant.room_left (search rules) l.invariant.told (search rules)
