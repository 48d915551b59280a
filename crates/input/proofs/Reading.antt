-- The line that is read is the first of the text that came: each turn adds the next piece's bytes to it, and nothing is lost between two pieces.
-- Assumes nothing.
use Rattle.std.proofs.Common.{◌≡◌, ℕ, ◌+◌, ◌%◌, ◌^◌, ◌≤◌, min, Bool, true, false, cond, ltb, List, [], ◌++◌, length, take, drop, sym, refl, ap, ◌∙◌, subst, ap₂, append_assoc, append-nil, zero-add, arith, length-append, length-take-le, ltb-false, ltb-true, Some, Ok}
use lib.Seq.{sets, sets-eq, length-sets, take-append_seam}
use Rattle.wire.proofs.Stores.{sets-append, sets_past}
use Rattle.lines.specs.Words.{run_length}
use Rattle.lines.specs.declared.Run.TheVariants.{Until}
use Rattle.lines.proofs.Words.{run_within}
use Rattle.input.specs.declared.Input.{Input}
use Rattle.input.specs.declared.Source.{Source}
use Rattle.input.specs.declared.Source.TheVariants.{Open, Ended, Failed}
use Rattle.input.specs.Lines.{line_size, first_line, has_line_end, behind_line, unread, line_taken}
use Rattle.input.specs.Reading.{TakesAndReads, Whole, Part, Handed, Comes, failed, is_cut}
use Rattle.input.proofs.Cutting.{first_open, ended_open, behind_open, whole_open, none-behind, first-whole, ended-whole, behind-whole, left_behind}
use Rattle.input.specs.Inner.{next_line, SameLine, without, answer_of}

length-first : (u : List ℕ) → length (first_line u) ≡ line_size u
unfolding first_line
length-first u = length-take-le (line_size u) u (run_within (Until 10) u)

-- ---- a turn

module _ (i : Input) (line space : List ℕ) {r : Input} (e : r ≡ line_taken (length line) i space) where
  size_so : r.size ≡ min (i.size + line_size (unread i space)) (length line + 1)
  unfolding line_taken
  size_so = ap (λ (x : Input). x.size) e

  whole_so : r.whole ≡ has_line_end (unread i space)
  unfolding line_taken
  whole_so = ap (λ (x : Input). x.whole) e

  number_so : r.number ≡ i.number
  unfolding line_taken
  number_so = ap (λ (x : Input). x.number) e

  pub turned-whole : {line' : List ℕ} → line' ≡ sets line i.size (first_line (unread i space)) → r.whole ≡ true → TakesAndReads i line space r line' space
  turned-whole b w = record {
    come = [];
    behind = ap (λ (x : Input). unread x space) e ∙ left_behind (length line) i space (sym whole_so ∙ w) ∙ sym (append-nil (behind_line (unread i space)));
    bytes = b;
    size = size_so;
    whole = whole_so;
    number = number_so;
  }

  pub turned_more : {line' : List ℕ} {r' : Input} (space' : List ℕ) → line' ≡ sets line i.size (first_line (unread i space)) → r.whole ≡ false → SameLine r r'
      → TakesAndReads i line space r' line' space'
  turned_more {r' = r'} space' b w s = record {
    come = unread r' space';
    behind = rw (none-behind (unread i space) (sym whole_so ∙ w));
    bytes = b;
    size = s.size ∙ size_so;
    whole = s.whole ∙ whole_so;
    number = s.number ∙ number_so;
  }

-- ---- turn by turn

-- A place past the end that was cut to one more than the bytes lies past the end.
cut_place : (l : List ℕ) (at : ℕ) (v : List ℕ) → sets l (min at (length l + 1)) v ≡ sets l at v
cut_place l at v = by_test (ltb at (length l + 1)) refl
  where
    by_test : (b : Bool) → ltb at (length l + 1) ≡ b → sets l (min at (length l + 1)) v ≡ sets l at v
    by_test true e = let s : min at (length l + 1) ≡ at = omega (arith, ltb-true) in rw s
    by_test false e =
        let s : length l + 1 ≤ at = ltb-false at (length l + 1) e in
        sets_past l (min at (length l + 1)) v (omega arith) ∙ sym (sets_past l at v (omega arith))

-- However a line is cut into pieces, the same is kept of it.
pub pieces : (line : List ℕ) (v w : List ℕ) → sets (sets line 0 v) (min (length v) (length line + 1)) w ≡ sets line 0 (v ++ w)
pieces line v w =
    let s : min (length v) (length line + 1) ≡ min (length v) (length (sets line 0 v) + 1) = rw length-sets in
    rw s (cut_place (sets line 0 v) (length v) w ∙ sym (sets-append line 0 v w ∙ rw zero-add))

pub none-handed : (text line : List ℕ) (i : Input) → i.whole ≡ false → i.size ≡ 0 → Handed text line i line text
unfolding has_line_end run_length
none-handed text line i w s = record {
  come = [];
  found = [];
  whole = λ t. let z : ◌≡◌ {A = ℕ} 0 1 = cc in absurd (omega arith);
  part = λ f. record { all = append-nil text; none = refl };
  bytes = refl;
  size = omega (arith, s);
}

module _ {text line line₁ line₂ space₁ space₂ : List ℕ} {i r : Input} (no : i.whole ≡ false) (h : Handed text line i line₁ (unread i space₁)) (t : TakesAndReads i line₁ space₁ r line₂ space₂) where
  text_so : text ++ (h.come ++ t.come) ≡ h.found ++ (unread i space₁ ++ t.come)
  text_so = sym (append_assoc text h.come t.come) ∙ ap (λ (x : List ℕ). x ++ t.come) (h.part no).all ∙ append_assoc h.found (unread i space₁) t.come

  on_whole : r.whole ≡ true → Whole (text ++ (h.come ++ t.come)) (h.found ++ first_line (unread i space₁)) (unread r space₂)
  on_whole w =
      let e = sym t.whole ∙ w in
      let n = (h.part no).none in
      record {
        first = rw text_so (first_open h.found (unread i space₁ ++ t.come) n ∙ ap (λ (x : List ℕ). h.found ++ x) (first-whole (unread i space₁) t.come e));
        end = rw text_so (ended_open h.found (unread i space₁ ++ t.come) n ∙ ended-whole (unread i space₁) t.come e);
        behind = rw text_so (behind_open h.found (unread i space₁ ++ t.come) n ∙ behind-whole (unread i space₁) t.come e ∙ sym t.behind);
      }

  on_part : r.whole ≡ false → Part (text ++ (h.come ++ t.come)) (h.found ++ first_line (unread i space₁)) (unread r space₂)
  on_part w =
      let e = sym t.whole ∙ w in
      record {
        all = text_so ∙ rw (whole_open (unread i space₁) e, t.behind, none-behind (unread i space₁) e) (sym (append_assoc h.found (unread i space₁) t.come));
        none = rw (whole_open (unread i space₁) e) (ended_open h.found (unread i space₁) (h.part no).none ∙ e);
      }

  pub handed_on : Handed text line r line₂ (unread r space₂)
  handed_on = record {
    come = h.come ++ t.come;
    found = h.found ++ first_line (unread i space₁);
    whole = on_whole;
    part = on_part;
    bytes = t.bytes ∙ ap₂ (λ (l : List ℕ) (n : ℕ). sets l n (first_line (unread i space₁))) h.bytes h.size ∙ pieces line h.found (first_line (unread i space₁));
    size = t.size ∙ rw (length-append, length-first (unread i space₁), h.bytes, length-sets) (omega (arith, h.size));
  }

-- A line that fits stands in the bytes lent for it.
pub line_back : {text line line' after : List ℕ} {r : Input} (h : Handed text line r line' after) → r.size ≤ length line → take r.size line' ≡ h.found
line_back {line = line} {r = r} h s =
    let e : r.size ≡ length h.found = omega (arith, h.size) in
    rw (e, h.bytes, sets-eq h.found line 0 (omega (arith, h.size))) (take-append_seam h.found (drop (0 + length h.found) line))

-- ---- what is answered

pub no_line : (i : Input) → i.whole ≡ false → ltb 0 i.size ≡ false → without i.source ≡ answer_of i
unfolding answer_of
no_line i w s = rw (w, s)

pub open_line : (i : Input) → i.whole ≡ false → failed i.source ≡ is_cut i
unfolding is_cut
open_line i w = rw w

pub comes : (from : Input) (line space line' space' : List ℕ) (i : Input) {s : Input} → s ≡ next_line from
    → Handed (unread s space) line i line' (unread i space') → i.number ≡ s.number → Comes from line space (answer_of i) line' space'
unfolding answer_of Comes unread
comes from line space line' space' i {s} e h n = by_test i.whole (ltb 0 i.size) i.source
  where
    same : Handed (unread from space) line i line' (unread i space') × (i.number ≡ (from.number + 1) % 2 ^ 64)
    same =
        (subst (λ (x : Input). Handed (unread x space) line i line' (unread i space')) e h, n ∙ ap (λ (x : Input). x.number) e)

    by_test : (w b : Bool) (source : Source) → Comes from line space (cond w (Ok (Some i)) (cond b (Ok (Some i)) (without source))) line' space'
    by_test true b source = same
    by_test false true source = same
    by_test false false Open = tt
    by_test false false Ended = tt
    by_test false false Failed = tt
