-- `text::put_entries` meets its contract: after each turn one entry more is stored, and the next place is behind them.
use Rattle.std.proofs.Common.{[], ◌∷◌, ◌++◌, ◌+◌, ◌<◌, ◌^◌, ◌≡◌, length, length-append, rules, refl, sym, ap, pos, w32}
use Rattle.std.proofs.lemmas.Slice.Zip.{zip_turn, zip_end}
use mir.Facts.{to_z-of_z}
use Rattle.text.specs.Text.{entries_of, entries_text}
use Rattle.text.proofs.Places.{stored, clauses, then, said, none}
use Rattle.text.proofs.Lists.{entries_more, entries_none, all_listed}
use Rattle.text.proofs.put_entries.Goals as goal

pub loop-number-init : goal.loop-number-init
loop-number-init c =
    let a = c.args in
    record { same = refl; stored = said (sym (entries_none (entries_of a.numbers.now a.scores.now))) (none a.buf.now a.at (search rules)) }

pub loop-number-preserved : goal.loop-number-preserved
loop-number-preserved c =
    let a = c.args in
    let ns = a.numbers.now in
    let ss = a.scores.now in
    let l = c.loop-number in
    let i = length l.yielded in
    let z = zip_turn ns ss l.yielded c.into_iter-number-iterator.result l.number-iterator c.next.new.self c.next.result (cc) (cc) l.yielded_by (c.in-Some.number, c.in-Some.score) c.in-Some.is c.next.ensures.steps in
    let h : length a.buf.now < 2 ^ 64 = search rules in
    let back = to_z-of_z {w = w32} {z = c.in-Some.score.now} (search rules) in
    let entry = rw (back, z.2 0, z.3 (pos 0)) at c.put_entry-next.ensures in
    let more : length (l.yielded ++ ((c.in-Some.number, c.in-Some.score) ∷ [])) ≡ i + 1 = length-append l.yielded _ in
    record {
      same = search rules;
      stored = rw more (said (entries_more ns ss (pos 0) i z.0 z.1) (then h l.invariant.stored (stored entry)));
    }

pub returns : goal.returns
returns c =
    let a = c.args in
    let l = c.loop-number in
    let e = zip_end a.numbers.now a.scores.now l.yielded c.into_iter-number-iterator.result l.number-iterator c.next.new.self c.next.result (cc) (cc) l.yielded_by c.in-None.is c.next.ensures.steps in
    clauses (said (ap entries_text (all_listed a.numbers.now a.scores.now (length l.yielded) e)) l.invariant.stored)
