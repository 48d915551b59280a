-- `journal::put_search` meets its contract: the line of a search, or nothing.
-- Assumes nothing.
use Rattle.text.proofs.Places.{none, both}
use borrow.Author.Rules.{rules}
use Rattle.journal.proofs.put_search.Goals as goal

pub returns-in-Some : goal.returns-in-Some
returns-in-Some c = rw c.in-Some.is (record { value = c.put_s.ensures.value; out_after = c.put_s.ensures.buf_after })

pub returns-in-None : goal.returns-in-None
returns-in-None c =
    let p = both (none c.args.out.now c.args.at (search rules)) in
    rw c.in-None.is (record { value = p.0; out_after = p.1 })
