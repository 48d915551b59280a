-- An answer, a session and the outcome of a frame as the machine holds them, by the laws of their types: an outcome is the struct of its answer and its session, and a session in a local is what a borrow of that local holds.
-- Assumes nothing.
use mathlib.Core.Path.{subst}
use Prim.Native.Nat.{ℕ}
use mathlib.Core.List.{[], ◌∷◌, List}
use seplogic.Ra.Ura.{Ura}
use base.Fraction.{full_share}
use mir.Val.{Val}
use base.Logic.{ent, sep}
use base.Fml.{Fml, fsep, fat}
use types.Logic.{Logic, sem}
use types.Kit.{‵, ◌$◌, ◌∵◌, !, qed, move, use1, fsplit, fjoin, fpick, fpack, frame, done}
use denote.Laws.{Is, Makes, shows}
use denote.Memory.{cell_at, part_at, part_of}
use denote.Steps.{owned}
use denote.Enum.Laws as EL
use denote.Enum.Declared.{Declared}
use denote.RattleType.{RattleType}
use denote.Struct.Steps.{spelt}
use denote.Struct.Laws as LL
use Rattle.joining.specs.Answers.{Answer}
use Rattle.joining.specs.declared.Session.{Session}
use Rattle.joining.specs.declared.Taken.{Taken}
use Rattle.std.specs.contracts.option.Option as O
use Rattle.std.proofs.option.Option.TheLaws as O'
use Rattle.std.specs.contracts.result.Result as R
use Rattle.std.proofs.result.Result.TheLaws as R'
use Rattle.report.specs.contracts.Report as P
use Rattle.report.proofs.Report.TheLaws as P'
use Rattle.refusal.specs.contracts.Refusal as F
use Rattle.refusal.proofs.Refusal.TheLaws as F'
use Rattle.joining.specs.contracts.Session as S
use Rattle.joining.proofs.Session.TheLaws as S'
use Rattle.joining.specs.contracts.Taken as T
use Rattle.joining.proofs.Taken.TheLaws as T'

-- The row of an answer, and its laws.
abbrev answer_type : Declared
answer_type = R.the_type (O.the_row P.the_row) F.the_row

abbrev answer_row : RattleType
answer_row = R.the_row (O.the_row P.the_row) F.the_row

abbrev answer_laws : EL.Laws answer_type
answer_laws = R'.the_laws (O.the_row P.the_row) F.the_row (O'.the_row_laws P.the_row P'.the_row_laws) F'.the_row_laws (O'.the_told P.the_row P'.the_row_laws P'.the_told) F'.the_told

-- The machine values.
abbrev pub answer_val : Answer → Val
answer_val = EL.val answer_type answer_laws

abbrev pub session_val : Session → Val
session_val = LL.val S.the_type S'.the_laws

abbrev pub taken_val : Taken → Val
taken_val = LL.val T.the_type T'.the_laws

-- That a machine value is its own: what the type's relation says of it.
abbrev pub IsAnswer : Answer → Type 0
IsAnswer a = Is answer_row a (answer_val a ∷ [])

abbrev pub IsSession : Session → Type 0
IsSession h = Is S.the_row h (session_val h ∷ [])

abbrev pub IsTaken : Taken → Type 0
IsTaken r = Is T.the_row r (taken_val r ∷ [])

-- An outcome's are those of its answer and of its session.
pub answer_of_lem : (r : Taken) {us : List Val} → Is T.the_row r us → IsAnswer r.answer
answer_of_lem r {us} is = (LL.owed T.the_type T'.the_laws r us is).0

pub session_of_lem : (r : Taken) {us : List Val} → Is T.the_row r us → IsSession r.session
session_of_lem r {us} is = (LL.owed T.the_type T'.the_laws r us is).1.0

pub taken_of : (r : Taken) {us : List Val} → Is answer_row r.answer us → IsSession r.session → IsTaken r
taken_of r {us} a s = LL.owes T.the_type T'.the_laws r (subst (Is answer_row r.answer) (EL.tells answer_type answer_laws r.answer us a) a, (s, tt))

module _ {M : Type 1} {𝓤 : Ura M} (𝓛 : Logic 𝓤) where
  -- Each of the three owns nothing but facts.
  pub makes_answer : Makes 𝓛 answer_row (Is answer_row)
  makes_answer = EL.makes answer_type (R'.the_plain (O.the_row P.the_row) F.the_row (O'.the_row_plain P.the_row P'.the_row_plain) F'.the_row_plain) 𝓛

  pub makes_session : Makes 𝓛 S.the_row (Is S.the_row)
  makes_session = LL.makes S.the_type S'.the_plain 𝓛

  pub makes_taken : Makes 𝓛 T.the_row (Is T.the_row)
  makes_taken = LL.makes T.the_type T'.the_plain 𝓛

  module _ (h : Session) (l : ℕ) where
    abbrev pub Cell : Fml
    Cell = fat full_share S'.mir l 0 (session_val h)

    -- A session in the local l, and what a borrow of l holds.
    pub lies_in : IsSession h → ent 𝓤 (sem 𝓛 Cell) (sem 𝓛 (part_at S.the_row full_share h l 0))
    unfolding part_of
    lies_in is =
        qed 𝓛 (‵ Cell ∷ []) ∵ use1 𝓛 (‵ (cell_at full_share (S.the_row).mir (session_val h ∷ []) l 0)) (𝓛.laws.at_raw full_share S'.mir l 0 (session_val h)) $
        owned ! S.the_row (Is S.the_row) makes_session h _ is $ move ! (1 ∷ 0 ∷ []) $ fjoin ! $ fpack ! (List Val) (λ us. fsep (cell_at full_share (S.the_row).mir us l 0) ((S.the_row).own_val h us)) (session_val h ∷ []) $ done !

    pub lies_out : ent 𝓤 (sem 𝓛 (part_at S.the_row full_share h l 0)) (sep 𝓤 (sem 𝓛 Cell) (sem 𝓛 ((S.the_row).own_val h (session_val h ∷ []))))
    unfolding part_of
    lies_out =
        qed 𝓛 (‵ (part_at S.the_row full_share h l 0) ∷ []) ∵ fpick ! (λ vs. fsplit ! $ spelt ! S.the_row (Is S.the_row) (shows 𝓛 S.the_row) (LL.vals S.the_type S'.the_laws) (LL.tells S.the_type S'.the_laws) full_share h vs l 0 $
        use1 𝓛 (‵ Cell) (𝓛.laws.raw_at full_share S'.mir l 0 (session_val h)) $ frame ! $ done !)
