-- One frame more is one step more: a run of frames and its answers grow at their ends.
-- Assumes nothing.
use mathlib.Core.Path.{◌≡◌, refl, ap}
use mathlib.Core.List.{List, [], ◌∷◌, ◌++◌}
use Prim.Native.Nat.{suc}
use lib.ListN.{length}
use Rattle.joining.specs.declared.Session.{Session}
use Rattle.joining.specs.Answers.{Answer}
use Rattle.joining.specs.Frame.{Frame}
use Rattle.joining.specs.Run.{sessions_after, answer_to, sessions_after_all, answers_to_all}

pub sessions_more : (ss : List Session) (fs : List Frame) (f : Frame) → sessions_after_all ss (fs ++ (f ∷ [])) ≡ sessions_after (sessions_after_all ss fs) f
unfolding sessions_after_all
sessions_more ss [] f = refl
sessions_more ss (g ∷ fs) f = sessions_more (sessions_after ss g) fs f

pub answers_more : (ss : List Session) (fs : List Frame) (f : Frame) → answers_to_all ss (fs ++ (f ∷ [])) ≡ answers_to_all ss fs ++ (answer_to (sessions_after_all ss fs) f ∷ [])
unfolding sessions_after_all answers_to_all
answers_more ss [] f = refl
answers_more ss (g ∷ fs) f = ap (λ (r : List Answer). answer_to ss g ∷ r) (answers_more (sessions_after ss g) fs f)

pub length-answers : (ss : List Session) (fs : List Frame) → length (answers_to_all ss fs) ≡ length fs
unfolding answers_to_all
length-answers ss [] = refl
length-answers ss (f ∷ fs) = ap suc (length-answers (sessions_after ss f) fs)
