-- One frame more is one step more: a run of frames with and without times, and its answers, grow at their ends.
-- Assumes nothing.
use mathlib.Core.Path.{◌≡◌, refl, ap}
use mathlib.Core.List.{List, [], ◌∷◌, ◌++◌}
use Rattle.joining.specs.Answers.{Answer}
use Rattle.times.specs.Run.{Timed, Stations, stations_after, timed_answer, stations_after_all, timed_answers}

pub stations_more : (b : Stations) (fs : List Timed) (f : Timed) → stations_after_all b (fs ++ (f ∷ [])) ≡ stations_after (stations_after_all b fs) f
unfolding stations_after_all
stations_more b [] f = refl
stations_more b (g ∷ fs) f = stations_more (stations_after b g) fs f

pub timed_answers_more : (b : Stations) (fs : List Timed) (f : Timed) → timed_answers b (fs ++ (f ∷ [])) ≡ timed_answers b fs ++ (timed_answer (stations_after_all b fs) f ∷ [])
unfolding stations_after_all timed_answers
timed_answers_more b [] f = refl
timed_answers_more b (g ∷ fs) f = ap (λ (r : List Answer). timed_answer b g ∷ r) (timed_answers_more (stations_after b g) fs f)
