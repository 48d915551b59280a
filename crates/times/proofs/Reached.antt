-- What frames with and without times lead to from fresh sessions and no times is fit, station by station; so no frame is ever refused 24.
-- Assumes nothing.
use mathlib.Core.Path.{◌≡◌, refl, subst}
use mathlib.Core.Bool.{true, false}
use mathlib.Core.Logic.{inl, inr}
use mathlib.Core.List.{List, [], ◌∷◌}
use Prim.Native.Nat.{ℕ, ◌<◌}
use native.Mathlib.Omega.{arith}
use borrow.Author.Tests.{ltb-true, ltb-false}
use lib.Dec.{ltb}
use lib.ListN.{length-replicate, get_or-replicate}
use Rattle.laws.proofs.Tests.{either}
use Rattle.values.specs.Range.{in_range}
use Rattle.report.specs.declared.Report.{Report}
use Rattle.std.specs.Prelude.{Some, Ok, Err}
use Rattle.refusal.specs.declared.Refusal.TheVariants.{Unfit}
use Rattle.joining.specs.Joining.{fresh_session}
use Rattle.joining.proofs.Frames.{frame_refusals, unheard_refused}
use Rattle.joining.proofs.Reached.{fresh-fit, fresh_of}
use Rattle.times.specs.declared.Station.{Station}
use Rattle.times.specs.Timed.{fit_last}
use Rattle.times.specs.Run.{Timed, sender, station_step, station_after_all, station_of, fresh_station, fresh_stations, timed_answer, stations_after_all, own_timed}
use Rattle.times.proofs.Steps.{Fit, step_stays_fit, Named, low_named, step-named}
use Rattle.times.proofs.Mixing.{Whole, mixing}

pub fresh-whole : Whole fresh_stations
fresh-whole =
    record { sessions = length-replicate 254 fresh_session; known = length-replicate 254 false; at = length-replicate {A = ℕ} 254 0 }

pub fresh_station_lem : (k : ℕ) → k < 254 → station_of k fresh_stations ≡ fresh_station
fresh_station_lem k h =
    let session = fresh_of k h in
    let known = get_or-replicate 254 k false false h in
    let at = get_or-replicate {A = ℕ} 254 k 0 0 h in
    λ i. record { session = session i; last = record { known = known i; at = at i } }

pub fresh-is-fit : Fit fresh_station
unfolding fit_last
fresh-is-fit = record { session = fresh-fit; last = refl }

pub run_fit : (s : Station) (fs : List Timed) → Fit s → Fit (station_after_all s fs)
unfolding station_after_all
run_fit s [] ok = ok
run_fit s (f ∷ fs) ok = run_fit (station_step s f).station fs (step_stays_fit s f ok)

-- Whatever is sent by whom and when, every session and last time that fresh ones come to is fit.
pub reached_fit : (fs : List Timed) (k : ℕ) → k < 254 → Fit (station_of k (stations_after_all fresh_stations fs))
reached_fit fs k h = rw ((mixing k h fresh_stations fs fresh-whole).0, fresh_station_lem k h) (run_fit fresh_station (own_timed k fs) fresh-is-fit)

-- So what a frame is refused there is 1 to 10 or 26 ...
pub reached_named : (fs : List Timed) (f : Timed) → Named (timed_answer (stations_after_all fresh_stations fs) f)
reached_named fs f =
    either Named (ltb (sender f) 254)
    (λ t. step-named (station_of (sender f) (stations_after_all fresh_stations fs)) f (reached_fit fs (sender f) (ltb-true (sender f) 254 t)))
    (λ t.
    let low = unheard_refused f.frame.identifier f.frame.data_bytes (ltb-false (sender f) 254 t) in
    let high = frame_refusals f.frame.identifier f.frame.data_bytes in
    low_named low (omega arith))

-- ... a report has permitted values, ...
pub reached_complete : (fs : List Timed) (f : Timed) (r : Report) → timed_answer (stations_after_all fresh_stations fs) f ≡ Ok (Some r) → in_range r.values ≡ true
reached_complete fs f r e = subst Named e (reached_named fs f)

-- ... and 24 never comes.
pub never_unfit : (fs : List Timed) (f : Timed) → timed_answer (stations_after_all fresh_stations fs) f ≡ Err Unfit → ⊥
never_unfit fs f e = go (subst Named e (reached_named fs f))
  where
    go : Named (Err Unfit) → ⊥
    go (inl w) = omega arith
    go (inr w) = omega arith
