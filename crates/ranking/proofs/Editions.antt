-- Where heat has no weight no edition is looked at, and of two names the one of the greater number is the greater, whatever the editions: so reports rank as if all were of the first edition.
-- Assumes nothing.
use mathlib.Core.Path.{◌≡◌, refl, sym, ap, ap₂, ◌∙◌, subst}
use mathlib.Core.Logic.{◌⊎◌, inl, inr}
use mathlib.Core.Bool.{Bool, not, cond, ◌&&◌}
use mathlib.Core.List.Memᴰ
use mathlib.Core.List.{List, [], ◌∷◌, map}
use Prim.Native.Nat.{ℕ, zero, suc, ◌/◌, ◌%◌, ◌≤◌, ◌<◌}
use native.Mathlib.Omega.{arith}
use borrow.Author.Tests.{lt-ltb, le-ltb, ltb-true, ltb-false}
use lib.Dec.{ltb, eqb}
use lib.ListN.{length, take, drop, length-map}
use lib.IntN.{pos, ◌+ℤ◌, ◌*ℤ◌}
use Rattle.laws.specs.Lists.{◌∈◌, on_last, only}
use Rattle.laws.proofs.Tests.{Tested, passed, failed, tested, and_so}
use Rattle.laws.proofs.Lists.{Pairwise, here, there, only_yes, only_no, only_same, pairwise_only, lt_or_eq}
use Rattle.laws.proofs.Orders.{StrictTotal}
use Rattle.search.specs.Best.{placed, rank, best}
use Rattle.search.specs.Search.{has, list_after, stops, ended, steps, found, marks}
use Rattle.search.proofs.Best.{place-first, place-later, place_same, rank_of}
use Rattle.search.proofs.Least.{least-same}
use Rattle.values.specs.declared.Values.{Values}
use Rattle.values.specs.declared.Edition.{Edition}
use Rattle.values.specs.declared.Edition.TheVariants.{First}
use Rattle.values.specs.Names.{editions, named}
use Rattle.values.proofs.Names.{name-number, name_rises}
use Rattle.ranking.specs.Cells.{columns, inside, weight_fits, weights_fit, is_scored, points, score, cell, corner, corner_of, best_score, greater, visiting}
use Rattle.ranking.specs.Standing.{Held, Entry, later_first, goes_first, above, is_counted, counted, entry, entries, top, reaches, search_of}
use Rattle.ranking.specs.declared.Rule.{Rule}
use Rattle.std.specs.Prelude.{Some, None}
use Rattle.ranking.proofs.Cells.{counts_pair, sum_pair, score_pair}
use Rattle.ranking.proofs.Entries.{above_strict}

-- the report as one of the first edition
abbrev pub as_first : Held → Held
as_first h = record { number = h.number; values = record { loss = h.values.loss; shake = h.values.shake; edition = First } }

-- a line as one for a report of the first edition: what it shows of number and score
abbrev pub line_as_first : Entry → Entry
line_as_first e = record { name = named (e.name / editions) First; score = e.score }

-- no number twice
abbrev pub Differ : Held → Held → Type 0
Differ g h = g.number ≡ h.number → ⊥

abbrev pub Apart : List Held → Type 0
Apart hs = Pairwise Differ hs

-- ---- rankings of lists that are mapped

take-map : {A B : Type 0} (f : A → B) (k : ℕ) (l : List A) → take k (map f l) ≡ map f (take k l)
take-map f zero l = refl
take-map f (suc k) [] = refl
take-map f (suc k) (x ∷ xs) = ap (λ m. f x ∷ m) (take-map f k xs)

only-map : {A B : Type 0} (f : A → B) (p : B → Bool) (l : List A) → only p (map f l) ≡ map f (only (λ x. p (f x)) l)
only-map f p [] = refl
only-map f p (x ∷ xs) = go (tested (p (f x))) (only-map f p xs)
  where
    go : Tested (p (f x)) → only p (map f xs) ≡ map f (only (λ y. p (f y)) xs) → only p (map f (x ∷ xs)) ≡ map f (only (λ y. p (f y)) (x ∷ xs))
    go (passed e) ih = only_yes p (f x) (map f xs) e ∙ ap (λ m. f x ∷ m) ih ∙ ap (map f) (sym (only_yes (λ y. p (f y)) x xs e))
    go (failed e) ih = only_no p (f x) (map f xs) e ∙ ih ∙ ap (map f) (sym (only_no (λ y. p (f y)) x xs e))

last_map : {E : Type 0} (f : E → E) (q : E → Bool) → ((e : E) → q (f e) ≡ q e) → (l : List E) → on_last q (map f l) ≡ on_last q l
last_map f q same [] = refl
last_map f q same (x ∷ []) = same x
last_map f q same (x ∷ y ∷ ys) = last_map f q same (y ∷ ys)

-- a map that keeps how each two stand keeps the ranking
module _ {E : Type 0} (above : E → E → Bool) (order : StrictTotal above) (f : E → E) where
  abbrev Kept : E → E → Type 0
  Kept x y = (above (f x) (f y) ≡ above x y) × (above (f y) (f x) ≡ above y x)

  placed-map : (x : E) (l : List E) → ((y : E) → y ∈ l → Kept x y) → placed above (f x) (map f l) ≡ map f (placed above x l)
  placed-map x [] kept = refl
  placed-map x (y ∷ ys) kept = go (kept y here) (tested (above x y)) (tested (above y x)) (placed-map x ys (λ z m. kept z (there m)))
    where
      go : Kept x y → Tested (above x y) → Tested (above y x) → placed above (f x) (map f ys) ≡ map f (placed above x ys) → placed above (f x) (map f (y ∷ ys)) ≡ map f (placed above x (y ∷ ys))
      go (a, b) (passed e) t ih = place-first above (f x) (f y) (map f ys) (a ∙ e) ∙ ap (map f) (sym (place-first above x y ys e))
      go (a, b) (failed e) (passed t) ih =
          place-later above (f x) (f y) (map f ys) (a ∙ e) (b ∙ t) ∙ ap (λ m. f y ∷ m) ih ∙ ap (map f) (sym (place-later above x y ys e t))
      go (a, b) (failed e) (failed t) ih = place_same above (f x) (f y) (map f ys) (a ∙ e) (b ∙ t) ∙ ap (map f) (sym (place_same above x y ys e t))

  rank-map : (l : List E) → Pairwise Kept l → rank above (map f l) ≡ map f (rank above l)
  rank-map [] w = refl
  rank-map (x ∷ xs) w = ap (placed above (f x)) (rank-map xs w.1) ∙ placed-map x (rank above xs) (λ y m. w.0 y (rank_of above order xs y m))

-- ---- names

names_stand : (m n : ℕ) (d e : Edition) → (m ≡ n → ⊥) → ltb (named m d) (named n e) ≡ ltb m n
names_stand m n d e other = go (tested (ltb m n))
  where
    behind : n ≤ m → (n < m) ⊎ (n ≡ m) → named n e ≤ named m d
    behind h (inl l) = let r = name_rises n m e d l in omega arith
    behind h (inr q) = absurd (other (sym q))

    go : Tested (ltb m n) → ltb (named m d) (named n e) ≡ ltb m n
    go (passed t) = lt-ltb (named m d) (named n e) (name_rises m n d e (ltb-true m n t)) ∙ sym t
    go (failed t) = let h = ltb-false m n t in le-ltb (named m d) (named n e) (behind h (lt_or_eq h)) ∙ sym t

-- as they do without their editions
names-first : (m n : ℕ) (d e : Edition) → (m ≡ n → ⊥) → ltb (named (named m d / 4097) First) (named (named n e / 4097) First) ≡ ltb (named m d) (named n e)
names-first m n d e other =
    ap₂ (λ a b. ltb (named a First) (named b First)) (name-number m d) (name-number n e)
    ∙ names_stand m n First First other
    ∙ sym (names_stand m n d e other)

-- ---- what a window holds, as of the first edition

apart_first : (hs : List Held) → Apart hs → Apart (map as_first hs)
apart_first [] w = tt
apart_first (h ∷ hs) w = (
  λ g m. let r = Memᴰ.of_map as_first hs m in subst (Differ h) r.2 (w.0 r.0 r.1),
  apart_first hs w.1,
)

first_apart : (hs : List Held) → Apart (map as_first hs) → Apart hs
first_apart [] w = tt
first_apart (h ∷ hs) w = (λ g m. w.0 (as_first g) (Memᴰ.map as_first m), first_apart hs w.1)

-- Two windows with the same lists but for editions, the true one and that after any number of steps, and the same marks and steps.
pub record AnyEdition (rule : Rule) (k : ℕ) (hs hs' : List Held) : Type 0 where
  pub same-steps : steps (search_of rule) k hs ≡ steps (search_of rule) k hs'
  pub same-top : map line_as_first (top rule k hs) ≡ map line_as_first (top rule k hs')
  pub same_after : (n : ℕ) → map line_as_first (list_after (search_of rule) k hs n) ≡ map line_as_first (list_after (search_of rule) k hs' n)
  pub same_list : map line_as_first (found (search_of rule) k hs) ≡ map line_as_first (found (search_of rule) k hs')
  pub same-marks : marks (search_of rule) k hs ≡ marks (search_of rule) k hs'

module _ (rule : Rule) (none : rule.weights.heat ≡ pos 0) where
  first-score : (h : Held) → score rule (as_first h).values ≡ score rule h.values
  first-score h = score_pair rule none (as_first h).values h.values refl refl

  first_cell : (h : Held) → cell (as_first h).values ≡ cell h.values
  unfolding cell
  first_cell h = refl

  first_entry : (h : Held) → entry rule (as_first h) ≡ line_as_first (entry rule h)
  first_entry h i = record { name = named (sym (name-number h.number h.values.edition) i) First; score = points (first-score h i) }

  first_counted : (hs : List Held) → counted rule (map as_first hs) ≡ map as_first (counted rule hs)
  first_counted hs =
      only-map as_first (is_counted rule) hs
      ∙ ap (map as_first) (only_same (λ h. is_counted rule (as_first h)) (is_counted rule) hs (λ h m. ap is_scored (first-score h)))

  -- those of the cells
  abbrev lies : List ℕ → Held → Bool
  lies cs h = has (cell h.values) cs

  first_in : (cs : List ℕ) (hs : List Held) → only (lies cs) (map as_first hs) ≡ map as_first (only (lies cs) hs)
  first_in cs hs =
      only-map as_first (lies cs) hs
      ∙ ap (map as_first) (only_same (λ h. lies cs (as_first h)) (lies cs) hs (λ h m. ap (λ c. has c cs) (first_cell h)))

  first-entries : (hs : List Held) → map (entry rule) (map as_first hs) ≡ map line_as_first (map (entry rule) hs)
  first-entries [] = refl
  first-entries (h ∷ hs) = ap₂ (λ e l. e ∷ l) (first_entry h) (first-entries hs)

  stand : (g h : Held) → Differ g h → Kept (above rule) (above_strict rule) line_as_first (entry rule g) (entry rule h)
  unfolding above goes_first
  stand g h other = (
    ap (greater (entry rule g).score (entry rule h).score) (ap₂ (cond (later_first rule)) back on),
    ap (greater (entry rule h).score (entry rule g).score) (ap₂ (cond (later_first rule)) on back),
  )
    where
      on : ltb (line_as_first (entry rule g)).name (line_as_first (entry rule h)).name ≡ ltb (entry rule g).name (entry rule h).name
      on = names-first g.number h.number g.values.edition h.values.edition other

      back : ltb (line_as_first (entry rule h)).name (line_as_first (entry rule g)).name ≡ ltb (entry rule h).name (entry rule g).name
      back = names-first h.number g.number h.values.edition g.values.edition (λ e. other (sym e))

  all_stand : (hs : List Held) → Apart hs → Pairwise (Kept (above rule) (above_strict rule) line_as_first) (map (entry rule) hs)
  all_stand [] w = tt
  all_stand (h ∷ hs) w = (
    λ e m. let r = Memᴰ.of_map (entry rule) hs m in subst (Kept (above rule) (above_strict rule) line_as_first (entry rule h)) r.2 (stand h r.0 (w.0 r.0 r.1)),
    all_stand hs w.1,
  )

  first-top : (k : ℕ) (hs : List Held) → Apart hs → top rule k (map as_first hs) ≡ map line_as_first (top rule k hs)
  unfolding entries
  first-top k hs apart =
      let held = counted rule hs in
      ap (λ (l : List Held). best (above rule) k (map (entry rule) l)) (first_counted hs)
      ∙ ap (best (above rule) k) (first-entries held)
      ∙ ap (take k) (rank-map (above rule) (above_strict rule) line_as_first (map (entry rule) held) (all_stand held (pairwise_only Differ (is_counted rule) hs apart)))
      ∙ take-map line_as_first k (rank (above rule) (map (entry rule) held))

  module _ (k : ℕ) (hs : List Held) (apart : Apart hs) where
    first_list : (n : ℕ) → list_after (search_of rule) k (map as_first hs) n ≡ map line_as_first (list_after (search_of rule) k hs n)
    unfolding entries
    first_list n =
        let cs = take n (visiting rule) in
        ap (top rule k) (first_in cs hs) ∙ first-top k (only (lies cs) hs) (pairwise_only Differ (lies cs) hs apart)

    first_stops : (l : List Entry) (left : List ℕ) → stops (search_of rule) k (map line_as_first l) left ≡ stops (search_of rule) k l left
    first_stops l [] = refl
    first_stops l (c ∷ left) =
        ap₂ (λ n b. eqb n k && b) (length-map l line_as_first) (last_map line_as_first (λ e. not (reaches rule c e)) (λ e. refl) l)

    first-steps : steps (search_of rule) k (map as_first hs) ≡ steps (search_of rule) k hs
    unfolding steps
    first-steps =
        least-same (ended (search_of rule) k (map as_first hs)) (ended (search_of rule) k hs) (length (visiting rule)) 0
        (λ n h.
        ap (λ (l : List Entry). stops (search_of rule) k l (drop n (visiting rule))) (first_list n)
        ∙ first_stops (list_after (search_of rule) k hs n) (drop n (visiting rule)))

    first_found : found (search_of rule) k (map as_first hs) ≡ map line_as_first (found (search_of rule) k hs)
    first_found = ap (list_after (search_of rule) k (map as_first hs)) first-steps ∙ first_list (steps (search_of rule) k hs)

  -- Windows that hold reports of the same numbers, losses and shakes, whatever their editions.
  pub any_edition : (k : ℕ) (hs hs' : List Held) → Apart hs → map as_first hs ≡ map as_first hs' → AnyEdition rule k hs hs'
  any_edition k hs hs' apart same =
      let apart' = first_apart hs' (subst Apart same (apart_first hs apart)) in
      let equal-steps = sym (first-steps k hs apart) ∙ ap (steps (search_of rule) k) same ∙ first-steps k hs' apart' in
      record {
        same-steps = equal-steps;
        same-top = sym (first-top k hs apart) ∙ ap (top rule k) same ∙ first-top k hs' apart';
        same_after = λ n. sym (first_list k hs apart n) ∙ ap (λ (l : List Held). list_after (search_of rule) k l n) same ∙ first_list k hs' apart' n;
        same_list = sym (first_found k hs apart) ∙ ap (found (search_of rule) k) same ∙ first_found k hs' apart';
        same-marks = ap (λ n. take n (visiting rule)) equal-steps;
      }

-- A question without a weight for heat, with ranges or without: its scores and best possible scores are those of loss and shake.
pub record WithoutHeat (rule : Rule) : Type 0 where
  pub fits : weights_fit rule ≡ weight_fits rule.weights.loss && weight_fits rule.weights.shake
  pub scores : (v : Values) → score rule v
      ≡ cond (inside rule.ranges.loss v.loss && inside rule.ranges.shake v.shake) (Some (rule.weights.loss *ℤ pos v.loss +ℤ rule.weights.shake *ℤ pos v.shake)) None
  pub best-scores : (c : ℕ) → best_score rule c
      ≡ rule.weights.loss *ℤ pos (corner rule.weights.loss rule.ranges.loss (c % columns))
      +ℤ rule.weights.shake *ℤ pos (corner rule.weights.shake rule.ranges.shake (c / columns))
  pub editions : (k : ℕ) (hs hs' : List Held) → Apart hs → map as_first hs ≡ map as_first hs' → AnyEdition rule k hs hs'

pub without-heat : (rule : Rule) → rule.weights.heat ≡ pos 0 → WithoutHeat rule
unfolding weights_fit score best_score
without-heat rule none =
    record {
      fits = ap (λ z. weight_fits rule.weights.loss && weight_fits rule.weights.shake && weight_fits z) none ∙ and_so (weight_fits rule.weights.loss && weight_fits rule.weights.shake);
      scores = λ v. ap₂ (λ t s. cond t (Some s) None) (counts_pair rule none v) (sum_pair rule none v);
      best-scores = λ c. sum_pair rule none (corner_of rule c);
      editions = any_edition rule none;
    }
