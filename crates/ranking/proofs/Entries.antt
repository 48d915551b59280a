-- Laws of a question's rule that those above cite: its rank order is strict and total, what its entries and its best k are, and what it means that a
-- report which enters after all others has a place.
-- Assumes nothing.
use mathlib.Core.Path.{◌≡◌, refl, sym, ap, ◌∙◌, subst}
use mathlib.Core.Bool.{Bool, true, false, not, cond, ◌||◌}
use mathlib.Core.List.Memᴰ
use mathlib.Core.List.{List, [], ◌∷◌, ◌++◌, map}
use mathlib.Core.Logic.{◌⊎◌, inl, inr}
use Prim.Native.Nat.{ℕ, min, ◌≤◌, ◌<◌}
use native.Mathlib.Omega.{arith}
use borrow.Author.Tests.{not-false, lt-ltb, le-ltb, eq-eqb, ne_eqb}
use lib.Dec.{ltb}
use lib.ListN.{length, take, length-map}
use lib.IntN.{ℤ, pos}
use lib.Signed.{lt_z, le_z}
use Rattle.laws.specs.Lists.{◌∈◌, on_last, only}
use Rattle.laws.proofs.Tests.{and_true}
use Rattle.laws.proofs.Lists.{Same, Pairwise, Distinct, pairwise_only, only_in, only_of, only_yes, only_no, only-append, only-length, same-only, same_map, map-append, last_same}
use Rattle.laws.proofs.Orders.{StrictTotal, one_way, ltb_strict}
use Rattle.laws.proofs.Whole.{lt_z_strict, le_is, equal_refl}
use Rattle.search.specs.Best.{placed, best}
use Rattle.search.proofs.Best.{best-same, best_of, best_rule, best_cons, length-best}
use Rattle.values.specs.declared.Values.{Values}
use Rattle.values.proofs.Names.{name_rises, name-same}
use Rattle.ranking.specs.Cells.{no_rule, is_none, sum, greater}
use Rattle.ranking.specs.Standing.{Held, Entry, later_first, goes_first, above, is_counted, counted, entry, entries, top, passes, has_place, place_by, might_pass}
use Rattle.ranking.specs.declared.Rule.{Rule}
use Rattle.ranking.proofs.Cells.{more, less, equal, Numbers, numbers, greater_by, less_by, greater_tie, greater_of, greater_strict}

module _ (rule : Rule) where
  -- ---- the rank order

  pub first_strict : StrictTotal (goes_first rule)
  unfolding goes_first
  first_strict = go (later_first rule)
    where
      go : (later : Bool) → StrictTotal (λ (m n : ℕ). cond later (ltb n m) (ltb m n))
      go false = ltb_strict
      go true =
          record {
            irreflexive = ltb_strict.irreflexive;
            transitive = λ x y z p q. ltb_strict.transitive z y x q p;
            total = λ x y p q. ltb_strict.total x y q p;
          }

  -- a later report goes first exactly where the tie rule says so
  pub later_goes : (m n : ℕ) → n < m → goes_first rule m n ≡ later_first rule
  unfolding goes_first
  later_goes m n h = go (later_first rule)
    where
      go : (later : Bool) → cond later (ltb n m) (ltb m n) ≡ later
      go true = lt-ltb n m h
      go false = le-ltb m n (omega arith)

  -- entries are ranked strictly and totally
  pub above_strict : StrictTotal (above rule)
  unfolding above
  above_strict =
      greater_strict (λ (e : Entry). e.score) (λ e f. goes_first rule e.name f.name)
      (record {
        none = λ e. first_strict.irreflexive e.name;
        chain = λ d e f p q. first_strict.transitive d.name e.name f.name p q;
        only-equal = λ e f p q r. both e f (first_strict.total e.name f.name q r) p;
      })
    where
      both : (e f : Entry) → e.name ≡ f.name → e.score ≡ f.score → e ≡ f
      both e f p q i = record { name = p i; score = q i }

  -- a greater score ranks above, whatever the names
  pub score-above : (e f : Entry) → lt_z f.score e.score ≡ true → above rule e f ≡ true
  unfolding above
  score-above e f h = greater_by e.score f.score (goes_first rule e.name f.name) h

  -- a lower one never does
  pub score_below : (e f : Entry) → lt_z e.score f.score ≡ true → above rule e f ≡ false
  unfolding above
  score_below e f h = less_by e.score f.score (goes_first rule e.name f.name) h

  -- of equal ones the tie decides
  pub score_tie : (e f : Entry) → e.score ≡ f.score → above rule e f ≡ goes_first rule e.name f.name
  unfolding above
  score_tie e f h = greater_tie e.score f.score (goes_first rule e.name f.name) h

  -- what ranks above another has no lower score
  pub above-score : (e f : Entry) → above rule e f ≡ true → (lt_z f.score e.score ≡ true) ⊎ (e.score ≡ f.score)
  unfolding above
  above-score e f h = go (greater_of e.score f.score (goes_first rule e.name f.name) h)
    where
      go : (lt_z f.score e.score ≡ true) ⊎ ((e.score ≡ f.score) × (goes_first rule e.name f.name ≡ true)) → (lt_z f.score e.score ≡ true) ⊎ (e.score ≡ f.score)
      go (inl p) = inl p
      go (inr p) = inr p.0

  -- ---- entries

  pub entries_none : entries rule [] ≡ []
  unfolding entries
  entries_none = refl

  -- a report that counts brings its entry
  pub entries_cons : (h : Held) (hs : List Held) → is_counted rule h ≡ true → entries rule (h ∷ hs) ≡ entry rule h ∷ entries rule hs
  unfolding entries
  entries_cons h hs e = ap (map (entry rule)) (only_yes (is_counted rule) h hs e)

  -- one that doesn't brings nothing
  pub entries_out : (h : Held) (hs : List Held) → is_counted rule h ≡ false → entries rule (h ∷ hs) ≡ entries rule hs
  unfolding entries
  entries_out h hs e = ap (map (entry rule)) (only_no (is_counted rule) h hs e)

  pub entries-append : (xs ys : List Held) → entries rule (xs ++ ys) ≡ entries rule xs ++ entries rule ys
  unfolding entries
  entries-append xs ys =
      ap (map (entry rule)) (only-append (is_counted rule) xs ys)
      ∙ map-append (entry rule) (only (is_counted rule) xs) (only (is_counted rule) ys)

  pub entries_in : {h : Held} {hs : List Held} → h ∈ hs → is_counted rule h ≡ true → entry rule h ∈ entries rule hs
  unfolding entries
  entries_in {hs} m e = Memᴰ.map (entry rule) (only_in (is_counted rule) hs m e)

  pub entries_of_lem : (hs : List Held) {e : Entry} → e ∈ entries rule hs → (h : Held) × (h ∈ hs) × (entry rule h ≡ e) × (is_counted rule h ≡ true)
  unfolding entries
  entries_of_lem hs m =
      let r = Memᴰ.of_map (entry rule) (only (is_counted rule) hs) m in
      let q = only_of (is_counted rule) hs r.1 in
      (r.0, q.0, r.2, q.1)

  pub entries-same : (l m : List Held) → Same l m → Same (entries rule l) (entries rule m)
  unfolding entries
  entries-same l m s = same_map (entry rule) (only (is_counted rule) l) (only (is_counted rule) m) (same-only (is_counted rule) l m s)

  -- reports of different numbers bring different entries
  pub entries_distinct : (hs : List Held) → Pairwise (λ (g h : Held). g.number ≡ h.number → ⊥) hs → Distinct (entries rule hs)
  unfolding entries
  entries_distinct hs d = apart (only (is_counted rule) hs) (pairwise_only (λ (g h : Held). g.number ≡ h.number → ⊥) (is_counted rule) hs d)
    where
      apart : (gs : List Held) → Pairwise (λ (g h : Held). g.number ≡ h.number → ⊥) gs → Distinct (map (entry rule) gs)
      apart [] w = tt
      apart (g ∷ gs) w = (
        λ e m q.
            let r = Memᴰ.of_map (entry rule) gs m in
            w.0 r.0 r.1 (name-same g.number r.0.number g.values.edition r.0.values.edition (ap (λ (z : Entry). z.name) (q ∙ sym r.2))),
        apart gs w.1,
      )

  -- ---- the best k

  pub top-same : (k : ℕ) (l m : List Held) → Same l m → top rule k l ≡ top rule k m
  top-same k l m s = best-same (above rule) above_strict k (entries rule l) (entries rule m) (entries-same l m s)

  -- each line is the entry of a report that counts
  pub top_of : (k : ℕ) (hs : List Held) {e : Entry} → e ∈ top rule k hs → (h : Held) × (h ∈ hs) × (entry rule h ≡ e) × (is_counted rule h ≡ true)
  top_of k hs {e} m = entries_of_lem hs (best_of (above rule) above_strict k (entries rule hs) e m)

  -- rules 6.4 and 16.5: k of them, or as many as there are that count
  pub length-top : (k : ℕ) (hs : List Held) → Pairwise (λ (g h : Held). g.number ≡ h.number → ⊥) hs → length (top rule k hs) ≡ min k (length (counted rule hs))
  unfolding entries
  length-top k hs d = length-best (above rule) above_strict k (entries rule hs) (entries_distinct hs d) ∙ ap (min k) (length-map (counted rule hs) (entry rule))

  -- there are no more of them than reports
  pub top_short : (k : ℕ) (hs : List Held) → Pairwise (λ (g h : Held). g.number ≡ h.number → ⊥) hs → length (top rule k hs) ≤ min k (length hs)
  top_short k hs d = omega (arith, length-top k hs d, only-length (is_counted rule) hs)

  -- ---- entering after all others

  -- what passes, of a later name, ranks above
  pub later-above : (e f : Entry) → f.name < e.name → passes rule e.score f.score ≡ above rule e f
  unfolding above passes
  later-above e f h = ap (greater e.score f.score) (sym (later_goes e.name f.name h))

  -- Rule 18.2: under newest a score passes that is at least the other, and under first-come one that is strictly greater
  pub passes-least : later_first rule ≡ true → (s other : ℤ) → passes rule s other ≡ le_z other s
  unfolding passes
  passes-least e s other = ap (greater s other) e ∙ go (numbers s other) ∙ le_is s other
    where
      go : Numbers s other → greater s other true ≡ not (lt_z s other)
      go (more p) = greater_by s other true p ∙ sym (ap not (one_way lt_z lt_z_strict other s p))
      go (less p) = less_by s other true p ∙ sym (ap not p)
      go (equal p) = greater_tie s other true p ∙ sym (ap not (subst (λ z. lt_z z other ≡ false) (sym p) (lt_z_strict.irreflexive other)))

  pub passes_more : later_first rule ≡ false → (s other : ℤ) → passes rule s other ≡ lt_z other s
  unfolding passes
  passes_more e s other = ap (greater s other) e ∙ go (numbers s other)
    where
      go : Numbers s other → greater s other false ≡ lt_z other s
      go (more p) = greater_by s other false p ∙ sym p
      go (less p) = less_by s other false p ∙ sym (one_way lt_z lt_z_strict s other p)
      go (equal p) = greater_tie s other false p ∙ sym (subst (λ z. lt_z other z ≡ false) (sym p) (lt_z_strict.irreflexive other))

  -- so a place on the list is what the laws of best k ask
  pub place_rule : (k : ℕ) (e : Entry) (l : List Entry) → ((f : Entry) → f ∈ l → f.name < e.name) → has_place rule k (length l) l e.score ≡ (ltb (length l) k || on_last (above rule e) l)
  unfolding has_place
  place_rule k e l newest =
      ap (λ b. ltb (length l) k || b) (last_same (λ f. passes rule e.score f.score) (above rule e) l (λ f m. later-above e f (newest f m)))

  module _ (k : ℕ) (h : Held) (hs : List Held) (newest : (g : Held) → g ∈ hs → g.number < h.number) where
    older : (f : Entry) → f ∈ top rule k hs → f.name < (entry rule h).name
    older f m =
        let r = top_of k hs m in
        subst (λ (z : Entry). z.name < (entry rule h).name) r.2 (name_rises r.0.number h.number r.0.values.edition h.values.edition (newest r.0 r.1))

    new_one : entry rule h ∈ entries rule hs → ⊥
    new_one m =
        let r = entries_of_lem hs m in
        not_less (entry rule h).name
        (subst (λ n. n < (entry rule h).name) (ap (λ (z : Entry). z.name) r.2)
        (name_rises r.0.number h.number r.0.values.edition h.values.edition (newest r.0 r.1)))
      where
        not_less : (n : ℕ) → n < n → ⊥
        not_less n l = omega arith

    -- a report that counts and enters after all others is put in its rank and the list is cut to k where it has a place, and else nothing changes
    pub top_enters : is_counted rule h ≡ true → top rule k (h ∷ hs) ≡ cond (has_place rule k (length (top rule k hs)) (top rule k hs) (entry rule h).score) (take k (placed (above rule) (entry rule h) (top rule k hs))) (top rule k hs)
    top_enters counts =
        ap (best (above rule) k) (entries_cons h hs counts)
        ∙ best_rule (above rule) above_strict k (entry rule h) (entries rule hs) new_one
        ∙ ap (λ b. cond b (take k (placed (above rule) (entry rule h) (top rule k hs))) (top rule k hs))
        (sym (place_rule k (entry rule h) (top rule k hs) older))

  -- one report more that counts, whether it has a place or not
  pub top_cons : (k : ℕ) (h : Held) (hs : List Held) → is_counted rule h ≡ true → top rule k (h ∷ hs) ≡ take k (placed (above rule) (entry rule h) (top rule k hs))
  top_cons k h hs counts =
      ap (best (above rule) k) (entries_cons h hs counts) ∙ best_cons (above rule) above_strict k (entry rule h) (entries rule hs)

  -- one that doesn't count changes nothing
  pub top_out : (k : ℕ) (h : Held) (hs : List Held) → is_counted rule h ≡ false → top rule k (h ∷ hs) ≡ top rule k hs
  top_out k h hs out = ap (best (above rule) k) (entries_out h hs out)

  -- ---- a place by the last entry's score

  module _ (k len : ℕ) (s : ℤ) where
    pub place_none : (last : ℤ) → len ≡ 0 → has_place rule k len [] s ≡ place_by rule k len last s
    unfolding has_place place_by
    place_none last e = rw (eq-eqb len 0 e)

    pub place_last : (l : List Entry) (e : Entry) → 1 ≤ len → ((p : Entry → Bool) → on_last p l ≡ p e) → has_place rule k len l s ≡ place_by rule k len e.score s
    unfolding has_place place_by
    place_last l e positive is =
        let other : len ≡ 0 → ⊥ = λ z. absurd (omega arith) in
        rw (ne_eqb len 0 other) (ap (λ b. ltb len k || b) (is (λ f. passes rule s f.score)))

    -- below the last entry of a full list there is no place
    pub no_place : (l : List Entry) → ltb len k ≡ false → on_last (λ e. passes rule s e.score) l ≡ false → has_place rule k len l s ≡ false
    unfolding has_place
    no_place l full low = rw (full, low)

-- ---- the rule of an empty slot

-- values that can't pass a score don't
pub might_not : (rule : Rule) (v : Values) (s : ℤ) → might_pass rule.weights v s ≡ false → passes rule (sum rule v) s ≡ false
unfolding might_pass passes sum
might_not rule v s e = less_by (sum rule v) s (later_first rule) (not-false (lt_z (sum rule v) s) (le_is (sum rule v) s ∙ e))

pub is-none : is_none no_rule ≡ true
unfolding is_none
is-none = and_true (and_true (and_true (and_true (equal_refl (pos 0)) (equal_refl (pos 0))) (equal_refl (pos 0))) refl) refl
