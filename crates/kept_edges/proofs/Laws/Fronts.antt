-- The kept edges at the fronts of three lists, as parts of these lists.
use Rattle.std.specs.Prelude.{◌≡◌, List, map, ℕ, ◌≤◌, ◌<◌, Float, length, get_or, take, drop}
use Rattle.std.specs.declared.result.Result.{Result}
use Rattle.std.specs.declared.result.Result.TheVariants.{Ok}
use Rattle.std.proofs.Common.{sym, ◌∙◌, ap, ap₂, subst₂, arith, length-take, take_at}
use Rattle.std.proofs.lemmas.List.{length-map}
use Rattle.limits.specs.Limits.{most_edges}
use Rattle.list_laws.specs.Front.{over}
use Rattle.refusals.specs.declared.Refusal.{Refusal}
use Rattle.refusals.specs.Numbers.{refused}
use Rattle.refusals.specs.Edges.{Kept, kept, kept_early, kept_late, kept_magnitudes}
use Rattle.refusals.specs.Accepted.{Lengths, Accepted}
use Rattle.refusals.proofs.Laws.Accepted.{AcceptedRaw, accepted-graph, kept-inside, kept-most}
use Rattle.kept_edges.specs.Keep.{Written, CheckedGraph, KeptEdges}

-- the front of a buffer is what was written there
pub front-is : {A : Type 0} (f : Kept → A) (es : List Kept) (l l₀ : List A) (k : ℕ) → k ≡ length es → l ≡ over (map f es) l₀ → take k l ≡ map f es
front-is f es l l₀ k p q = rw q (take_at (map f es) (drop (length (map f es)) l₀) k (length-map es f ∙ sym p))

module _ {a b : List ℕ} {m : List Float} {k : ℕ} {early early' late late' : List ℕ} {mag mag' : List Float}
    (W : Written a b m (length a) k early early' late late' mag mag') where
  pub front-early : take k early' ≡ kept_early a b m
  front-early = front-is (λ e. e.early) (kept a b m) early' early k W.edges W.earlies

  pub front-late : take k late' ≡ kept_late a b m
  front-late = front-is (λ e. e.late) (kept a b m) late' late k W.edges W.lates

  pub front_mag : take k mag' ≡ kept_magnitudes a b m
  front_mag = front-is (λ e. e.magnitude) (kept a b m) mag' mag k W.edges W.mags

  -- the fronts as parts of the lists
  pub early-part : k ≡ length (take k early')
  early-part = W.edges ∙ sym (rw front-early (length-map (kept a b m) (λ e. e.early)))

  pub late-part : k ≡ length (take k late')
  late-part = W.edges ∙ sym (rw front-late (length-map (kept a b m) (λ e. e.late)))

  pub mag_part : k ≡ length (take k mag')
  mag_part = W.edges ∙ sym (rw front_mag (length-map (kept a b m) (λ e. e.magnitude)))

  pub early-fits : k ≤ length early'
  early-fits = let l = early-part in omega (arith, length-take k early')

  pub late-fits : k ≤ length late'
  late-fits = let l = late-part in omega (arith, length-take k late')

  pub mag_fits : k ≤ length mag'
  mag_fits = let l = mag_part in omega (arith, length-take k mag')

  pub few : Lengths a b m → k ≤ most_edges
  few l =
      let h = kept-most a b m (length a) in
      let f = l.few-edges in
      omega (arith, W.edges)

  -- what holds of the fronts holds of the kept edges
  pub of-kept : {A : Type 0} (f : List ℕ → List ℕ → A) {x : A} → x ≡ f (take k early') (take k late')
      → x ≡ f (kept_early a b m) (kept_late a b m)
  of-kept f e = e ∙ ap₂ f front-early front-late

-- ---- a graph that was accepted

-- its kept edges
pub kept-edges : (n : ℕ) (a b : List ℕ) (m : List Float) → Accepted n a b m → KeptEdges n (kept_early a b m) (kept_late a b m)
kept-edges n a b m ok =
    let p = length-map (kept a b m) (λ e. e.early) in
    let q = length-map (kept a b m) (λ e. e.late) in
    let at : (e : ℕ) → e < length (kept_early a b m)
    → (get_or (kept_early a b m) e 0 < get_or (kept_late a b m) e 0) × (get_or (kept_late a b m) e 0 < n) = λ e l.
    kept-inside n a b m ok.edges e (omega (arith, p)) in
    record { few = ok.few-vertices; ordered = record { lengths = q ∙ sym p; ends = λ e l. (at e l).0 }; inside = λ e l. (at e l).1 }

module _ {n : ℕ} {a b : List ℕ} {m : List Float} {us vs : List ℕ} {betas : List Float} {answer : Result ℕ Refusal} {k : ℕ}
    {early early' late late' : List ℕ} {mag mag' : List Float} (G : CheckedGraph n a b m us vs betas answer early early' late late' mag mag')
    (z : answer ≡ Ok k) where
  -- its kept edges were written
  pub kept-written : Written a b m (length a) k early early' late late' mag mag'
  kept-written = rw z at G.written

  -- with its pairs and betas
  pub is-accepted : Accepted n a b m × AcceptedRaw n a b m us vs betas
  is-accepted = accepted-graph n 0 a b m us vs betas (sym G.refusal ∙ ap refused z)

  -- the kept edges at the fronts of the lists
  pub kept_fronts : KeptEdges n (take k early') (take k late')
  kept_fronts =
      let W = kept-written in
      subst₂ (KeptEdges n) (sym (front-early W)) (sym (front-late W)) (kept-edges n a b m is-accepted.0)
