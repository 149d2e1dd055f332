-- A graph that a check refuses, and one that none does.
use mathlib.Core.Path.{◌≡◌, refl, sym, ap, ◌∙◌}
use mathlib.Core.Bool.{Bool, true, false, cond}
use mathlib.Core.List.{List}
use Prim.Native.Nat.{ℕ, zero, suc, ◌≤◌, ◌<◌}
use native.Mathlib.Omega.{arith}
use lib.Ieee.{Float}
use lib.ListN.{length, get_or, take}
use Rattle.limits.specs.Limits.{most_vertices, most_edges}
use Rattle.list_laws.specs.Search.{some}
use Rattle.refusals.specs.Edges.{kept, kept_early, kept_late}
use Rattle.refusals.specs.Request.{job_request, bad_ends, joined_twice}
use Rattle.std.specs.declared.result.Result.TheVariants.{Ok, Err}
use Rattle.refusals.specs.declared.Refusal.{Refusal}
use Rattle.refusals.specs.declared.Refusal.TheVariants.{ParallelEdges}
use Rattle.refusals.specs.Numbers.{number}
use Rattle.refusals.proofs.Laws.Answers.{number-not_zero}
use Rattle.refusals.specs.Refusal.{refusal, of_graph}
use Rattle.refusals.proofs.Laws.First.{told}
use Rattle.refusals.proofs.Laws.Later.{or_else}
use Rattle.refusals.specs.Accepted.{Lengths}
use Rattle.refusals.proofs.Laws.Accepted.{AcceptedRaw, accepted-raw, graph_in_parts, kept-inside, kept-most}
use Rattle.kept_edges.specs.Keep.{Written, Holds, CheckedRaw, CheckedGraph}
pub use Rattle.kept_edges.proofs.Laws.Fronts.{front-early, front-late, early-part, late-part, early-fits, late-fits, mag_part, mag_fits, few, of-kept}

-- lists for the most edges hold the kept ones
pub room_for : {a b : List ℕ} {m : List Float} {early late : List ℕ} {mag : List Float} → Lengths a b m
    → Holds most_edges early late mag → Holds (length (kept a b m)) early late mag
room_for {a} {b} {m} l h =
    let k = kept-most a b m (length a) in
    let f = l.few-edges in
    record { earlies = omega (arith, h.earlies); lates = omega (arith, h.lates); mags = omega (arith, h.mags) }

module _ {a b : List ℕ} {m : List Float} {k : ℕ} {early early' late late' : List ℕ} {mag mag' : List Float}
    (W : Written a b m (length a) k early early' late late' mag mag') where
  pub ends_low : (n : ℕ) → n ≤ most_vertices → some (bad_ends n a b) (length a) ≡ false
      → (e : ℕ) → e < length (take k late') → get_or (take k late') e 0 < most_vertices
  ends_low n most ok e h =
      let l = late-part W in
      rw (front-late W) (omega (arith, (kept-inside n a b m ok e (omega (arith, W.edges))).1))

-- ---- the graph's lists were checked, and r was found
module _ {n : ℕ} {a b : List ℕ} {m : List Float} {us vs : List ℕ} {betas : List Float} {r : ℕ}
    (R : CheckedRaw n a b m us vs betas r) where
  whole : refusal of_graph (job_request n 0 a b m us vs betas) ≡ or_else r (cond (joined_twice (kept_early a b m) (kept_late a b m)) 5 0)
  whole =
      graph_in_parts n 0 a b m us vs betas
      ∙ ap (λ (k : ℕ). or_else k (cond (joined_twice (kept_early a b m) (kept_late a b m)) 5 0)) (sym R.refusal)

  pub raw-accepted : r ≡ 0 → AcceptedRaw n a b m us vs betas
  raw-accepted z = accepted-raw n 0 a b m us vs betas (sym R.refusal ∙ z)

  -- one of 1 to 4, or 21
  pub raw-refused : {e : Refusal} {early early' late late' : List ℕ} {mag mag' : List Float} → r ≡ number e
      → CheckedGraph n a b m us vs betas (Err e) early early' late late' mag mag'
  raw-refused {e} s = record { refusal = s' ∙ sym whole; written = tt }
    where
      go : (x : ℕ) → (x ≡ 0 → ⊥) → x ≡ or_else x (cond (joined_twice (kept_early a b m) (kept_late a b m)) 5 0)
      go zero f = absurd (f refl)
      go (suc x) f = refl

      s' : number e ≡ or_else r (cond (joined_twice (kept_early a b m) (kept_late a b m)) 5 0)
      s' = rw s (go (number e) (number-not_zero e))

  after : r ≡ 0 → (t : Bool) → joined_twice (kept_early a b m) (kept_late a b m) ≡ t
      → cond t 5 0 ≡ refusal of_graph (job_request n 0 a b m us vs betas)
  after z t e = sym (whole ∙ rw (z, e))

  -- the kept edges were written, and t was answered of them
  module _ {k : ℕ} {early early' late late' : List ℕ} {mag mag' : List Float} (z : r ≡ 0)
      (W : Written a b m (length a) k early early' late late' mag mag') {t : Bool} (tested : t ≡ joined_twice (take k early') (take k late')) where
    -- 5
    pub twice-refused : t ≡ true → CheckedGraph n a b m us vs betas (Err ParallelEdges) early early' late late' mag mag'
    twice-refused s = record { refusal = after z true (told (of-kept W joined_twice tested) s); written = tt }

    -- none
    pub none-refused : t ≡ false → CheckedGraph n a b m us vs betas (Ok k) early early' late late' mag mag'
    none-refused s = record { refusal = after z false (told (of-kept W joined_twice tested) s); written = W }
