-- A call's answer and results, from what its checks answered.
use mathlib.Core.Path.{◌≡◌, refl, sym, ap, ◌∙◌}
use mathlib.Core.Bool.{not}
use mathlib.Core.List.{List, []}
use Prim.Native.Nat.{ℕ, ◌*◌, ◌≤◌}
use native.Mathlib.Nat.{mul-le-mul}
use native.Mathlib.Omega.{arith}
use lib.Dec.{eqb}
use lib.Ieee.{Float}
use lib.ListN.{length, take}
use borrow.Author.Tests.{eq-eqb, ne_eqb}
use Rattle.limits.specs.Limits.{most_betas, most_edges}
use Rattle.std.specs.Prelude.{Ok, Err}
use Rattle.refusals.specs.declared.Refusal.{Refusal}
use Rattle.refusals.specs.Numbers.{number}
use Rattle.refusals.specs.Edges.{kept}
use Rattle.refusals.specs.Request.{coupling_request, job_request}
use Rattle.refusals.specs.Refusal.{refusal, of_graph, of_couplings}
use Rattle.refusals.proofs.Laws.Answers.{number-not_zero, left_alone}
use Rattle.refusals.proofs.Laws.Later.{Then, refused-before, refused_here, refused_not}
use Rattle.refusals.proofs.Laws.AcceptedTotals.{couplings_in_parts}
use Rattle.kept_edges.proofs.Laws.Fronts.{front_mag, mag_part, few, is-accepted}
use Rattle.kept_edges.specs.Keep.{CheckedGraph}
use Rattle.couplings.specs.Couplings.{all_couplings, Coupled}

module _ (n : ℕ) (a b : List ℕ) (m betas results : List Float) where
  parts : Then (refusal of_couplings (coupling_request n a b m betas (not (eqb (length results) (length betas * length (kept a b m))))))
      (refusal of_graph (job_request n 0 a b m [] [] betas)) (not (eqb (length results) (length betas * length (kept a b m)))) 12
  parts = couplings_in_parts n a b m betas (not (eqb (length results) (length betas * length (kept a b m))))

-- the graph was checked with its betas, and refused by one of 1 to 5
pub refused-graph : {n : ℕ} {a b : List ℕ} {m betas : List Float} (results : List Float) {e : Refusal} {early early' late late' : List ℕ} {mag mag' : List Float}
    → CheckedGraph n a b m [] [] betas (Err e) early early' late late' mag mag' → Coupled n a b m betas (number e) results results
refused-graph {n} {a} {b} {m} {betas} results {e} G = record {
  answer = refused-before (parts n a b m betas results) (number e) G.refusal (number-not_zero e);
  coupled = left_alone (number e) _ results (number-not_zero e);
}

-- or accepted
module _ {n : ℕ} {a b : List ℕ} {m betas : List Float} (results : List Float) {k : ℕ} {early early' late late' : List ℕ} {mag mag' : List Float}
    (G : CheckedGraph n a b m [] [] betas (Ok k) early early' late late' mag mag') where
  wanted : length betas * k ≡ length betas * length (kept a b m)
  wanted = ap (λ (j : ℕ). length betas * j) G.written.edges

  pub few-couplings : length betas * k ≤ most_betas * most_edges
  few-couplings =
      let ok = is-accepted G refl in
      mul-le-mul ok.1.betas_pass.few (few G.written ok.0.lists)

  -- 12
  pub misfitting : (length results ≡ length betas * k → ⊥) → Coupled n a b m betas 12 results results
  misfitting d = record {
    answer = refused_here (parts n a b m betas results) 0 G.refusal refl (ap not (ne_eqb _ _ (λ e. d (e ∙ sym wanted))));
    coupled = refl;
  }

  -- none
  module _ (e : length results ≡ length betas * k) where
    pub fitting : (length results ≡ length betas * length (take k mag')) × (length results ≤ most_betas * most_edges)
    fitting = (e ∙ ap (λ (j : ℕ). length betas * j) (mag_part G.written), omega (arith, few-couplings))

    pub done : (results' : List Float) → results' ≡ all_couplings betas (take k mag') → Coupled n a b m betas 0 results results'
    done results' h = record {
      answer = refused_not (parts n a b m betas results) 0 G.refusal refl (ap not (eq-eqb _ _ (e ∙ wanted)));
      coupled = h ∙ ap (all_couplings betas) (front_mag G.written);
    }
