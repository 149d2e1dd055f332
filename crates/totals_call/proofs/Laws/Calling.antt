-- A call's answer and lists, from what its checks answered and what was found.
use Rattle.std.specs.Prelude.{◌≡◌, refl, Bool, cond, not, List, ℕ, zero, suc, Float, length}
use Rattle.std.proofs.Common.{sym, ◌∙◌}
use Rattle.std.proofs.Math.Path.{ap, subst}
use Rattle.std.proofs.Math.Bool.{true, false}
use Rattle.refusals.proofs.Laws.Later.{or_else}
use Rattle.std.specs.declared.result.Result.{Result}
use Rattle.std.specs.declared.result.Result.TheVariants.{Ok, Err}
use Rattle.refusals.specs.declared.Refusal.{Refusal}
use Rattle.refusals.specs.declared.Refusal.TheVariants.{PartitionSum}
use Rattle.refusals.specs.Numbers.{number}
use Rattle.refusals.proofs.Laws.Answers.{number-not_zero}
use Rattle.job_run.specs.Zeros.{zeros}
use Rattle.entry_correlations.specs.Correlations.{settled, cleared}
use Rattle.entry_correlations.proofs.Laws.Settling.{settled_not, cleared_not}
use Rattle.totals_call.specs.Calls.{Totalled, Stored}
use Rattle.totals_call.specs.Finished.{Finished}
use Rattle.totals_call.proofs.Laws.Refusing.{Parts}

turned : (s u : Bool) → s ≡ not u → u ≡ not s
turned true true p = p
turned true false p = refl
turned false true p = refl
turned false false p = p

-- the first of two numbers that is not 0
first : (k r rest : ℕ) → (r ≡ 0 → ⊥) → k ≡ r → or_else k rest ≡ r
first zero r rest z p = absurd (z (sym p))
first (suc k) r rest z p = p

-- a number past the checks of the job, and past those of the lists
module _ {found : ℕ} (p : Parts found) (u : 0 ≡ p.early) where
  past-early : found ≡ or_else p.lists (cond p.bad 14 0)
  past-early = p.whole ∙ ap (λ (i : ℕ). or_else i (or_else p.lists (cond p.bad 14 0))) (sym u)

  past-lists : 0 ≡ p.lists → (t : Bool) → p.bad ≡ t → found ≡ cond t 14 0
  past-lists e t q = past-early ∙ ap (λ (i : ℕ). or_else i (cond p.bad 14 0)) (sym e) ∙ ap (λ (x : Bool). cond x 14 0) q

module _ {found count : ℕ} {squared fourthed : List Float} {end : ℕ} {squares fourths work : List Float} (p : Parts found) where
  -- a refusal by a check that stands before 14
  refused_by : (e : Refusal) → (number e ≡ 14 → ⊥) → found ≡ number e
      → Totalled found count squared fourthed end (Err e) squares squares fourths fourths work work
  refused_by e q s =
      let z = number-not_zero e in
      record {
        answer = (sym s, tt);
        squares_are = settled_not (number e) squared squares z q ∙ ap (λ (k : ℕ). settled k squared squares) (sym s);
        fourths_are = settled_not (number e) fourthed fourths z q ∙ ap (λ (k : ℕ). settled k fourthed fourths) (sym s);
        memory = cleared_not (number e) end work z q ∙ ap (λ (k : ℕ). cleared k end work) (sym s);
      }

  pub refused-early : (e : Refusal) → number e ≡ p.early → Totalled found count squared fourthed end (Err e) squares squares fourths fourths work work
  refused-early e s = refused_by e (λ h. p.early-other (sym s ∙ h)) (p.whole ∙ first p.early (number e) _ (number-not_zero e) (sym s))

  pub refused-lists : 0 ≡ p.early → (e : Refusal) → number e ≡ p.lists
      → Totalled found count squared fourthed end (Err e) squares squares fourths fourths work work
  refused-lists u e s =
      refused_by e (λ h. p.lists-other (sym s ∙ h)) (past-early p u ∙ first p.lists (number e) _ (number-not_zero e) (sym s))

  -- by none of these: what was found decides
  pub all-added : {n : ℕ} {s : Bool} {squares' fourths' work' : List Float} → 0 ≡ p.early → 0 ≡ p.lists
      → Finished p.bad squared fourthed n end s squares' fourths' work work' → s ≡ true → (c : ℕ) → c ≡ count
      → Totalled found count squared fourthed end (Ok c) squares squares' fourths fourths' work work'
  unfolding settled cleared
  all-added {n} {squares' = squares'} {fourths'} {work'} u e f y c q =
      let g = subst (λ (x : Bool). Finished p.bad squared fourthed n end x squares' fourths' work work') y f in
      rw (past-lists p u e false (turned true p.bad g.squares_are.verdict)) (record {
        answer = (refl, q);
        squares_are = g.squares_are.values;
        fourths_are = g.fourths_are.values;
        memory = g.memory;
      })

  pub refused-14 : {n : ℕ} {s : Bool} {squares' fourths' work' : List Float} → 0 ≡ p.early → 0 ≡ p.lists
      → Finished p.bad squared fourthed n end s squares' fourths' work work' → s ≡ false → length squares ≡ n → length fourths ≡ n
      → Totalled found count squared fourthed end (Err PartitionSum) squares squares' fourths fourths' work work'
  unfolding settled cleared
  refused-14 {n} {squares' = squares'} {fourths'} {work'} u e f y h i =
      let g = subst (λ (x : Bool). Finished p.bad squared fourthed n end x squares' fourths' work work') y f in
      rw (past-lists p u e true (turned false p.bad g.squares_are.verdict)) (record {
        answer = (refl, tt);
        squares_are = g.squares_are.values ∙ ap zeros (sym h);
        fourths_are = g.fourths_are.values ∙ ap zeros (sym i);
        memory = g.memory;
      })

-- a call with one list, from one that has it twice
pub once : {number count : ℕ} {correlations : List Float} {end : ℕ} {r : Result ℕ Refusal} {stored stored' work work' : List Float}
    → Totalled number count correlations correlations end r stored stored' stored stored' work work'
    → Stored number count correlations end r stored stored' work work'
once g = record { answer = g.answer; stored_are = g.squares_are; memory = g.memory }
