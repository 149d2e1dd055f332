-- What a call for a graph leaves, from the refusal that was found and the lists as they were written.
use Rattle.std.specs.Prelude.{◌≡◌, refl, Result, Ok, Err, List, ℕ, zero, suc, Float, length}
use Rattle.std.proofs.Common.{sym, ap₂, ◌∙◌, arith}
use Rattle.transfer_matrix.specs.Job.{window_of}
use Rattle.refusals.specs.declared.Refusal.{Refusal}
use Rattle.refusals.specs.Numbers.{number}
use Rattle.refusals.specs.Edges.{Kept, early_ends, late_ends}
use Rattle.refusals.proofs.Laws.Answers.{number-not_zero, answered-only}
use Rattle.graph_edges.specs.Graphs.{WrittenKept, Set}
use Rattle.graph_edges.specs.declared.Graph.{Graph}

-- refused before anything was written
pub refused-set : (K n floor : ℕ) (es : List Kept) (e : Refusal) (early late : List ℕ) (mag : List Float) (raw : List ℕ) → number e ≡ K
    → Set K n floor es (Err e) early early late late mag mag raw raw
refused-set zero n floor es e early late mag raw p = absurd (number-not_zero e p)
refused-set (suc k) n floor es e early late mag raw p = record { answer = (p, tt); earlies = refl; lates = refl; mags = refl; raws = refl }

module _ {es : List Kept} {early early' late late' : List ℕ} {mag mag' : List Float} {raw raw' : List ℕ} where
  -- refused since the lists are too short
  pub short-set : (K n floor : ℕ) (e : Refusal) → number e ≡ K → WrittenKept es (number e) early early' late late' mag mag' raw raw'
      → Set K n floor es (Err e) early early' late late' mag mag' raw raw'
  short-set zero n floor e p W = absurd (number-not_zero e p)
  short-set (suc k) n floor e p W =
      record { answer = (p, tt); earlies = rw p at W.earlies; lates = rw p at W.lates; mags = rw p at W.mags; raws = rw p at W.raws }

  -- accepted
  pub kept_set : (K n floor w k : ℕ) → 0 ≡ K → WrittenKept es 0 early early' late late' mag mag' raw raw' → k ≡ length es
      → w ≡ window_of floor (early_ends es) (late_ends es)
      → Set K n floor es (Ok (record { n = n; win = w; edges = k })) early early' late late' mag mag' raw raw'
  kept_set zero n floor w k e W q p =
      record {
        answer = (refl, ap₂ (λ x y. record { n = n; win = x; edges = y }) p q);
        earlies = W.earlies;
        lates = W.lates;
        mags = W.mags;
        raws = W.raws;
      }
  kept_set (suc j) n floor w k e W q p = absurd (omega arith)

-- two accepted calls for the graph of the same edges, whose lists held the same, answer and leave the same
pub alike : {K K' n floor : ℕ} {es : List Kept} {r r' : Result Graph Refusal} {early early' early'' late late' late'' : List ℕ} {mag mag' mag'' : List Float} {raw raw' raw'' : List ℕ}
    → K ≡ 0 → K' ≡ 0 → Set K n floor es r early early' late late' mag mag' raw raw' → Set K' n floor es r' early early'' late late'' mag mag'' raw raw''
    → (r ≡ r') × (early' ≡ early'') × (late' ≡ late'') × (mag' ≡ mag'') × (raw' ≡ raw'')
alike p q S T = (
  answered-only 0 _ _ _ (rw p at S.answer) (rw q at T.answer),
  rw p at S.earlies ∙ sym (rw q at T.earlies),
  rw p at S.lates ∙ sym (rw q at T.lates),
  rw p at S.mags ∙ sym (rw q at T.mags),
  rw p at S.raws ∙ sym (rw q at T.raws),
)
