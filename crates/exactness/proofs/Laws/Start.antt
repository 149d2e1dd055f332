-- A step at vertex 0 with scale one half leaves the start as it is: no edge ends at vertex 0.
use Rattle.std.specs.Prelude.{◌≡◌, refl, Bool, true, false, cond, List, [], ◌∷◌, ℕ, zero, suc, ◌+◌, ◌-◌, ◌/◌, ◌^◌, ◌<◌}
use Rattle.std.proofs.Common.{sym, ◌∙◌, ap, arith, ne_eqb}
use Rattle.std.proofs.Math.Option.{none}
use Rattle.transfer_matrix.specs.Arithmetic.{Ops}
use Rattle.list_laws.specs.Bits.{bit}
use Rattle.list_laws.proofs.Laws.Tabulate.{tabulate_ext}
use Rattle.transfer_matrix.specs.Job.{Edge, Job, Step, back_edge, back_edges, step_of}
use Rattle.transfer_matrix.specs.Checked.{All, Kept, Checked}
use Rattle.transfer_matrix.specs.Sweep.{at, forward_at, forward_step, start}
use Rattle.exactness.proofs.Laws.Algebra as L
use Rattle.exactness.proofs.Laws.Algebra.{Laws, Pos}
use Rattle.exactness.proofs.Laws.Entries as E
use Rattle.exactness.proofs.Laws.Step as St

none-at-0 : {K : Type 0} (P : K → Type 0) (J : Job K) (es : List (Edge K)) → All (Kept P J) es → (d : ℕ) → back_edge es 0 d ≡ none
unfolding back_edge
none-at-0 P J [] k d = refl
none-at-0 P J (e ∷ es) k d = cc (ne_eqb e.late 0 (λ h. omega (arith, k.0.ordered)), none-at-0 P J es k.1 d)

others-at-0 : {K : Type 0} (P : K → Type 0) (J : Job K) → All (Kept P J) J.edges → (d n : ℕ) → back_edges J.edges 0 d n ≡ []
unfolding back_edges
others-at-0 P J k d zero = refl
others-at-0 P J k d (suc n) = rw (none-at-0 P J J.edges k d) (others-at-0 P J k (suc d) n)

module _ (O : Ops) where
  open O use {K, 𝟙, ◌⊕◌, ◌⊗◌, ◌⊘◌}

  infixl 60 ◌⊕◌
  infixl 70 ◌⊗◌
  infixl 70 ◌⊘◌
  abbrev pub one_half : K
  one_half = 𝟙 ⊘ (𝟙 ⊕ 𝟙)

  module _ (LW : Laws O) (J : Job K) (ok : Checked (Pos O) J) where
    open LW use {⊗-one, ⊗_inv, pos_one, pos_⊕, pos_inv}

    pub half-positive : Pos O one_half
    half-positive = pos_inv _ (pos_⊕ _ _ pos_one pos_one)

    free : Step K
    free = record { left = none; others = [] }

    step-at-0 : step_of J 0 ≡ free
    unfolding free
    step-at-0 = λ i. record {
      left = none-at-0 (Pos O) J J.edges ok.edges J.window i;
      others = others-at-0 (Pos O) J ok.edges 1 (J.window - 1) i;
    }

    one : (x y : K) → x ≡ 𝟙 → y ≡ 𝟙 → (𝟙 ⊗ x ⊕ 𝟙 ⊗ y) ⊗ (𝟙 ⊗ one_half) ≡ 𝟙
    one x y a b = rw (a, b, ⊗-one 𝟙, L.one-⊗ O LW one_half) (⊗_inv (𝟙 ⊕ 𝟙) (pos_⊕ _ _ pos_one pos_one))

    either : (c : Bool) (x y : K) → x ≡ 𝟙 → y ≡ 𝟙 → cond c x y ≡ 𝟙
    either true x y a b = a
    either false x y a b = b

    entry : (v : ℕ → K) (j : ℕ) → v (j / 2) ≡ 𝟙 → v (2 ^ (J.window - 1) + j / 2) ≡ 𝟙 → forward_at O J.window free one_half v j ≡ 𝟙
    unfolding forward_at free
    entry v j a b = either (bit 0 j) _ _ (one _ _ a b) (one _ _ a b)

    stays : forward_step O J.window free one_half (start O J.window) ≡ start O J.window
    unfolding forward_step start
    stays = tabulate_ext _ _ (2 ^ J.window) each
      where
        each : (j : ℕ) → j < 2 ^ J.window → forward_at O J.window free one_half (at O (start O J.window)) j ≡ 𝟙
        each j l =
            let e = St.size-halves O LW J.window ok.window in
            entry (at O (start O J.window)) j
            (E.start-at O J.window (j / 2) (omega arith))
            (E.start-at O J.window (2 ^ (J.window - 1) + j / 2) (omega arith))

    pub start_stays : start O J.window ≡ forward_step O J.window (step_of J 0) one_half (start O J.window)
    start_stays = sym (ap (λ s. forward_step O J.window s one_half (start O J.window)) step-at-0 ∙ stays)
