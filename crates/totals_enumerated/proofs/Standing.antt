-- A run through configurations: the backward vectors that stand from one to the next.
use mathlib.Core.Path.{◌≡◌, sym, ap, ◌∙◌}
use mathlib.Core.Bool.{Bool, false}
use mathlib.Core.List.{List}
use mathlib.Core.Logic.{dite}
use Prim.Native.Nat.{ℕ, ◌+◌, ◌-◌, ◌<◌}
use native.Mathlib.Decide.{dec_lt}
use native.Mathlib.Omega.{arith}
use lib.Ieee.{Float, nan}
use lib.ListN.{length, get_or}
use Rattle.edge_bits.specs.Having.{has_bit}
use Rattle.list_laws.proofs.Laws.Tabulate.{tabulate-length, tabulate-at}
use Rattle.transfer_matrix.specs.Job.{Job}
use Rattle.transfer_matrix.specs.Configuration.{enumerated_minus, lent_at}
use Rattle.vertex_step.specs.Ready.{Ready, Backward}
use Rattle.sweep_places.specs.Begun.{Stands}
use Rattle.sweep_places.proofs.Laws.Reuse.{reads_map, backward-stands}
use Rattle.totals_signs.specs.Signed.{factors_in_use}
use Rattle.totals_configuration.specs.declared.JobShape.{JobShape}
use Rattle.totals_configuration.specs.Signed.{PlanOfSigns}
use Rattle.totals_reuse.specs.Settled.{Settled, EdgesIn, StandingFrom}
use Rattle.totals_enumerated.specs.Configurations.{enumerated_signs, PlanOfBeta}

-- the plan's edges can be read
pub edges_in : {plan : List ℕ} {end n w scales m : ℕ} → Ready plan end n w scales → scales + n + m ≡ end → EdgesIn plan m n
edges_in g e =
    record {
      holds = g.holds;
      few = λ t b. (g.vertex t b).few;
      reads = λ t b. record {
        left = λ p. omega (arith, (g.vertex t b).left);
        near = λ i p. omega (arith, (g.vertex t b).edge i p);
      };
    }

-- an edge without a bit is plus
plus : (bits : ℕ → ℕ) (x e : ℕ) → has_bit (bits e) ≡ false → enumerated_minus bits x e ≡ false
unfolding enumerated_minus
plus bits x e p = rw p

-- from the signs of configuration x to those of y
module _ (bits : List ℕ) (signs signs' : List Bool) (x y last : ℕ) (was : signs ≡ enumerated_signs bits x) (now : signs' ≡ enumerated_signs bits y)
    (same : (e : ℕ) → last < e → e < length bits → get_or signs' e false ≡ get_or signs e false) where
  sign_same : (e : ℕ) → e < length bits → Settled bits last e → get_or (enumerated_signs bits x) e false ≡ get_or (enumerated_signs bits y) e false
  sign_same e b h =
      let own : ℕ → ℕ = λ k. get_or bits k 0 in
      let at : (z : ℕ) → get_or (enumerated_signs bits z) e false ≡ enumerated_minus own z e = λ z. tabulate-at (enumerated_minus own z) (length bits) e false b in
      dite (dec_lt last e)
      (λ l.
      ap (λ (k : List Bool). get_or k e false) (sym was) ∙ sym (same e l b) ∙ ap (λ (k : List Bool). get_or k e false) now)
      (λ l. at x ∙ plus own x e (h (omega arith)) ∙ sym (at y ∙ plus own y e (h (omega arith))))

  factor-same : (factors : List Float) (b e : ℕ) → e < length bits → Settled bits last e
      → get_or (factors_in_use factors (length bits) b (enumerated_signs bits x)) e nan ≡ get_or (factors_in_use factors (length bits) b (enumerated_signs bits y)) e nan
  factor-same factors b e l h =
      let F : List Bool → ℕ → Float = λ s k. get_or factors (lent_at (length bits) b k (get_or s k false)) nan in
      tabulate-at (F (enumerated_signs bits x)) (length bits) e nan l
      ∙ ap (λ (s : Bool). get_or factors (lent_at (length bits) b e s) nan) (sign_same e l h)
      ∙ sym (tabulate-at (F (enumerated_signs bits y)) (length bits) e nan l)

-- before configuration j of a run
module _ (plan : List ℕ) (factors : List Float) (bits : List ℕ) (signs signs' : List Bool) (room : List Float) (end : ℕ) (s : JobShape)
    (b first j last c : ℕ) (g : Ready plan end s.n s.w s.scales) (ends : s.scales + s.n + length bits ≡ end)
    (from : StandingFrom plan bits last s.n j c)
    (signed : (i : ℕ) → j ≡ i + 1 → signs ≡ enumerated_signs bits (first + i)) (now : signs' ≡ enumerated_signs bits (first + j))
    (same : (e : ℕ) → last < e → e < length bits → get_or signs' e false ≡ get_or signs e false) where
  pub run_stands : (J : ℕ → Job Float) → PlanOfBeta J plan factors bits first b s → ((i : ℕ) → j ≡ i + 1 → Backward (J i) plan room s.n s.w 0)
      → Stands (J j) plan room s.n s.w c
  run_stands J of stands early =
      dite (dec_lt 0 j)
      (λ p.
      let i = j - 1 in
      let e : j ≡ i + 1 = omega arith in
      backward-stands (J i) (J j) plan _ _ room s.n s.w s.elementwise c (of i) (of j)
      (λ t a d.
      reads_map (Settled bits last) _ (g.vertex t d) (λ k l h. factor-same bits signs signs' (first + i) (first + j) last (signed i e) now same factors b k (omega arith) h)
      (from.then p t a d))
      (stands i e))
      (λ p. absurd (omega (arith, from.first (omega arith))))

-- the signs that were made are those of configuration x
pub signed-at : (J : Job Float) (plan : List ℕ) (factors : List Float) (bits : List ℕ) (signs : List Bool) (b x : ℕ) (s : JobShape) → signs ≡ enumerated_signs bits x
    → PlanOfSigns J plan factors (length bits) b (enumerated_signs bits x) s → PlanOfSigns J plan factors (length signs) b signs s
signed-at J plan factors bits signs b x s q of = rw (q, tabulate-length) of
