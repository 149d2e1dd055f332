-- The draws of a dilution: one edge's, and the list of magnitudes on its way.
use mathlib.Core.Path.{◌≡◌, refl, sym, ap, ◌∙◌}
use mathlib.Core.Bool.{true, false, cond}
use mathlib.Core.List.{List, [], ◌∷◌, ◌++◌}
use Prim.Native.Nat.{ℕ, ◌+◌, ◌<◌}
use native.Mathlib.Numerals.{add-one}
use native.Mathlib.Omega.{arith}
use lib.Bits.{bit_xor}
use lib.Ieee.{Float, binary64, add, sub, mul, lt, of_bits}
use lib.ListN.{length, drop, set, length-set, length-map}
use lib.Seq.{drop_at}
use Rattle.list_laws.specs.Front.{over}
use Rattle.list_laws.proofs.Laws.Front.{over-more}
use Rattle.list_laws.specs.Tabulate.{tabulate}
use Rattle.list_laws.proofs.Laws.Tabulate.{tabulate_suc, tabulate-length}
use Rattle.rng.specs.Xoshiro.{output, next, seeded}
use Rattle.rng.specs.Uniform.{unit}
use Rattle.refusals.specs.StripRequest.{Dilution}
use Rattle.strip_bonds.specs.declared.Edge.{Edge}
use Rattle.strip_bonds.specs.Edges.{one, unit_magnitudes}
use Rattle.strip_dilution.specs.Diluted.{uniform, advanced, magnitude, magnitudes, state_at}

-- what the generator ensures, in the definition's words
pub uniform-is : (state : List ℕ) {u : Float} → u ≡ unit (output state) → u ≡ uniform state
unfolding uniform
uniform-is state p = p

pub advanced-is : (state : List ℕ) {after : List ℕ} → after ≡ next state → after ≡ advanced state
unfolding advanced
advanced-is state p = p

magnitude-is : (d : Dilution) (state : List ℕ) → magnitude d state
    ≡ cond (lt (uniform state) d.keep) (add binary64 d.low (mul binary64 (sub binary64 d.high d.low) (uniform (advanced state)))) (of_bits binary64 0)
unfolding magnitude
magnitude-is d state = refl

module _ (d : Dilution) (state : List ℕ) {mid : List ℕ} {u v : Float} (p : u ≡ uniform state) (q : mid ≡ advanced state) (r : v ≡ uniform mid) where
  pub kept-magnitude : lt u d.keep ≡ true → add binary64 d.low (mul binary64 (sub binary64 d.high d.low) v) ≡ magnitude d state
  kept-magnitude t = rw (magnitude-is, ← p, t, ← q, r)

  pub dropped-magnitude : lt u d.keep ≡ false → of_bits binary64 0 ≡ magnitude d state
  dropped-magnitude t = rw (magnitude-is, ← p, t)

-- ---- the loop
pub state-first : (seed : ℕ) → state_at seed 0 ≡ seeded (bit_xor seed 0xd11)
unfolding state_at
state-first seed = refl

pub state-next : (seed i : ℕ) → state_at seed (i + 1) ≡ advanced (advanced (state_at seed i))
unfolding state_at
state-next seed i = rw add-one

pub record Drawing (d : Dilution) (seed i : ℕ) (mag₀ mag : List Float) (state : List ℕ) : Type 0 where
  pub drawn : mag ≡ over (magnitudes d seed i) mag₀
  pub at : state ≡ state_at seed i
  pub kept : length mag ≡ length mag₀

pub draw_none : (d : Dilution) (seed : ℕ) (mag : List Float) (state : List ℕ) → state ≡ seeded (bit_xor seed 0xd11) → Drawing d seed 0 mag mag state
unfolding tabulate
draw_none d seed mag state e = record { drawn = refl; at = e ∙ sym (state-first seed); kept = refl }

pub draw_more : (d : Dilution) (seed i : ℕ) {mag₀ mag : List Float} {state after : List ℕ} {x : Float} → Drawing d seed i mag₀ mag state → i < length mag₀
    → x ≡ magnitude d state → after ≡ advanced (advanced state) → Drawing d seed (i + 1) mag₀ (set mag i x) after
draw_more d seed i {mag₀} {mag} {state} {after} {x} D l p q =
    let f : ℕ → Float = λ j. magnitude d (state_at seed j) in
    let n = tabulate-length f i in
    let s : tabulate f (i + 1) ≡ tabulate f i ++ (f i ∷ []) = rw add-one (tabulate_suc f i) in
    let y : x ≡ f i = p ∙ ap (magnitude d) D.at in
    record {
      drawn = rw (s, D.drawn, y) (over-more (tabulate f i) mag₀ i (f i) (omega arith) l);
      at = q ∙ ap (λ z. advanced (advanced z)) D.at ∙ sym (state-next seed i);
      kept = length-set mag i x ∙ D.kept;
    }

-- a front over another of its length
over-again : {A : Type 0} (a b c : List A) → length a ≡ length b → over a (over b c) ≡ over a c
over-again a b c e = ap (λ z. a ++ z) (rw e (drop_at b (drop (length b) c) (length b) refl))

-- the drawn magnitudes take the places of the unit ones
pub drawn-over : (d : Dilution) (seed k : ℕ) (es : List Edge) (mag₀ : List Float) {mag mag' : List Float} → k ≡ length es → mag ≡ over (unit_magnitudes es) mag₀
    → mag' ≡ over (magnitudes d seed k) mag → mag' ≡ over (magnitudes d seed (length es)) mag₀
drawn-over d seed k es mag₀ n p q =
    let m = magnitudes d seed k in
    let l : length m ≡ length (unit_magnitudes es) = tabulate-length (λ i. magnitude d (state_at seed i)) k ∙ n ∙ sym (length-map es (λ e. one)) in
    rw (← n) (q ∙ ap (over m) p ∙ over-again m (unit_magnitudes es) mag₀ l)
