-- The betas of one configuration, one after another.
use mathlib.Core.Path.{◌≡◌, sym, ap, ◌∙◌}
use mathlib.Core.Bool.{Bool, true, false, not}
use mathlib.Core.List.{List, ◌++◌, append-nil}
use mathlib.Core.Logic.{inr}
use Prim.Native.Nat.{ℕ, ◌+◌, ◌*◌, ◌≤◌, ◌<◌}
use native.Mathlib.Nat.{zero-add, zero-mul, mul-le-mul_right}
use native.Mathlib.Omega.{arith}
use lib.Ieee.{Float, nan, binary64, add}
use lib.ListN.{length, get_or, drop_of_length-le}
use Rattle.list_laws.specs.Part.{put}
use Rattle.list_laws.proofs.Laws.Part.{put_out, fill_none, fill_run}
use Rattle.list_laws.specs.Search.{some}
use Rattle.list_laws.proofs.Laws.Search as Search
use Rattle.list_laws.specs.Tabulate.{tabulate}
use Rattle.list_laws.proofs.Laws.Tabulate.{tabulate-length, tabulate-at, tabulate_ext}
use Rattle.transfer_matrix.specs.Job.{Job}
use Rattle.transfer_matrix.specs.Rounded.{ieee}
use Rattle.transfer_matrix.specs.Sweep as S
use Rattle.transfer_matrix.specs.Totals.{square, fourth}
use Rattle.pair_correlations.specs.Sound.{unsound, Outcome}
use Rattle.totals_sums.specs.Added.{added_at, added_to}
use Rattle.totals_configuration.proofs.Laws.Passing.{one-passed, one_failed}
use Rattle.totals_configuration.specs.Powers.{pair_at, correlation_at, AddedPowers}
use Rattle.totals_configuration.proofs.Laws.Powers.{pair-numbered}
use Rattle.totals_configuration.proofs.Laws.Lists.{put_all}
use Rattle.totals_configuration.specs.SoFar.{partly, SoFar}

-- ---- lists

pub partly_none : (l : List Float) (m : ℕ) (term : ℕ → Float) → m ≡ 0 → l ≡ partly l m term
partly_none l m term e = rw e (fill_none l 0 _)

-- a block of terms more
pub partly_more : (l v v' : List Float) (m n : ℕ) (term block : ℕ → Float) → v ≡ partly l m term → v' ≡ added_at v m n block → m + n ≤ length l
    → ((i : ℕ) → i < n → block i ≡ term (m + i)) → v' ≡ partly l (m + n) term
partly_more l v v' m n term block p q h same =
    let F : ℕ → Float = λ k. add binary64 (get_or l k nan) (term k) in
    let G : ℕ → Float = λ i. add binary64 (get_or v (m + i) nan) (block i) in
    let t = tabulate-length F m in
    let z : 0 + m ≡ m = zero-add m in
    let old : (i : ℕ) → get_or v (m + i) nan ≡ get_or l (m + i) nan =
    λ i. ap (λ (y : List Float). get_or y (m + i) nan) p ∙ put_out l 0 (tabulate F m) (omega arith) (m + i) nan (inr (omega arith)) in
    q ∙ ap (λ (y : List Float). put y m (tabulate G n)) p
    ∙ ap (λ (k : ℕ). put (put l 0 (tabulate F m)) k (tabulate G n)) (sym z)
    ∙ fill_run l 0 F G m n (omega arith) (λ i b. rw (old i, same i b))

pub partly-all : (l : List Float) (n : ℕ) (term : ℕ → Float) → n ≡ length l → partly l n term ≡ added_to l n term
unfolding put
partly-all l n term e =
    let F : ℕ → Float = λ k. add binary64 (get_or l k nan) (term k) in
    let t = tabulate-length F n in
    ap (λ (y : List Float). tabulate F n ++ y) (drop_of_length-le l {i = 0 + length (tabulate F n)} (omega arith)) ∙ append-nil (tabulate F n)

-- ---- one configuration at one beta

module _ (J : Job Float) (us vs : List ℕ) where
  pair-at : (c : List Float) → c ≡ S.answers ieee J us vs → (p : ℕ) → p < length us → get_or c p nan ≡ pair_at J us vs p
  unfolding S.answers
  pair-at c e p l = ap (λ (y : List Float). get_or y p nan) e ∙ tabulate-at (pair_at J us vs) (length us) p nan l

  -- its powers, added to a list of a number a pair
  pub pairs-added : (l v c : List Float) (power : Float → Float) → length l ≡ length us → length c ≡ length us → c ≡ S.answers ieee J us vs
      → v ≡ added_at l 0 (length c) (λ p. power (get_or c p nan)) → v ≡ added_to l (length us) (λ p. power (pair_at J us vs p))
  pairs-added l v c power long full e q =
      let F : ℕ → Float = λ i. add binary64 (get_or l (0 + i) nan) (power (get_or c i nan)) in
      q ∙ put_all l (tabulate F (length c)) (tabulate-length F (length c) ∙ full ∙ sym long)
      ∙ ap (tabulate F) full
      ∙ tabulate_ext F (λ p. add binary64 (get_or l p nan) (power (pair_at J us vs p))) (length us) (λ p b. rw (zero-add, pair-at c e p b))

-- ---- one beta more

module _ (J : ℕ → Job Float) (us vs : List ℕ) where
  -- the results of beta b are its correlations
  results_at : (b : ℕ) (c : List Float) → c ≡ S.answers ieee (J b) us vs → (i : ℕ) → i < length us → get_or c i nan ≡ correlation_at J us vs (b * length us + i)
  results_at b c e i l = pair-at (J b) us vs c e i l ∙ pair-numbered J us vs b i l

  module _ (c : List Float) (b : ℕ) (sound : Bool) (o : Outcome (J b) us vs c sound) where
    -- a beta that did not pass
    pub some-unsound : (betas : ℕ) → b < betas → sound ≡ false → false ≡ not (some (λ i. unsound (J i) us vs) betas)
    some-unsound betas l e = one_failed (λ i. unsound (J i) us vs) b sound o.told betas l e

    -- one that did
    pub sound_more : some (λ i. unsound (J i) us vs) b ≡ false → sound ≡ true → some (λ i. unsound (J i) us vs) (b + 1) ≡ false
    sound_more g e = one-passed (λ i. unsound (J i) us vs) b sound o.told g e

  module _ (squares₀ squares fourths₀ fourths c : List Float) (b : ℕ) (g : SoFar J us vs b squares₀ squares fourths₀ fourths) (sound : Bool)
      (o : Outcome (J b) us vs c sound) where
    pub beta-more : (squares' fourths' : List Float) → sound ≡ true → length c ≡ length us
        → b * length us + length us ≤ length squares₀ → b * length us + length us ≤ length fourths₀
        → squares' ≡ added_at squares (b * length us) (length c) (λ p. square ieee (get_or c p nan))
        → fourths' ≡ added_at fourths (b * length us) (length c) (λ p. fourth ieee (get_or c p nan))
        → SoFar J us vs (b + 1) squares₀ squares' fourths₀ fourths'
    beta-more squares' fourths' e long fits fits' p q =
        let m : b * length us + length us ≡ (b + 1) * length us = omega arith in
        let at = results_at b c (o.values e) in
        let square-is : (i : ℕ) → i < length us → square ieee (get_or c i nan) ≡ square ieee (correlation_at J us vs (b * length us + i)) =
        λ i l. ap (square ieee) (at i l) in
        let fourth-is : (i : ℕ) → i < length us → fourth ieee (get_or c i nan) ≡ fourth ieee (correlation_at J us vs (b * length us + i)) =
        λ i l. ap (fourth ieee) (at i l) in
        record {
          sound = sound_more c b sound o g.sound e;
          squared = rw m at (partly_more squares₀ squares squares' (b * length us) (length us) _ _ g.squared (rw long at p) fits square-is);
          fourthed = rw m at (partly_more fourths₀ fourths fourths' (b * length us) (length us) _ _ g.fourthed (rw long at q) fits' fourth-is);
        }

  -- no beta yet, and all of them
  pub none_yet : (squares fourths : List Float) → SoFar J us vs 0 squares squares fourths fourths
  none_yet squares fourths = record {
    sound = Search.start (λ i. unsound (J i) us vs);
    squared = partly_none squares _ _ (zero-mul (length us));
    fourthed = partly_none fourths _ _ (zero-mul (length us));
  }

  pub all-betas : (betas : ℕ) (squares₀ squares fourths₀ fourths : List Float) → length squares₀ ≡ betas * length us → length fourths₀ ≡ betas * length us
      → SoFar J us vs betas squares₀ squares fourths₀ fourths
      → (true ≡ not (some (λ i. unsound (J i) us vs) betas)) × AddedPowers (correlation_at J us vs) (betas * length us) squares₀ squares fourths₀ fourths
  all-betas betas squares₀ squares fourths₀ fourths p q g =
      (sym (ap not g.sound), record { squared = g.squared ∙ partly-all squares₀ _ _ (sym p); fourthed = g.fourthed ∙ partly-all fourths₀ _ _ (sym q) })

  -- ---- the same, stored

  module _ (value : ℕ → ℕ → Float) (all x betas b : ℕ) (c : List Float) (same : (k : ℕ) → k < betas * length us → correlation_at J us vs k ≡ value x k) where
    pub results-value : b < betas → c ≡ S.answers ieee (J b) us vs → (p : ℕ) → p < length us → get_or c p nan ≡ value x (b * length us + p)
    results-value l e p k =
        let h : (b + 1) * length us ≤ betas * length us = mul-le-mul_right (length us) (omega arith) in
        results_at b c e p k ∙ same (b * length us + p) (omega arith)
