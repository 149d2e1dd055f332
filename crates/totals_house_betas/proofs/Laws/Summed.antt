-- The first betas on their way: each was sound, and its row is written.
use Rattle.std.specs.Prelude.{◌≡◌, refl, Bool, true, false, not, List, ℕ, ◌+◌, ◌*◌, ◌/◌, ◌%◌, ◌≤◌, ◌<◌, Float, length}
use Rattle.std.proofs.Common.{sym, ap, ◌∙◌, zero-mul, one-mul, zero-add, arith}
use Rattle.std.proofs.Math.Path.{fun_ext}
use Rattle.std.proofs.Math.Decide.{ℕ_discrete}
use Rattle.list_laws.specs.Part.{put}
use Rattle.list_laws.specs.Search.{some}
use Rattle.list_laws.specs.Tabulate.{tabulate}
use Rattle.list_laws.proofs.Laws.Part.{fill_none, fill_run}
use Rattle.transfer_matrix.specs.Job.{Job}
use Rattle.transfer_matrix.specs.Rounded.{ieee}
use Rattle.transfer_matrix.specs.Totals.{square, fourth, sampled}
use Rattle.totals_configuration.specs.declared.JobShape.{JobShape}
use Rattle.totals_configuration.specs.Powers.{correlation_at, unsound_betas}
use Rattle.totals_configuration.specs.Stage.{EnoughFactors}
use Rattle.totals_chunks.specs.declared.Chunks.{Chunks}
use Rattle.totals_chunks.specs.Totals.{unsound_chunks, totals_over, ChunksSummed}
use Rattle.totals_house_betas.specs.Betas.{alone, PlanOfBetas, PlanOfNumbers}
use Rattle.totals_house_betas.proofs.Laws.Sound.{numbers-sound, numbers-unsound, chunks-sound, chunks-unsound}
use Rattle.totals_house_betas.proofs.Laws.Rows.{correlation-row, stored_row}
use Rattle.totals_house_betas.proofs.Laws.Filling.{fill_all}

-- what holds of all before b, and of b, holds of all before b + 1
pub one_more : (P : ℕ → Type 0) (b : ℕ) → ((i : ℕ) → i < b → P i) → P b → (i : ℕ) → i < b + 1 → P i
one_more P b before here i l = go (ℕ_discrete i b)
  where
    go : Dec (i ≡ b) → P i
    go (yes e) = rw e here
    go (no n) = before i (omega (arith, n))

unsound-is : (t : Bool) → false ≡ not t → t ≡ true
unsound-is true h = refl
unsound-is false h = h

-- the factors of one beta are enough for a job with one beta
pub factors-of-one : (factors mag m betas : ℕ) → betas ≡ 1 → mag ≡ m → factors ≡ 2 * mag → mag ≤ 4096 → EnoughFactors factors m betas
factors-of-one factors mag m betas e q f l =
    let z : betas * m ≡ m = rw (e, one-mul) in
    record { enough = omega arith; few = omega arith }

-- rows of so many columns, from the front of a list
abbrev pub rows_of : (ℕ → Float) → (columns b : ℕ) → List Float → List Float
rows_of value columns b old = put old 0 (tabulate value (b * columns))

module _ (value : ℕ → Float) (columns : ℕ) (old : List Float) where
  pub rows_none : old ≡ rows_of value columns 0 old
  rows_none = rw (zero-mul columns) (fill_none old 0 value)

  pub rows_more : (b : ℕ) (v v' s : List Float) (row : ℕ → Float) → v ≡ rows_of value columns b old → s ≡ tabulate row columns → b * columns + columns ≤ length old
      → ((i : ℕ) → i < columns → row i ≡ value (b * columns + i)) → v' ≡ put v (b * columns) s → v' ≡ rows_of value columns (b + 1) old
  rows_more b v v' s row p q fits same e =
      let k : b * columns + columns ≡ (b + 1) * columns = omega arith in
      e ∙ ap (λ (y : List Float). put v (b * columns) y) q ∙ ap (λ (y : List Float). put y (b * columns) (tabulate row columns)) p
      ∙ ap (λ (j : ℕ). put (rows_of value columns b old) j (tabulate row columns)) (sym (zero-add (b * columns)))
      ∙ fill_run old 0 value row (b * columns) columns (omega arith) same
      ∙ ap (λ (j : ℕ). put old 0 (tabulate value j)) k

  pub rows_all : (b betas : ℕ) → b ≡ betas → length old ≡ betas * columns → rows_of value columns b old ≡ tabulate value (betas * columns)
  rows_all b betas e long = ap (λ (j : ℕ). put old 0 (tabulate value (j * columns))) e ∙ fill_all old value (betas * columns) long

-- ---- chunks

module _ (J : ℕ → ℕ → ℕ → Job Float) (us vs : List ℕ) (k : Chunks) where
  abbrev pub total_at : (Float → Float) → ℕ → Float
  total_at power x = sampled ieee power k.first k.end k.size (λ i j. correlation_at (J i j) us vs x)

  abbrev pub SoundAt : ℕ → Type 0
  SoundAt b = unsound_chunks (λ i j. alone (J i j) b) us vs 1 k ≡ false

  pub record Summed (b : ℕ) (squares₀ squares fourths₀ fourths : List Float) : Type 0 where
    pub sound : (i : ℕ) → i < b → SoundAt i
    pub squared : squares ≡ rows_of (total_at (square ieee)) (length us) b squares₀
    pub fourthed : fourths ≡ rows_of (total_at (fourth ieee)) (length us) b fourths₀

  -- the totals of beta b alone are its row
  row_is : (power : Float → Float) (b x : ℕ) → x < length us
      → sampled ieee power k.first k.end k.size (λ i j. correlation_at (alone (J i j) b) us vs x) ≡ total_at power (b * length us + x)
  row_is power b x l =
      ap (sampled ieee power k.first k.end k.size) (fun_ext (λ i. fun_ext (λ j. correlation-row (J i j) us vs b x l)))

  pub summed-none : (squares fourths : List Float) → Summed 0 squares squares fourths fourths
  summed-none squares fourths = record {
    sound = λ i l. absurd (omega arith);
    squared = rows_none (total_at (square ieee)) (length us) squares;
    fourthed = rows_none (total_at (fourth ieee)) (length us) fourths;
  }

  pub summed-more : (b : ℕ) (squares₀ squares squares' s fourths₀ fourths fourths' f : List Float) (one : ℕ) → one ≡ 1 → Summed b squares₀ squares fourths₀ fourths → SoundAt b
      → s ≡ totals_over k (λ i j. correlation_at (alone (J i j) b) us vs) (one * length us) (square ieee)
      → f ≡ totals_over k (λ i j. correlation_at (alone (J i j) b) us vs) (one * length us) (fourth ieee)
      → b * length us + length us ≤ length squares₀ → b * length us + length us ≤ length fourths₀
      → squares' ≡ put squares (b * length us) s → fourths' ≡ put fourths (b * length us) f → Summed (b + 1) squares₀ squares' fourths₀ fourths'
  summed-more b squares₀ squares squares' s fourths₀ fourths fourths' f one e g now p q fits fits' u v =
      let m : one * length us ≡ length us = rw (e, one-mul) in
      record {
        sound = one_more SoundAt b g.sound now;
        squared = rows_more (total_at (square ieee)) (length us) squares₀ b squares squares' s _ g.squared (p ∙ ap (tabulate _) m) fits (row_is (square ieee) b) u;
        fourthed = rows_more (total_at (fourth ieee)) (length us) fourths₀ b fourths fourths' f _ g.fourthed (q ∙ ap (tabulate _) m) fits' (row_is (fourth ieee) b) v;
      }

  pub summed-all : (b betas : ℕ) (squares₀ squares fourths₀ fourths : List Float) → b ≡ betas → length squares₀ ≡ betas * length us → length fourths₀ ≡ betas * length us
      → Summed b squares₀ squares fourths₀ fourths → ChunksSummed J us vs betas k true squares fourths
  summed-all b betas squares₀ squares fourths₀ fourths e l m g = (
    sym (ap not (chunks-sound J us vs betas k (λ i h. g.sound i (omega arith)))),
    λ _. record {
      squared = g.squared ∙ rows_all (total_at (square ieee)) (length us) squares₀ b betas e l;
      fourthed = g.fourthed ∙ rows_all (total_at (fourth ieee)) (length us) fourths₀ b betas e m;
    },
  )

  -- where some Z of beta b is not sound
  pub not_summed : (b betas : ℕ) (squares fourths : List Float) → b < betas → false ≡ not (unsound_chunks (λ i j. alone (J i j) b) us vs 1 k)
      → ChunksSummed J us vs betas k false squares fourths
  not_summed b betas squares fourths l h = (
    sym (ap not (chunks-unsound J us vs betas k b l (unsound-is _ h))),
    λ z. absurd (no z),
  )
    where
      no : false ≡ true → ⊥
      no z = let z' : ◌≡◌ {A = ℕ} 0 1 = cc in omega arith

-- Before beta b.
pub record BetasDone (plan us vs : List ℕ) (mag betas : List Float) (bits : List ℕ) (k : Chunks) (s : JobShape) (b : ℕ) (room₀ room factors₀ factors : List Float)
    (signs₀ signs : List Bool) (c₀ c p₀ p q₀ q squares₀ squares fourths₀ fourths : List Float) : Type 0 where
  pub below : b ≤ length betas
  pub rooms : length room ≡ length room₀
  pub laid : length factors ≡ length factors₀
  pub marks : length signs ≡ length signs₀
  pub results : length c ≡ length c₀
  pub part-squareds : length p ≡ length p₀
  pub part-fourthds : length q ≡ length q₀
  pub squareds : length squares ≡ length squares₀
  pub fourthds : length fourths ≡ length fourths₀
  pub summed : (J : ℕ → ℕ → ℕ → Job Float) → PlanOfBetas J plan mag betas bits k s → Summed J us vs k b squares₀ squares fourths₀ fourths

-- ---- configurations that are stored

module _ (J : ℕ → ℕ → Job Float) (us vs : List ℕ) (all : ℕ) where
  abbrev pub stored_at : ℕ → Float
  stored_at k = correlation_at (J (k % all)) us vs (k / all)

  abbrev pub SoundAll : ℕ → Type 0
  SoundAll b = some (λ x. unsound_betas (alone (J x) b) us vs 1) all ≡ false

  pub record StoredRows (b : ℕ) (stored₀ stored : List Float) : Type 0 where
    pub sound : (i : ℕ) → i < b → SoundAll i
    pub filled : stored ≡ rows_of stored_at (length us * all) b stored₀

  pub stored-none : (stored : List Float) → StoredRows 0 stored stored
  stored-none stored = record { sound = λ i l. absurd (omega arith); filled = rows_none stored_at (length us * all) stored }

  pub stored_more : (b : ℕ) (stored₀ stored stored' s : List Float) (one all' : ℕ) → one ≡ 1 → 0 < all → all' ≡ all → StoredRows b stored₀ stored → SoundAll b
      → s ≡ tabulate (λ k. correlation_at (alone (J (k % all)) b) us vs (k / all)) (one * length us * all) → b * (length us * all') + length us * all' ≤ length stored₀
      → stored' ≡ put stored (b * (length us * all')) s → StoredRows (b + 1) stored₀ stored'
  stored_more b stored₀ stored stored' s one all' e some q g now p fits u =
      let m : one * length us * all ≡ length us * all = rw (e, one-mul) in
      record {
        sound = one_more SoundAll b g.sound now;
        filled = rows_more stored_at (length us * all) stored₀ b stored stored' s _ g.filled (p ∙ ap (tabulate _) m) (rw q at fits) (λ i l. stored_row J us vs all b i some l)
            (u ∙ ap (λ (i : ℕ). put stored (b * (length us * i)) s) q);
      }

  pub stored-all : (b betas : ℕ) (stored₀ stored : List Float) → b ≡ betas → length stored₀ ≡ betas * length us * all → StoredRows b stored₀ stored
      → (true ≡ not (some (λ x. unsound_betas (J x) us vs betas) all)) × (stored ≡ tabulate stored_at (betas * length us * all))
  stored-all b betas stored₀ stored e l g =
      let m : betas * (length us * all) ≡ betas * length us * all = omega arith in (
        sym (ap not (numbers-sound J us vs betas all (λ i h. g.sound i (omega arith)))),
        g.filled ∙ rows_all stored_at (length us * all) stored₀ b betas e (l ∙ sym m) ∙ ap (tabulate stored_at) m,
      )

  pub not_stored : (b betas : ℕ) → b < betas → false ≡ not (some (λ x. unsound_betas (alone (J x) b) us vs 1) all)
      → false ≡ not (some (λ x. unsound_betas (J x) us vs betas) all)
  not_stored b betas l h = sym (ap not (numbers-unsound J us vs betas all b l (unsound-is _ h)))

-- Before beta b.
pub record StoredDone (plan us vs : List ℕ) (mag betas : List Float) (bits : List ℕ) (s : JobShape) (all b : ℕ) (room₀ room factors₀ factors : List Float)
    (signs₀ signs : List Bool) (c₀ c stored₀ stored : List Float) : Type 0 where
  pub below : b ≤ length betas
  pub rooms : length room ≡ length room₀
  pub laid : length factors ≡ length factors₀
  pub marks : length signs ≡ length signs₀
  pub results : length c ≡ length c₀
  pub long : length stored ≡ length stored₀
  pub rows : (J : ℕ → ℕ → Job Float) → PlanOfNumbers J plan mag betas bits s → StoredRows J us vs all b stored₀ stored
