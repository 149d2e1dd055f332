-- A call's answer and lists, from the counts of its sheet.
use Rattle.std.specs.Prelude.{◌≡◌, true, false, ◌||◌, List, ℕ, ◌+◌, ◌*◌, ltb, length}
use Rattle.std.proofs.Common.{sym, ap, ◌∙◌, arith, ne_eqb, ltb-false}
use Rattle.std.specs.declared.result.Result.TheVariants.{Ok, Err}
use Rattle.list_laws.specs.Front.{over}
use Rattle.list_laws.specs.Tabulate.{tabulate}
use Rattle.list_laws.proofs.Laws.Search.{or-false}
use Rattle.little_endian.specs.Words.{word_at}
use Rattle.refusals.specs.declared.Refusal.{Refusal}
use Rattle.refusals.specs.declared.Refusal.TheVariants.{Buffer}
use Rattle.refusals.specs.Numbers.{number}
use Rattle.refusals.specs.Answers.{Answered, left}
use Rattle.refusals.proofs.Laws.Answers.{left_alone, number-not_zero}
use Rattle.job_sheet.specs.Counts.{SheetCounts, counted, records_of, counts_of}
use Rattle.job_sheet.specs.Sheets.{sheet_length, Sheet}
use Rattle.job_sheet.proofs.Theorems.{accepted-is-sheet}
use Rattle.job_sheet.specs.declared.counts.Counts.{Counts}
use Rattle.job_sheet_bytes.specs.Jobs.{job_in, job_of}
use Rattle.job_sheet_lists.specs.Lists.{refusal_of, ReadJob, Loads}

-- the counts of an accepted sheet
pub counted_is : (sheet : List ℕ) (c : Counts) → Answered (counts_of sheet).refusal (records_of (counts_of sheet)) (Ok c) → counts_of sheet ≡ counted c.edges c.betas c.pairs
counted_is sheet c h =
    let s = counts_of sheet in
    ap (λ (k : ℕ). record { refusal = k; edges = s.edges; betas = s.betas; pairs = s.pairs }) (sym h.0) ∙ ap (λ (d : Counts). counted d.edges d.betas d.pairs) (sym h.1)

module _ (sheet a b m x us vs : List ℕ) where
  -- a refused call leaves all lists
  untouched : (e : Refusal) → refusal_of sheet a b m x us vs ≡ number e → ReadJob sheet (Err e) a a b b m m x x us us vs vs
  untouched e k =
      let stays : (new old : List ℕ) → old ≡ left (refusal_of sheet a b m x us vs) new old = λ new old. rw k (left_alone (number e) new old (number-not_zero e)) in
      record {
        answer = (sym k, tt);
        ones = stays _ a;
        others = stays _ b;
        magnitudes = stays _ m;
        betas = stays _ x;
        firsts = stays _ us;
        seconds = stays _ vs;
      }

  -- 19 or 20
  pub refused-sheet : (e : Refusal) → number e ≡ (counts_of sheet).refusal → ReadJob sheet (Err e) a a b b m m x x us us vs vs
  refused-sheet e q = untouched e (rw (← q, ne_eqb (number e) 0 (number-not_zero e)))

  -- 12, by the first two lists that are too short
  module _ (e n p : ℕ) (k : counts_of sheet ≡ counted e n p) where
    pub short-first : (ltb (length a) e || ltb (length b) e) ≡ true → ReadJob sheet (Err Buffer) a a b b m m x x us us vs vs
    short-first s = untouched Buffer (rw (k, s))

    pub short-second : (ltb (length a) e || ltb (length b) e) ≡ false → (ltb (length m) e || ltb (length x) n) ≡ true
        → ReadJob sheet (Err Buffer) a a b b m m x x us us vs vs
    short-second s t = untouched Buffer (rw (k, s, t))

    pub short-third : (ltb (length a) e || ltb (length b) e) ≡ false → (ltb (length m) e || ltb (length x) n) ≡ false
        → (ltb (length us) p || ltb (length vs) p) ≡ true → ReadJob sheet (Err Buffer) a a b b m m x x us us vs vs
    short-third s t u = untouched Buffer (rw (k, s, t, u))

-- an accepted sheet of so many edges, betas and pairs, and lists that are long enough
pub record Roomy (sheet a b m x us vs : List ℕ) (e n p : ℕ) : Type 0 where
  pub counts : counts_of sheet ≡ counted e n p
  pub ends : (ltb (length a) e || ltb (length b) e) ≡ false
  pub doubles : (ltb (length m) e || ltb (length x) n) ≡ false
  pub pairs : (ltb (length us) p || ltb (length vs) p) ≡ false

module _ {sheet a b m x us vs : List ℕ} {e n p : ℕ} (A : Roomy sheet a b m x us vs e n p) where
  accepted : refusal_of sheet a b m x us vs ≡ 0
  accepted = rw (A.counts, A.ends, A.doubles, A.pairs)

  pub is-sheet : Sheet sheet e n p
  is-sheet =
      let h : (counts_of sheet).refusal ≡ 0 = ap (λ (c : SheetCounts). c.refusal) A.counts in
      rw A.counts at (accepted-is-sheet sheet h)

  pub places_fit : sheet_length e n p ≡ length sheet
  places_fit = sym is-sheet.size

  pub load_ones : Loads sheet 4 13 1 2 e (length a)
  load_ones = let z = places_fit in record { fits = ltb-false _ _ (or-false _ _ A.ends).0; lie = λ i h. omega arith }

  pub load_others : Loads sheet 4 13 3 2 e (length b)
  load_others = let z = places_fit in record { fits = ltb-false _ _ (or-false (ltb (length a) e) _ A.ends).1; lie = λ i h. omega arith }

  pub load_magnitudes : Loads sheet 4 13 5 8 e (length m)
  load_magnitudes = let z = places_fit in record { fits = ltb-false _ _ (or-false _ (ltb (length x) n) A.doubles).0; lie = λ i h. omega arith }

  pub load_betas : Loads sheet (4 + 13 * e) 9 1 8 n (length x)
  load_betas = let z = places_fit in record { fits = ltb-false _ _ (or-false (ltb (length m) e) _ A.doubles).1; lie = λ i h. omega arith }

  pub load_firsts : Loads sheet (4 + 13 * e + 9 * n) 5 1 2 p (length us)
  load_firsts = let z = places_fit in record { fits = ltb-false _ _ (or-false _ (ltb (length vs) p) A.pairs).0; lie = λ i h. omega arith }

  pub load_seconds : Loads sheet (4 + 13 * e + 9 * n) 5 3 2 p (length vs)
  load_seconds = let z = places_fit in record { fits = ltb-false _ _ (or-false (ltb (length us) p) _ A.pairs).1; lie = λ i h. omega arith }

  -- none
  pub loaded : {a' b' m' x' us' vs' : List ℕ} {v f : ℕ} → v ≡ word_at sheet 1 2 → f ≡ word_at sheet 3 1
      → a' ≡ over (tabulate (λ i. word_at sheet (4 + 13 * i + 1) 2) e) a → b' ≡ over (tabulate (λ i. word_at sheet (4 + 13 * i + 3) 2) e) b
      → m' ≡ over (tabulate (λ i. word_at sheet (4 + 13 * i + 5) 8) e) m
      → x' ≡ over (tabulate (λ i. word_at sheet (4 + 13 * e + 9 * i + 1) 8) n) x
      → us' ≡ over (tabulate (λ i. word_at sheet (4 + 13 * e + 9 * n + 5 * i + 1) 2) p) us
      → vs' ≡ over (tabulate (λ i. word_at sheet (4 + 13 * e + 9 * n + 5 * i + 3) 2) p) vs
      → ReadJob sheet (Ok (record { n = v; floor = f; edges = e; betas = n; pairs = p })) a a' b b' m m' x x' us us' vs vs'
  unfolding job_of job_in
  loaded q₁ q₂ q₃ q₄ q₅ q₆ q₇ q₈ = record {
    answer = (sym accepted, rw (A.counts, q₁, q₂));
    ones = q₃ ∙ rw (accepted, A.counts);
    others = q₄ ∙ rw (accepted, A.counts);
    magnitudes = q₅ ∙ rw (accepted, A.counts);
    betas = q₆ ∙ rw (accepted, A.counts);
    firsts = q₇ ∙ rw (accepted, A.counts);
    seconds = q₈ ∙ rw (accepted, A.counts);
  }
