-- Laws of what specs/AcceptedJob defines.
use Rattle.std.specs.Prelude.{◌≡◌, refl, Bool, true, false, cond, not, ◌&&◌, List, [], ◌∷◌, ◌++◌, ◌⊎◌, ℕ, zero, suc, ◌*◌, ◌≤◌, ◌<◌, T, eqb, ltb, leb, pos, Float, length, get_or}
use Rattle.std.proofs.Common.{sym, ap, ◌∙◌, inl, inr, zero-mul, arith, lt→ltb, eqb-true, ltb-true, ltb-false, leb-false}
use Rattle.std.specs.Float.{nan, inf, fin}
use Rattle.std.specs.Float.Ieee.{up, down, lt, of_bits}
use Rattle.std.specs.Float.Ieee.Positive.{positive}
use Rattle.std.proofs.lemmas.Bool.{eqb-false, not-false}
use Rattle.limits.specs.declared.Caller.{Caller}
use Rattle.limits.specs.Limits.{most_window}
use Rattle.list_laws.proofs.Laws.Search.{or-false, none-at}
use Rattle.transfer_matrix.specs.Job.{window_of}
use Rattle.transfer_matrix.specs.Room as Room
use Rattle.refusals.specs.Edges.{kept, window_from, kept_early, kept_late}
use Rattle.refusals.specs.Key.{Key}
use Rattle.refusals.specs.Request.{Request, Source, lent, house, job_request, call_request, correlation_request, outside, bad_ends, bad_factor_list, passes}
use Rattle.refusals.specs.Refusal.{checks, refusal, of_graph, of_kept, of_job, of_lists, of_sweeps, of_correlations, housed, sourced}
use Rattle.refusals.proofs.Laws.First.{unless, passed-at}
use Rattle.refusals.proofs.Laws.Later.{and-true, or_else, both-passed, is_in_order, refusal_in_parts, answerable, is_among}
use Rattle.refusals.specs.Accepted.{AcceptedBetas}
use Rattle.refusals.proofs.Laws.Accepted.{accepted-graph}
use Rattle.refusals.specs.AcceptedJob.{buffers_refusal, lists_refusal, AcceptedJob, AcceptedLists, AcceptedCorrelations}

-- ---- in parts

-- a call that sweeps is asked the checks of a job, then of the lists that it is lent, then of every Z
pub behind-job : (r : Request) (lists : List Key) → is_in_order checks of_job (lists ++ of_sweeps) ≡ true → is_in_order checks lists of_sweeps ≡ true
    → refusal (of_job ++ (lists ++ of_sweeps)) r ≡ or_else (refusal of_job r) (or_else (refusal lists r) (refusal of_sweeps r))
behind-job r lists o p = refusal_in_parts of_job (lists ++ of_sweeps) r o ∙ ap (or_else (refusal of_job r)) (refusal_in_parts lists of_sweeps r p)

module _ (caller : Caller) (n floor : ℕ) (a b : List ℕ) (m : List Float) (us vs : List ℕ) where
  -- a job is asked the graph's checks, then those of the kept edges and the pairs
  pub job_in_parts : (betas : List Float) → refusal of_job (call_request caller n floor a b m us vs betas)
      ≡ or_else (refusal of_graph (job_request n floor a b m us vs betas))
      (refusal (of_kept ++ (Key.tester_window ∷ [])) (call_request caller n floor a b m us vs []))
  job_in_parts betas = refusal_in_parts of_graph (of_kept ++ (Key.tester_window ∷ [])) (call_request caller n floor a b m us vs betas) refl

  -- so is `correlations`
  pub correlations_in_parts : (source : Source) (A : Room.Arrangement) (list : List Float) (results work : ℕ) (unsound : Bool)
      → refusal (sourced source of_correlations) (correlation_request caller A n floor a b m us vs list results work unsound)
      ≡ or_else (refusal of_job (call_request caller n floor a b m us vs []))
      (or_else (lists_refusal source A n (window_from floor a b m) (length (kept a b m)) us vs list results work) (cond unsound 14 0))
  correlations_in_parts source A list results work unsound = go source
    where
      r : Request
      r = correlation_request caller A n floor a b m us vs list results work unsound

      go : (s : Source) → refusal (sourced s of_correlations) r
          ≡ or_else (refusal of_job (call_request caller n floor a b m us vs []))
          (or_else (lists_refusal s A n (window_from floor a b m) (length (kept a b m)) us vs list results work) (cond unsound 14 0))
      go lent = behind-job r of_lists refl refl
      go house = behind-job r (housed of_lists) refl refl

-- ---- a job that the checks 1 to 8 pass

pub window-wide : (floor : ℕ) (early late : List ℕ) → 1 ≤ window_of floor early late
unfolding window_of
window-wide floor early late = omega arith

module _ (caller : Caller) (n floor : ℕ) (a b : List ℕ) (m : List Float) (us vs : List ℕ) (betas : List Float) where
  pub accepted_with : refusal of_job (call_request caller n floor a b m us vs betas) ≡ 0 → AcceptedJob n floor a b m us vs × AcceptedBetas betas
  accepted_with h =
      let q = call_request caller n floor a b m us vs betas in
      let graph = accepted-graph n floor a b m us vs betas (both-passed _ _ (sym (job_in_parts caller n floor a b m us vs betas) ∙ h)).0 in
      let apart : (i : ℕ) → i < length us → (eqb (get_or us i 0) (get_or vs i 0) ≡ false) × (outside n (get_or us i 0) (get_or vs i 0) ≡ false) = λ i l.
      or-false _ _ (none-at (bad_ends n us vs) (length us) i l (passed-at of_job q h Key.pair_ends refl)) in
      let inside : (i : ℕ) → i < length us → (leb n (get_or us i 0) ≡ false) × (leb n (get_or vs i 0) ≡ false) = λ i l. or-false _ _ (apart i l).1 in (
        record {
          graph = graph.0;
          matched = graph.1.matched;
          few-pairs = graph.1.few-pairs;
          wide = window-wide floor (kept_early a b m) (kept_late a b m);
          narrow = ltb-false most_window (window_from floor a b m) (passed-at of_job q h Key.window refl);
          near = passed-at of_job q h Key.near_edges refl;
          first-inside = λ i l. leb-false n (get_or us i 0) (inside i l).0;
          second-inside = λ i l. leb-false n (get_or vs i 0) (inside i l).1;
          ends-apart = λ i l. eqb-false _ _ (apart i l).0;
        },
        graph.1.betas_pass,
      )

-- ---- and lists that 10, 12 and 13 pass

-- what passes is finite and above zero
pub passes-positive : (x : Float) → passes x ≡ true → T (positive x)
unfolding lt of_bits
passes-positive nan h = absurd (let z : ◌≡◌ {A = ℕ} 0 1 = cc in omega arith)
passes-positive (inf true) h = absurd (let z : ◌≡◌ {A = ℕ} 0 1 = cc in omega arith)
passes-positive (inf false) h = absurd (let z : ◌≡◌ {A = ℕ} 0 1 = cc in omega arith)
passes-positive (fin true m e) h = absurd (let z : ◌≡◌ {A = ℕ} 0 1 = cc in omega arith)
passes-positive (fin false zero e) h = absurd (none (0 * up (pos 0) * down e) (up e) (down (pos 0)) h)
  where
    none : (x y z : ℕ) → (ltb x (0 * y * z) && true) ≡ true → ⊥
    none x y z h = omega (arith, ltb-true x (0 * y * z) (and-true (ltb x (0 * y * z)) true h).0, zero-mul y, zero-mul z)
passes-positive (fin false (suc m) e) h = lt→ltb 0 (suc m) (omega arith)

-- what 10 passes
pub accepted-factors : (factors : List Float) (count : ℕ) → bad_factor_list factors count ≡ false
    → (length factors ≡ count) × ((e : ℕ) → e < count → passes (get_or factors e nan) ≡ true)
accepted-factors factors count h =
    let f = or-false (not (eqb (length factors) count)) _ h in
    let all : length factors ≡ count = eqb-true _ _ (not-false _ f.0) in
    (all, λ e l. not-false _ (none-at (λ i. not (passes (get_or factors i nan))) (length factors) e (omega (arith, all)) f.1))

-- what 12 and 13 pass
pub accepted-buffers : (A : Room.Arrangement) (n w edges : ℕ) (us vs : List ℕ) (misfit : Bool) (work : ℕ) → buffers_refusal A n w edges us vs misfit work ≡ 0
    → (misfit ≡ false) × (Room.room A n w edges us vs ≤ work)
accepted-buffers A n w edges us vs misfit work h =
    let t12 = unless misfit (omega arith) h in
    let t13 = unless (ltb work (Room.room A n w edges us vs)) (omega arith) t12.1 in
    (t12.0, ltb-false _ _ t13.0)

pub accepted-lists : (A : Room.Arrangement) (n w edges : ℕ) (us vs : List ℕ) (factors : List Float) (results work : ℕ)
    → lists_refusal lent A n w edges us vs factors results work ≡ 0 → AcceptedLists A n w edges us vs factors results work
accepted-lists A n w edges us vs factors results work h =
    let t10 = unless (bad_factor_list factors edges) (omega arith) h in
    let f = accepted-factors factors edges t10.0 in
    let buffers = accepted-buffers A n w edges us vs (not (eqb results (length us))) work t10.1 in
    record {
      factor-count = f.0;
      factors_pass = f.1;
      fitting = eqb-true _ _ (not-false _ buffers.0);
      enough = buffers.1;
    }

-- ---- A call that is accepted, or refused by 14 alone, has passed all before it.

-- 14 stands behind the checks of `front`, none of which answers it
pub before-14 : (front : List Key) (q : Request) (r : ℕ) → is_in_order checks front of_sweeps ≡ true → answerable checks front 14 ≡ false
    → refusal (front ++ of_sweeps) q ≡ r → (r ≡ 0) ⊎ (r ≡ 14) → refusal front q ≡ 0
before-14 front q r o a e h = go (refusal front q) (is_among front q checks) (sym (refusal_in_parts front of_sweeps q o) ∙ e) h
  where
    go : (k : ℕ) → ((k ≡ 0 → ⊥) → answerable checks front k ≡ true) → or_else k (refusal of_sweeps q) ≡ r → (r ≡ 0) ⊎ (r ≡ 14) → k ≡ 0
    go zero t e h = refl
    go (suc k) t e (inl z) = absurd (omega (arith, e, z))
    go (suc k) t e (inr z) =
        let v : true ≡ false = sym (t (λ p. omega arith)) ∙ ap (answerable checks front) (e ∙ z) ∙ a in
        absurd (let z : ◌≡◌ {A = ℕ} 0 1 = cc in omega arith)

pub accepted_correlations : (caller : Caller) (A : Room.Arrangement) (n floor : ℕ) (a b : List ℕ) (m : List Float) (us vs : List ℕ) (factors : List Float) (results work : ℕ)
    (unsound : Bool) (r : ℕ) → refusal of_correlations (correlation_request caller A n floor a b m us vs factors results work unsound) ≡ r → (r ≡ 0) ⊎ (r ≡ 14)
    → AcceptedCorrelations A n floor a b m us vs factors results work
accepted_correlations caller A n floor a b m us vs factors results work unsound r e h =
    let q = correlation_request caller A n floor a b m us vs factors results work unsound in
    let z = before-14 (of_job ++ of_lists) q r refl refl e h in
    let parts = both-passed _ _ (sym (refusal_in_parts of_job of_lists q refl) ∙ z) in
    record { job = (accepted_with caller n floor a b m us vs [] parts.0).0; lists = accepted-lists A n _ _ us vs factors results work parts.1 }
