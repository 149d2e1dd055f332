-- The pairs that are not copied change nothing: where there are some, the job is refused for its vertices or for its many pairs (1 or 2),
-- and neither refusal reads a pair.
use Rattle.std.specs.Prelude.{◌≡◌, Bool, true, false, cond, List, ℕ, ◌<◌, Float, length, take}
use Rattle.std.proofs.Common.{sym, subst, ◌∙◌, arith, take_all, length-take-le, lt-ltb}
use Rattle.std.proofs.Math.Bool.{or-true}
use Rattle.std.proofs.Math.Decide.{dec_lt}
use Rattle.std.proofs.lemmas.List.{length-map}
use Rattle.limits.specs.declared.Caller.{Caller}
use Rattle.refusals.specs.Request.{Request, bad_vertices, bad_lists, correlation_request}
use Rattle.refusals.specs.Refusal.{refusal, of_correlations}
use Rattle.plan_layout.specs.declared.Arrangement.{Arrangement}
use Rattle.plan_layout.specs.Arrangements.{arrangement_of}
use Rattle.pair_correlations.specs.Sound.{unsound}
use Rattle.entry_correlations.specs.declared.Manner.{Manner}
use Rattle.entry_correlations.specs.Correlations.{Correlated, job_given}
use Rattle.entry_correlations.proofs.Laws.Settling.{settled_not, cleared_not}
use Rattle.c_pair_records.specs.declared.Pair.{Pair}
use Rattle.c_pair_records.specs.declared.Ends.{Ends}
use Rattle.c_pair_records.specs.Columns.{firsts, seconds, first_ends, second_ends, most_copied, gathered}
use Rattle.c_pair_records.proofs.Laws.Held.{first-ends-held, second-ends-held}

many-pairs : (q : Request) → 256 < length q.firsts → bad_lists q ≡ true
many-pairs q h = simp (lt-ltb _ _ h, or-true)

-- with more pairs than a job may have, its first two checks decide
refused-many : (q : Request) → 256 < length q.firsts → refusal of_correlations q ≡ cond (bad_vertices q) 1 2
refused-many q h = rw (many-pairs q h)

-- neither leaves anything in the lists
not_kept : (t : Bool) (r : ℕ) → r ≡ cond t 1 2 → (r ≡ 0 → ⊥) × (r ≡ 14 → ⊥)
not_kept true r e = (λ z. omega arith, λ z. omega arith)
not_kept false r e = (λ z. omega arith, λ z. omega arith)

module _ (n floor : ℕ) (a b : List ℕ) (m factors : List Float) (manner : Manner) (arrangement : Arrangement) (caller : Caller) (r : ℕ) (results results' work work' : List Float) where
  -- the answer and the lists are those of a call with these pairs
  abbrev Answered : List ℕ → List ℕ → Type 0
  Answered us vs = Correlated n floor a b m us vs factors manner arrangement caller r results results' work work'

  abbrev request : List ℕ → List ℕ → Request
  request us vs =
      correlation_request caller (arrangement_of arrangement) n floor a b m us vs factors (length results) (length work) (unsound (job_given n floor a b m factors manner) us vs)

  -- too many pairs are refused alike, whatever they are
  alike : (us vs us' vs' : List ℕ) → 256 < length us → 256 < length us' → Answered us vs → Answered us' vs'
  alike us vs us' vs' h h' c =
      let e : r ≡ cond (bad_vertices (request us vs)) 1 2 = c.answer ∙ refused-many (request us vs) h in
      let apart = not_kept (bad_vertices (request us vs)) r e in
      record {
        answer = e ∙ sym (refused-many (request us' vs') h');
        answers = c.answers ∙ sym (settled_not r _ results apart.0 apart.1) ∙ settled_not r _ results apart.0 apart.1;
        memory = c.memory ∙ sym (cleared_not r _ work apart.0 apart.1) ∙ cleared_not r _ work apart.0 apart.1;
      }

  -- the first 257 pairs answer for all
  uncopied : (us vs : List ℕ) → length us ≡ length vs → Answered (take most_copied us) (take most_copied vs) → Answered us vs
  uncopied us vs e c = go (dec_lt 256 (length us))
    where
      go : Dec (256 < length us) → Answered us vs
      go (yes h) = alike (take most_copied us) (take most_copied vs) us vs (omega (arith, length-take-le most_copied us (omega arith))) h c
      go (no h) = subst (λ (l : List ℕ). Answered us l) (take_all most_copied vs (omega arith))
          (subst (λ (l : List ℕ). Answered l (take most_copied vs)) (take_all most_copied us (omega arith)) c)

  -- a call with the ends that were gathered is one with all pairs
  pub answered : (pairs : List Pair) (e : Ends) → e ≡ gathered pairs → Answered (first_ends e) (second_ends e) → Answered (firsts pairs) (seconds pairs)
  answered pairs e g c =
      uncopied (firsts pairs) (seconds pairs) (length-map pairs (λ (p : Pair). p.u) ∙ sym (length-map pairs (λ (p : Pair). p.v)))
      (subst (λ (l : List ℕ). Answered (take most_copied (firsts pairs)) l) (second-ends-held pairs e g)
      (subst (λ (l : List ℕ). Answered l (second_ends e)) (first-ends-held pairs e g) c))
