-- A reading goes on from call to call and tells the same as the whole.
use Rattle.std.specs.Prelude.{◌≡◌, refl, Bool, true, false, cond, List, ℕ, zero, suc, ◌+◌, ◌-◌, ◌≤◌, ◌<◌, eqb, length}
use Rattle.std.proofs.Math.Path.{sym, ap}
use Rattle.std.proofs.Common.{subst, ◌∙◌}
use native.Mathlib.Omega.{arith}
use borrow.Author.Tests.{ne_eqb, lt-ltb, le-ltb}
use Rattle.job_sheet.specs.Records.{record_length, kind_at, refusal_at}
use Rattle.job_sheet.specs.Counts.{counted, refused, start, behind, Passed, read_from, counts_of}
use Rattle.job_sheet.proofs.Laws.Records.{length-positive, accepted}
use Rattle.job_sheet.specs.declared.counts.Reading.{Reading}

-- ---- one call

module _ (calls : ℕ) (sheet : List ℕ) (at : Reading) where
  pub read_refused : (k : ℕ) → k ≡ refusal_at sheet at.place at.last → (k ≡ 0 → ⊥) → read_from (suc calls) sheet at ≡ refused k
  unfolding read_from
  read_refused k e z = rw (← e, ne_eqb k 0 z)

  module _ (e : refusal_at sheet at.place at.last ≡ 0) where
    pub read_end : 5 ≤ kind_at sheet at.place → read_from (suc calls) sheet at ≡ counted at.edges at.betas at.pairs
    unfolding read_from
    read_end h = rw (e, le-ltb _ _ h)

    pub read_more : kind_at sheet at.place < 5 → read_from (suc calls) sheet at ≡ read_from calls sheet (behind at (kind_at sheet at.place))
    unfolding read_from
    read_more h = rw (e, lt-ltb _ _ h)

    -- so the place behind the record lies in the sheet
    pub behind-within : at.place + record_length (kind_at sheet at.place) ≤ length sheet
    behind-within = (accepted sheet at.place at.last e).whole

-- a reading behind a record, part by part
pub behind-is : (at : Reading) (kind : ℕ) {l e b p : ℕ} → l ≡ record_length kind → e ≡ at.edges + cond (eqb kind 2) 1 0
    → b ≡ at.betas + cond (eqb kind 3) 1 0 → p ≡ at.pairs + cond (eqb kind 4) 1 0
    → record { place = at.place + l; last = kind; edges = e; betas = b; pairs = p } ≡ behind at kind
unfolding behind
behind-is at kind h i j k = rw (h, i, j, k)

-- a test counts for one at most
one_at_most : (t : Bool) → cond t 1 0 ≤ 1
one_at_most true = omega arith
one_at_most false = omega arith

pub passed-behind : (at : Reading) (kind : ℕ) → Passed at → Passed (behind at kind)
unfolding behind
passed-behind at kind p =
    let l = length-positive kind in
    record {
      edges = omega (arith, one_at_most (eqb kind 2), p.edges);
      betas = omega (arith, one_at_most (eqb kind 3), p.betas);
      pairs = omega (arith, one_at_most (eqb kind 4), p.pairs);
    }

-- ---- the loop

-- the reading has come to a place, and what is left of it tells the whole
pub record Reached (sheet : List ℕ) (at : Reading) : Type 0 where
  pub calls : ℕ
  pub enough : length sheet < at.place + calls
  pub within : at.place ≤ length sheet
  pub passed : Passed at
  pub same : read_from calls sheet at ≡ counts_of sheet

pub reached-start : (sheet : List ℕ) → Reached sheet start
unfolding counts_of
reached-start sheet = record {
  calls = length sheet + 1;
  enough = omega arith;
  within = omega arith;
  passed = record { edges = omega arith; betas = omega arith; pairs = omega arith };
  same = refl;
}

module _ (sheet : List ℕ) (at : Reading) where
  -- there is a call more
  one-call : (calls : ℕ) → length sheet < at.place + calls → at.place ≤ length sheet → (n : ℕ) × (calls ≡ suc n)
  one-call zero e w = absurd (omega arith)
  one-call (suc n) e w = (n, refl)

  pub stopped_refused : Reached sheet at → (k : ℕ) → k ≡ refusal_at sheet at.place at.last → (k ≡ 0 → ⊥) → refused k ≡ counts_of sheet
  stopped_refused r k e z =
      let n = one-call r.calls r.enough r.within in
      sym (read_refused n.0 sheet at k e z) ∙ ap (λ (c : ℕ). read_from c sheet at) (sym n.1) ∙ r.same

  pub stopped_end : Reached sheet at → refusal_at sheet at.place at.last ≡ 0 → 5 ≤ kind_at sheet at.place
      → counted at.edges at.betas at.pairs ≡ counts_of sheet
  stopped_end r e h =
      let n = one-call r.calls r.enough r.within in
      sym (read_end n.0 sheet at e h) ∙ ap (λ (c : ℕ). read_from c sheet at) (sym n.1) ∙ r.same

  reached-more : Reached sheet at → refusal_at sheet at.place at.last ≡ 0 → kind_at sheet at.place < 5
      → Reached sheet (behind at (kind_at sheet at.place))
  unfolding behind
  reached-more r e h =
      let n = one-call r.calls r.enough r.within in
      let l = length-positive (kind_at sheet at.place) in
      record {
        calls = n.0;
        enough = omega (arith, r.enough, n.1);
        within = behind-within n.0 sheet at e;
        passed = passed-behind at (kind_at sheet at.place) r.passed;
        same = sym (read_more n.0 sheet at e h) ∙ ap (λ (c : ℕ). read_from c sheet at) (sym n.1) ∙ r.same;
      }

  -- a turn of the loop: the next reading, which has less left
  module _ (next : Reading) (q : next ≡ behind at (kind_at sheet at.place)) (e : refusal_at sheet at.place at.last ≡ 0) where
    pub next-reached : Reached sheet at → kind_at sheet at.place < 5 → Reached sheet next
    next-reached r h = subst (Reached sheet) (sym q) (reached-more r e h)

    pub next_less : length sheet - next.place < length sheet - at.place
    unfolding behind
    next_less =
        let l = length-positive (kind_at sheet at.place) in
        let w = behind-within 0 sheet at e in
        let p = ap (λ (r : Reading). r.place) q in
        omega arith
