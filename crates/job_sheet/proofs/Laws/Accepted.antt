-- What the reader accepts is a sheet, and 20 is answered of a sheet with bytes behind it.
use Rattle.std.specs.Prelude.{◌≡◌, refl, Bool, List, ◌⊎◌, ℕ, zero, suc, ◌+◌, ◌≤◌, ◌<◌, ltb, length}
use Rattle.std.proofs.Math.Path.{sym, ap, subst}
use Rattle.std.proofs.Common.{◌∙◌, inl}
use Rattle.std.proofs.Math.Bool.{true, false}
use Rattle.std.proofs.Math.Logic.{inr}
use Rattle.std.proofs.Math.Numerals.{add-one}
use native.Mathlib.Omega.{arith}
use Rattle.std.proofs.Math.Dec.{eqb}
use borrow.Author.Tests.{eqb-true, eqb-false, ltb-true, ltb-false}
use Rattle.job_sheet.specs.Records.{record_length, kind_at, refusal_at}
use Rattle.job_sheet.specs.Counts.{SheetCounts, counted, refused, start, behind, read_from, counts_of}
use Rattle.job_sheet.specs.Sheets.{edge_place, beta_place, pair_place, end_place, sheet_length, Front, Sheet}
use Rattle.job_sheet.proofs.Laws.Records.{Behind, follows, stands, accepted, refusal-number, ended, tailed, has_body, length-5}
use Rattle.job_sheet.proofs.Laws.Counts.{read_refused, read_end, read_more}
use Rattle.job_sheet.proofs.Laws.Steps.{reading, behind-1, behind-2, behind-3, behind-4}
use Rattle.job_sheet.specs.declared.counts.Reading.{Reading}

module _ (bytes : List ℕ) where
  -- what has been read on the way
  pub record Read (at : Reading) : Type 0 where
    pub started : 1 ≤ at.last
    pub place : at.place ≡ end_place at.edges at.betas at.pairs
    pub no_betas : at.last ≤ 2 → at.betas ≡ 0
    pub no_pairs : at.last ≤ 3 → at.pairs ≡ 0
    pub first : kind_at bytes 0 ≡ 1
    pub edge : (i : ℕ) → i < at.edges → kind_at bytes (edge_place i) ≡ 2
    pub beta : (i : ℕ) → i < at.betas → kind_at bytes (beta_place at.edges i) ≡ 3
    pub pair : (i : ℕ) → i < at.pairs → kind_at bytes (pair_place at.edges at.betas i) ≡ 4

  -- one more
  and_next : (where-is : ℕ → ℕ) (kind n place : ℕ) → ((i : ℕ) → i < n → kind_at bytes (where-is i) ≡ kind) → place ≡ where-is n → kind_at bytes place ≡ kind
      → (i : ℕ) → i < n + 1 → kind_at bytes (where-is i) ≡ kind
  and_next at kind n place h q e i l = go (ltb i n) refl
    where
      go : (t : Bool) → ltb i n ≡ t → kind_at bytes (at i) ≡ kind
      go true a = h i (ltb-true i n a)
      go false a =
          let same : i ≡ n = omega (arith, ltb-false i n a) in
          ap (λ (j : ℕ). kind_at bytes (at j)) same ∙ ap (kind_at bytes) (sym q) ∙ e

  module _ (at : Reading) (r : Read at) (b : Behind at.last (kind_at bytes at.place)) where
    edge_read : kind_at bytes at.place ≡ 2 → Read (reading (at.place + 13) 2 (at.edges + 1) at.betas at.pairs)
    edge_read e =
        let z = r.no_betas (omega (arith, b.up)) in
        let y = r.no_pairs (omega (arith, b.up)) in
        record {
          started = omega arith;
          place = omega (arith, r.place);
          no_betas = λ _. z;
          no_pairs = λ _. y;
          first = r.first;
          edge = and_next edge_place 2 at.edges at.place r.edge (omega (arith, r.place)) e;
          beta = λ i l. absurd (omega arith);
          pair = λ i l. absurd (omega arith);
        }

    beta_read : kind_at bytes at.place ≡ 3 → Read (reading (at.place + 9) 3 at.edges (at.betas + 1) at.pairs)
    beta_read e =
        let y = r.no_pairs (omega (arith, b.up)) in
        record {
          started = omega arith;
          place = omega (arith, r.place);
          no_betas = λ l. absurd (omega arith);
          no_pairs = λ _. y;
          first = r.first;
          edge = r.edge;
          beta = and_next (beta_place at.edges) 3 at.betas at.place r.beta (omega (arith, r.place)) e;
          pair = λ i l. absurd (omega arith);
        }

    pair_read : kind_at bytes at.place ≡ 4 → Read (reading (at.place + 5) 4 at.edges at.betas (at.pairs + 1))
    pair_read e = record {
      started = omega arith;
      place = omega (arith, r.place);
      no_betas = λ l. absurd (omega arith);
      no_pairs = λ l. absurd (omega arith);
      first = r.first;
      edge = r.edge;
      beta = r.beta;
      pair = and_next (pair_place at.edges at.betas) 4 at.pairs at.place r.pair (omega (arith, r.place)) e;
    }

    more_read : kind_at bytes at.place < 5 → Read (behind at (kind_at bytes at.place))
    more_read h = go (eqb (kind_at bytes at.place) 2) (eqb (kind_at bytes at.place) 3) refl refl
      where
        go : (s t : Bool) → eqb (kind_at bytes at.place) 2 ≡ s → eqb (kind_at bytes at.place) 3 ≡ t → Read (behind at (kind_at bytes at.place))
        go true t p q = let e = eqb-true _ _ p in subst Read (sym (ap (behind at) e ∙ behind-2 at)) (edge_read e)
        go false true p q = let e = eqb-true _ _ q in subst Read (sym (ap (behind at) e ∙ behind-3 at)) (beta_read e)
        go false false p q =
            let n = eqb-false (kind_at bytes at.place) 2 p in
            let o = eqb-false (kind_at bytes at.place) 3 q in
            let e : kind_at bytes at.place ≡ 4 = omega (arith, b.from, n, o) in
            subst Read (sym (ap (behind at) e ∙ behind-4 at)) (pair_read e)

    all_read : 5 ≤ kind_at bytes at.place → Front bytes at.edges at.betas at.pairs
    all_read h = record {
      first = r.first;
      edge = r.edge;
      beta = r.beta;
      pair = r.pair;
      end = let e : kind_at bytes at.place ≡ 5 = omega (arith, b.to) in ap (kind_at bytes) (sym r.place) ∙ e;
    }

  -- what the counts of a reading tell
  pub record Told (c : SheetCounts) : Type 0 where
    pub number : (c.refusal ≡ 0) ⊎ ((c.refusal ≡ 19) ⊎ (c.refusal ≡ 20))
    pub whole : c.refusal ≡ 0 → Sheet bytes c.edges c.betas c.pairs
    pub tail : c.refusal ≡ 20 → (e : ℕ) × (b : ℕ) × (p : ℕ) × Front bytes e b p × (sheet_length e b p < length bytes)

  behind-later : (at : Reading) → 1 ≤ at.last → (refusal_at bytes at.place at.last ≡ 19 → ⊥) → Behind at.last (kind_at bytes at.place)
  behind-later at l h = go (follows _ _ (stands bytes at.place at.last h).order)
    where
      go : ((at.last ≡ 0) × (kind_at bytes at.place ≡ 1)) ⊎ ((1 ≤ at.last) × Behind at.last (kind_at bytes at.place))
          → Behind at.last (kind_at bytes at.place)
      go (inl z) = absurd (omega (arith, z.0))
      go (inr b) = b.1

  -- a refusal
  refused-tells : (at : Reading) (k : ℕ) → Read at → refusal_at bytes at.place at.last ≡ k → (k ≡ 0 → ⊥) → Told (refused k)
  refused-tells at k r e z = record { number = which (refusal-number bytes at.place at.last); whole = λ q. absurd (z q); tail = tail }
    where
      which : ((refusal_at bytes at.place at.last ≡ 0) ⊎ ((refusal_at bytes at.place at.last ≡ 19) ⊎ (refusal_at bytes at.place at.last ≡ 20)))
          → (k ≡ 0) ⊎ ((k ≡ 19) ⊎ (k ≡ 20))
      which (inl p) = inl (sym e ∙ p)
      which (inr (inl p)) = inr (inl (sym e ∙ p))
      which (inr (inr p)) = inr (inr (sym e ∙ p))

      tail : k ≡ 20 → (e : ℕ) × (b : ℕ) × (p : ℕ) × Front bytes e b p × (sheet_length e b p < length bytes)
      tail q =
          let t = tailed bytes at.place at.last (e ∙ q) in
          let b = behind-later at r.started (λ n. omega arith) in
          (at.edges, at.betas, at.pairs, all_read at r b t.0, omega (arith, r.place, t.1))

  -- the end
  end-tells : (at : Reading) → Read at → refusal_at bytes at.place at.last ≡ 0 → 5 ≤ kind_at bytes at.place → Told (counted at.edges at.betas at.pairs)
  end-tells at r e h =
      let b = behind-later at r.started (λ n. omega arith) in
      let k : kind_at bytes at.place ≡ 5 = omega (arith, b.to) in
      let w = (accepted bytes at.place at.last e).whole in
      let l = ap record_length k ∙ length-5 in
      record {
        number = inl refl;
        whole = λ q. record { front = all_read at r b h; size = omega (arith, ended bytes at.place at.last e h, r.place) };
        tail = λ q. absurd (omega arith);
      }

  none_told : (at : Reading) → Told (read_from zero bytes at)
  unfolding read_from
  none_told at = record { number = inr (inl refl); whole = λ e. absurd (omega arith); tail = λ e. absurd (omega arith) }

  -- one call, and what the others tell
  call-tells : (calls : ℕ) → ((at : Reading) → Read at → Told (read_from calls bytes at)) → (at : Reading) → Read at → Told (read_from (suc calls) bytes at)
  call-tells calls rest at r = go (eqb (refusal_at bytes at.place at.last) 0) (ltb (kind_at bytes at.place) 5) refl refl
    where
      go : (s t : Bool) → eqb (refusal_at bytes at.place at.last) 0 ≡ s → ltb (kind_at bytes at.place) 5 ≡ t → Told (read_from (suc calls) bytes at)
      go false t p q =
          let z = eqb-false _ _ p in
          subst Told (sym (read_refused calls bytes at _ refl z)) (refused-tells at _ r refl z)
      go true false p q =
          let e = eqb-true _ _ p in
          let h = ltb-false _ _ q in
          subst Told (sym (read_end calls bytes at e h)) (end-tells at r e h)
      go true true p q =
          let e = eqb-true (refusal_at bytes at.place at.last) 0 p in
          let h = ltb-true _ _ q in
          subst Told (sym (read_more calls bytes at e h)) (rest _ (more_read at r (behind-later at r.started (λ n. omega arith)) h))

  told : (calls : ℕ) (at : Reading) → Read at → Told (read_from calls bytes at)
  told zero at r = none_told at
  told (suc calls) at r = call-tells calls (told calls) at r

  -- behind the record of kind 1
  first_read : kind_at bytes 0 ≡ 1 → Read (reading 4 1 0 0 0)
  first_read e = record {
    started = omega arith;
    place = omega arith;
    no_betas = λ _. refl;
    no_pairs = λ _. refl;
    first = e;
    edge = λ i l. absurd (omega arith);
    beta = λ i l. absurd (omega arith);
    pair = λ i l. absurd (omega arith);
  }

  -- the first record is of kind 1
  first_kind : (refusal_at bytes 0 0 ≡ 19 → ⊥) → kind_at bytes 0 ≡ 1
  first_kind h = go (follows _ _ (stands bytes 0 0 h).order)
    where
      go : ((◌≡◌ {A = ℕ} 0 0) × (kind_at bytes 0 ≡ 1)) ⊎ ((1 ≤ 0) × Behind 0 (kind_at bytes 0)) → kind_at bytes 0 ≡ 1
      go (inl z) = z.1
      go (inr b) = absurd (omega (arith, b.0))

  pub counts_tell : Told (counts_of bytes)
  unfolding counts_of
  counts_tell = rw add-one (go (eqb (refusal_at bytes 0 0) 19) refl)
    where
      go : (t : Bool) → eqb (refusal_at bytes 0 0) 19 ≡ t → Told (read_from (suc (length bytes)) bytes start)
      go true q =
          let e = eqb-true (refusal_at bytes 0 0) 19 q in
          subst Told (sym (read_refused (length bytes) bytes start 19 (sym e) (λ z. omega arith)))
          (record { number = inr (inl refl); whole = λ z. absurd (omega arith); tail = λ z. absurd (omega arith) })
      go false q =
          let h = eqb-false (refusal_at bytes 0 0) 19 q in
          let k = first_kind h in
          let s = stands bytes 0 0 h in
          let l : kind_at bytes 0 < 5 = omega arith in
          let e = sym (has_body bytes 0 0 s.order s.whole l) in
          subst Told (sym (read_more (length bytes) bytes start e l ∙ ap (read_from (length bytes) bytes) (ap (behind start) k ∙ behind-1)))
          (told (length bytes) (reading 4 1 0 0 0) (first_read k))
