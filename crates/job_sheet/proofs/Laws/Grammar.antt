-- Every sheet is accepted, with its own numbers of records; with bytes behind it, it is refused by 20.
use Rattle.std.specs.Prelude.{◌≡◌, refl, Bool, true, false, cond, List, ℕ, zero, suc, ◌+◌, ◌≤◌, ◌<◌, ltb, length}
use Rattle.std.proofs.Math.Path.{sym, ap}
use Rattle.std.proofs.Common.{◌∙◌, arith, ltb-true, ltb-false}
use Rattle.std.proofs.Math.Numerals.{add-one}
use Rattle.job_sheet.specs.Records.{record_length, kind_at, may_follow}
use Rattle.job_sheet.specs.Counts.{counted, refused, start, behind, read_from, counts_of}
use Rattle.job_sheet.specs.Sheets.{end_place, sheet_length, Front, told_of}
use Rattle.job_sheet.proofs.Laws.Records.{may-follow, first-follows, has_body, has_tail, has_end, length-1, length-2, length-3, length-4, length-5}
use Rattle.job_sheet.proofs.Laws.Counts.{read_refused, read_end, read_more}
use Rattle.job_sheet.proofs.Laws.Steps.{reading, behind-1, behind-2, behind-3, behind-4}
use Rattle.job_sheet.specs.declared.counts.Reading.{Reading}

module _ (bytes : List ℕ) (edges betas pairs : ℕ) (f : Front bytes edges betas pairs) (l : sheet_length edges betas pairs ≤ length bytes) where
  -- a reading on its way through the sheet
  record OnWay (at : Reading) : Type 0 where
    pub started : 1 ≤ at.last
    pub open_end : at.last ≤ 4
    pub place : at.place ≡ end_place at.edges at.betas at.pairs
    pub some_edges : at.edges ≤ edges
    pub some-betas : at.betas ≤ betas
    pub some_pairs : at.pairs ≤ pairs
    pub edges-left : at.edges < edges → (at.last ≤ 2) × (at.betas ≡ 0) × (at.pairs ≡ 0)
    pub betas-left : at.betas < betas → (at.last ≤ 3) × (at.pairs ≡ 0)

  -- a record of a kind that may stand there is read
  module _ (calls : ℕ) (at : Reading) (w : OnWay at) (kind : ℕ) (e : kind_at bytes at.place ≡ kind) (from : 2 ≤ kind) (to : kind < 5)
      (up : at.last ≤ kind) (fits : at.place + record_length kind ≤ length bytes) where
    read_one : read_from (suc calls) bytes at ≡ read_from calls bytes (behind at kind)
    read_one =
        let o = ap (may_follow at.last) e ∙ may-follow at.last kind w.started (record { early = omega (arith, w.open_end); from = from; up = up; to = omega arith }) in
        let q = ap record_length e in
        let z = sym (has_body bytes at.place at.last o (omega arith) (omega arith)) in
        read_more calls bytes at z (omega arith) ∙ ap (λ (k : ℕ). read_from calls bytes (behind at k)) e

  -- the end record
  module _ (calls : ℕ) (at : Reading) (w : OnWay at) (p : at.edges ≡ edges) (q : at.betas ≡ betas) (r : at.pairs ≡ pairs) where
    at-end : at.place ≡ end_place edges betas pairs
    at-end = omega (arith, w.place)

    kind-5 : kind_at bytes at.place ≡ 5
    kind-5 = ap (kind_at bytes) at-end ∙ f.end

    order : may_follow at.last (kind_at bytes at.place) ≡ true
    order =
        ap (may_follow at.last) kind-5
        ∙ may-follow at.last 5 w.started (record { early = omega (arith, w.open_end); from = omega arith; up = omega (arith, w.open_end); to = omega arith })

    there : at.place + record_length (kind_at bytes at.place) ≤ length bytes
    there = let a = at-end in let q = ap record_length kind-5 ∙ length-5 in omega arith

    read_last : read_from (suc calls) bytes at ≡ told_of bytes edges betas pairs
    read_last = go (ltb (sheet_length edges betas pairs) (length bytes)) refl
      where
        go : (t : Bool) → ltb (sheet_length edges betas pairs) (length bytes) ≡ t → read_from (suc calls) bytes at ≡ cond t (refused 20) (counted edges betas pairs)
        go true h =
            let a = at-end in
            let k = kind-5 in
            let m = ltb-true (sheet_length edges betas pairs) (length bytes) h in
            read_refused calls bytes at 20 (has_tail bytes at.place at.last order there (omega arith) (omega arith)) (λ z. omega arith)
        go false h =
            let a = at-end in
            let k = kind-5 in
            let m = ltb-false (sheet_length edges betas pairs) (length bytes) h in
            let z = sym (has_end bytes at.place at.last order there (omega arith) (omega arith)) in
            read_end calls bytes at z (omega arith) ∙ rw (p, q, r)

  -- the readings behind an edge, a beta and a pair
  module _ (at : Reading) (w : OnWay at) where
    edge_on_way : at.edges < edges → OnWay (reading (at.place + 13) 2 (at.edges + 1) at.betas at.pairs)
    edge_on_way h =
        let x = w.edges-left h in
        record {
          started = omega arith;
          open_end = omega arith;
          place = omega (arith, w.place);
          some_edges = omega arith;
          some-betas = w.some-betas;
          some_pairs = w.some_pairs;
          edges-left = λ _. (omega arith, x.1, x.2);
          betas-left = λ _. (omega arith, x.2);
        }

    beta_on_way : at.edges ≡ edges → at.betas < betas → OnWay (reading (at.place + 9) 3 at.edges (at.betas + 1) at.pairs)
    beta_on_way e h =
        let x = w.betas-left h in
        record {
          started = omega arith;
          open_end = omega arith;
          place = omega (arith, w.place);
          some_edges = w.some_edges;
          some-betas = omega arith;
          some_pairs = w.some_pairs;
          edges-left = λ n. absurd (omega arith);
          betas-left = λ _. (omega arith, x.1);
        }

    pair_on_way : at.edges ≡ edges → at.betas ≡ betas → at.pairs < pairs → OnWay (reading (at.place + 5) 4 at.edges at.betas (at.pairs + 1))
    pair_on_way e b h = record {
      started = omega arith;
      open_end = omega arith;
      place = omega (arith, w.place);
      some_edges = w.some_edges;
      some-betas = w.some-betas;
      some_pairs = omega arith;
      edges-left = λ n. absurd (omega arith);
      betas-left = λ n. absurd (omega arith);
    }

  -- one call, and the others after it
  call-reads : (calls : ℕ) → ((at : Reading) → OnWay at → length bytes < at.place + calls → read_from calls bytes at ≡ told_of bytes edges betas pairs)
      → (at : Reading) → OnWay at → length bytes < at.place + suc calls → read_from (suc calls) bytes at ≡ told_of bytes edges betas pairs
  call-reads calls rest at w m = go (ltb at.edges edges) (ltb at.betas betas) (ltb at.pairs pairs) refl refl refl
    where
      go : (x y z : Bool) → ltb at.edges edges ≡ x → ltb at.betas betas ≡ y → ltb at.pairs pairs ≡ z → read_from (suc calls) bytes at ≡ told_of bytes edges betas pairs
      go true y z p q r =
          let h = ltb-true at.edges edges p in
          let x = w.edges-left h in
          let e : kind_at bytes at.place ≡ 2 = ap (kind_at bytes) (omega (arith, w.place)) ∙ f.edge at.edges h in
          read_one calls at w 2 e (omega arith) (omega arith) x.0 (omega (arith, length-2, w.place, w.some-betas, w.some_pairs))
          ∙ ap (read_from calls bytes) (behind-2 at) ∙ rest _ (edge_on_way at w h) (omega arith)
      go false true z p q r =
          let g : at.edges ≡ edges = omega (arith, ltb-false at.edges edges p, w.some_edges) in
          let h = ltb-true at.betas betas q in
          let x = w.betas-left h in
          let e : kind_at bytes at.place ≡ 3 = ap (kind_at bytes) (omega (arith, w.place)) ∙ f.beta at.betas h in
          read_one calls at w 3 e (omega arith) (omega arith) x.0 (omega (arith, length-3, w.place, w.some_pairs))
          ∙ ap (read_from calls bytes) (behind-3 at) ∙ rest _ (beta_on_way at w g h) (omega arith)
      go false false true p q r =
          let g : at.edges ≡ edges = omega (arith, ltb-false at.edges edges p, w.some_edges) in
          let b : at.betas ≡ betas = omega (arith, ltb-false at.betas betas q, w.some-betas) in
          let h = ltb-true at.pairs pairs r in
          let e : kind_at bytes at.place ≡ 4 = ap (kind_at bytes) (omega (arith, w.place)) ∙ f.pair at.pairs h in
          read_one calls at w 4 e (omega arith) (omega arith) w.open_end (omega (arith, length-4, w.place))
          ∙ ap (read_from calls bytes) (behind-4 at) ∙ rest _ (pair_on_way at w g b h) (omega arith)
      go false false false p q r =
          read_last calls at w (omega (arith, ltb-false at.edges edges p, w.some_edges)) (omega (arith, ltb-false at.betas betas q, w.some-betas))
          (omega (arith, ltb-false at.pairs pairs r, w.some_pairs))

  reads : (calls : ℕ) (at : Reading) → OnWay at → length bytes < at.place + calls → read_from calls bytes at ≡ told_of bytes edges betas pairs
  reads zero at w m = absurd (omega (arith, w.place, w.some_edges, w.some-betas, w.some_pairs))
  reads (suc calls) at w m = call-reads calls (reads calls) at w m

  on_way : OnWay (reading 4 1 0 0 0)
  on_way = record {
    started = omega arith;
    open_end = omega arith;
    place = omega arith;
    some_edges = omega arith;
    some-betas = omega arith;
    some_pairs = omega arith;
    edges-left = λ _. (omega arith, refl, refl);
    betas-left = λ _. (omega arith, refl);
  }

  pub front-told : counts_of bytes ≡ told_of bytes edges betas pairs
  unfolding counts_of
  front-told =
      let o = ap (may_follow 0) f.first ∙ first-follows in
      let k = f.first in
      let q = ap record_length k ∙ length-1 in
      let z = sym (has_body bytes 0 0 o (omega arith) (omega arith)) in
      rw add-one
      (read_more (length bytes) bytes start z (omega arith)
      ∙ ap (read_from (length bytes) bytes) (ap (behind start) k ∙ behind-1) ∙ reads (length bytes) (reading 4 1 0 0 0) on_way (omega arith))
