-- Bytes copied one record behind the other.
use Rattle.std.specs.Prelude.{◌≡◌, false, length, get_or, take}
use Rattle.std.proofs.Math.Path.{sym, ap}
use Rattle.std.proofs.Common.{◌∙◌, zero-add, add-mul, arith, length-append, take-append-drop, drop_of_length-le, get_or-drop, take_at, drop_at}
use mathlib.Core.List.{List, [], ◌++◌, append_assoc, append-nil}
use Prim.Native.Nat.{ℕ, ◌+◌, ◌*◌, ◌-◌}
use Rattle.std.proofs.Math.ListN.{drop, length-drop}
use Rattle.list_laws.specs.Part.{part, put}
use Rattle.list_laws.specs.Tabulate.{tabulate}
use Rattle.list_laws.proofs.Laws.Tabulate.{tabulated}
use Rattle.little_endian.specs.Words.{Bytes, bytes_of}
use Rattle.little_endian.proofs.Laws.Words.{bytes_of-length}
use Rattle.run_record.specs.Records.{head_bytes, record_length}
use Rattle.run_record.specs.Reading.{head_of, bad_record}
use Rattle.run_record.proofs.Laws.Cases.{passed}
use Rattle.run_record_bytes.proofs.Laws.Fields.{h₂, l₂, head-length, head-stands}
use Rattle.run_record_join.specs.Joining.{head_over, in_turn}
use Rattle.run_record_join.specs.Turns.{Turns, written}

pub copied : (source : List ℕ) (from : ℕ) → tabulate (λ i. get_or source (from + i) 0) (length source - from) ≡ drop from source
copied source from = sym (tabulated 0 (drop from source) _ (length source - from) (simp length-drop) (λ i l. get_or-drop from source i 0))

-- ---- put at the front, in the middle, at the end

put_front : (l s : List ℕ) → put l 0 s ≡ s ++ drop (length s) l
unfolding put
put_front l s = rw (zero-add (length s))

put_middle : (a e e' s : List ℕ) (n : ℕ) → length a ≡ n → length e ≡ length e' → put (a ++ (e ++ s)) n e' ≡ a ++ (e' ++ s)
unfolding put
put_middle a e e' s n p q =
    let x : drop (n + length e') (a ++ (e ++ s)) ≡ s =
    ap (drop (n + length e')) (sym (append_assoc a e s)) ∙ drop_at (a ++ e) s (n + length e') (length-append a e ∙ omega arith) in
    rw (take_at a (e ++ s) n p, x) (append_assoc a e' s)

put_last : (j x l : List ℕ) (n : ℕ) → length j ≡ n → length x ≡ length l → put (j ++ x) n l ≡ j ++ l
unfolding put
put_last j x l n p q =
    let y : drop (n + length l) (j ++ x) ≡ [] = drop_of_length-le (j ++ x) {i = n + length l} (omega (arith, length-append j x)) in
    rw (take_at j x n p, y) (append-nil (j ++ l))

-- ---- a record is its head and its rows

pub head_and_rows : (a : List ℕ) → Bytes a → bad_record a ≡ false → a ≡ head_bytes (head_of a) ++ drop 32 a
unfolding part
head_and_rows a b g =
    let s = head-stands a b (passed a g).long (passed a g).kind in
    let e : take 32 a ≡ head_bytes (head_of a) = ap (λ (n : ℕ). take n a) (sym (head-length (head_of a))) ∙ s.there in
    sym (take-append-drop 32 a) ∙ ap (λ (t : List ℕ). t ++ drop 32 a) e

module _ (a b : List ℕ) (t : Turns a b) where
  -- the joined record's length
  pub joined_length : record_length (head_over (head_of a) (head_of b)) + 32 ≡ length a + length b
  joined_length =
      let p = passed a t.first in
      let q = passed b t.second in
      let g = head_of a in
      let h = head_of b in
      let c : h.end - g.start ≡ (g.end - g.start) + (h.end - h.start) = omega (arith, t.meet, p.good.range, q.good.range) in
      let x : length b ≡ 32 + 28 * ((h.end - h.start) * (g.betas * g.pairs)) = q.exact ∙ rw (t.betas, t.pairs) in
      rw (c, add-mul, p.exact, x) (omega arith)

  module _ (bytes : Bytes a) (joined : List ℕ) (fits : length joined + 32 ≡ length a + length b) where
    -- the head with some bytes for its end
    head_with : List ℕ → List ℕ
    head_with e =
        let g = head_of a in
        h₂ g ++ e ++ bytes_of 4 g.samples ++ bytes_of 1 g.betas ++ bytes_of 2 g.pairs

    longest : (e : List ℕ) → length e ≡ 8 → length (head_with e ++ drop 32 a) ≡ length a
    unfolding head_with
    longest e l =
        let g = head_of a in
        let p = (passed a t.first).long in
        simp (length-append, length-drop, bytes_of-length) (omega (arith, l₂ g))

    -- what is written is the joined record
    pub written_is : written a b (head_of b).end joined ≡ in_turn a b
    unfolding written in_turn head_with
    written_is =
        let g = head_of a in
        let D : List ℕ = drop 32 a in
        let X : List ℕ = drop (length a) joined in
        let E : List ℕ = bytes_of 8 g.end in
        let E' : List ℕ = bytes_of 8 (head_of b).end in
        let S : List ℕ = bytes_of 4 g.samples ++ (bytes_of 1 g.betas ++ (bytes_of 2 g.pairs ++ (D ++ X))) in
        let q = (passed b t.second).long in
        let one : put joined 0 (drop 0 a) ≡ h₂ g ++ (E ++ S) = put_front joined a ∙ ap (λ (l : List ℕ). l ++ X) (head_and_rows a bytes t.first) ∙ simp append_assoc in
        let two : put (h₂ g ++ (E ++ S)) 17 E' ≡ head_with E' ++ D ++ X =
        put_middle (h₂ g) E E' S 17 (l₂ g) (bytes_of-length 8 g.end ∙ sym (bytes_of-length 8 (head_of b).end)) ∙ sym (simp append_assoc) in
        let three : put (head_with E' ++ D ++ X) (length a) (drop 32 b) ≡ head_with E' ++ D ++ drop 32 b =
        put_last (head_with E' ++ D) X (drop 32 b) (length a) (longest E' (bytes_of-length 8 (head_of b).end)) (simp length-drop (omega arith)) in
        ap (λ (l : List ℕ). put (put l 17 E') (length a) (drop 32 b)) one ∙ ap (λ (l : List ℕ). put l (length a) (drop 32 b)) two ∙ three

-- three puts, one after another
pub written_by : (a b : List ℕ) (end : ℕ) (j j₁ j₂ j₃ : List ℕ) → j₁ ≡ put j 0 (drop 0 a) → j₂ ≡ put j₁ 17 (bytes_of 8 end) → j₃ ≡ put j₂ (length a) (drop 32 b)
    → j₃ ≡ written a b end j
unfolding written
written_by a b end j j₁ j₂ j₃ e₁ e₂ e₃ = rw (e₃, e₂, e₁)
