-- Laws of what specs/Inward defines.
use Rattle.std.specs.Prelude.{◌≡◌, get_or, set}
use Rattle.std.proofs.Math.Path.{refl, ap}
use Rattle.std.proofs.Common.{sym, ◌∙◌}
use mathlib.Core.List.{List}
use Prim.Native.Nat.{ℕ, ◌+◌, ◌-◌, ◌≤◌, ◌<◌}
use native.Mathlib.Omega.{arith}
use Rattle.std.proofs.Math.ListN.{length}
use Rattle.list_laws.specs.Tabulate.{tabulate}
use Rattle.list_laws.proofs.Laws.Tabulate.{tabulate-length, tabulate_ext}
use Rattle.list_laws.specs.Part.{Apart, put}
use Rattle.list_laws.proofs.Laws.Part.{put-length, put_comm, fill_none, fill_length, fill_two, fill_run, read_apart}
use Rattle.two_steps_backward.specs.Inward.{Parts, falling, inward}

module _ {A : Type 0} where
  -- a run of a rule before another
  fill_before : (d : List A) (at : ℕ) (g g' : ℕ → A) (m n : ℕ) → at + n + m ≤ length d → ((i : ℕ) → i < n → g' i ≡ g (m + i))
      → put (put d (at + n) (tabulate (falling g m) m)) at (tabulate (falling g' n) n) ≡ put d at (tabulate (falling g (m + n)) (m + n))
  fill_before d at g g' m n h e =
      let l = tabulate-length (falling g m) m in
      let l' = tabulate-length (falling g' n) n in
      let s : m + n ≡ n + m = omega arith in
      put_comm d (at + n) (tabulate (falling g m) m) at (tabulate (falling g' n) n) (omega arith) (omega arith)
      ∙ ap (λ (r : List A). put (put d at r) (at + n) (tabulate (falling g m) m))
      (tabulate_ext (falling g' n) (falling g (m + n)) n
      (λ i b. let z : m + (n - 1 - i) ≡ m + n - 1 - i = omega arith in rw z at (e (n - 1 - i) (omega arith))))
      ∙ fill_run d at (falling g (m + n)) (falling g m) n m (omega arith)
      (λ i b. let z : m + n - 1 - (n + i) ≡ m - 1 - i = omega arith in rw z)
      ∙ ap (λ (r : ℕ). put d at (tabulate (falling g (m + n)) r)) (sym s)

  -- two stores are a run of two
  two_stores : (d : List A) (at at' : ℕ) (x y : A) (f : ℕ → A) → at' ≡ at + 1 → at + 1 < length d → x ≡ f 0 → y ≡ f 1
      → set (set d at x) at' y ≡ put d at (tabulate f 2)
  two_stores d at at' x y f e h p q =
      let z : at + 0 ≡ at = omega arith in
      rw e (ap (λ (l : List A). set (set l at x) (at + 1) y) (fill_none d at f) ∙ rw z at (fill_two d at f 0 x y h p q))

  module _ (d : List A) (a b c e : ℕ) (f g h k : ℕ → A) where
    -- the list after one, two and three of the parts
    abbrev one : ℕ → List A
    one n = put d a (tabulate f n)

    abbrev two : ℕ → List A
    two n = put (one n) b (tabulate (falling g n) n)

    abbrev three : ℕ → List A
    three n = put (two n) c (tabulate h n)

    module _ (n : ℕ) (s : Parts (length d) a b c e n) where
      one-length : length (one n) ≡ length d
      one-length = fill_length d a f n (omega (arith, s.first, s.second, s.third, s.last))

      two-length : length (two n) ≡ length d
      two-length = let l = one-length in fill_length (one n) b (falling g n) n (omega (arith, s.second, s.third, s.last)) ∙ l

      three-length : length (three n) ≡ length d
      three-length = let l = two-length in fill_length (two n) c h n (omega (arith, s.third, s.last)) ∙ l

      pub inward-length : length (inward d a b c e f g h k n) ≡ length d
      unfolding inward
      inward-length = let l = three-length in fill_length (three n) e (falling k n) n (omega (arith, s.last)) ∙ l

      -- a source apart from all four is read as it was
      pub inward-apart : (src m i : ℕ) (z : A) → Apart (length d) src m a n → Apart (length d) src m b n → Apart (length d) src m c n
          → Apart (length d) src m e n → i < m → get_or (inward d a b c e f g h k n) (src + i) z ≡ get_or d (src + i) z
      unfolding inward
      inward-apart src m i z pa pb pc pe u =
          read_apart (three n) e (falling k n) n src m n i z (rw three-length pe) (omega arith) u
          ∙ read_apart (two n) c h n src m n i z (rw two-length pc) (omega arith) u
          ∙ read_apart (one n) b (falling g n) n src m n i z (rw one-length pb) (omega arith) u
          ∙ read_apart d a f n src m n i z pa (omega arith) u

    pub inward-none : d ≡ inward d a b c e f g h k 0
    unfolding inward
    inward-none =
        fill_none d a f ∙ fill_none (one 0) b (falling g 0) ∙ fill_none (two 0) c h ∙ fill_none (three 0) e (falling k 0)

    -- four parts that lie together are one
    pub inward_together : (r : ℕ → A) (n : ℕ) → b ≡ a + n → c ≡ a + (n + n) → e ≡ a + (n + n + n) → a + (n + n + n + n) ≤ length d
        → ((i : ℕ) → i < n → f i ≡ r i) → ((i : ℕ) → i < n → falling g n i ≡ r (n + i))
        → ((i : ℕ) → i < n → h i ≡ r (n + n + i)) → ((i : ℕ) → i < n → falling k n i ≡ r (n + n + n + i))
        → inward d a b c e f g h k n ≡ put d a (tabulate r (n + n + n + n))
    unfolding inward
    inward_together r n eb ec ee l pf pg ph pk =
        let t₁ : one n ≡ put d a (tabulate r n) = ap (put d a) (tabulate_ext f r n pf) in
        let t₂ : two n ≡ put d a (tabulate r (n + n)) =
        ap (λ (s : List A). put s b (tabulate (falling g n) n)) t₁ ∙ rw eb (fill_run d a r (falling g n) n n (omega arith) pg) in
        let t₃ : three n ≡ put d a (tabulate r (n + n + n)) =
        ap (λ (s : List A). put s c (tabulate h n)) t₂ ∙ rw ec (fill_run d a r h (n + n) n (omega arith) ph) in
        ap (λ (s : List A). put s e (tabulate (falling k n) n)) t₃ ∙ rw ee (fill_run d a r (falling k n) (n + n + n) n (omega arith) pk)

  -- a part before three others is put before them
  put-through : (d : List A) (b c e at : ℕ) (s t r p : List A) → at + length p ≤ b → b + length s ≤ c → c + length t ≤ e → e + length r ≤ length d
      → put (put (put (put d b s) c t) e r) at p ≡ put (put (put (put d at p) b s) c t) e r
  put-through d b c e at s t r p h h₁ h₂ h₃ =
      let x : length (put d b s) ≡ length d = put-length d b s (omega arith) in
      let y : length (put (put d b s) c t) ≡ length d = put-length (put d b s) c t (omega arith) ∙ x in
      put_comm (put (put d b s) c t) e r at p (omega arith) (omega arith)
      ∙ ap (λ (l : List A). put l e r)
      (put_comm (put d b s) c t at p (omega arith) (omega arith) ∙ ap (λ (l : List A). put l c t) (put_comm d b s at p h (omega arith)))

  module _ (d : List A) (a b c e : ℕ) (f g h k f' g' h' k' : ℕ → A) (m n : ℕ) (s : Parts (length d) a b c e (m + n))
      (pf : (i : ℕ) → i < n → f' i ≡ f (m + i)) (pg : (i : ℕ) → i < n → g' i ≡ g (m + i))
      (ph : (i : ℕ) → i < n → h' i ≡ h (m + i)) (pk : (i : ℕ) → i < n → k' i ≡ k (m + i)) where
    -- a run of each
    pub inward_run : inward (inward d a (b + n) c (e + n) f g h k m) (a + m) b (c + m) e f' g' h' k' n ≡ inward d a b c e f g h k (m + n)
    unfolding inward
    inward_run =
        let s₁ = s.first in
        let s₂ = s.second in
        let s₃ = s.third in
        let s₄ = s.last in
        let G = tabulate (falling g m) m in
        let H = tabulate h m in
        let K = tabulate (falling k m) m in
        let F' = tabulate f' n in
        let G' = tabulate (falling g' n) n in
        let H' = tabulate h' n in
        let K' = tabulate (falling k' n) n in
        let lG = tabulate-length (falling g m) m in
        let lH = tabulate-length h m in
        let lK = tabulate-length (falling k m) m in
        let lF' = tabulate-length f' n in
        let lG' = tabulate-length (falling g' n) n in
        let lH' = tabulate-length h' n in
        let X = put d a (tabulate f m) in
        let X' = put d a (tabulate f (m + n)) in
        let Y = put X' b (tabulate (falling g (m + n)) (m + n)) in
        let Z = put Y c (tabulate h (m + n)) in
        let x : length X ≡ length d = fill_length d a f m (omega arith) in
        let x' : length X' ≡ length d = fill_length d a f (m + n) (omega arith) in
        let y : length Y ≡ length d = fill_length X' b (falling g (m + n)) (m + n) (omega arith) ∙ x' in
        let z : length Z ≡ length d = fill_length Y c h (m + n) (omega arith) ∙ y in
        let yc : length (put Y c H) ≡ length d = put-length Y c H (omega arith) ∙ y in
        let xg : length (put X' (b + n) G) ≡ length d = put-length X' (b + n) G (omega arith) ∙ x' in
        let xh : length (put (put X' (b + n) G) c H) ≡ length d = put-length (put X' (b + n) G) c H (omega arith) ∙ xg in
        ap (λ (r : List A). put (put (put r b G') (c + m) H') e K')
        (put-through X (b + n) c (e + n) (a + m) G H K F' (omega arith) (omega arith) (omega arith) (omega arith)
        ∙ ap (λ (r : List A). put (put (put r (b + n) G) c H) (e + n) K) (fill_run d a f f' m n (omega arith) pf))
        ∙ ap (λ (r : List A). put (put r (c + m) H') e K')
        (put_comm (put (put X' (b + n) G) c H) (e + n) K b G' (omega arith) (omega arith)
        ∙ ap (λ (r : List A). put r (e + n) K)
        (put_comm (put X' (b + n) G) c H b G' (omega arith) (omega arith)
        ∙ ap (λ (r : List A). put r c H) (fill_before X' b g g' m n (omega arith) pg)))
        ∙ ap (λ (r : List A). put r e K')
        (put_comm (put Y c H) (e + n) K (c + m) H' (omega arith) (omega arith)
        ∙ ap (λ (r : List A). put r (e + n) K) (fill_run Y c h h' m n (omega arith) ph))
        ∙ fill_before Z e k k' m n (omega arith) pk

  -- an iteration: two elements more of each, the stores of each part one behind the other
  module _ (d : List A) (a b c e : ℕ) (f g h k : ℕ → A) (n : ℕ) (v : List A) (s : Parts (length d) a b c e (n + 2))
      (w : v ≡ inward d a (b + 2) c (e + 2) f g h k n) (f₀ f₁ g₀ g₁ h₀ h₁ k₀ k₁ : A) where
    pub inward-two : (at_b at-b' at-e at-e' : ℕ) → at_b ≡ b → at-b' ≡ b + 1 → at-e ≡ e → at-e' ≡ e + 1
        → f₀ ≡ f n → f₁ ≡ f (n + 1) → g₀ ≡ g n → g₁ ≡ g (n + 1) → h₀ ≡ h n → h₁ ≡ h (n + 1) → k₀ ≡ k n → k₁ ≡ k (n + 1)
        → set (set (set (set (set (set (set (set v (a + n) f₀) (a + n + 1) f₁) at_b g₁) at-b' g₀) (c + n) h₀) (c + n + 1) h₁) at-e k₁) at-e' k₀
        ≡ inward d a b c e f g h k (n + 2)
    unfolding inward
    inward-two at_b at-b' at-e at-e' eb eb' ee ee' pf pf' pg pg' ph ph' pk pk' =
        let s₁ = s.first in
        let s₂ = s.second in
        let s₃ = s.third in
        let s₄ = s.last in
        let z : n + 0 ≡ n = omega arith in
        let u : length v ≡ length d =
        ap length w
        ∙ inward-length d a (b + 2) c (e + 2) f g h k n
        (record { first = omega arith; second = omega arith; third = omega arith; last = omega arith }) in
        let from : (ℕ → A) → ℕ → A = λ r i. r (n + i) in
        let v₁ = put v (a + n) (tabulate (from f) 2) in
        let v₂ = put v₁ b (tabulate (falling (from g) 2) 2) in
        let v₃ = put v₂ (c + n) (tabulate (from h) 2) in
        let u₁ : length v₁ ≡ length d = fill_length v (a + n) (from f) 2 (omega arith) ∙ u in
        let u₂ : length v₂ ≡ length d = fill_length v₁ b (falling (from g) 2) 2 (omega arith) ∙ u₁ in
        let u₃ : length v₃ ≡ length d = fill_length v₂ (c + n) (from h) 2 (omega arith) ∙ u₂ in
        let o₁ = two_stores v (a + n) (a + n + 1) f₀ f₁ (from f) refl (omega arith) (rw z pf) pf' in
        let o₂ = two_stores v₁ b (b + 1) g₁ g₀ (falling (from g) 2) refl (omega arith) pg' (rw z pg) in
        let o₃ = two_stores v₂ (c + n) (c + n + 1) h₀ h₁ (from h) refl (omega arith) (rw z ph) ph' in
        let o₄ = two_stores v₃ e (e + 1) k₁ k₀ (falling (from k) 2) refl (omega arith) pk' (rw z pk) in
        rw (eb, eb', ee, ee', o₁, o₂, o₃, o₄, w)
        (inward_run d a b c e f g h k (from f) (from g) (from h) (from k) n 2 s (λ i y. refl) (λ i y. refl) (λ i y. refl) (λ i y. refl))
