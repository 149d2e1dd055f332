-- A part that a loop fills from both ends towards the middle: the laws that such a loop and its caller ask for.
use Rattle.std.specs.Prelude.{◌≡◌, refl, ℕ, ◌+◌, ◌*◌, ◌-◌, ◌≤◌, ◌<◌, get_or, set}
use Rattle.std.proofs.Math.Path.{ap}
use Rattle.std.proofs.Common.{◌∙◌, add-zero}
use mathlib.Core.List.{List}
use native.Mathlib.Omega.{arith}
use Rattle.std.proofs.Math.ListN.{length}
use Rattle.list_laws.specs.Tabulate.{tabulate}
use Rattle.list_laws.proofs.Laws.Tabulate.{tabulate-length, tabulate_ext}
use Rattle.list_laws.specs.Part.{Apart, put}
use Rattle.list_laws.proofs.Laws.Part.{apart-within, put_comm, fill_none, fill_one, fill_length, fill_run, read_apart}
use Rattle.step_backward.specs.Ends.{reversed, ends}

front_index : (m n i : ℕ) → i < n → m + (n - 1 - i) ≡ m + n - 1 - i
front_index m n i b = omega arith

back_index : (m n i : ℕ) → m + n - 1 - (n + i) ≡ m - 1 - i
back_index m n i = omega arith

module _ {A : Type 0} where
  store : (d : List A) (at : ℕ) (a : A) → at < length d → set d at a ≡ put d at (tabulate (λ _. a) 1)
  store d at a h =
      ap (λ (l : List A). set l at a) (fill_none d at (λ _. a))
      ∙ rw (add-zero at) at (fill_one d at (λ _. a) 0 a (omega arith) refl)

  -- a run of a rule before another
  before : (d : List A) (at : ℕ) (f g h : ℕ → A) (m n : ℕ) → at + m + n ≤ length d → ((i : ℕ) → i < m → f i ≡ h i) → ((i : ℕ) → i < n → g i ≡ h (m + i))
      → put (put d (at + m) (tabulate g n)) at (tabulate f m) ≡ put d at (tabulate h (m + n))
  before d at f g h m n l p q =
      let x = tabulate-length f m in
      let y = tabulate-length g n in
      put_comm d (at + m) (tabulate g n) at (tabulate f m) (omega arith) (omega arith)
      ∙ rw (tabulate_ext f h m p) (fill_run d at h g m n l q)

  module _ (d : List A) (lo hi : ℕ) (f g : ℕ → A) where
    pub ends-none : d ≡ ends d lo hi f g 0
    ends-none = fill_none d lo f ∙ fill_none (put d lo (tabulate f 0)) (hi - 0) (reversed 0 g)

    -- a run of both
    pub ends_run : (f' g' : ℕ → A) (m n : ℕ) → lo + 2 * (m + n) ≤ hi → hi ≤ length d
        → ((i : ℕ) → i < n → f' i ≡ f (m + i)) → ((i : ℕ) → i < n → g' i ≡ g (m + i))
        → put (put (ends d lo hi f g m) (lo + m) (tabulate f' n)) (hi - m - n) (tabulate (reversed n g') n) ≡ ends d lo hi f g (m + n)
    unfolding reversed
    ends_run f' g' m n h l p q =
        let X = put d lo (tabulate f m) in
        let Y = put d lo (tabulate f (m + n)) in
        let x : length X ≡ length d = fill_length d lo f m (omega arith) in
        let y : length Y ≡ length d = fill_length d lo f (m + n) (omega arith) in
        let t = tabulate-length f' n in
        let r = tabulate-length (reversed m g) m in
        let e : hi - m ≡ hi - (m + n) + n = omega arith in
        let e' : hi - m - n ≡ hi - (m + n) = omega arith in
        let z : n + m ≡ m + n = omega arith in
        ap (λ (s : List A). put s (hi - m - n) (tabulate (reversed n g') n))
        (put_comm X (hi - m) (tabulate (reversed m g) m) (lo + m) (tabulate f' n) (omega arith) (omega arith)
        ∙ ap (λ (s : List A). put s (hi - m) (tabulate (reversed m g) m)) (fill_run d lo f f' m n (omega arith) p))
        ∙ rw (e', e)
        (before Y (hi - (m + n)) (reversed n g') (reversed m g) (reversed (m + n) g) n m (omega arith)
        (λ i b. q (n - 1 - i) (omega arith) ∙ rw (front_index m n i b))
        (λ i b. rw (back_index m n i))
        ∙ ap (λ (c : ℕ). put Y (hi - (m + n)) (tabulate (reversed (m + n) g) c)) z)

    pub ends-length : (n : ℕ) → lo + 2 * n ≤ hi → hi ≤ length d → length (ends d lo hi f g n) ≡ length d
    ends-length n h l =
        let x = fill_length d lo f n (omega arith) in
        fill_length (put d lo (tabulate f n)) (hi - n) (reversed n g) n (omega arith) ∙ x

    -- a loop's iteration: one element more at each end
    pub ends-one : (k : ℕ) (a b : A) → lo + 2 * (k + 1) ≤ hi → hi ≤ length d → a ≡ f k → b ≡ g k
        → set (set (ends d lo hi f g k) (lo + k) a) (hi - k - 1) b ≡ ends d lo hi f g (k + 1)
    unfolding reversed
    ends-one k a b h l p q =
        let z : (n : ℕ) → n < 1 → k + n ≡ k = λ n c. omega arith in
        let x = ends-length k (omega arith) l in
        let y = fill_length (ends d lo hi f g k) (lo + k) (λ _. a) 1 (omega arith) in
        rw (store (ends d lo hi f g k) (lo + k) a (omega arith), store (put (ends d lo hi f g k) (lo + k) (tabulate (λ _. a) 1)) (hi - k - 1) b (omega arith))
        (ends_run (λ _. a) (λ _. b) k 1 h l (λ i c. rw (z i c) p) (λ i c. rw (z i c) q))

    -- the source of a loop that fills parts apart from it is read as it was
    pub ends-apart : (k src n m i : ℕ) (z : A) → Apart (length d) src n lo m → Apart (length d) src n (hi - m) m → k ≤ m → lo + 2 * m ≤ hi → i < n
        → get_or (ends d lo hi f g k) (src + i) z ≡ get_or d (src + i) z
    ends-apart k src n m i z a a' h l b =
        let x : length (put d lo (tabulate f k)) ≡ length d = fill_length d lo f k (omega (arith, a.to)) in
        let off = apart-within src n (hi - k) k a' (omega arith) (omega arith) (omega arith) (omega arith) in
        read_apart (put d lo (tabulate f k)) (hi - k) (reversed k g) k src n k i z (rw x off) (omega arith) b ∙ read_apart d lo f k src n m i z a h b

    -- both ends that meet are one part
    pub ends_together : (h : ℕ → A) (n : ℕ) → hi ≡ lo + 2 * n → hi ≤ length d → ((i : ℕ) → i < n → f i ≡ h i)
        → ((i : ℕ) → i < n → g i ≡ h (2 * n - 1 - i)) → ends d lo hi f g n ≡ put d lo (tabulate h (2 * n))
    unfolding reversed
    ends_together h n e l p q =
        let m : hi - n ≡ lo + n = omega arith in
        let z : 2 * n ≡ n + n = omega arith in
        rw (m, z, tabulate_ext f h n p)
        (fill_run d lo h (reversed n g) n n (omega arith)
        (λ i b. q (n - 1 - i) (omega arith) ∙ (let w : 2 * n - 1 - (n - 1 - i) ≡ n + i = omega arith in rw w)))
