-- Laws of what specs/Reach defines.
use Rattle.std.proofs.Math.Path.{◌≡◌, refl}
use Rattle.std.proofs.Common.{◌∙◌, mul-le-mul_right, mod-eq_of_lt}
use Rattle.std.specs.Prelude.{Bool, not, ◌||◌, ◌&&◌, ℕ, ◌+◌, ◌-◌, ◌*◌, ◌%◌, ◌≤◌, ◌<◌, eqb}
use Rattle.std.proofs.Math.Bool.{true, false, cond}
use Rattle.std.proofs.Math.Nat.{mul-add-mod_self_right, mod_self}
use Rattle.std.proofs.Math.Decide.{dec_lt}
use native.Mathlib.Omega.{arith}
use Rattle.std.proofs.Math.Dec.{ltb}
use borrow.Author.Tests.{eq-eqb, ne_eqb, lt-ltb, le-ltb, eqb-true, ltb-true, ltb-false}
use Rattle.strip.specs.Kinds.{is_honey, is_tri, is_eight}
use Rattle.strip.specs.Vertices.{vertex}
use Rattle.strip.proofs.Laws.Tests.{and-true}
use Rattle.strip_bonds.specs.declared.Edge.{Edge}
use Rattle.strip_bonds.specs.Edges.{edge, brick, rises, falls, has_next}
use Rattle.strip.specs.Requests.{odd_cylinder}
use Rattle.strip.specs.Sides.{Sides}
use Rattle.strip.specs.declared.strip.Strip.{Strip}
use Rattle.strip_window.specs.Reach.{reach}

-- The rule and the site that an edge comes from, as one number: five times the site, and the rule's place.
unfoldable pub key_by : (w length y a b : ℕ) → ℕ
key_by w length y a b =
    cond (eqb length w) (5 * a + 2)
    (cond (eqb length (w + 1)) (5 * a + 3)
    (cond (eqb (length + 1) (2 * w)) (5 * (b - w) + 4)
    (cond (eqb length 1 && ltb (y + 1) w) (5 * a)
    (cond (eqb length 1 && ltb 2 w) (5 * a + 3)
    (cond (eqb y 0) (5 * b + 1) (5 * (a - 1) + 4))))))

abbrev pub key : Strip → Edge → ℕ
key s e = key_by s.w (e.late - e.early) (e.early % s.w) e.early e.late

pub record Sound (s : Strip) (k : ℕ) (e : Edge) : Type 0 where
  pub its_key : key s e ≡ k
  pub ordered : e.early < e.late
  pub inside : e.late < s.w * s.l
  pub near : e.late - e.early ≤ reach s

-- ---- the keys
module _ (w y a b d : ℕ) where
  key-along : d ≡ w → key_by w d y a b ≡ 5 * a + 2
  unfolding key_by
  key-along e = rw (eq-eqb d w e)

  key-rising : d ≡ w + 1 → key_by w d y a b ≡ 5 * a + 3
  unfolding key_by
  key-rising e = rw (ne_eqb d w (λ q. omega arith), eq-eqb d (w + 1) e)

  -- where a diagonal falls round
  key-far : d + 1 ≡ 2 * w → 2 < w → key_by w d y a b ≡ 5 * (b - w) + 4
  unfolding key_by
  key-far e k = rw (ne_eqb d w (λ q. omega arith), ne_eqb d (w + 1) (λ q. omega arith), eq-eqb (d + 1) (2 * w) e)

  -- shorter than the edge along, and the others
  key-near : d + 1 ≤ w → key_by w d y a b
      ≡ cond (eqb d 1 && ltb (y + 1) w) (5 * a) (cond (eqb d 1 && ltb 2 w) (5 * a + 3) (cond (eqb y 0) (5 * b + 1) (5 * (a - 1) + 4)))
  unfolding key_by
  key-near h = rw (ne_eqb d w (λ q. omega arith), ne_eqb d (w + 1) (λ q. omega arith), ne_eqb (d + 1) (2 * w) (λ q. omega arith))

  key-across : d ≡ 1 → y + 1 < w → key_by w d y a b ≡ 5 * a
  key-across e h = rw (key-near (omega arith), eq-eqb d 1 e, lt-ltb (y + 1) w h)

  key_round : d ≡ 1 → 2 < w → w ≤ y + 1 → key_by w d y a b ≡ 5 * a + 3
  key_round e k h = rw (key-near (omega arith), eq-eqb d 1 e, le-ltb (y + 1) w h, lt-ltb 2 w k)

  key-wrap : d + 1 ≡ w → 2 < w → y ≡ 0 → key_by w d y a b ≡ 5 * b + 1
  key-wrap e k h = rw (key-near (omega arith), ne_eqb d 1 (λ q. omega arith), eq-eqb y 0 h)

  key-falling : d + 1 ≡ w → 0 < y → key_by w d y a b ≡ 5 * (a - 1) + 4
  key-falling e h = rw (key-near (omega arith), ne_eqb y 0 (λ q. omega arith)) (go (eqb d 1) refl)
    where
      go : (t : Bool) → eqb d 1 ≡ t → cond (t && ltb (y + 1) w) (5 * a) (cond (t && ltb 2 w) (5 * a + 3) (5 * (a - 1) + 4)) ≡ 5 * (a - 1) + 4
      go true q = let one = eqb-true d 1 q in rw (le-ltb (y + 1) w (omega arith), le-ltb 2 w (omega arith))
      go false q = refl

-- where a vertex stands across
across-of : (w x y : ℕ) → y < w → vertex w x y % w ≡ y
across-of w x y h = mul-add-mod_self_right x w y ∙ mod-eq_of_lt h

module _ (s : Strip) (S : Sides s.w s.l) where
  pub reach-one : 1 ≤ reach s
  unfolding reach
  reach-one =
      go (ltb 1 s.l) (is_eight s.kind && s.periodic && ltb 2 s.w) (rises s && ltb 1 s.w) (not (is_honey s.kind) && s.periodic) (ltb 2 s.w) refl
    where
      go : (a f b c d : Bool) → ltb 2 s.w ≡ d → 1 ≤ cond a (cond f (2 * s.w - 1) (cond b (s.w + 1) s.w)) (cond (c && d) (s.w - 1) 1)
      go true true b c d e = omega (arith, S.wide)
      go true false true c d e = omega arith
      go true false false c d e = omega (arith, S.wide)
      go false f b true true e = omega (arith, ltb-true 2 s.w e)
      go false f b true false e = omega arith
      go false f b false d e = omega arith

  pub reach-double : reach s ≤ 2 * s.w
  unfolding reach
  reach-double =
      go (ltb 1 s.l) (is_eight s.kind && s.periodic && ltb 2 s.w) (rises s && ltb 1 s.w) (not (is_honey s.kind) && s.periodic && ltb 2 s.w)
    where
      go : (a f b c : Bool) → cond a (cond f (2 * s.w - 1) (cond b (s.w + 1) s.w)) (cond c (s.w - 1) 1) ≤ 2 * s.w
      go true true b c = omega arith
      go true false true c = omega (arith, S.wide)
      go true false false c = omega arith
      go false f b true = omega arith
      go false f b false = omega (arith, S.wide)

  -- the reach of two columns or more
  reach-two : ltb 1 s.l ≡ true
      → reach s ≡ cond (is_eight s.kind && s.periodic && ltb 2 s.w) (2 * s.w - 1) (cond (rises s && ltb 1 s.w) (s.w + 1) s.w)
  unfolding reach
  reach-two h = rw h

  reach-wide : ltb 1 s.l ≡ true → s.w ≤ reach s
  reach-wide h = rw (reach-two h) (go (is_eight s.kind && s.periodic && ltb 2 s.w) (rises s && ltb 1 s.w))
    where
      go : (f b : Bool) → s.w ≤ cond f (2 * s.w - 1) (cond b (s.w + 1) s.w)
      go true b = omega (arith, S.wide)
      go false true = omega arith
      go false false = omega arith

  reach-rising : ltb 1 s.l ≡ true → rises s ≡ true → 1 < s.w → s.w + 1 ≤ reach s
  reach-rising h r k = rw (reach-two h, r, lt-ltb 1 s.w k) (go (is_eight s.kind && s.periodic) (ltb 2 s.w) refl)
    where
      go : (a b : Bool) → ltb 2 s.w ≡ b → s.w + 1 ≤ cond (a && b) (2 * s.w - 1) (s.w + 1)
      go true true q = omega (arith, ltb-true 2 s.w q)
      go true false q = omega arith
      go false b q = omega arith

  pub reach_round : ltb 1 s.l ≡ true → is_eight s.kind ≡ true → s.periodic ≡ true → 2 < s.w → 2 * s.w - 1 ≤ reach s
  reach_round h e p k = rw (reach-two h, e, p, lt-ltb 2 s.w k) (omega arith)

module _ (s : Strip) (S : Sides s.w s.l) (x y : ℕ) (row : y < s.w) (column : x < s.l) where
  -- the site's own column ends inside the strip
  here : x * s.w + s.w ≤ s.w * s.l
  here = let m : (x + 1) * s.w ≤ s.l * s.w = mul-le-mul_right s.w (omega arith) in omega arith

  -- and so does the next
  next : x + 1 < s.l → x * s.w + s.w + s.w ≤ s.w * s.l
  next h = let m : (x + 2) * s.w ≤ s.l * s.w = mul-le-mul_right s.w (omega arith) in omega arith

  two : x + 1 < s.l → ltb 1 s.l ≡ true
  two h = lt-ltb 1 s.l (omega arith)

  pub across-sound : y + 1 < s.w → Sound s (5 * vertex s.w x y) (edge (vertex s.w x y) (vertex s.w x (y + 1)))
  across-sound h =
      let d : vertex s.w x (y + 1) - vertex s.w x y ≡ 1 = omega arith in
      record {
        its_key = rw (d, across-of s.w x y row) (key-across s.w y (vertex s.w x y) (vertex s.w x (y + 1)) 1 refl h);
        ordered = omega arith;
        inside = omega (arith, here);
        near = rw d (reach-one s S);
      }

  pub along-sound : x + 1 < s.l → Sound s (5 * vertex s.w x y + 2) (edge (vertex s.w x y) (vertex s.w (x + 1) y))
  along-sound h =
      let d : vertex s.w (x + 1) y - vertex s.w x y ≡ s.w = omega arith in
      record {
        its_key = key-along s.w (vertex s.w x y % s.w) (vertex s.w x y) (vertex s.w (x + 1) y) (vertex s.w (x + 1) y - vertex s.w x y) d;
        ordered = omega (arith, S.wide);
        inside = omega (arith, next h);
        near = rw d (reach-wide s S (two h));
      }

  -- in one column only a cylinder that is no honeycomb goes round: a honeycomb's wall would not close
  wrap-near : s.periodic ≡ true → y + 1 ≡ s.w → 2 < s.w → brick s.kind x y ≡ true → odd_cylinder s ≡ false → y ≤ reach s
  unfolding reach
  wrap-near p h k b o = go (ltb 1 s.l) refl
    where
      one-column : ltb 1 s.l ≡ false → (honey : Bool) → is_honey s.kind ≡ honey → y ≤ reach s
      one-column e true q =
          let x0 : x ≡ 0 = omega (arith, ltb-false 1 s.l e) in
          let even : (x + y) % 2 ≡ 0 = eqb-true ((x + y) % 2) 0 (rw q at b) in
          let odd : s.w % 2 ≡ 1 = omega arith in
          absurd (let z = rw (q, p, eq-eqb (s.w % 2) 1 odd) at o in let z' : ◌≡◌ {A = ℕ} 0 1 = cc in omega arith)
      one-column e false q = rw (e, q, p, lt-ltb 2 s.w k) (omega arith)

      go : (t : Bool) → ltb 1 s.l ≡ t → y ≤ reach s
      go true e = omega (arith, reach-wide s S e)
      go false e = one-column e (is_honey s.kind) refl

  pub wrap-sound : s.periodic ≡ true → y + 1 ≡ s.w → 2 < s.w → brick s.kind x y ≡ true → odd_cylinder s ≡ false
      → Sound s (5 * vertex s.w x y + 1) (edge (vertex s.w x 0) (vertex s.w x y))
  wrap-sound p h k b o =
      let d : vertex s.w x y - vertex s.w x 0 ≡ y = omega arith in
      record {
        its_key = rw (d, across-of s.w x 0 S.wide) (key-wrap s.w 0 (vertex s.w x 0) (vertex s.w x y) y h k refl);
        ordered = omega arith;
        inside = omega (arith, here);
        near = rw d (wrap-near p h k b o);
      }

  -- the last vertex across has a next one only round a cylinder wider than 2
  round : has_next s y ≡ true → s.w ≤ y + 1 → (s.periodic ≡ true) × (2 < s.w)
  round h l = let a = and-true s.periodic (ltb 2 s.w) (rw (le-ltb (y + 1) s.w l) at h) in (a.0, ltb-true 2 s.w a.1)

  pub rising-sound : rises s ≡ true → x + 1 < s.l → has_next s y ≡ true
      → Sound s (5 * vertex s.w x y + 3) (edge (vertex s.w x y) (vertex s.w (x + 1) ((y + 1) % s.w)))
  rising-sound r h k = go (dec_lt (y + 1) s.w)
    where
      go : Dec (y + 1 < s.w) → Sound s (5 * vertex s.w x y + 3) (edge (vertex s.w x y) (vertex s.w (x + 1) ((y + 1) % s.w)))
      go (yes n) =
          let m : (y + 1) % s.w ≡ y + 1 = mod-eq_of_lt n in
          let d : vertex s.w (x + 1) (y + 1) - vertex s.w x y ≡ s.w + 1 = omega arith in
          rw m record {
            its_key = key-rising s.w (vertex s.w x y % s.w) (vertex s.w x y) (vertex s.w (x + 1) (y + 1)) (vertex s.w (x + 1) (y + 1) - vertex s.w x y) d;
            ordered = omega arith;
            inside = omega (arith, next h);
            near = rw d (reach-rising s S (two h) r (omega arith));
          }
      go (no n) =
          let e : y + 1 ≡ s.w = omega arith in
          let m : (y + 1) % s.w ≡ 0 = rw e (mod_self s.w) in
          let d : vertex s.w (x + 1) 0 - vertex s.w x y ≡ 1 = omega arith in
          rw m record {
            its_key = rw (d, across-of s.w x y row) (key_round s.w y (vertex s.w x y) (vertex s.w (x + 1) 0) 1 refl (round k (omega arith)).1 (omega arith));
            ordered = omega arith;
            inside = omega (arith, next h);
            near = rw d (reach-one s S);
          }

  -- on a cylinder the diagonals of eight neighbours alone fall
  eight-falls : falls s ≡ true → s.periodic ≡ true → is_eight s.kind ≡ true
  eight-falls f p = go (is_eight s.kind) (is_tri s.kind) (rw p at f)
    where
      go : (a b : Bool) → (a || (b && false)) ≡ true → a ≡ true
      go true b q = refl
      go false true q = q
      go false false q = q

  pub falling-sound : falls s ≡ true → x + 1 < s.l → has_next s y ≡ true
      → Sound s (5 * vertex s.w x y + 4) (edge (vertex s.w x ((y + 1) % s.w)) (vertex s.w (x + 1) y))
  falling-sound f h k = go (dec_lt (y + 1) s.w)
    where
      go : Dec (y + 1 < s.w) → Sound s (5 * vertex s.w x y + 4) (edge (vertex s.w x ((y + 1) % s.w)) (vertex s.w (x + 1) y))
      go (yes n) =
          let a = vertex s.w x (y + 1) in
          let b = vertex s.w (x + 1) y in
          let m : (y + 1) % s.w ≡ y + 1 = mod-eq_of_lt n in
          let d : b - a + 1 ≡ s.w = omega arith in
          rw m record {
            its_key = rw (across-of s.w x (y + 1) n) (key-falling s.w (y + 1) a b (b - a) d (omega arith) ∙ omega arith);
            ordered = omega arith;
            inside = omega (arith, next h);
            near = omega (arith, reach-wide s S (two h));
          }
      go (no n) =
          let a = vertex s.w x 0 in
          let b = vertex s.w (x + 1) y in
          let r = round k (omega arith) in
          let e : y + 1 ≡ s.w = omega arith in
          let m : (y + 1) % s.w ≡ 0 = rw e (mod_self s.w) in
          let d : b - a + 1 ≡ 2 * s.w = omega arith in
          rw m record {
            its_key = key-far s.w (a % s.w) a b (b - a) d r.1 ∙ omega arith;
            ordered = omega arith;
            inside = omega (arith, next h);
            near = omega (arith, reach_round s S (two h) (eight-falls f r.0) r.0 r.1);
          }
