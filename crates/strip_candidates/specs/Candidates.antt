-- The candidates of the standard pair set, in order.
use Rattle.std.specs.Prelude.{Bool, true, false, ◌&&◌, List, [], ◌∷◌, ℕ, ◌+◌, ◌-◌, ◌/◌, ltb, leb, get_or}
use Prim.Native.String.{String}
use Rattle.strip.specs.Spelling.{spelled}
use Rattle.strip_candidates.specs.declared.Sites.{Sites}

-- two sites, (x1, y1) and (x2, y2), and whether a strip wants them as a pair
abbrev pub between_sites : Bool → ℕ → ℕ → ℕ → ℕ → Sites
between_sites wanted x1 y1 x2 y2 = record { wanted = wanted; x1 = x1; y1 = y1; x2 = x2; y2 = y2 }

pub record Candidate : Type 0 where
  pub label : List ℕ
  pub sites : Sites

abbrev pub candidate : String → Bool → ℕ → ℕ → ℕ → ℕ → Candidate
candidate name wanted x1 y1 x2 y2 = record { label = spelled name; sites = between_sites wanted x1 y1 x2 y2 }

-- the candidates of strips w across and l along; (xm, ym) is the middle
unfoldable pub candidates : ℕ → ℕ → List Candidate
candidates w l =
    let xm = (l - 1) / 2 in
    let ym = (w - 1) / 2 in
    let centre = leb 3 w && leb 3 l in
    candidate "corner-adj-a" true 0 0 0 1
    ∷ candidate "corner-adj-l" true 0 0 1 0
    ∷ candidate "bdry-adj-a" (leb 3 w) 0 1 0 2
    ∷ candidate "bdry-adj-l" (leb 3 l) 1 0 2 0
    ∷ candidate "bdry-adj-lmid" (leb 4 l) xm 0 (xm + 1) 0
    ∷ candidate "bdry-d2-l" (leb 4 l) (xm - 1) 0 (xm - 1 + 2) 0
    ∷ candidate "bdry-d3-l" (leb 5 l) (xm - 1) 0 (xm - 1 + 3) 0
    ∷ candidate "bdry-d2-a" (leb 4 w) 0 0 0 2
    ∷ candidate "bdry-d3-a" (leb 4 w) 0 0 0 3
    ∷ candidate "short-end-to-end" true 0 0 0 (w - 1)
    ∷ candidate "end-to-end-l" true 0 0 (l - 1) 0
    ∷ candidate "opp-corners" true 0 0 (l - 1) (w - 1)
    ∷ candidate "centre-adj-l" centre xm ym (xm + 1) ym
    ∷ candidate "centre-adj-a" centre xm ym xm (ym + 1)
    ∷ candidate "centre-d2-l" (centre && ltb (xm + 2) l) (xm - 1) ym (xm - 1 + 2) ym
    ∷ candidate "centre-d3-l" (centre && ltb (xm + 3) l) (xm - 1) ym (xm - 1 + 3) ym
    ∷ candidate "centre-d4-l" (centre && ltb (xm + 4) l) (xm - 2) ym (xm - 2 + 4) ym
    ∷ candidate "centre-d2-a" (leb 5 w && leb 3 l) xm (ym - 1) xm (ym + 1)
    ∷ []

-- the candidate's own place in the list, and one that no strip wants past its end
unfoldable pub candidate_at : ℕ → ℕ → ℕ → Candidate
unfolding candidates
candidate_at w l i = get_or (candidates w l) i (candidate "" false 0 0 0 0)
