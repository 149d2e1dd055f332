use mathlib.Core.Path.{◌≡◌, sym, ◌∙◌}
use mathlib.Core.Logic.{dite}
use Prim.Native.Nat.{◌+◌, ◌-◌, ◌≤◌, ◌<◌}
use native.Mathlib.Decide.{dec_lt}
use native.Mathlib.Omega.{arith}
use lib.ListN.{get_or}
use Rattle.transfer_matrix.specs.Room.{later}
use Rattle.vertex_step.proofs.Laws.Ready.{tail-factors}
use Rattle.sweep_places.proofs.Frames.{since-then, since-forward}
use Rattle.sweep_backward.proofs.BackwardIteration.{begun-since, begun_invariant, begun-stands, kept-from-first, invariant_then}
use Rattle.sweep_answering.proofs.Passings.{passed_none, passed_further, vertex-ahead, fewer, vertex-asked, passed_on}
use Rattle.sweep_answering.proofs.sweep_answering.Goals as goal

pub last_vertex-requires : goal.last_vertex-requires
last_vertex-requires c = let p = c.requires.2 in (p.matched, p.ordered, p.inside)

pub begin_from-at-requires : goal.begin_from-at-requires
begin_from-at-requires c = let s = c in (s.requires.0, s.requires.1)

pub loop-left-init : goal.loop-left-init
loop-left-init c =
    let s = c in
    let begun = c.begin_from-at.ensures in
    passed_none _ _ _ _ _ _ _ _ _ _ _ _ _ _ _ s.requires.2
    (begun_invariant s.args.room.now s.requires.1 begun.0 begun.1 begun.2 s.args.changed ((let it : (let a = c.args in a.changed ≤ c.max-first.result) = omega (arith, c.max-first.ensures) in it))) ((let it : (let a = c.args in 0 < a.passing → later a.us.now a.vs.now (get_or a.order.now (a.passing - 1) 0) ≤ c.begin_from-at.result.vertex) = λ some. let s = c in
    let from = c.begin_from-at.ensures.0 in
    let last = c.last_vertex.ensures some in
    let most = c.max-first.ensures in
    let below = s.requires.2.below (s.args.passing - 1) (omega arith) in
    dite (dec_lt (c.begin_from-at.result.vertex + 1) s.args.n) (λ l. omega (arith, from.from l, most, last)) (λ l. omega (arith, from.below, below)) in it)) s.requires.3

pub last_vertex-v-requires : goal.last_vertex-v-requires
last_vertex-v-requires c = let p = c.requires.2 in (p.matched, p.ordered, omega (arith, c.loop-left.invariant.down, p.inside))

pub sweep_down-newest-requires : goal.sweep_down-newest-requires
sweep_down-newest-requires c =
    let i = c.loop-left.invariant in
    let g = i.sweep in
    (g.ready, g.below, vertex-ahead _ _ _ _ _ _ _ _ _ _ _ _ _ _ _ _ _ _ c.requires.2 i (omega arith) _ (c.last_vertex-v.ensures (omega arith)), g.free)

pub first_of-from-requires : goal.first_of-from-requires
first_of-from-requires c = let p = c.requires.2 in (p.matched, p.ordered, omega (arith, c.loop-left.invariant.down, p.inside))

pub forward_place-requires : goal.forward_place-requires
forward_place-requires c = let g = c.sweep_down-newest.ensures.backward_invariant in omega (arith, g.ready.holds, g.below)

pub answer_direct-sound-requires : goal.answer_direct-sound-requires
answer_direct-sound-requires c =
    rw c.forward_place.ensures
    (vertex-asked _ _ _ _ _ _ _ _ _ _ _ _ _ _ _ _ _ _ c.requires.2 c.loop-left.invariant (omega arith) _ (c.last_vertex-v.ensures (omega arith))
    _ _ _ _ c.sweep_down-newest.ensures.backward_invariant c.first_of-from.ensures)

pub last_vertex-requires-in-loop-left : goal.last_vertex-requires-in-loop-left
last_vertex-requires-in-loop-left c = let p = c.requires.2 in (p.matched, p.ordered, omega (arith, c.loop-left.invariant.down, c.first_of-from.ensures.inside, p.inside))

pub go_on_from-at-requires : goal.go_on_from-at-requires
go_on_from-at-requires c = let swept = c.sweep_down-newest.ensures in (swept.backward_invariant.ready, omega (arith, swept.vertex_value, swept.backward_invariant.below))

pub loop-left-smaller : goal.loop-left-smaller
loop-left-smaller c =
    fewer _ _ _ _ _ _ _ _ _ _ _ _ _ _ _ _ _ _ c.requires.2 c.loop-left.invariant c.loop-left-test.true _ (c.last_vertex-v.ensures c.loop-left-test.true)
    _ _ _ _ c.sweep_down-newest.ensures.backward_invariant c.first_of-from.ensures

pub loop-left-preserved : goal.loop-left-preserved
loop-left-preserved c =
    let p = c.requires.2 in
    let passed = passed_on _ _ _ _ _ _ _ _ _ _ _ _ _ _ _ _ _ _ p c.loop-left.invariant c.loop-left-test.true _ (c.last_vertex-v.ensures c.loop-left-test.true)
    _ _ _ _ c.sweep_down-newest.ensures.backward_invariant c.first_of-from.ensures _ _ (rw c.forward_place.ensures at c.answer_direct-sound.ensures) in
    let most = c.max-next.ensures in
    passed_further _ _ _ _ _ _ _ _ _ _ _ _ _ _ _ _ _ _ p passed _ _ _ _ (omega (arith, most)) (λ b. omega (arith, most, c.last_vertex-in-loop-left.ensures b))
    (rw c.sweep_down-newest.ensures.vertex_value at c.go_on_from-at.ensures)

pub kept_from-requires : goal.kept_from-requires
kept_from-requires c = let s = c in (s.requires.1.holds, s.requires.0)

pub sweep_down-requires : goal.sweep_down-requires
sweep_down-requires c =
    let g = c.loop-left.invariant.sweep in
    let below : c.min-stop.result ≤ c.loop-left.at.vertex = omega (arith, c.min-stop.ensures) in
    (g.ready, g.below, below, g.free)

pub shape_of-room : goal.shape_of-room
shape_of-room c = c.sweep_down.ensures.backward_invariant.since.same ∙ c.loop-left.invariant.sweep.since.same ∙ c.begin_from-at.auto.room

pub shape_of-results : goal.shape_of-results
shape_of-results c = c.loop-left.invariant.long ∙ sym c.requires.3

pub returns : goal.returns
returns c =
    let s = c in
    let i = c.loop-left.invariant in
    let stop : (c.min-stop.result ≤ c.loop-left.at.vertex) × (c.min-stop.result ≤ c.kept_from.result) =
    (omega (arith, c.min-stop.ensures), omega (arith, c.min-stop.ensures)) in
    let g = invariant_then stop.0 i.sweep c.sweep_down.ensures.backward_invariant in
    let begun = c.begin_from-at.ensures in
    let start = begun-since s.args.room.now s.requires.1 begun.0 begun.1 begun.2 in
    let none : c.loop-left.left ≡ 0 = omega (arith, c.loop-left-test.false) in record {
      since = since-then start g.since;
      backward = λ J of forward given.
          let factors = tail-factors s.args.room.now c.begin_from-at.new.room s.args.scales s.args.n start.tail in
          let stands = begun-stands s.args.room.now s.requires.1 begun.0 begun.1 begun.2 J of.vertices of.window s.args.changed given in
          let kept = (g.newest J (rw factors of) stands).kept in
          (kept-from-first c.kept_from.ensures stop.1 kept, rw none at (i.told J (rw factors of) stands (since-forward start J forward)));
    }
