-- Each arm is a line of the list of candidates.
use native.Mathlib.Omega.{arith}
use mathlib.Core.Path.{◌≡◌}
use Rattle.strip_candidates.specs.Candidates.{candidate_at, candidates}
use Rattle.strip_candidates.proofs.sites_of.Goals as goal

pub returns-in-0 : goal.returns-in-0
unfolding candidate_at candidates
returns-in-0 c = rw c.in-0.is c.between_sites.ensures

pub returns-in-1 : goal.returns-in-1
unfolding candidate_at candidates
returns-in-1 c = rw c.in-1.is c.between_sites-in-1.ensures

pub returns-in-2 : goal.returns-in-2
unfolding candidate_at candidates
returns-in-2 c = rw c.in-2.is c.between_sites-in-2.ensures

pub returns-in-3 : goal.returns-in-3
unfolding candidate_at candidates
returns-in-3 c = rw c.in-3.is c.between_sites-in-3.ensures

pub returns-in-4 : goal.returns-in-4
unfolding candidate_at candidates
returns-in-4 c = rw c.in-4.is c.between_sites-in-4.ensures

pub returns-in-5 : goal.returns-in-5
unfolding candidate_at candidates
returns-in-5 c = rw (c.in-5.is, ← c.back-x1.ensures) c.between_sites-in-5.ensures

pub returns-in-6 : goal.returns-in-6
unfolding candidate_at candidates
returns-in-6 c = rw (c.in-6.is, ← c.back-x1.ensures) c.between_sites-in-6.ensures

pub returns-in-7 : goal.returns-in-7
unfolding candidate_at candidates
returns-in-7 c = rw c.in-7.is c.between_sites-in-7.ensures

pub returns-in-8 : goal.returns-in-8
unfolding candidate_at candidates
returns-in-8 c = rw c.in-8.is c.between_sites-in-8.ensures

pub returns-in-9 : goal.returns-in-9
unfolding candidate_at candidates
returns-in-9 c = rw c.in-9.is c.between_sites-in-9.ensures

pub returns-in-10 : goal.returns-in-10
unfolding candidate_at candidates
returns-in-10 c = rw c.in-10.is c.between_sites-in-10.ensures

pub returns-in-11 : goal.returns-in-11
unfolding candidate_at candidates
returns-in-11 c = rw c.in-11.is c.between_sites-in-11.ensures

pub returns-in-12 : goal.returns-in-12
unfolding candidate_at candidates
returns-in-12 c = rw c.in-12.is c.between_sites-in-12.ensures

pub returns-in-13 : goal.returns-in-13
unfolding candidate_at candidates
returns-in-13 c = rw c.in-13.is c.between_sites-in-13.ensures

pub returns-in-14 : goal.returns-in-14
unfolding candidate_at candidates
returns-in-14 c = rw (c.in-14.is, ← c.back-x1.ensures) c.between_sites-in-14.ensures

pub returns-in-15 : goal.returns-in-15
unfolding candidate_at candidates
returns-in-15 c = rw (c.in-15.is, ← c.back-x1.ensures) c.between_sites-in-15.ensures

pub returns-in-16 : goal.returns-in-16
unfolding candidate_at candidates
returns-in-16 c = rw (c.in-16.is, ← c.back-x2.ensures) c.between_sites-in-16.ensures

pub returns-in_default : goal.returns-in_default
unfolding candidate_at candidates
returns-in_default c = let e : c.args.i ≡ 17 = omega arith in rw (e, ← c.back-y1.ensures) c.between_sites-in_default.ensures
