-- The definition agrees with the original, bit for bit, on the jobs of Original: a slip in a scale would show here.
use Rattle.std.specs.Prelude.{◌≡◌, refl, true}
use Rattle.std.specs.Float.Ieee.{add, sub, mul, div, neg, lt}
use Rattle.transfer_matrix.specs.Replay.{agree}
use Rattle.transfer_matrix.specs.Original.{window1, window2, window3, window4}

pub window1_agrees : agree window1 ≡ true
unfolding window1 agree add sub mul div neg lt
window1_agrees = refl

pub window2_agrees : agree window2 ≡ true
unfolding window2 agree add sub mul div neg lt
window2_agrees = refl

pub window3_agrees : agree window3 ≡ true
unfolding window3 agree add sub mul div neg lt
window3_agrees = refl

pub window4_agrees : agree window4 ≡ true
unfolding window4 agree add sub mul div neg lt
window4_agrees = refl
