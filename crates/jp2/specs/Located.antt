-- Which states of JP-2 are between cells, whatever sets are in force: no pair, escape or ESC N is begun.
use Rattle.std.specs.Prelude.{Bool, true, false}
use Rattle.jp2.specs.Rule.{Phase, plain, return, first, shifted, escape, State}

abbrev pub resting : Phase → Bool
resting plain = true
resting return = true
resting (first a) = false
resting shifted = false
resting (escape bytes) = false

abbrev pub between : State → Bool
between st = resting st.phase
