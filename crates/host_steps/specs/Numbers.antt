-- What include/qalithonda.h says of the numbers of a cursor's shift and phase.
use Rattle.std.specs.Prelude.{ℕ, ◌<◌, ◌≡◌, true, false}
use Rattle.utf7_read.specs.declared.State.TheVariants.{Outside, Opening, Run}
use Rattle.mailbox_read.specs.declared.State.TheVariants as name
use Rattle.jp2_read.specs.declared.Phase.TheVariants.{Plain, Return, First, Shifted, Escape, Escape1, Escape2}
use Rattle.host_steps.specs.Steps.{shift_in, name_shift_in, phase_in}

-- UTF-7: 0 outside a run, 1 directly after '+', else in a run, with how many bits wait for a full sixteen, and
-- those bits as a number
pub record Shifts (pending value : ℕ) : Type 0 where
  pub outside : shift_in 0 pending value ≡ Outside
  pub sign : shift_in 1 pending value ≡ Opening
  pub else : (shift : ℕ) → 1 < shift → shift_in shift pending value ≡ Run pending value

-- mailbox names: 0 outside a run, 1 outside directly after a run, 2 after '&', 3 after '&' directly after a run, else
-- in a run
pub record NameShifts (pending value : ℕ) : Type 0 where
  pub outside : name_shift_in 0 pending value ≡ name.Outside false
  pub outside-after : name_shift_in 1 pending value ≡ name.Outside true
  pub sign : name_shift_in 2 pending value ≡ name.Opening false
  pub sign-after : name_shift_in 3 pending value ≡ name.Opening true
  pub else : (shift : ℕ) → 3 < shift → name_shift_in shift pending value ≡ name.Run pending value

-- JP-2: 0 between cells, 1 after a CR, 2 after the first byte of a pair, 3 after ESC N, 4, 5 or 6 after ESC and none,
-- one or two bytes more; of a cursor made by hand any number above 6 is taken for 6
pub record Phases (first second : ℕ) : Type 0 where
  pub between : phase_in 0 first second ≡ Plain
  pub after-cr : phase_in 1 first second ≡ Return
  pub pair : phase_in 2 first second ≡ First first
  pub shifted : phase_in 3 first second ≡ Shifted
  pub escape : phase_in 4 first second ≡ Escape
  pub one_more : phase_in 5 first second ≡ Escape1 first
  pub two-more : (phase : ℕ) → 5 < phase → phase_in phase first second ≡ Escape2 first second
