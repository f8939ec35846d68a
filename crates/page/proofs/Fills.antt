-- The buffers of a page that was found sound: what is past their ends is 0. Assumes nothing.
use Prim.Native.Nat.{ℕ}
use Rattle.ledger.specs.Page.{State}
use Rattle.ledger.proofs.Sound.{framed-parts}
use Rattle.records.proofs.Found.{Fit}
use Rattle.splice.specs.Splice.{Filled}

module _ {s : State} {last : ℕ} (f : Fit s last) where
  pub text-filled : Filled s.page.length s.text
  text-filled = record { fits = f.frame.fits; blank = (framed-parts s f.sound.frame).blank }

  pub history-filled : Filled s.page.used s.history
  history-filled = record { fits = f.frame.uses; blank = (framed-parts s f.sound.frame).unused }
