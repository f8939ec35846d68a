-- What a judgement tells of a page, for the calls that ask for it. Assumes nothing.
use Prim.Native.Nat.{ℕ, ◌≤◌}
use mathlib.Core.Path.{◌≡◌, refl, sym, ap, ◌∙◌}
use mathlib.Core.Bool.{Bool, true, false, cond, ◌||◌}
use mathlib.Core.List.{List, reverse_aux}
use Rattle.answer.specs.declared.Refused.{Refused}
use Rattle.std.specs.Prelude.{Option, None, Some, Ok, Err}
use native.Mathlib.Omega.{arith}
use lib.ListN.{length, length-take}
use borrow.Author.Tests.{ltb-false}
use Rattle.answer.specs.Answer.{Verdict, limit, numbered, in_numbers, too_long, refused_at, Answer}
use Rattle.answer.specs.declared.Refusal.TheVariants.{Unsound, OverLimit}
use Rattle.editor.proofs.Steps.{or_parts}
use Rattle.ledger.specs.Words.{Entry, Parted}
use Rattle.ledger.specs.Page.{State, records}
use Rattle.ledger.specs.Calls.{over}
use Rattle.ledger.proofs.Words.{Whole, sizes-reverse, length-words}
use Rattle.ledger.proofs.Sound.{Sound, framed-parts, records-sound}
use Rattle.records.specs.Walking.{last_begin, judged_as, judge_of}
use Rattle.records.proofs.Judging.{Frame}

-- a page that was found sound
pub record Fit (s : State) (last : ℕ) : Type 0 where
  pub short : (over s.text || over s.history) ≡ false
  pub short-text : length s.text ≤ limit
  pub short-history : length s.history ≤ limit
  pub parted : Parted
  pub found : records s ≡ Some parted
  pub sound : Sound s parted
  pub begins : last ≡ last_begin s.page.done parted.standing
  pub frame : Frame s.page s.text s.history

module _ (s : State) where
  sound-frame : (v : Parted) → Sound s v → Frame s.page s.text s.history
  sound-frame v h =
      let f = framed-parts s h.frame in
      let all : List Entry = reverse_aux v.standing v.undone in
      record {
        opens = f.opens;
        fits = f.fits;
        uses = f.uses;
        stands = omega (arith, h.end, sizes-reverse v.standing v.undone, length-words all, ap length h.tiles, length-take s.page.used s.history);
      }

  fit-cases :
      (last : ℕ) (t : Bool) (x : Option Parted) → (over s.text || over s.history) ≡ t → records s ≡ x → Whole (Sound s) x →
      cond t (refused_at OverLimit limit) (judged_as s.page.done x) ≡ Ok last → Fit s last
  fit-cases last true x q r w e = let z : ◌≡◌ {A = ℕ} 0 1 = cc in absurd (omega arith)
  fit-cases last false None q r w e = let z : ◌≡◌ {A = ℕ} 0 1 = cc in absurd (omega arith)
  fit-cases last false (Some v) q r w e =
      let p = or_parts (over s.text) (over s.history) q in
      record {
        short = q;
        short-text = ltb-false limit (length s.text) p.0;
        short-history = ltb-false limit (length s.history) p.1;
        parted = v;
        found = r;
        sound = w;
        begins = (cc);
        frame = sound-frame v w;
      }

  pub fit : {j : Answer} {last : ℕ} → j ≡ judge_of s → j ≡ Ok last → Fit s last
  unfolding judge_of
  fit d e = fit-cases _ (over s.text || over s.history) (records s) refl refl (records-sound s) (sym d ∙ e)

  -- a page that was refused: every call, and the question, gives that answer, 16 or 14, by its way to refuse
  module _
      (a : Refused)
      {R : Type 0}
      (refuse : Verdict → R)
      (call : Option Parted → R)
      (none-refused : call None ≡ refuse (numbered 14 0)) where
    unfit-cases :
        (t : Bool) (x : Option Parted) → cond t (refused_at OverLimit limit) (judged_as s.page.done x) ≡ Err a →
        cond t (refuse too_long) (call x) ≡ refuse (in_numbers (Err a))
    unfit-cases true x e = let z : refused_at OverLimit limit ≡ Err a = cc in ap (λ (b : Answer). refuse (in_numbers b)) z
    unfit-cases false None e = let z : refused_at Unsound 0 ≡ Err a = cc in none-refused ∙ ap (λ (b : Answer). refuse (in_numbers b)) z
    unfit-cases false (Some v) e = let z : ◌≡◌ {A = ℕ} 0 1 = cc in absurd (omega arith)

    pub unfit :
        {j : Answer} → j ≡ judge_of s → j ≡ Err a →
        cond (over s.text || over s.history) (refuse too_long) (call (records s)) ≡ refuse (in_numbers (Err a))
    unfolding judge_of
    unfit d e = unfit-cases (over s.text || over s.history) (records s) (sym d ∙ e)
