-- The splice's length and words, as the lemmas on splices have them.
use Rattle.std.proofs.Common.{◌∙◌}
use Rattle.splice.proofs.Splices.{used-after, filled-after}
use Rattle.bench_calls.proofs.accept.Goals as goal

pub returns : goal.returns
returns c =
    let a = c.args in
    let p = c.requires in
    let e = c.splice_in-length.ensures in
    let n = e.0 ∙ used-after a.text.now a.cells.now a.b.length a.place a.count p.0 p.1.fits p.2 in (
      rw n,
      e.1 ∙ filled-after a.text.now a.cells.now a.b.length a.place a.count p.0 p.1.fits p.2 p.1,
    )
