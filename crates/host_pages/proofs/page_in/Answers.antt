use Rattle.host_pages.proofs.OnPages.{decoded}
use Rattle.host_pages.proofs.page_in.Goals as goal

pub returns : goal.returns
returns c =
    let d = decoded c.in_ok-try_from.field-0 c.args.p.kind c.in_ok-try_from.ensures in
    (d.0, rw (d.1, c.mark_in.ensures))
