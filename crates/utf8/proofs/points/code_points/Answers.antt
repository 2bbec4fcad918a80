use Rattle.std.proofs.Common.{rules, tests, ◌∙◌}
use Rattle.std.proofs.lemmas.Iterator.{YieldsList-from_slice}
use Rattle.std.proofs.lemmas.Iterator.Consumers.{YieldsList-from_filter, count_from_yields_List}
use Rattle.utf8.proofs.Count.{is_start, counted}
use Rattle.utf8.proofs.points.code_points.Goals as goal

pub returns : goal.returns
returns c =
    count_from_yields_List c.filter.result _ c.count.ensures.ran
    (YieldsList-from_filter _ is_start (YieldsList-from_slice c.args.s.now (cc)) c.filter.ensures.closure (λ x r q k. search (rules, tests)))
    ∙ counted c.args.s.now
