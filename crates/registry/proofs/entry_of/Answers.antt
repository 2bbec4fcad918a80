use Rattle.std.proofs.Common.{rules, ap, ◌∙◌, eqb}
use borrow.Author.Tests.{tests}
use Rattle.std.proofs.lemmas.Iterator.{YieldsList-from_slice}
use Rattle.std.proofs.lemmas.Iterator.Search.{find_from_yields_List}
use Rattle.registry.specs.Rows.{entry_said, rfc5389}
use Rattle.registry.proofs.Looking.{look_finds, copied_is}
use Rattle.registry.proofs.entry_of.Goals as goal

pub returns : goal.returns
returns c =
    ap entry_said
    (c.copied.ensures
    ∙ copied_is c.find.result
    ∙ find_from_yields_List (λ r. eqb r.kind c.args.kind) _ _ c.find.result c.find.ensures.ran (YieldsList-from_slice rfc5389 cc) (λ x b q k. search (rules, tests))
    ∙ look_finds rfc5389 c.args.kind)
