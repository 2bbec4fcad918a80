use Rattle.std.proofs.Common.{◌≡◌, rules, tests, not, ◌∙◌}
use Rattle.std.proofs.lemmas.Iterator.{YieldsList-from_slice}
use Rattle.std.proofs.lemmas.Iterator.Search.{position_from_yields_List}
use Rattle.std.specs.List.{position}
use Rattle.std.specs.Char.{is_ascii_hexdigit}
use Rattle.digits.proofs.Values.{told}
use Rattle.digits.proofs.first_bad.Goals as goal

pub returns : goal.returns
returns c =
    let e : c.position.result ≡ position (λ b. not (is_ascii_hexdigit b)) c.args.s.now =
    position_from_yields_List (λ b. not (is_ascii_hexdigit b)) _ _ c.position.result c.position.ensures.ran (YieldsList-from_slice _ c.iter.ensures.rest) (λ x b q k. search (rules, tests))
    in
    c.unwrap_or.ensures ∙ rw e (told _)
