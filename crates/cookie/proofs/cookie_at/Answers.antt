use Rattle.std.proofs.Common.{arith}
use Rattle.cookie.proofs.Cookies.{here, nowhere}
use Rattle.cookie.proofs.cookie_at.Goals as goal

pub returns-in-None : goal.returns-in-None
returns-in-None c = nowhere _ _ (omega (arith, c.in-None.ensures.lookup))

pub returns-in-Some : goal.returns-in-Some
returns-in-Some c = here _ _ c.in-Some.ensures.lookup.0.2 c.starts_with.ensures.value
