use borrow.Author.Tests.{lt-ltb, le-ltb}
use Rattle.wire.specs.TypeNumber.{method_made}
use Rattle.wire.proofs.method.Method.new.Goals as goal

pub returns-then-codepoint-lt4096 : goal.returns-then-codepoint-lt4096
unfolding method_made
returns-then-codepoint-lt4096 c = simp (lt-ltb _ _ c.if-codepoint-lt4096.true)

pub returns : goal.returns
unfolding method_made
returns c = simp (le-ltb _ _ c.if-codepoint-lt4096.false)
