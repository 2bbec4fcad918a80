use Rattle.std.proofs.Common.{arith, ◌∙◌}
use Rattle.digits.proofs.Values.{no_digit, too_large, turn, done}
use Rattle.digits.proofs.value_in.Goals as goal

pub returns-in_err-digit : goal.returns-in_err-digit
returns-in_err-digit c = c.from_residual.ensures ∙ no_digit _ _ _ _ c.loop-b.invariant c.requires.below c.loop-b-test.true c.from.ensures c.in_err-digit.ensures.value

pub returns-in_err-checked_mul : goal.returns-in_err-checked_mul
returns-in_err-checked_mul c = c.from_residual-in_err-checked_mul.ensures ∙ too_large _ _ _ _ c.loop-b.invariant c.requires.below c.loop-b-test.true c.from.ensures c.in_ok-digit.ensures.value (λ l. omega (arith, c.in_err-checked_mul.ensures))

pub returns-in_err-n : goal.returns-in_err-n
returns-in_err-n c =
    c.from_residual-in_err-n.ensures
    ∙ too_large _ _ _ _ c.loop-b.invariant c.requires.below c.loop-b-test.true c.from.ensures c.in_ok-digit.ensures.value (λ l. omega (arith, c.in_err-n.ensures, c.in_ok-checked_mul.ensures))

pub loop-b-preserved : goal.loop-b-preserved
loop-b-preserved c = turn _ _ _ _ c.loop-b.invariant c.requires.below c.loop-b-test.true c.from.ensures c.in_ok-digit.ensures.value (omega (arith, c.in_ok-n.ensures)) (omega (arith, c.in_ok-n.ensures, c.in_ok-checked_mul.ensures))

pub returns : goal.returns
returns c = search (done)
