-- What an answer says tells it apart from every other.
use Rattle.std.specs.Prelude.{ℕ, zero, suc, ◌≡◌, refl, get_or, drop, Result, Ok, Err}
use Rattle.base.specs.Said.{Said}
use Rattle.base.specs.SaidLaws.{one_to_one}
use Rattle.wire.specs.declared.refusal.Refusal.{Refusal}
use Rattle.net.specs.declared.Family.TheVariants.{Ipv4, Ipv6}
use Rattle.net.specs.declared.SocketAddr.{SocketAddr}
use Rattle.net.specs.declared.Family.{Family}
use Rattle.read_typed.specs.Typed.{value_said, typed_said, family_numbered}
use Rattle.read_typed.specs.declared.Value.{Value}
use Rattle.read_typed.specs.declared.Value.TheVariants.{Address, Code, Plain}

typed_from : Said → Result Value Refusal
typed_from s = by s.kind
  where
    value : ℕ → ℕ
    value i = get_or s.values i 0

    by : ℕ → Result Value Refusal
    by zero = Ok (Address (record { family = family_numbered (value 0); port = value 1; ip = drop 2 s.values }))
    by (suc zero) = Ok (Code (record { code = value 0; reserved = value 1 }))
    by (suc (suc zero)) = Ok Plain
    by (suc (suc (suc k))) = Err (record { number = s.number })

pub typed_one : {a b : Result Value Refusal} → typed_said a ≡ typed_said b → a ≡ b
unfolding value_said typed_said typed_from
typed_one = one_to_one typed_said typed_from back
  where
    address : (f : Family) (a : SocketAddr)
        → typed_from (typed_said (Ok (Address (record { family = f; port = a.port; ip = a.ip })))) ≡ Ok (Address (record { family = f; port = a.port; ip = a.ip }))
    address Ipv4 a = refl
    address Ipv6 a = refl

    back : (a : Result Value Refusal) → typed_from (typed_said a) ≡ a
    back (Ok (Address a)) = address a.family a
    back (Ok (Code e)) = refl
    back (Ok Plain) = refl
    back (Err r) = refl
