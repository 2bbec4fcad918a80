-- FINGERPRINT and MESSAGE-INTEGRITY at the place where they go (RFC 5389 sections 15.4 and 15.5; docs/SCOPE.md, "FINGERPRINT", "MESSAGE-INTEGRITY").
use Rattle.std.specs.Prelude.{ℕ, List, []}
use Rattle.big_endian.specs.Numbers.{four}
use Rattle.attribute.specs.Attribute.{Attr}
use Rattle.fingerprint.specs.Fingerprint.{fingerprint_at}
use Rattle.read_integrity.specs.Integrity.{integrity_at}
use Rattle.write_plan.specs.Plan.{size_of}
use Rattle.write_raw.specs.Append.{attr}

-- the attributes for the message at the front of d
unfoldable pub fingerprint : List ℕ → Attr
fingerprint d = attr 0x8028 (four (fingerprint_at d (size_of d))) []

unfoldable pub integrity : List ℕ → List ℕ → Attr
integrity key d = attr 0x0008 (integrity_at key d (size_of d)) []
