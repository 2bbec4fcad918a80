-- What an answer says tells it apart from every other.
use Rattle.std.specs.Prelude.{◌≡◌, get_or, drop, Result}
use Rattle.std.proofs.Common.{ap}
use Rattle.wire.specs.SaidLaws.{result_one}
use Rattle.wire.specs.TypeNumber.{class_numbered}
use Rattle.wire.specs.TypeLaws.{class_numbered_lem}
use Rattle.wire.specs.declared.refusal.Refusal.{Refusal}
use Rattle.wire.specs.declared.types.MessageClass.{MessageClass}
use Rattle.header.specs.Header.{header_said}
use Rattle.header.specs.declared.Header.{Header}

pub header_one : {a b : Result Header Refusal} → header_said a ≡ header_said b → a ≡ b
unfolding header_said
header_one =
    result_one _
    (λ v. record { class = class_numbered (get_or v 0 0); method = record { code = get_or v 1 0 }; body = get_or v 2 0; id = record { bytes = drop 3 v } })
    (λ h. ap (λ (c : MessageClass). record { class = c; method = h.method; body = h.body; id = h.id }) (class_numbered_lem h.class))
