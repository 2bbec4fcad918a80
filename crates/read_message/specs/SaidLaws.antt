-- What a reading says tells it apart from every other.
use Rattle.std.specs.Prelude.{ℕ, zero, suc, ◌≡◌, refl, get_or, drop, Result, Ok, Err}
use Rattle.std.proofs.Common.{ap}
use Rattle.base.specs.Said.{Said}
use Rattle.base.specs.SaidLaws.{one_to_one}
use Rattle.wire.specs.TypeNumber.{class_numbered}
use Rattle.wire.specs.TypeLaws.{class_numbered_lem}
use Rattle.wire.specs.declared.refusal.Refusal.{Refusal}
use Rattle.wire.specs.declared.types.MessageClass.{MessageClass}
use Rattle.attribute.specs.Scan.{Scan, at_fault}
use Rattle.read_message.specs.Reading.{answer_said, reading_said}
use Rattle.read_message.specs.declared.Reading.{Reading}

reading_from : Said → Result Reading Refusal
reading_from s = by s.kind
  where
    value : ℕ → ℕ
    value i = get_or s.values i 0

    read : Scan → Result Reading Refusal
    read t = Ok (record { class = class_numbered (value 0); method = record { code = value 1 }; id = record { bytes = drop 3 s.values }; attributes = t })

    by : ℕ → Result Reading Refusal
    by zero = read (Ok (value 2))
    by (suc zero) = read (at_fault s.number (value 2))
    by (suc (suc k)) = Err (record { number = s.number })

pub reading_one : {a b : Result Reading Refusal} → reading_said a ≡ reading_said b → a ≡ b
unfolding answer_said reading_said reading_from
reading_one = one_to_one reading_said reading_from back
  where
    again : (r : Reading) (t : Scan)
        → reading_from (reading_said (Ok (record { class = r.class; method = r.method; id = r.id; attributes = t })))
        ≡ Ok (record { class = r.class; method = r.method; id = r.id; attributes = t })
    again r (Ok n) = ap (λ (c : MessageClass). Ok (record { class = c; method = r.method; id = r.id; attributes = Ok n })) (class_numbered_lem r.class)
    again r (Err f) = ap (λ (c : MessageClass). Ok (record { class = c; method = r.method; id = r.id; attributes = Err f })) (class_numbered_lem r.class)

    back : (a : Result Reading Refusal) → reading_from (reading_said a) ≡ a
    back (Ok r) = again r r.attributes
    back (Err r) = refl
