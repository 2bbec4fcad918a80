-- NOT EMPTY: a FINGERPRINT appended to a whole message makes a datagram of the kind that demand 3 speaks of.
use Rattle.std.specs.Prelude.{ℕ, ◌+◌, ◌-◌, ◌^◌, ◌<◌, ◌≡◌, refl, take, Ok}
use mathlib.Core.List.{List, [], ◌∷◌, ◌++◌}
use Rattle.std.proofs.Common.{sym}
use Rattle.std.proofs.Math.Path.{ap, subst}
use native.Mathlib.Omega.{arith}
use Rattle.std.specs.Int.Bits.{bit_xor}
use Rattle.std.proofs.lemmas.Nat.{xor_lt}
use Rattle.base.specs.BytesLaws.{take-bytes}
use Rattle.base.specs.Bytes.{Bytes}
use Rattle.big_endian.specs.Numbers.{four, with_length}
use Rattle.crc.specs.Crc.{bit_steps, byte_step, bytes_from, crc32_of}
use Rattle.crc.specs.Octets.{octets}
use Rattle.crc.proofs.CrcLaws.{octets_lt}
use Rattle.wire.specs.declared.method.Method.{Method}
use Rattle.wire.specs.declared.types.MessageClass.{MessageClass}
use Rattle.attribute.specs.Attribute.{Attr}
use Rattle.fingerprint.specs.Fingerprint.{fingerprint_at}
use Rattle.registry.specs.Rows.{rfc5389}
use Rattle.read_message.specs.Reading.{reading_of, answer_of}
use Rattle.read_message.proofs.WholeLaws.{told_whole}
use Rattle.read_message.specs.Reading.{Whole}
use Rattle.write_plan.specs.Plan.{size_of}
use Rattle.write_plan.proofs.PlanLaws as plan
use Rattle.write_raw.specs.Append.{answer, appended}
use Rattle.write_raw.specs.AppendLaws.{total_goes}
use Rattle.write_close.specs.Seal.{fingerprint}
use Rattle.round_trip.specs.Message.{Message, message_of, Octets, Writable, with, held}
use Rattle.round_trip.specs.Bijection.{bijection}
use Rattle.round_trip.specs.Appending.{held_sound, with_shaped, appended_bytes, appended_message}
use Rattle.round_trip.specs.Sealed.{sealed}
use Rattle.theorems.specs.Ends.{Ends}

-- a register stays within 32 bits, and so does the sum
register_lt : (s : ℕ) (bs : List ℕ) → s < 2 ^ 32 → Bytes bs → bytes_from s bs < 2 ^ 32
unfolding bytes_from byte_step octets
register_lt s [] h b = h
register_lt s (x ∷ bs) h b =
    let l : x < 2 ^ 32 = omega (arith, b.0) in
    register_lt (bit_steps 8 (bit_xor s x)) bs (octets_lt 1 (bit_xor s x) (xor_lt 32 s x h l)) b.1

four_bytes : (n : ℕ) → n < 2 ^ 32 → Bytes (four n)
four_bytes n h = (omega arith, (omega arith, (omega arith, (omega arith, tt))))

with_length_bytes : (m : List ℕ) (n : ℕ) → n < 65536 → Bytes m → Bytes (with_length m n)
unfolding with_length
with_length_bytes [] n h b = tt
with_length_bytes (x ∷ []) n h b = b
with_length_bytes (x ∷ y ∷ []) n h b = b
with_length_bytes (x ∷ y ∷ z ∷ []) n h b = (b.0, (b.1.0, (omega arith, tt)))
with_length_bytes (x ∷ y ∷ z ∷ e ∷ r) n h b = (b.0, (b.1.0, (omega arith, (omega arith, b.1.1.1.1))))

octets_one : (xs : List Attr) (a : Attr) → Octets xs → Bytes a.value → Bytes a.pad → Octets (xs ++ (a ∷ []))
octets_one [] a o v p = (v, p, tt)
octets_one (x ∷ xs) a o v p = (o.0, o.1, octets_one xs a o.2 v p)

sum_lt : (d : List ℕ) (p : ℕ) → Bytes d → p - 20 + 8 < 65536 → fingerprint_at d p < 2 ^ 32
unfolding fingerprint_at crc32_of
sum_lt d p b h =
    let m : List ℕ = with_length (take p d) (p - 20 + 8) in
    let r : bytes_from 0xFFFF_FFFF m < 2 ^ 32 = register_lt 0xFFFF_FFFF m (omega arith) (with_length_bytes (take p d) (p - 20 + 8) h (take-bytes p d b)) in
    xor_lt 32 (bit_xor (bytes_from 0xFFFF_FFFF m) 0xFFFF_FFFF) 0x5354554E (xor_lt 32 (bytes_from 0xFFFF_FFFF m) 0xFFFF_FFFF r (omega arith)) (omega arith)

module _ (d : List ℕ) {t : ℕ} (h : Bytes d) (e : answer d 0 (fingerprint d) ≡ Ok t) where
  abbrev N : Message
  N = with (held d) (fingerprint d)

  low : (fingerprint d).kind < 65536
  unfolding fingerprint
  low = omega arith

  value_bytes : Bytes (fingerprint d).value × Bytes (fingerprint d).pad
  unfolding fingerprint
  value_bytes = (four_bytes (fingerprint_at d (size_of d)) (sum_lt d (size_of d) h (omega (arith, (total_goes d 0 (fingerprint d) e).2))), tt)

  before_writable : Writable (held d)
  before_writable = (bijection.1 (take (size_of d) d) (held_sound d h (plan.message d (total_goes d 0 (fingerprint d) e).2.fault))).0

  writable : Writable N
  writable = record {
    shape = with_shaped d 0 (fingerprint d) h low e;
    id_octets = before_writable.id_octets;
    octets = octets_one (held d).attributes (fingerprint d) before_writable.octets value_bytes.0 value_bytes.1;
  }

  pub sealed_ends : {c : MessageClass} {m : Method} {n : ℕ} → answer_of (reading_of rfc5389 (take (size_of d) d)) ≡ Whole c m n
      → Ends rfc5389 (take t (appended d 0 (fingerprint d)))
  unfolding message_of fingerprint
  sealed_ends w = record {
    bytes = subst (λ (x : List ℕ). Bytes x) (sym (appended_bytes d 0 (fingerprint d) h low e)) (bijection.0 N writable).0.octets;
    whole = told_whole rfc5389 (take t (appended d 0 (fingerprint d))) (sealed d h e w);
    before = (held d).attributes;
    print = fingerprint d;
    last = ap (λ (m : Message). m.attributes) (appended_message d 0 (fingerprint d) h low e);
    kind = refl;
  }
