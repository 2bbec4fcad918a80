-- The computed values are those of the definition wherever the attribute goes.
use Rattle.std.specs.Int.{to_be_bytes}
use Rattle.std.specs.Prelude.{◌<◌, ◌/◌, Result}
use Rattle.std.proofs.Common.{w32, ◌≡◌, ℕ, ◌+◌, ◌-◌, ◌%◌, List, [], length, take, sym, ap, ◌∙◌, ap₂, arith}
use Rattle.big_endian.specs.Numbers.{be16, four, with_length}
use Rattle.wire.specs.declared.refusal.Refusal.{Refusal}
use Rattle.fingerprint.specs.Fingerprint.{fingerprint_at, printed}
use Rattle.fingerprint.specs.FingerprintLaws.{owes_sum}
use Rattle.hmac.specs.Hmac.{hmac_of}
use Rattle.hmac.specs.HmacLaws.{length-hmac}
use Rattle.write_plan.specs.Plan.{size_of}
use Rattle.write_plan.proofs.PlanLaws.{Going}
use Rattle.write_plan.specs.declared.Room.{Room}
use Rattle.write_raw.specs.Append.{attr, answer, appended}
use Rattle.write_raw.specs.AppendLaws.{answer_size, appended_value}
use Rattle.read_integrity.specs.Integrity.{integrity_at}
use Rattle.write_close.specs.Seal.{fingerprint, integrity}

-- the bytes of a number of four
four_bytes : (x : ℕ) → x < 4294967296 → to_be_bytes w32 x ≡ four x
four_bytes x h = let s : x / 16777216 % 256 ≡ x / 16777216 = omega arith in rw s

module _ (d : List ℕ) {b x : ℕ} {v : List ℕ} (o : b ≡ be16 d 2) (e : x ≡ printed d (20 + b)) (s : x < 4294967296) (f : v ≡ to_be_bytes w32 x) where
  bytes : v ≡ four x
  bytes = f ∙ four_bytes x s

  printed_there : (r : Room) → Going d 0 4 0 r → v ≡ four (fingerprint_at d (size_of d))
  printed_there r g =
      let s : 20 + b ≡ size_of d = omega arith in
      bytes
      ∙ ap four
      (e ∙ ap (printed d) s ∙ owes_sum d (size_of d) (omega arith) (omega (arith, g)) (omega (arith, g)))

  pub print_answer : {r : Result ℕ Refusal} → r ≡ answer d 0 (attr 0x8028 v []) → r ≡ answer d 0 (fingerprint d)
  unfolding fingerprint
  print_answer p = p ∙ answer_size d 0 0x8028 v (four (fingerprint_at d (size_of d))) [] (ap length bytes)

  pub print_buffer : {c : List ℕ} → c ≡ appended d 0 (attr 0x8028 v []) → c ≡ appended d 0 (fingerprint d)
  unfolding fingerprint
  print_buffer p = p ∙ appended_value d 0 0x8028 v (four (fingerprint_at d (size_of d))) [] (ap length bytes) printed_there

module _ (d key : List ℕ) {b n : ℕ} {v : List ℕ} (o : b ≡ be16 d 2) (e : n ≡ (b + 24) % 65536) (f : v ≡ hmac_of key (with_length (take (20 + b) d) n)) where
  size : length v ≡ length (integrity_at key d (size_of d))
  unfolding integrity_at
  size =
      ap length f ∙ length-hmac key (with_length (take (20 + b) d) n) ∙ sym (length-hmac key (with_length (take (size_of d) d) (size_of d - 20 + 24)))

  summed : (r : Room) → Going d 0 (length (integrity_at key d (size_of d))) 0 r → v ≡ integrity_at key d (size_of d)
  unfolding integrity_at
  summed r g =
      let l : length (hmac_of key (with_length (take (size_of d) d) (size_of d - 20 + 24))) ≡ 20 = length-hmac key _ in
      let s : 20 + b ≡ size_of d = omega arith in
      let m : n ≡ size_of d - 20 + 24 = omega (arith, g) in
      f ∙ ap₂ (λ (x y : ℕ). hmac_of key (with_length (take x d) y)) s m

  pub mac_answer : {r : Result ℕ Refusal} → r ≡ answer d 0 (attr 0x0008 v []) → r ≡ answer d 0 (integrity key d)
  unfolding integrity
  mac_answer p = p ∙ answer_size d 0 0x0008 v (integrity_at key d (size_of d)) [] size

  pub mac_buffer : {c : List ℕ} → c ≡ appended d 0 (attr 0x0008 v []) → c ≡ appended d 0 (integrity key d)
  unfolding integrity
  mac_buffer p = p ∙ appended_value d 0 0x0008 v (integrity_at key d (size_of d)) [] size summed
