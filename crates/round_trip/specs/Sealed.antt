-- A FINGERPRINT appended to a whole message leaves it whole, with one attribute more; a MESSAGE-INTEGRITY appended is the digest of what stands before it.
use Rattle.write_plan.specs.declared.Room.{Room}
use Prim.Native.Nat.{ℕ, ◌+◌, ◌-◌, ◌≤◌, ◌<◌}
use mathlib.Core.List.{List, [], ◌∷◌, ◌++◌, append-nil}
use Rattle.std.specs.Prelude.{Bool, ◌≡◌, take, Ok}
use Rattle.std.proofs.Math.Path.{refl, sym, ap}
use Rattle.std.proofs.Common.{◌∙◌, subst, add-zero, take-take}
use native.Mathlib.Omega.{arith}
use Rattle.std.proofs.Math.ListN.{length, length-append}
use Rattle.std.proofs.Math.Seq.{take-append-add, take-append-le}
use Rattle.std.specs.Int.Bits.{bit_xor}
use Rattle.base.specs.Choice.{pick}
use Rattle.base.specs.Bytes.{Bytes}
use Rattle.base.specs.SameLaws.{same_refl}
use Rattle.base.specs.Same.{same}
use Rattle.base.specs.Laid.{laid}
use Rattle.big_endian.specs.Numbers.{two, four, with_length}
use Rattle.wire.specs.TypeNumber.{type_of, class_number}
use Rattle.wire.specs.declared.method.Method.{Method}
use Rattle.wire.specs.declared.types.MessageClass.{MessageClass}
use Rattle.attribute.specs.Attribute.{Attr, all_bytes}
use Rattle.attribute.specs.Attribute as one
use Rattle.attribute.specs.Scan.{Pass}
use Rattle.crc.specs.Crc.{crc32_of}
use Rattle.fingerprint.specs.Fingerprint.{fingerprint_at, printed}
use Rattle.fingerprint.specs.FingerprintLaws.{owes_sum, owes_same}
use Rattle.hmac.specs.Hmac.{hmac_of}
use Rattle.hmac.specs.HmacLaws.{length-hmac}
use Rattle.registry.specs.Rows.{rfc5389, look}
use Rattle.registry.specs.declared.Row.{Row}
use Rattle.registry.specs.Fault.{rule_fault, entry_fault, fault}
use Rattle.read_fingerprints.specs.Fingerprints.{print_fault, print_faults}
use Rattle.read_message.specs.Reading.{value_faults, reading_of, answer_of}
use Rattle.read_message.specs.Whole.{attributes}
use Rattle.read_message.proofs.WholeLaws.{Parts, parts, parts_told, told_whole}
use Rattle.read_message.specs.Reading.{Whole}
use Rattle.write_begin.specs.Begin.{head_bytes}
use Rattle.write_plan.specs.Plan.{size_of}
use Rattle.write_plan.proofs.PlanLaws.{Going, message}
use Rattle.write_plan.proofs.PlanLaws as plan
use Rattle.write_raw.specs.Append.{answer, appended}
use Rattle.write_raw.specs.AppendLaws.{total_goes}
use Rattle.read_integrity.specs.Integrity.{integrity_at}
use Rattle.write_close.specs.Seal.{fingerprint, integrity}
use Rattle.round_trip.specs.Message.{Message, bytes_of, message_of, Shaped, with, held, Right, whole_with}
use Rattle.round_trip.specs.FrontLaws.{head_length, head_again, all_append, all_one}
use Rattle.round_trip.specs.Bijection.{read_written}
use Rattle.round_trip.specs.Whole.{right_read}
use Rattle.round_trip.specs.WriteAgain.{bytes_length}
use Rattle.round_trip.specs.Appending.{held_shaped, held_bytes, held_length, with_shaped, appended_bytes}

-- attributes that pass, and one more that does, where a pass before is a pass after
module _ (f g : ℕ → Attr → ℕ) (a : Attr) (l : ℕ) (agree : (q : ℕ) (x : Attr) → 20 ≤ q → q ≤ l → f q x ≡ 0 → g q x ≡ 0) (last : g l a ≡ 0) where
  pass_one : (p : ℕ) (xs : List Attr) → 20 ≤ p → p + length (all_bytes xs) ≡ l → Pass f p xs → Pass g p (xs ++ (a ∷ []))
  pass_one p [] h e s = (ap (λ (q : ℕ). g q a) (sym (add-zero p) ∙ e) ∙ last, tt)
  pass_one p (x ∷ xs) h e s =
      let m : length (one.bytes_of x ++ all_bytes xs) ≡ length (one.bytes_of x) + length (all_bytes xs) = length-append (one.bytes_of x) (all_bytes xs) in
      (agree p x h (omega arith) s.0, pass_one (p + length (one.bytes_of x)) xs (omega arith) (omega arith) s.1)

-- the bytes before q with another length, of a datagram with the header of type t
front_with : (t n v : ℕ) (id s : List ℕ) (q : ℕ) → length id ≡ 12 → 20 ≤ q
    → with_length (take q (head_bytes t n id ++ s)) v ≡ head_bytes t v id ++ take (q - 20) s
unfolding with_length laid
front_with t n v id s q il h =
    let hl : length (head_bytes t n id) ≡ 20 = head_length t n id [] il in
    let k : q ≡ length (head_bytes t n id) + (q - 20) = omega arith in
    ap (λ (x : List ℕ). laid x 2 (two v)) (ap (λ (i : ℕ). take i (head_bytes t n id ++ s)) k ∙ take-append-add (head_bytes t n id) s (q - 20))
    ∙ head_again t n id (take (q - 20) s) il v

-- the bytes before a place of the message at the front, with another length, are the same once an attribute is appended
module _ (d : List ℕ) (h : Bytes d) (there : plan.Message d) (a : Attr) where
  size : 20 + length (all_bytes (held d).attributes) ≡ size_of d
  size = ap (λ (x : ℕ). 20 + x) (held_length d h there)

  room : size_of d ≤ length (bytes_of (with (held d) a))
  room = omega (arith, bytes_length (with (held d) a) (held_shaped d h there).id, all_one (held d).attributes a, size)

  same_front : (q v : ℕ) → 20 ≤ q → q ≤ size_of d → with_length (take q (bytes_of (with (held d) a))) v ≡ with_length (take q (bytes_of (held d))) v
  unfolding bytes_of
  same_front q v l k =
      let xs : List Attr = (held d).attributes in
      let t : ℕ = type_of (class_number (held d).class) (held d).method.code in
      let id : List ℕ = (held d).id.bytes in
      let il : length id ≡ 12 = (held_shaped d h there).id in
      let s : all_bytes (xs ++ (a ∷ [])) ≡ all_bytes xs ++ one.bytes_of a = all_append xs (a ∷ []) ∙ ap (λ (u : List ℕ). all_bytes xs ++ u) (append-nil (one.bytes_of a)) in
      front_with t (length (all_bytes (xs ++ (a ∷ [])))) v id (all_bytes (xs ++ (a ∷ []))) q il l
      ∙ ap (λ (x : List ℕ). head_bytes t v id ++ x) (ap (take (q - 20)) s ∙ take-append-le (q - 20) (all_bytes xs) (one.bytes_of a) (omega (arith, size)))
      ∙ sym (front_with t (length (all_bytes xs)) v id (all_bytes xs) q il l)

  own_front : (v : ℕ) → with_length (take (size_of d) (bytes_of (with (held d) a))) v ≡ with_length (take (size_of d) d) v
  own_front v =
      same_front (size_of d) v (omega arith) (omega arith)
      ∙ ap (λ (x : List ℕ). with_length x v) (ap (take (size_of d)) (held_bytes d h there) ∙ take-take (size_of d) (size_of d) d (omega arith))

-- an attribute appended that passes by its value and as a FINGERPRINT leaves a whole message whole
module _ (d : List ℕ) {t : ℕ} (h : Bytes d) (a : Attr) (small : a.kind < 65536) (e : answer d 0 a ≡ Ok t) where
  going : (r : Room) × (r.total ≡ t) × Going d 0 (length a.value) (length a.pad) r
  going = total_goes d 0 a e

  there : plan.Message d
  there = message d going.2.fault

  abbrev M : Message
  M = held d

  abbrev N : Message
  N = with M a

  w_m : Shaped M
  w_m = held_shaped d h there

  w_n : Shaped N
  w_n = with_shaped d 0 a h small e

  -- the sums at the places of the earlier attributes are as they were
  same_sum : (q : ℕ) → 20 ≤ q → q ≤ size_of d → printed (bytes_of N) q ≡ printed (bytes_of M) q
  unfolding fingerprint_at
  same_sum q l k =
      owes_same (bytes_of N) (bytes_of M) q l (omega (arith, room d h there a)) (omega (arith, bytes_length M w_m.id, size d h there a))
      (ap (λ (x : List ℕ). bit_xor (crc32_of x) 0x5354554E) (same_front d h there a q (q - 20 + 8) l k))

  print_agree : (q : ℕ) (x : Attr) → 20 ≤ q → q ≤ size_of d → print_faults (bytes_of M) q x ≡ 0 → print_faults (bytes_of N) q x ≡ 0
  unfolding print_faults print_fault
  print_agree q x l k z = rw (same_sum q l k) z

  -- the attributes of the message before, as the reader finds them
  before : attributes (bytes_of M) ≡ M.attributes
  unfolding message_of
  before = ap (λ (x : Message). x.attributes) (read_written M w_m)

  passes : (f g : ℕ → Attr → ℕ) → ((q : ℕ) (x : Attr) → 20 ≤ q → q ≤ size_of d → f q x ≡ 0 → g q x ≡ 0) → g (size_of d) a ≡ 0
      → Pass f 20 (attributes (bytes_of M)) → Pass g 20 N.attributes
  passes f g agree last s =
      pass_one f g a (size_of d) agree last 20 M.attributes (omega arith) (size d h there a) (subst (λ (xs : List Attr). Pass f 20 xs) before s)

  pub kept : (rows : List Row) {c : MessageClass} {m : Method} {n : ℕ} → value_faults rows (size_of d) a ≡ 0 → print_faults (bytes_of N) (size_of d) a ≡ 0
      → answer_of (reading_of rows (take (size_of d) d)) ≡ Whole c m n → answer_of (reading_of rows (take t (appended d 0 a))) ≡ Whole c m (n + 1)
  unfolding message_of
  kept rows {c} {m} {n} value-last print-last w =
      let e' : answer_of (reading_of rows (bytes_of M)) ≡ Whole c m n = ap (λ (x : List ℕ). answer_of (reading_of rows x)) (held_bytes d h there) ∙ w in
      let p : Parts rows (bytes_of M) = parts rows (bytes_of M) (told_whole rows (bytes_of M) e') in
      let r : Right rows N =
      record {
        shape = w_n;
        values = passes (value_faults rows) (value_faults rows) (λ q x l k z. z) value-last p.values;
        prints = passes (print_faults (bytes_of M)) (print_faults (bytes_of N)) print_agree print-last p.prints;
      }
      in
      let x : answer_of (whole_with (message_of (bytes_of M))) ≡ Whole c m n = sym (ap answer_of (parts_told rows (bytes_of M) p)) ∙ e' in
      let y : answer_of (whole_with M) ≡ Whole c m n = ap (λ (z : Message). answer_of (whole_with z)) (sym (read_written M w_m)) ∙ x in
      let more : length (M.attributes ++ (a ∷ [])) ≡ length M.attributes + 1 = length-append M.attributes (a ∷ []) in
      let many : length M.attributes ≡ n = cc in
      let class : M.class ≡ c = cc in
      let method : M.method ≡ m = cc in
      rw (appended_bytes d 0 a h small e)
      (ap answer_of (right_read rows N r) ∙ rw (more, many, class, method))

-- SEALED: with a FINGERPRINT appended, what was whole is whole, with one attribute more
module _ (d : List ℕ) {t : ℕ} (h : Bytes d) (e : answer d 0 (fingerprint d) ≡ Ok t) where
  tiny : (fingerprint d).kind < 65536
  unfolding fingerprint
  tiny = omega arith

  few : size_of d - 20 + 8 ≤ 65535
  unfolding fingerprint
  few = omega (arith, (going d h (fingerprint d) tiny e).2)

  own_sum : printed (bytes_of (with (held d) (fingerprint d))) (size_of d) ≡ fingerprint_at d (size_of d)
  unfolding fingerprint_at
  own_sum =
      owes_sum (bytes_of (with (held d) (fingerprint d))) (size_of d) (omega arith) (room d h (there d h (fingerprint d) tiny e) (fingerprint d)) few
      ∙ ap (λ (x : List ℕ). bit_xor (crc32_of x) 0x5354554E)
      (own_front d h (there d h (fingerprint d) tiny e) (fingerprint d) (size_of d - 20 + 8))

  value_right : value_faults rfc5389 (size_of d) (fingerprint d) ≡ 0
  unfolding value_faults fingerprint fault look entry_fault rule_fault
  value_right = refl

  print_right : print_faults (bytes_of (with (held d) (fingerprint d))) (size_of d) (fingerprint d) ≡ 0
  unfolding print_faults print_fault fingerprint
  print_right =
      ap (λ (b : Bool). pick b 0 15) (ap (λ (x : ℕ). same (four (fingerprint_at d (size_of d))) (four x)) own_sum ∙ same_refl (four (fingerprint_at d (size_of d))))

  pub sealed : {c : MessageClass} {m : Method} {n : ℕ} → answer_of (reading_of rfc5389 (take (size_of d) d)) ≡ Whole c m n
      → answer_of (reading_of rfc5389 (take t (appended d 0 (fingerprint d)))) ≡ Whole c m (n + 1)
  sealed w = kept d h (fingerprint d) tiny e rfc5389 value_right print_right w

-- SIGNED: the value appended is the digest of the bytes before it, as a check of the new datagram computes it
pub signed : (key d : List ℕ) {t : ℕ} → Bytes d → answer d 0 (integrity key d) ≡ Ok t
    → integrity_at key (take t (appended d 0 (integrity key d))) (size_of d) ≡ (integrity key d).value
unfolding integrity_at integrity
signed key d {t} h e =
    let n : ℕ = size_of d - 20 + 24 in
    let there : plan.Message d = message d (total_goes d 0 (integrity key d) e).2.fault in
    ap (λ (x : List ℕ). hmac_of key x)
    (ap (λ (x : List ℕ). with_length (take (size_of d) x) n) (appended_bytes d 0 (integrity key d) h (omega arith) e)
    ∙ own_front d h there (integrity key d) n)

-- and the message stays whole
module _ (key d : List ℕ) {t : ℕ} (h : Bytes d) (e : answer d 0 (integrity key d) ≡ Ok t) where
  pub low : (integrity key d).kind < 65536
  unfolding integrity
  low = omega arith

  mac_right : value_faults rfc5389 (size_of d) (integrity key d) ≡ 0
  unfolding value_faults integrity integrity_at fault look entry_fault rule_fault
  mac_right = rw (length-hmac key (with_length (take (size_of d) d) (size_of d - 20 + 24)))

  no_print : print_faults (bytes_of (with (held d) (integrity key d))) (size_of d) (integrity key d) ≡ 0
  unfolding print_faults print_fault integrity
  no_print = refl

  pub signed_whole : {c : MessageClass} {m : Method} {n : ℕ} → answer_of (reading_of rfc5389 (take (size_of d) d)) ≡ Whole c m n
      → answer_of (reading_of rfc5389 (take t (appended d 0 (integrity key d)))) ≡ Whole c m (n + 1)
  signed_whole w = kept d h (integrity key d) low e rfc5389 mac_right no_print w
