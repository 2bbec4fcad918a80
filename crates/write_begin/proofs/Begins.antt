-- What `begin` returns and leaves in the buffer, case by case.
use Rattle.std.specs.Prelude.{ℕ, ◌≤◌, ◌<◌, List, ◌++◌, Bool, true, false, ◌≡◌, refl, length, ltb, Result, Ok, Err}
use Rattle.std.proofs.Common.{sym, ap, ◌∙◌, arith, lt-ltb, le-ltb, ltb-true, ltb-false}
use Rattle.base.specs.Choice.{pick}
use Rattle.base.specs.Laid.{laid}
use Rattle.big_endian.specs.Numbers.{two}
use Rattle.buffers.specs.Put.{put}
use Rattle.buffers.specs.PutLaws.{put_laid, put_behind}
use Rattle.cookie.specs.Cookie.{cookie}
use Rattle.wire.specs.Refusal.{by}
use Rattle.wire.specs.TypeNumber.{type_of, class_number, type_number}
use Rattle.wire.specs.declared.method.Method.{Method}
use Rattle.wire.specs.declared.refusal.Refusal.{Refusal}
use Rattle.wire.specs.declared.transaction_id.TransactionId.{TransactionId}
use Rattle.wire.specs.declared.types.MessageClass.{MessageClass}
use Rattle.write_begin.specs.Begin.{head_bytes, begin_fault, begun, beginning}

-- the four parts of a header, one behind the other
pub parts : (d : List ℕ) (n : ℕ) {b1 b2 b3 b4 : List ℕ} (id : List ℕ) → 20 ≤ length d → length id ≡ 12 → b1 ≡ put d 0 (two n) → b2 ≡ put b1 2 (two 0)
    → b3 ≡ put b2 4 cookie → b4 ≡ put b3 8 id → b4 ≡ laid d 0 (head_bytes n 0 id)
unfolding head_bytes
parts d n {b1} {b2} {b3} {b4} id h l p1 p2 p3 p4 =
    let q1 : b1 ≡ laid d 0 (two n) = p1 ∙ put_laid d 0 (two n) (omega arith) in
    let q2 : b2 ≡ laid d 0 (two n ++ two 0) = p2 ∙ ap (λ (x : List ℕ). put x 2 (two 0)) q1 ∙ put_behind d 0 (two n) 2 (two 0) (omega arith) (omega arith) in
    let q3 : b3 ≡ laid d 0 (two n ++ two 0 ++ cookie) =
    p3 ∙ ap (λ (x : List ℕ). put x 4 cookie) q2 ∙ put_behind d 0 (two n ++ two 0) 4 cookie (omega arith) (omega arith)
    in
    p4 ∙ ap (λ (x : List ℕ). put x 8 id) q3 ∙ put_behind d 0 (two n ++ two 0 ++ cookie) 8 id (omega arith) (omega arith)

-- a type number that is made, and a method that is refused
record Made (m n t : ℕ) : Type 0 where
  small : m < 4096
  made : n ≡ t

record Large (m : ℕ) (r : Refusal) : Type 0 where
  large : 4096 ≤ m
  refusal : r ≡ by 22

module _ (c : MessageClass) (m : Method) {w : Result ℕ Refusal} (e : w ≡ type_number (record { class = c; method = m })) where
  type : ℕ
  type = type_of (class_number c) m.code

  made : {n : ℕ} → w ≡ Ok n → Made m.code n type
  unfolding type_number type
  made {n} f = go (ltb m.code 4096) refl (sym e ∙ f)
    where
      go : (b : Bool) → ltb m.code 4096 ≡ b → ◌≡◌ {A = Result ℕ Refusal} (pick b (Ok type) (Err (by 22))) (Ok n) → Made m.code n type
      go true p q = record { small = ltb-true m.code 4096 p; made = cc }
      go false p q = let z : ◌≡◌ {A = ℕ} 0 1 = cc in absurd (omega arith)

  large : {r : Refusal} → w ≡ Err r → Large m.code r
  unfolding type_number type
  large {r} f = go (ltb m.code 4096) refl (sym e ∙ f)
    where
      go : (b : Bool) → ltb m.code 4096 ≡ b → ◌≡◌ {A = Result ℕ Refusal} (pick b (Ok type) (Err (by 22))) (Err r) → Large m.code r
      go true p q = let z : ◌≡◌ {A = ℕ} 0 1 = cc in absurd (omega arith)
      go false p q = record { large = ltb-false m.code 4096 p; refusal = cc }

  module _ (d : List ℕ) where
    fault_22 : {r : Refusal} → w ≡ Err r → begin_fault d m.code ≡ 22
    unfolding begin_fault
    fault_22 f = simp (le-ltb m.code 4096 (large f).large)

    pub refused_22 : {r : Refusal} → w ≡ Err r → Err r ≡ begun d m
    unfolding begun
    refused_22 f = rw (fault_22 f, (large f).refusal)

    pub kept_22 : {r : Refusal} (id : TransactionId) → w ≡ Err r → d ≡ beginning d c m id
    unfolding beginning
    kept_22 id f = rw (fault_22 f)

    module _ {n : ℕ} (f : w ≡ Ok n) where
      fault_26 : length d < 20 → begin_fault d m.code ≡ 26
      unfolding begin_fault
      fault_26 h = simp (lt-ltb m.code 4096 (made f).small, lt-ltb (length d) 20 h)

      pub refused_26 : length d < 20 → Err (by 26) ≡ begun d m
      unfolding begun
      refused_26 h = rw (fault_26 h)

      pub kept_26 : (id : TransactionId) → length d < 20 → d ≡ beginning d c m id
      unfolding beginning
      kept_26 id h = rw (fault_26 h)

      module _ (h : 20 ≤ length d) where
        fault_0 : begin_fault d m.code ≡ 0
        unfolding begin_fault
        fault_0 = simp (lt-ltb m.code 4096 (made f).small, le-ltb (length d) 20 h)

        pub total : Ok 20 ≡ begun d m
        unfolding begun
        total = rw fault_0

        pub laid_head : {b : List ℕ} (id : TransactionId) → b ≡ laid d 0 (head_bytes n 0 id.bytes) → b ≡ beginning d c m id
        unfolding beginning type
        laid_head id p = rw fault_0 (p ∙ ap (λ (x : ℕ). laid d 0 (head_bytes x 0 id.bytes)) (made f).made)
