-- What `check_integrity` returns, case by case.
use Rattle.std.specs.Prelude.{ℕ, ◌+◌, ◌-◌, ◌≤◌, ◌<◌, List, Bool, true, false, ◌≡◌, refl, length, get_or, take, drop, ltb, Option, Some, None, Result, Ok, Err}
use Rattle.std.proofs.Common.{sym, ap, ap₂, ◌∙◌, arith, ltb-false}
use Rattle.base.specs.Choice.{pick}
use Rattle.big_endian.specs.Numbers.{be16}
use Rattle.wire.specs.Refusal.{by, refused_by}
use Rattle.wire.proofs.RefusalLaws.{refused_some}
use Rattle.wire.specs.declared.refusal.Refusal.{Refusal}
use Rattle.attribute.specs.declared.Fault.{Fault}
use Rattle.registry.specs.Rows.{look, rfc5389}
use Rattle.registry.specs.Fault.{rule_fault, entry_fault, fault}
use Rattle.registry.specs.declared.Rule.TheVariants.{Plain}
use Rattle.read_message.specs.Reading.{answered, answer_of, answer_said, reading_said, reading_of}
use Rattle.read_message.specs.declared.Reading.{Reading}
use Rattle.read_message.proofs.WholeLaws.{refusal_some, reason_some}
use Rattle.read_first.specs.declared.Found.{Found}
use Rattle.read_first.specs.First.{starts, first_in, whole_by, is_whole, first, placed, value_of}
use Rattle.read_first.proofs.FirstLaws.{Told, told, part_in, absent}
use Rattle.header.specs.HeaderLaws.{sized}
use Rattle.read_first.proofs.WholeLaws.{passes, served}
use Rattle.base.specs.Same.{same}
use Rattle.big_endian.specs.Numbers.{with_length}
use Rattle.hmac.specs.Hmac.{hmac_of}
use Rattle.read_integrity.specs.Integrity.{integrity_at, compared_at, compared, integrity_fault}

-- a MESSAGE-INTEGRITY that passes has 20 bytes
twenty : (v : List ℕ) → fault rfc5389 0x0008 v ≡ 0 → 20 ≤ length v
unfolding fault look entry_fault
twenty v e = go (ltb (length v) 20) refl e
  where
    go : (b : Bool) → ltb (length v) 20 ≡ b → pick b 11 (pick (ltb 20 (length v)) 11 (rule_fault Plain v)) ≡ 0 → 20 ≤ length v
    go true f g = absurd (omega arith)
    go false f g = ltb-false (length v) 20 f

module _ (d key : List ℕ) {w : Result Reading Refusal} (e : w ≡ reading_of rfc5389 d) where
  by_answer : {v : Result Reading Refusal} → w ≡ v
      → integrity_fault rfc5389 d key ≡ pick (whole_by (answer_of v)) (compared d key (first_in 0x0008 d)) (reading_said v).number
  unfolding integrity_fault is_whole
  by_answer f =
      ap (λ (x : Result Reading Refusal). pick (whole_by (answer_of x)) (compared d key (first_in 0x0008 d)) (reading_said x).number) (sym e ∙ f)

  pub refused : {r : Refusal} → w ≡ Err r → Err r ≡ refused_by (integrity_fault rfc5389 d key)
  unfolding answer_said reading_said
  refused {r} g = sym (ap refused_by (by_answer g) ∙ refused_some r.number (refusal_some rfc5389 d (sym e ∙ g)))

  module _ {r : Reading} (g : w ≡ Ok r) where
    with : {s : Result ℕ Fault} → r.attributes ≡ s
        → integrity_fault rfc5389 d key
        ≡ pick (whole_by (answered r.class r.method s)) (compared d key (first_in 0x0008 d)) (answer_said (answered r.class r.method s) r.id.bytes).number
    unfolding reading_said
    with h =
        by_answer g
        ∙ ap (λ (s : Result ℕ Fault). pick (whole_by (answered r.class r.method s)) (compared d key (first_in 0x0008 d)) (answer_said (answered r.class r.method s) r.id.bytes).number) h

    pub broken : {f : Fault} → r.attributes ≡ Err f → Err f.reason ≡ refused_by (integrity_fault rfc5389 d key)
    unfolding answer_said
    broken {f} h = sym (ap refused_by (with h) ∙ refused_some f.reason.number (reason_some rfc5389 d (sym e ∙ g) h))

    module _ {n : ℕ} (h : r.attributes ≡ Ok n) {o : Option Found} (i : o ≡ placed (first_in 0x0008 d)) where
      pub missing : o ≡ None → Err (by 31) ≡ refused_by (integrity_fault rfc5389 d key)
      unfolding compared refused_by
      missing j = sym (ap refused_by (with h ∙ ap (compared d key) (absent (first_in 0x0008 d) i j)))

      module _ {y : Found} (j : o ≡ Some y) where
        pub compares : {t : Result Unit Refusal} → t ≡ refused_by (compared_at d key y.at (take y.size (drop (y.at + 4) d)))
            → t ≡ refused_by (integrity_fault rfc5389 d key)
        unfolding compared value_of
        compares k =
            let t : Told (first_in 0x0008 d) y.at y.size = told (first_in 0x0008 d) i j in
            let v : take y.size (drop (y.at + 4) d) ≡ t.attr.value = (part_in d 0x0008 i j).value ∙ ap value_of t.is in
            k ∙ ap (λ (x : List ℕ). refused_by (compared_at d key y.at x)) v ∙ sym (ap refused_by (with h ∙ ap (compared d key) t.is))

        pub low : 20 ≤ y.at
        low = (part_in d 0x0008 i j).low

        pub room : y.at + 4 + y.size ≤ length d
        room = (part_in d 0x0008 i j).inside

        -- the adjusted length ends with the attribute, and so within the body
        pub fits : ((j : ℕ) → get_or d j 0 < 256) → y.at - 20 + 24 ≤ 65535
        unfolding be16 is_whole first
        fits bs =
            let q : is_whole rfc5389 d ≡ true =
            ap (λ (x : Result Reading Refusal). whole_by (answer_of x)) (sym e ∙ g) ∙ ap (λ (s : Result ℕ Fault). whole_by (answered r.class r.method s)) h
            in
            let t : Told (first_in 0x0008 d) y.at y.size = told (first_in 0x0008 d) i j in
            let u : first rfc5389 0x0008 d ≡ starts y.at t.attr = rw q t.is in
            omega
            (arith, twenty t.attr.value (served rfc5389 0x0008 d u), t.size, part_in d 0x0008 i j, sized d (passes rfc5389 d q).header, bs 2, bs 3)

-- the digest that code has made is compared
module _ (d key : List ℕ) (p k : ℕ) {m : List ℕ} {b : Bool} (e : m ≡ hmac_of key (with_length (take p d) (p - 20 + 24)))
    (f : b ≡ same m (take (p + 4 + k - (p + 4)) (drop (p + 4) d))) where
  by_digest : pick b 0 32 ≡ compared_at d key p (take k (drop (p + 4) d))
  unfolding compared_at integrity_at
  by_digest =
      let n : p + 4 + k - (p + 4) ≡ k = omega arith in
      ap (λ (x : Bool). pick x 0 32) (f ∙ ap₂ (λ (x : List ℕ) (y : ℕ). same x (take y (drop (p + 4) d))) e n)

  pub right : b ≡ true → Ok tt ≡ refused_by (compared_at d key p (take k (drop (p + 4) d)))
  unfolding refused_by
  right g = ap refused_by (ap (λ (x : Bool). pick x 0 32) (sym g) ∙ by_digest)

  pub wrong : b ≡ false → Err (by 32) ≡ refused_by (compared_at d key p (take k (drop (p + 4) d)))
  unfolding refused_by
  wrong g = ap refused_by (ap (λ (x : Bool). pick x 0 32) (sym g) ∙ by_digest)
