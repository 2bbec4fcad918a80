-- The loop of the product: what is added already and what the digits that are left add.
use Rattle.std.proofs.Common.{◌≡◌, refl, sym, ap, ap₂, ◌∙◌, ℕ, suc, ◌+◌, ◌*◌, ◌/◌, ◌%◌, ◌^◌, ◌≤◌, ◌<◌, arith, bit_xor}
use Rattle.std.specs.Int.Bits.{xor_zero_l, xor_zero_r}
use Rattle.base.specs.XorLaws.{xor_assoc}
use Rattle.crc.specs.Crc.{bit_step}
use Rattle.crc.specs.Octets.{times}
use Rattle.crc.proofs.ProductLaws.{times_nought}
use Rattle.crc.specs.Taken.{Taken, comes_to}
use Rattle.crc.specs.declared.Factors.{Factors}

module _ (a t m : ℕ) where
  pub clear : t < 2 ^ 31 → a ≡ bit_xor a (t / 2 ^ 31 * m)
  clear h =
      let z : t / 2 ^ 31 ≡ 0 = omega arith in
      let y : 0 ≡ 0 * m = omega arith in
      sym (xor_zero_r a) ∙ ap (bit_xor a) (y ∙ ap (λ (x : ℕ). x * m) (sym z))

  pub set : 2 ^ 31 ≤ t → t < 2 ^ 32 → bit_xor a m ≡ bit_xor a (t / 2 ^ 31 * m)
  set h l =
      let z : t / 2 ^ 31 ≡ 1 = omega arith in
      let y : m ≡ 1 * m = omega arith in
      ap (bit_xor a) (y ∙ ap (λ (x : ℕ). x * m) (sym z))

pub step_is : (m : ℕ) → bit_xor (m % 2 * 0xEDB88320) (m / 2) ≡ bit_step m
unfolding bit_step
step_is m = refl

-- ---- digits taken

pub one_taken : (s : Factors) {b m : ℕ} → b ≡ bit_xor s.sum (s.t / 2 ^ 31 * s.m) → m ≡ bit_step s.m
    → Taken 1 s (record { sum = b; t = s.t % 2 ^ 31 * 2; m = m })
unfolding times
one_taken s {b} {m} e f =
    record {
      same =
          λ k.
          let q : 1 + k ≡ suc k = omega arith in
          ap₂ (λ (y z : ℕ). bit_xor y (times k (s.t % 2 ^ 31 * 2) z)) e f
          ∙ xor_assoc s.sum (s.t / 2 ^ 31 * s.m) (times k (s.t % 2 ^ 31 * 2) (bit_step s.m))
          ∙ sym (ap (λ (j : ℕ). bit_xor s.sum (times j s.t s.m)) q);
    }

-- ---- the loop over what is left

pub record Left (k : ℕ) (s r : Factors) (j : ℕ) : Type 0 where
  pub same : comes_to j r ≡ comes_to k s

pub left_nought : {k j : ℕ} {s r : Factors} → Left k s r j → r.t ≡ 0 → r.sum ≡ comes_to k s
left_nought {k} {j} {s} {r} g e =
    sym (ap (bit_xor r.sum) (ap (λ (y : ℕ). times j y r.m) e ∙ times_nought j r.m) ∙ xor_zero_r r.sum) ∙ g.same

pub left_done : {k j : ℕ} {s r : Factors} → Left k s r j → j ≤ 0 → r.sum ≡ comes_to k s
unfolding times
left_done {k} {j} {s} {r} g h =
    let z : j ≡ 0 = omega arith in
    sym (ap (λ (n : ℕ). comes_to n r) z ∙ xor_zero_r r.sum) ∙ g.same

-- the fifth digit alone
clear_digit : (k u v n : ℕ) → u / 2 ^ 31 ≡ 0 → u % 2 ^ 31 * 2 ≡ v → times (suc k) u n ≡ times k v (bit_step n)
unfolding times
clear_digit k u v n e f =
    let z : 0 * n ≡ 0 = omega arith in
    ap₂ bit_xor (ap (λ (y : ℕ). y * n) e ∙ z) (ap (λ (y : ℕ). times k y (bit_step n)) f) ∙ xor_zero_l (times k v (bit_step n))

last_digit : (n : ℕ) → times 28 0x8000_0000 n ≡ n
unfolding times
last_digit n =
    let z : 1 * n ≡ n = omega arith in
    ap₂ bit_xor z (times_nought 27 (bit_step n)) ∙ xor_zero_r n

pub fifth : (t m : ℕ) {a b c d : ℕ} → t ≡ 0x0800_0000 → a ≡ bit_step m → b ≡ bit_step a → c ≡ bit_step b → d ≡ bit_step c → d ≡ times 32 t m
fifth t m {a} {b} {c} {d} e f g h i =
    i ∙ ap bit_step (h ∙ ap bit_step (g ∙ ap bit_step f))
    ∙ sym
    (ap (λ (y : ℕ). times 32 y m) e ∙ clear_digit 31 0x0800_0000 0x1000_0000 m refl refl
    ∙ clear_digit 30 0x1000_0000 0x2000_0000 (bit_step m) refl refl
    ∙ clear_digit 29 0x2000_0000 0x4000_0000 (bit_step (bit_step m)) refl refl
    ∙ clear_digit 28 0x4000_0000 0x8000_0000 (bit_step (bit_step (bit_step m))) refl refl
    ∙ last_digit (bit_step (bit_step (bit_step (bit_step m)))))
