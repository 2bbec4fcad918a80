-- Laws of numbers at a place.
use Rattle.std.specs.Prelude.{ℕ, ◌+◌, ◌*◌, ◌/◌, ◌%◌, ◌≤◌, ◌<◌, ◌≡◌, refl, length, take, drop}
use mathlib.Core.List.{List, [], ◌∷◌}
use Rattle.std.proofs.Math.Path.{sym}
use Rattle.std.proofs.Common.{ap, ◌∙◌, add-one, length-set, drop-cons}
use native.Mathlib.Omega.{arith}
use Rattle.std.proofs.Math.ListN.{get_or}
use Rattle.big_endian.specs.Numbers.{be16, be32, four, with_length}

-- the first byte of what stands at p, and the first four
peel : (d : List ℕ) (p q : ℕ) → q ≡ p + 1 → p < length d → drop p d ≡ get_or d p 0 ∷ drop q d
peel d p q e h = rw (e, add-one, drop-cons d p 0)

pub four_at : (d : List ℕ) (p : ℕ) → p + 4 ≤ length d
    → drop p d ≡ get_or d p 0 ∷ get_or d (p + 1) 0 ∷ get_or d (p + 2) 0 ∷ get_or d (p + 2 + 1) 0 ∷ drop (p + 4) d
four_at d p h =
    rw
    (peel d p (p + 1) refl (omega arith), peel d (p + 1) (p + 2) (omega arith) (omega arith), peel d (p + 2) (p + 2 + 1) refl (omega arith), peel d (p + 2 + 1) (p + 4) (omega arith) (omega arith))

-- four bytes as a number, and as bytes again
module _ (a b c e : ℕ) where
  number : ℕ
  number = (a * 256 + b) * 65536 + (c * 256 + e)

  module _ (hb : b < 256) (hc : c < 256) (he : e < 256) where
    n0 : number / 16777216 ≡ a
    unfolding number
    n0 = omega arith

    n1 : number / 65536 % 256 ≡ b
    unfolding number
    n1 = omega arith

    n2 : number / 256 % 256 ≡ c
    unfolding number
    n2 = omega arith

    n3 : number % 256 ≡ e
    unfolding number
    n3 = omega arith

    bytes_again : a ∷ b ∷ c ∷ e ∷ [] ≡ four number
    bytes_again = rw (n0, n1, n2, n3)

number_again : (x : ℕ) → number (x / 16777216) (x / 65536 % 256) (x / 256 % 256) (x % 256) ≡ x
unfolding number
number_again x = omega (arith, s0 x, s1 x, s2 x)
  where
    s0 : (x : ℕ) → x / 256 * 256 + x % 256 ≡ x
    s0 x = omega arith

    s1 : (x : ℕ) → x / 65536 * 256 + x / 256 % 256 ≡ x / 256
    s1 x = omega arith

    s2 : (x : ℕ) → x / 16777216 * 256 + x / 65536 % 256 ≡ x / 65536
    s2 x = omega arith

module _ (d : List ℕ) (p : ℕ) (h : p + 4 ≤ length d) where
  taken : take 4 (drop p d) ≡ get_or d p 0 ∷ get_or d (p + 1) 0 ∷ get_or d (p + 2) 0 ∷ get_or d (p + 2 + 1) 0 ∷ []
  taken = ap (take 4) (four_at d p h)

  pub be32_bytes : ((i : ℕ) → get_or d i 0 < 256) → take 4 (drop p d) ≡ four (be32 d p)
  unfolding be32 be16 number
  be32_bytes k =
      taken ∙ bytes_again (get_or d p 0) (get_or d (p + 1) 0) (get_or d (p + 2) 0) (get_or d (p + 2 + 1) 0) (k (p + 1)) (k (p + 2)) (k (p + 2 + 1))

  pub bytes_be32 : (x : ℕ) → take 4 (drop p d) ≡ four x → be32 d p ≡ x
  unfolding be32 be16 number
  bytes_be32 x e =
      let f : get_or d p 0 ∷ get_or d (p + 1) 0 ∷ get_or d (p + 2) 0 ∷ get_or d (p + 2 + 1) 0 ∷ [] ≡ four x = sym taken ∙ e in
      let a : get_or d p 0 ≡ x / 16777216 = cc in
      let b : get_or d (p + 1) 0 ≡ x / 65536 % 256 = cc in
      let c : get_or d (p + 2) 0 ≡ x / 256 % 256 = cc in
      let g : get_or d (p + 2 + 1) 0 ≡ x % 256 = cc in
      rw (a, b, c, g) (number_again x)

-- two numbers of the same four bytes are one
pub four_once : (x y : ℕ) → four x ≡ four y → x ≡ y
unfolding number
four_once x y e =
    let a : x / 16777216 ≡ y / 16777216 = cc in
    let b : x / 65536 % 256 ≡ y / 65536 % 256 = cc in
    let c : x / 256 % 256 ≡ y / 256 % 256 = cc in
    let f : x % 256 ≡ y % 256 = cc in
    sym (number_again x) ∙ rw (a, b, c, f) (number_again y)

pub length-with_length : (m : List ℕ) (n : ℕ) → length (with_length m n) ≡ length m
unfolding with_length
length-with_length m n = simp length-set
